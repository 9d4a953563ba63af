-- Calls of procedures that are values: the value, a mark that has it, and then the arguments.
use Rattle.std.proofs.Common.{◌≡◌, ℕ, zero, suc, ◌+◌, ◌≤◌, inr, true, false, Option, None, Some, List, [], ◌∷◌, length, refl, sym, ap, ◌∙◌, subst, arith}
use Rattle.std.specs.Prelude.{slice_get, option_map, is_some, ◌==◌, ◌/◌, ◌%◌}
use Rattle.std.proofs.lemmas.{Bool.{ne_eqb}, Option.{none-some, same_Some}}
use Rattle.lil_base.specs.declared.fault.TrapKind.TheVariants as trap
use Rattle.lil_resolved.specs.{Kinds.{OfProcedure, Outline, Signature, outline_signature, procedure_word, ToProcedure, Nil, Kind, Scalar, within, parameters_of, result_of, procedure_by}, Resolved.{Expression, InvokeValue, CallValue, Arguments, kind_of}, Sound.{parameters_given}}
use Rattle.lil_meaning.specs.{Items.{Evaluate, loaded_at, Scalars, Calling, OfValue, Do, Item, Value, Fill, Perform, Going, Source}, Steps.{current, procedures_of}}
use Rattle.lil_asm.specs.declared.instr.Instr.{TheVariants.{Mrf}}
use Rattle.lil_mcode.specs.Table.{Module, module_at, entry_in, its_entry, entry_of_value, value_mark_row, State, mstep, on_one, stacked_row}
use Rattle.lil_match.specs.{Goes.{Entered, Shared, Goes}, Parts.{yes, no}, Homes.{Home, IsRoutine, word_for, Refers}}
use Rattle.lil_match.specs.{Waits.{AStatement, AValue, result_in, resumed_mode, resumed_stack, AreSaved, Quiet, ValueOf, Around, top_of, Setting, at_home, pushing, CallingWaits, RowsOf, Rows, Waiting, frame_of as frame_at, laid_out}}
use Rattle.lil_match.specs.{Steps.{closed, goes_more, at_step, operand_goes, operand_exact}, Orders.instr_within}
use Rattle.lil_laws_place.specs.Codes.{trap_goes}
use Rattle.lil_laws_stmt.specs.{Arguments.same_value, Calls.{Found, found, mark_goes, ws, long, saved_home, saved_state, shared_saved, are_saved, behind_saved, save_goes}}
use Rattle.lil_laws_stmt.specs.{Enters.value_parts, Pushes.{with_pushed}}

-- ---- numbers of modules and procedures in a value
-- a module that is there has a number from 1 on
numbered : (modules : List Module) (n : ℕ) (own : Module) → module_at modules n ≡ Some own → 1 ≤ n
numbered modules zero own e = absurd (none-some own e)
numbered modules (suc n) own e = omega arith

module _ (ctx : Setting) (s : Source) (k : List Item) (m : State) (c : ℕ) (a : Around) (shared : Shared ctx s m) where
  open ctx use {library, home as h}
  open frame_at ctx use {own, piece, number}
  open laid_out ctx use {layout as l}

  -- a procedure of the module, as a value of a procedure type
  module _ (given : Arguments) (kind : Kind) (below : List ℕ) (row : CallingWaits ctx given (RowsOf k) (ValueOf kind) m.place below c a) (i p : ℕ) (routine : IsRoutine h.listed row.here.number i p) (is : m.stack ≡ procedure_word i p ∷ []) where
    number_is : i ≡ ctx.stack.frame.number
    number_is = routine.here ∙ sym shared.standing.known.here

    known : procedure_by l.scope.procedures p ≡ Some routine.its
    known = ap (λ (xs : List Outline). procedure_by xs p) shared.standing.known.outlines ∙ routine.known

    signature : outline_signature routine.its ≡ record { parameters = parameters_given l.scope given; result = result_in row.resumed }
    signature = same_Some (outline_signature routine.its) _ (sym routine.same ∙ ap (λ (xs : List Signature). slice_get xs row.here.number) (sym shared.standing.known.signatures) ∙ row.here.known)

    there : Found (procedures_of (loaded_at ctx.library ctx.loaded ctx.stack.frame.number)) p routine.its
    there = found (procedures_of (loaded_at ctx.library ctx.loaded ctx.stack.frame.number)) p routine.its (ap (λ (xs : List Outline). procedure_by xs p) (sym shared.standing.known.procedures) ∙ known)

    code : Entered ctx.stack.frame.own ctx.stack.frame.layout p there.its
    code = shared.standing.known.codes p there.its there.there

    parts : (procedure_word i p / 256 ≡ i) × (procedure_word i p % 256 ≡ p)
    parts = value_parts i p routine.low

    entry : entry_of_value m.modules (procedure_word i p) ≡ Some code.entry
    entry =
        ap (λ (z : ℕ × ℕ). entry_in (module_at m.modules z.0) z.1) (ap (λ (j : ℕ). (j, procedure_word i p % 256)) (parts.0 ∙ number_is) ∙ ap (λ (j : ℕ). (ctx.stack.frame.number, j)) parts.1)
        ∙ ap (λ (o : Option Module). entry_in o p) (ap (λ (ms : List Module). module_at ms ctx.stack.frame.number) shared.program.table_is ∙ shared.program.known)
        ∙ ap (option_map its_entry) code.there

    some : (procedure_word i p == 0) ≡ false
    some = ne_eqb (procedure_word i p) 0 (λ e. omega (arith, e, number_is, numbered ctx.table ctx.stack.frame.number ctx.stack.frame.own shared.program.known))

    value_marking : mstep m ≡ stacked_row (0 ∷ 0 ∷ 0 ∷ procedure_word i p ∷ []) row.here.start [] m
    value_marking =
        at_step ctx m shared.program Mrf row.here.start row.here.mark
        ∙ ap (λ (z : List ℕ). on_one m z (value_mark_row row.here.start m)) is
        ∙ no _ _ _ some
        ∙ yes _ _ _ (ap is_some entry)

    marked_goes : Goes ctx s (Value (Scalars (ToProcedure i p)) ∷ Fill (Calling given) ∷ k) m (c + 31)
    marked_goes =
        let first : top_of row.before.stack.frame ≡ ctx.stack.frame.at + (ctx.stack.frame.layout.frame + row.before.stack.frame.pushed) =
        omega (arith, ap (λ (y : Setting). y.stack.frame.at) row.is, ap (λ (y : Setting). y.stack.frame.layout.frame) row.is) in
        mark_goes ctx s k m c row.outer shared (OfValue i p) given row.here.start 0 (procedure_word i p)
        (record {
          resumed = row.resumed;
          may = record { its = routine.its; known = known; declared = routine.declared };
          here = number_is;
          returns = ap result_of known ∙ ap (λ (g : Signature). g.result) signature;
          takes = ap parameters_of known ∙ ap (λ (g : Signature). g.parameters) signature;
          middle = row.here.middle;
          arguments = row.here.arguments;
          end = row.end;
          call = row.here.call;
          under = row.before.stack.frame.pushed;
          pushed = ap (λ (y : Setting). y.stack.frame.pushed) row.is;
          saved = subst (AreSaved h.shadow row.resumed) first row.saved;
          after = row.after;
          restore = row.restore;
          within = row.within;
          then = subst (λ (y : Setting). Rows y k (resumed_mode row.resumed) row.after (resumed_stack row.resumed) c row.outer) (sym (ap (λ (y : Setting). with_pushed y row.before.stack.frame.pushed) row.is)) row.then;
        })
        tt (refl, routine.low) m.place m.stack (value_marking ∙ ap (λ (z : List ℕ). stacked_row (0 ∷ 0 ∷ 0 ∷ procedure_word i p ∷ []) row.here.start [] m) is) (Value (Scalars (ToProcedure i p)) ∷ Fill (Calling given) ∷ k) refl

  -- the value of what is called: it is called, or it is none, which traps
  pub calling_goes : (given : Arguments) (v : Scalar) (kind : Kind) → within kind v ≡ true → Refers h kind v → (below : List ℕ) → m.stack ≡ word_for h v ∷ below → CallingWaits ctx given (RowsOf k) (ValueOf kind) m.place below c a
      → Goes ctx s (Value (Scalars v) ∷ Fill (Calling given) ∷ k) m (c + 32)
  calling_goes given v kind fits refers below is row =
      let to : kind ≡ OfProcedure row.here.number = same_value kind row.kind row.mode ∙ row.here.kind in
      by v (ap (λ (j : Kind). within j v) (sym to) ∙ fits) (subst (λ (j : Kind). Refers h j v) to refers) (is ∙ ap (λ (z : List ℕ). word_for h v ∷ z) row.empty)
    where
      close : current k ≡ ctx.stack.frame.activation
      close = closed row.before k _ row.after _ _ row.outer row.then ∙ sym (ap (λ (y : Setting). y.stack.frame.activation) row.is)

      by : (u : Scalar) → within (OfProcedure row.here.number) u ≡ true → Refers h (OfProcedure row.here.number) u → m.stack ≡ word_for h u ∷ [] → Goes ctx s (Value (Scalars u) ∷ Fill (Calling given) ∷ k) m (c + 32)
      by Nil fits refers at =
          trap_goes ctx s (Value (Scalars Nil) ∷ Fill (Calling given) ∷ k) m shared m.place m.stack trap.NoProcedure (c + 32) Mrf row.here.start row.here.mark close refl
          (at_step ctx m shared.program Mrf row.here.start row.here.mark ∙ ap (λ (z : List ℕ). on_one m z (value_mark_row row.here.start m)) at) (omega arith)
      by (ToProcedure i p) fits refers at = goes_more ctx s (Value (Scalars (ToProcedure i p)) ∷ Fill (Calling given) ∷ k) m (c + 31) (c + 32) (marked_goes given kind below row i p refers at) (omega arith)
      by u fits refers at = cc

  -- a call of what returns nothing
  pub call_value_goes : (e : Expression) (given : Arguments) → Waiting ctx (Perform (Do (CallValue e given))) (Rows ctx k) Quiet m.place m.stack c a → Goes ctx s (Perform (Do (CallValue e given)) ∷ k) m (c + 32)
  call_value_goes e given row =
      let r = row.part.here in
      operand_goes ctx s k m c (record { exit = None; taken = a.taken }) shared (Perform (Do (CallValue e given)) ∷ k) e (Calling given) refl (omega arith) r.start r.value.value (omega (arith, ap length row.part.empty, r.value.shallow))
      (instr_within piece r.start Mrf r.call.start r.call.mark)
      (record {
        kind = kind_of e;
        mode = refl;
        empty = row.part.empty;
        before = ctx;
        resumed = AStatement;
        is = ap (with_pushed ctx) (let e : ctx.stack.frame.pushed ≡ 0 + ctx.stack.frame.pushed = omega arith in e);
        saved = tt;
        outer = a;
        around = refl;
        end = row.part.end;
        here = r.call;
        after = row.part.end;
        restore = refl;
        within = row.part.within;
        then = row.then;
      })

  -- a call of a function
  pub invoke_value_goes : (e : Expression) (kind : Kind) (given : Arguments) → Waiting ctx (Evaluate (InvokeValue e kind given)) (Rows ctx k) Quiet m.place m.stack c a → Goes ctx s (Evaluate (InvokeValue e kind given) ∷ k) m (c + 32)
  invoke_value_goes e kind given row =
      let items : List Item = Evaluate (InvokeValue e kind given) ∷ k in
      let here = row.part.here in
      let few : length m.stack + 1 ≤ 16 = omega (arith, row.part.shallow) in
      save_goes ctx s k m c a shared kind row.part.end few row.then items here.saved here.save (record s { items = Evaluate e ∷ Fill (Calling given) ∷ k; phase = Going }) refl (omega arith) refl refl (inr (inr refl))
      (λ room.
      let x : Home = saved_home ctx s k m c a shared kind row.part.end few row.then room in
      let n : ℕ = length (ws ctx s k m c a shared kind row.part.end few row.then) in
      let machine : State = saved_state ctx s k m c a shared kind row.part.end few row.then room here.saved in
      goes_more (pushing (at_home ctx x) n) s items machine c (c + 31)
      (operand_exact (pushing (at_home ctx x) n) s k machine c (record { exit = None; taken = a.taken }) (shared_saved ctx s k m c a shared kind row.part.end few row.then room here.saved) items e (Calling given) refl (omega arith)
      here.its.start here.its.value.value (omega (arith, here.its.value.shallow)) (instr_within piece here.its.start Mrf here.its.call.start here.its.call.mark)
      (record {
        kind = kind_of e;
        mode = refl;
        empty = refl;
        before = at_home ctx x;
        resumed = AValue kind m.stack;
        is = ap (pushing (at_home ctx x)) (long ctx s k m c a shared kind row.part.end few row.then);
        saved = are_saved ctx s k m c a shared kind row.part.end few row.then room;
        outer = a;
        around = refl;
        end = here.end;
        here = here.its.call;
        after = row.part.end;
        restore = here.restore;
        within = row.part.within;
        then = behind_saved ctx s k m c a shared kind row.part.end few row.then room;
      }))
      (omega arith))
