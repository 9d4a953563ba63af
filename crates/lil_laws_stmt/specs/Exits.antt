-- The row of EXIT: the items up to the end of the LOOP around go, and the machine jumps to the place behind it.
use Rattle.std.proofs.Common.{◌≡◌, ℕ, ◌+◌, ◌<◌, ◌≤◌, inl, inr, Some, None, List, [], ◌∷◌, length, refl, sym, ap, ◌∙◌, subst, arith}
use Rattle.std.specs.Prelude.{ℤ}
use Rattle.lil_resolved.specs.{Kinds.{Kind, Shape}, Resolved.{Named, Exit, Statements}}
use Rattle.lil_meaning.specs.{Items.{Called, Pass, PassPlace, PassAll, PassArray, Calling, Do, Looping, Turns, Holding, End, Item, Fill, Perform, Source}, Steps.exited}
use Rattle.lil_mcode.specs.Table.{State, going}
use Rattle.lil_table.specs.Rows.{loop_place}
use Rattle.lil_match.specs.{Goes.{Shared, Goes}, Running.running, Waits.{Setting, inside_with, frame_of, Frame, Mode, Quiet, Around, outside, Reach, TurnsTask, ItemWaits, RowsOf, Rows, Waiting}, Laid.{IsAround, around_self, around_more, shared_around, goes_around}, Steps.jumps_to}
use Rattle.lil_laws_stmt.specs.Control.{goes_to}

some_same : (x y : ℕ) → Some x ≡ Some y → x ≡ y
some_same x y e = cc

-- Items that are left behind a LOOP stand at the place behind it, with at most so many jumps owed, in what is around the WITHs that they leave.
pub record Leaves (ctx : Setting) (k : List Item) (to c : ℕ) : Type 0 where
  pub before : Setting
  pub deep : IsAround before ctx
  pub outer : Around
  pub later : ℕ
  pub less : later ≤ c
  pub inside : to < length ctx.stack.frame.piece
  pub there : Rows before k Quiet to [] later outer

-- jumps before
sooner : (ctx : Setting) (k : List Item) (to c later : ℕ) → later ≤ c → Leaves ctx k to later → Leaves ctx k to c
sooner ctx k to c later less r = record { before = r.before; deep = r.deep; outer = r.outer; later = r.later; less = omega (arith, less, r.less); inside = r.inside; there = r.there }

-- out of a WITH
out_of_with : (ctx mid : Setting) (t : Shape) (n : ℕ) (k : List Item) (to c : ℕ) → ctx ≡ inside_with mid t n → Leaves mid k to c → Leaves ctx k to c
out_of_with ctx mid t n k to c is r = record {
  before = r.before;
  deep = around_more r.before mid ctx t n is r.deep;
  outer = r.outer;
  later = r.later;
  less = r.less;
  inside = omega (arith, r.inside, ap (λ (x : Setting). length x.stack.frame.piece) is);
  there = r.there;
}

-- the LOOP around
out : (ctx : Setting) (k : List Item) (to c end : ℕ) (outer a : Around) → a ≡ record { exit = Some end; taken = outer.taken } → a.exit ≡ Some to → end < length ctx.stack.frame.piece
    → Rows ctx k Quiet end [] c outer → Leaves ctx k to c
out ctx k to c end outer a is known inside rows =
    let same : end ≡ to = some_same end to (sym (ap (λ (o : Around). o.exit) is) ∙ known) in
    record {
      before = ctx;
      deep = around_self ctx;
      outer = outer;
      later = c;
      less = omega arith;
      inside = omega (arith, inside, same);
      there = subst (λ (x : ℕ). Rows ctx k Quiet x [] c outer) same rows;
    }

-- how EXIT leaves from the row of items
abbrev Leaving : Setting → List Item → Reach → Type 0
Leaving ctx k row = (t : Mode) (p : ℕ) (stack : List ℕ) (c : ℕ) (a : Around) → row t p stack c a → (to : ℕ) → a.exit ≡ Some to → Leaves ctx k to c

turns_leave : (ctx : Setting) (x : Named) (kind : Kind) (z step : ℤ) (left : ℕ) (body : Statements) (k : List Item) (rest : Reach) → Leaving ctx k rest
    → Leaving ctx k (TurnsTask ctx x kind z step left body rest)
turns_leave ctx x kind z step left body k rest f t p stack c a (inl r) to known = f _ _ _ c a r.then to known
turns_leave ctx x kind z step left body k rest f t p stack c a (inr r) to known =
    f _ _ _ c r.outer r.then to (sym (ap (λ (o : Around). o.exit) r.around) ∙ known)

-- no LOOP is around the end of a body
never_none : (f : Frame) (a : Around) (to : ℕ) → a ≡ outside f → a.exit ≡ Some to → ⊥
never_none f a to is known = let none : None ≡ Some to = sym (ap (λ (o : Around). o.exit) is) ∙ known in cc

-- nor is one around a call's arguments
pending_none : (a outer : Around) (to : ℕ) → a ≡ record { exit = None; taken = outer.taken } → a.exit ≡ Some to → ⊥
pending_none a outer to is known = let none : None ≡ Some to = sym (ap (λ (o : Around). o.exit) is) ∙ known in cc

item_leaves : (ctx : Setting) (i : Item) (k : List Item) → ((c : Setting) → Leaving c (exited k) (Rows c k)) → Leaving ctx (exited (i ∷ k)) (ItemWaits ctx i k (RowsOf k))
item_leaves ctx (Perform (Looping body)) k f t p stack c a r to known = out ctx k to c r.end r.outer a r.is known r.within r.then
item_leaves ctx (Perform (Turns x kind z step left body)) k f t p stack c a r to known = turns_leave ctx x kind z step left body (exited k) (Rows ctx k) (f ctx) t p stack c a r to known
item_leaves ctx (Perform (Holding place)) k f t p stack c a r to known =
    out_of_with ctx r.before r.shape (loop_place r.outer.taken) (exited k) to c r.is (f r.before _ _ _ c r.outer r.then to (sym (ap (λ (o : Around). o.exit) r.around) ∙ known))
item_leaves ctx (Perform (End n)) k f t p stack c a r to known = absurd (never_none ctx.stack.frame a to r.alone known)
item_leaves ctx (Fill (Pass (Called q) kind done left)) k f t p stack c a r to known = absurd (pending_none a r.pending.outer to r.pending.around known)
item_leaves ctx (Fill (PassPlace (Called q) done left)) k f t p stack c a r to known = absurd (pending_none a r.pending.outer to r.pending.around known)
item_leaves ctx (Fill (PassAll (Called q) done left)) k f t p stack c a r to known = absurd (pending_none a r.pending.outer to r.pending.around known)
item_leaves ctx (Fill (PassArray (Called q) high done left)) k f t p stack c a r to known = absurd (pending_none a r.pending.outer to r.pending.around known)
item_leaves ctx (Fill (Calling given)) k f t p stack c a r to known = absurd (pending_none a r.outer to r.around known)
item_leaves ctx i k f t p stack c a r to known = f ctx _ _ _ c a r.then to known

pub leaves : (k : List Item) (ctx : Setting) → Leaving ctx (exited k) (Rows ctx k)
leaves [] ctx t p stack c a r to known = absurd r
leaves (i ∷ k) ctx t p stack c a r to known =
    sooner ctx (exited (i ∷ k)) to c r.later (omega (arith, r.count)) (item_leaves ctx i k (leaves k) t r.start stack r.later a r.there to known)

module _ (ctx : Setting) where
  open ctx use {library, table, home as h}
  open frame_of ctx use {own, piece, number}

  pub exit_goes : (s : Source) (k : List Item) (m : State) (c : ℕ) (a : Around) → Shared ctx s m → Waiting ctx (Perform (Do Exit)) (Rows ctx k) Quiet m.place m.stack c a → Goes ctx s (Perform (Do Exit) ∷ k) m (c + 32)
  exit_goes s k m c a shared row =
      let r = leaves k ctx Quiet row.part.end [] c a row.then row.part.here.to row.part.here.known in
      goes_around r.before ctx r.deep s (Perform (Do Exit) ∷ k) m (c + 32)
      (goes_to r.before s m (shared_around r.before ctx r.deep s m shared) (Perform (Do Exit) ∷ k) (exited k) row.part.here.to (c + 32) r.later r.outer refl
      (jumps_to ctx m s.world shared.program row.part.here.to row.part.end row.part.here.jump r.inside
      ∙ ap (λ (x : List ℕ). running (going m row.part.here.to x) s.world) row.part.empty)
      r.there
      (omega (arith, r.less)))
