-- Headings in which no test finds a fault: a procedure with its parameters, and what is declared inside of it.
use Rattle.std.proofs.Common.{◌≡◌, ℕ, ◌+◌, ◌<◌, Bool, true, false, List, [], ◌∷◌, ◌++◌, length, slice_get, Option, Some, None, IfSome, if◌then◌else◌, refl, sym, ap, subst, ◌∙◌, inl, ⊎_elim, arith, true≢false, length-append}
use Rattle.std.specs.Prelude.{is_none}
use Rattle.std.proofs.lemmas.{Bool.Decides.nat_tests, List.length_push, Option.{none-some, slice_get_within}}
use Rattle.lil_text.specs.declared.tree.{Qualident.Qualident}
use Rattle.lil_language.specs.declared.{tree.Stmt.Stmt, unit.{Heading.Heading}}
use Rattle.lil_types.specs.{Types.{Table, entry}, Adding.{next, own, added, added_number}, declared.table.{Facts.Facts, Parameter.Parameter, TypeForm.TypeForm}}
use Rattle.lil_types.specs.declared.table.TypeForm.TheVariants as form
use Rattle.lil_declared.specs.declared.declared.{RProc.RProc, RVar.RVar}
use Rattle.lil_report.specs.Told.{Row, after, walk}
use Rattle.lil_kinds.specs.Forms.{parameters, result}
use Rattle.lil_shapes.specs.{ListLaws.AllFine, Pointers.lies_at, ShapeSound.{at_end, earlier}}
use Rattle.lil_forms.specs.Scopes.{fine_more}
use Rattle.lil_scope.specs.{Names.{Names, look_in, bound_at, bind_at, is_in_no_text, procedure_of, procedure_awaited, thing_of, entry_here, awaited_procedure, locals_in, inside, entered, outside}, declared.{env.Env.Env, thing.{Entry.Entry, ExternalProcedure.ExternalProcedure, Thing.Thing, Variable.Variable}}}
use Rattle.lil_scope.specs.declared.thing.Thing.TheVariants as thing
use Rattle.lil_scope.specs.Names as names
use Rattle.lil_check_value.specs.{Looks.{type_named}}
use Rattle.lil_check_type.specs.{declared.{named.NamedType.{NamedType, TheVariants.{Absent, Given, Faulty}}, routines.Parameters.Parameters}, Made.{Made, type_node, form_node}, Records.{no_parameters, result_node, result_means, procedure_form}}
use Rattle.lil_check_decl.specs.{Decls.{Means, procedure_means}, Headings.{Headed, section_step, home_at, procedure_thing, with_procedure, numbered_node, new_means, again_means, named_by, named_means, heading_means}}
use Rattle.lil_check_stmt.specs.Texts.{Texts}
use Rattle.lil_right_type.specs.{Right.{Clear, Right, after_right, clear_left, clear_right}, Types.PassedTold, Found.{ParameterTold, ResultTold, HeadingTold, ThingTold, AreHeaded}, Homes.{IsParameter, Longer, last_locals, homed_procedure, stands_stays, stands_inside}}
use Rattle.lil_right_type.specs.Homes as homes
use Rattle.lil_right_value.specs.Names.{Lies, Told, look_is, member_is, bound_at_is}
use Rattle.lil_right_sort.specs.{Growth.{all_then, fine_at, Few, few_before, added_grown, grown_kept, added_entry, entry_below, entry_shape, parameter_stays, result_stays, shape_parameters, last_there, IsIn, AllLie, AllHeaded, HasHeading, Declared, declared_added}, Routines.{IsResult, result_right}, Simple.{Begun, walk_keeps}}
use Rattle.lil_right_decl.specs.Constants.{Behind}
use Rattle.lil_right_decl.specs.Parameters.{local_same, paired_lie, paired_headed, k, with_parts, IsNamed, ArePassed, IsHeading, none_yet, type_there, section_right}

-- ---- what is declared behind something, with the procedures of these texts, each of which has a block
abbrev pub IsText : Option (List Stmt) → Type 0
IsText None = ⊥
IsText (Some ss) = Unit {0}

pub record After (e : Env) (ts : Texts) (f : Env) : Type 0 where
  pub longer : Longer e.procedures f.procedures
  pub count : length f.procedures ≡ length e.procedures + length ts
  pub whole : AllFine IsText ts
  pub procedure : f.procedure ≡ e.procedure
  pub few : Few f.types → Few e.types
  pub told : Begun f

all_whole : (ts us : Texts) → AllFine IsText ts → AllFine IsText us → AllFine IsText (ts ++ us)
all_whole [] us h j = j
all_whole (t ∷ ts) us h j = (h.0, all_whole ts us h.1 j)

pub after_more : (e f g : Env) (ts us : Texts) → After e ts f → After f us g → After e (ts ++ us) g
after_more e f g ts us h j = record {
  longer = λ n q is. j.longer n q (h.longer n q is);
  count = omega (arith, j.count, h.count, length-append ts us);
  whole = all_whole ts us h.whole j.whole;
  procedure = j.procedure ∙ h.procedure;
  few = λ few. h.few (j.few few);
  told = j.told;
}

pub after_same : (e : Env) → Begun e → After e [] e
after_same e begun = record { longer = λ n q is. is; count = omega arith; whole = tt; procedure = refl; few = λ few. few; told = begun }

-- without procedures
pub after_none : (e f : Env) → Behind e f → After e [] f
after_none e f b = record {
  longer = λ n q is. ap (λ (ps : List RProc). slice_get ps n) b.0.1.0 ∙ is;
  count = omega (arith, ap length b.0.1.0);
  whole = tt;
  procedure = b.0.1.1;
  few = few_before e.types f.types b.0.0;
  told = b.1;
}

-- a phrase behind one of two parts
both_right : {A B C : Type 0} (P : A → Type 0) (Q : C → Type 0) (m : A × List Row) (k : A → B × List Row) (f : B → C × List Row) → Right P m → ((a : A) → P a → Right Q (after (k a) f)) → Right Q (after (after m k) f)
unfolding after
both_right P Q m k f h g clear =
    let outer = clear_left (m.1 ++ (k m.0).1) (f (k m.0).0).1 clear in
    g m.0 (h (clear_left m.1 (k m.0).1 outer)) (clear_both (k m.0).1 (f (k m.0).0).1 (clear_right m.1 (k m.0).1 outer) (clear_right (m.1 ++ (k m.0).1) (f (k m.0).0).1 clear))
  where
    clear_both : (rs ss : List Row) → Clear rs → Clear ss → Clear (rs ++ ss)
    clear_both [] ss h j = j
    clear_both (r ∷ rs) ss h j = (h.0, clear_both rs ss h.1 j)

-- ---- names that stand for no procedure of another module
abbrev IsOurs : Thing → Type 0
IsOurs (thing.ExternalProcedure x) = ⊥
IsOurs _ = Unit {0}

abbrev AreOurs : Names → Type 0
AreOurs b = AllFine (λ (x : List ℕ × Entry). IsOurs x.1.thing) b

told_ours : (t : Table) (texts : List (List ℕ)) (x : Thing) → ThingTold t texts x → IsOurs x
told_ours t texts (thing.ExternalProcedure x) h = h
told_ours t texts _ h = tt

named_ours : (e : Env) (own : List RVar) (x : Thing) → IsNamed e own x → IsOurs x
named_ours e own (thing.Variable v) h = tt
named_ours e own _ h = absurd h

none_awaits : (o : Option Entry) → IfSome (thing_of o) IsOurs → procedure_awaited o ≡ None
none_awaits None h = refl
none_awaits (Some e) h = by (is_in_no_text e.place) e.thing h
  where
    by : (c : Bool) (x : Thing) → IsOurs x → (if c then procedure_of x else None) ≡ None
    by false x h = refl
    by true (thing.ExternalProcedure p) h = absurd h
    by true _ h = refl

-- ---- the heading
is_there : (o : Option ℕ) → is_none o ≡ false → (n : ℕ) × (o ≡ Some n)
is_there None h = absurd (true≢false h)
is_there (Some n) h = (n, refl)

pub record IsHeaded (e f : Env) : Type 0 where
  pub its : RProc
  pub procedures : f.procedures ≡ e.procedures ++ its ∷ []
  pub procedure : f.procedure ≡ e.procedure
  pub few : Few f.types → Few e.types
  pub told : Begun f

module _ (e : Env) (begun : Begun e) (h : Heading) where
  -- the procedure's type, behind these parameters, with this result
  abbrev typed : Parameters → Option ℕ → TypeForm
  typed ps r = form.Procedure ps.list r

  abbrev u : Parameters → Option ℕ → Table
  u ps r = added e.types (own e.types) (typed ps r)

  -- the procedure of this type, whose name is bound
  abbrev headed : Parameters → Option ℕ → List Names → List (List RVar) → ℕ → Env
  headed ps r bs ls n = with_procedure h.name.name (k e) (Some n) (names.with_blocks (record (with_parts e bs ls) { types = u ps r }) (bound_at bs e.scopes.inner h.name.name (names.entry (procedure_thing (k e) (Some n) e) h.name.place)))

  module _ (ps : Parameters) (r : Option ℕ) (bs : List Names) (ls : List (List RVar)) (n : ℕ) (given : added_number e.types (typed ps r) ≡ Some n) (room : length e.procedures < 250) (few : Few (u ps r)) (p : ArePassed e bs ls ps) (returns : ResultTold e.types r) where
    before : Declared e
    before = begun (few_before e.types (u ps r) (added_grown e.types (own e.types) (typed ps r)) few)

    abbrev base : Env
    base = record e { types = u ps r }

    d : Declared base
    d = declared_added e before (own e.types) (typed ps r) (all_then (ParameterTold e.types) (PassedTold e.types) (λ x. inl) ps.list p.lie, returns) few

    built : AllFine (ParameterTold (u ps r)) ps.list
    built = all_then (ParameterTold e.types) (ParameterTold (u ps r)) (parameter_stays e.types (u ps r) before.told.types (grown_kept e.types (u ps r) (added_grown e.types (own e.types) (typed ps r)))) ps.list p.lie

    lie : AllLie (u ps r) p.own
    lie = paired_lie (u ps r) ps.list p.own p.paired built

    its_entry : (f : Facts) × (entry (u ps r) n ≡ Some (record { origin = own e.types; form = typed ps r; facts = f }))
    its_entry = added_entry e.types (own e.types) (typed ps r) n given

    signature : (parameters (u ps r) n ≡ ps.list) × (result (u ps r) n ≡ r)
    signature = shape_parameters (u ps r) n ps.list r (entry_shape (u ps r) d.told.types n _ its_entry.1)

    heading : HeadingTold (u ps r) n
    heading = (subst (AllFine (ParameterTold (u ps r))) (sym signature.0) built, subst (ResultTold (u ps r)) (sym signature.1) (result_stays e.types (u ps r) before.told.types (grown_kept e.types (u ps r) (added_grown e.types (own e.types) (typed ps r))) r returns))

    below : n < next (u ps r)
    below = entry_below (u ps r) n _ its_entry.1

    -- names of the block are those of the parameters
    it_lies : (v : Variable) (its : RVar) → slice_get p.own v.number ≡ Some its → lies_at (u ps r) its.sort ≡ true
    it_lies v its there = fine_at (λ (v : RVar). lies_at (u ps r) v.sort ≡ true) p.own v.number its lie there

    parameter : (m : List ℕ) (x : Thing) → look_in p.block m ≡ Some x → IsParameter p.own (length e.scopes.outer + 1) x
    parameter m x is = by x (subst (λ (o : Option Thing). IfSome o (IsNamed e p.own)) is (look_is (IsNamed e p.own) p.block m p.named))
      where
        by : (x : Thing) → IsNamed e p.own x → IsParameter p.own (length e.scopes.outer + 1) x
        by (thing.Variable v) j = j
        by _ j = absurd j

    abbrev its : RProc
    its = homes.own e.scopes.blocks e.procedures e.variables e.locals e.scopes.outer e.scopes.inner e.procedure d.told.homed d.told.stands room h.name.name n p.block p.own parameter

    name_told : (x : Thing) → IsNamed e p.own x → Told base x × IsIn (u ps r) x
    name_told (thing.Variable v) j = (sym (ap (lies_at (u ps r)) j.1.2) ∙ it_lies v j.1.0 j.1.1, tt)
    name_told _ j = absurd j

    abbrev new : Entry
    new = names.entry (procedure_thing (k e) (Some n) e) h.name.place

    all_headed : AllHeaded (u ps r) (e.procedures ++ its ∷ []) (e.locals ++ p.own ∷ [])
    all_headed i q is = ⊎_elim
        (λ (old : slice_get e.procedures i ≡ Some q). subst (λ (vs : List RVar). AreHeaded (parameters (u ps r) q.sort) vs) (sym (local_same e.locals p.own i (omega (arith, slice_get_within e.procedures i q old, d.told.homed.each)))) (d.headed i q old))
        (λ (new : (i ≡ length e.procedures) × (its ≡ q)). subst (λ (q : RProc). AreHeaded (parameters (u ps r) q.sort) (locals_in (e.locals ++ p.own ∷ []) i)) new.1
        (subst (λ (vs : List RVar). AreHeaded (parameters (u ps r) n) vs) (sym (ap (locals_in (e.locals ++ p.own ∷ [])) (new.0 ∙ sym d.told.homed.each) ∙ last_locals p.own e.locals))
        (subst (λ (xs : List Parameter). AreHeaded xs p.own) (sym signature.0) (paired_headed ps.list p.own p.paired))))
        (at_end e.procedures its q i is)

    last_declared : Declared (headed ps r (e.scopes.blocks ++ p.block ∷ []) (e.locals ++ p.own ∷ []) n)
    last_declared = record {
      told = record {
        types = d.told.types;
        words = d.told.words;
        names = bound_at_is (Told base) (e.scopes.blocks ++ p.block ∷ []) e.scopes.inner h.name.name new (fine_more _ e.scopes.blocks p.block d.told.names (all_then _ _ (λ (x : List ℕ × Entry) j. (name_told x.1.thing j).0) p.block p.named)) heading;
        homed = homed_procedure e.scopes.blocks e.procedures e.variables e.locals e.scopes.outer e.scopes.inner e.procedure d.told.homed d.told.stands room h.name.name n p.block p.own parameter h.name.name new refl;
        stands = stands_stays e.procedures (e.procedures ++ its ∷ []) (λ i q is. earlier e.procedures (its ∷ []) i q is) e.scopes.outer e.scopes.inner e.procedure (omega (arith, length_push e.procedures its)) d.told.stands;
      };
      residents = bound_at_is (IsIn (u ps r)) (e.scopes.blocks ++ p.block ∷ []) e.scopes.inner h.name.name new (fine_more _ e.scopes.blocks p.block d.residents (all_then _ _ (λ (x : List ℕ × Entry) j. (name_told x.1.thing j).1) p.block p.named)) below;
      variables = (d.variables.0, fine_more (AllLie (u ps r)) e.locals p.own d.variables.1 lie);
      headings = fine_more (HasHeading (u ps r)) e.procedures its d.headings (below, heading);
      headed = all_headed;
    }

    headed_told : Declared (headed ps r bs ls n)
    headed_told = subst (λ (ls : List (List RVar)). Declared (headed ps r bs ls n)) (sym p.locals_are) (subst (λ (bs : List Names). Declared (headed ps r bs (e.locals ++ p.own ∷ []) n)) (sym p.blocks_are) last_declared)

  -- ---- behind its parameters, and its result
  module _ (ps : Parameters) (bs : List Names) (ls : List (List RVar)) (told : Few e.types → ArePassed e bs ls ps) where
    abbrev f : Env
    f = with_parts e bs ls

    record IsTyped (r : Option ℕ) (m : Made) : Type 0 where
      number : ℕ
      is : m ≡ (record f { types = u ps r }, Some number)
      given : added_number e.types (typed ps r) ≡ Some number

    typed_right : (r : Option ℕ) → Right (IsTyped r) (type_node f h.place (typed ps r))
    unfolding type_node
    typed_right r clear = let n = is_there (added_number e.types (typed ps r)) clear.0 in record { number = n.0; is = λ i. (record f { types = u ps r }, n.1 i); given = n.1 }

    -- where all that names stand for is told no procedure awaits its heading
    none_here : Few e.types → awaited_procedure f h.name.name ≡ None
    unfolding awaited_procedure
    none_here few =
        let p = told few in
        let before : AllFine AreOurs e.scopes.blocks = all_then _ _ (λ b. all_then _ _ (λ (x : List ℕ × Entry). told_ours e.types e.texts x.1.thing) b) e.scopes.blocks (begun few).told.names in
        let its : AreOurs p.block = all_then _ _ (λ (x : List ℕ × Entry). named_ours e p.own x.1.thing) p.block p.named in
        let all : AllFine AreOurs bs = subst (AllFine AreOurs) (sym p.blocks_are) (fine_more AreOurs e.scopes.blocks p.block before its) in
        none_awaits (entry_here f h.name.name) (member_is IsOurs f.scopes f.scopes.inner h.name.name all)

    module _ (r : Option ℕ) (returns : Few e.types → ResultTold e.types r) where
      typed_few : Few (u ps r) → Few e.types
      typed_few = few_before e.types (u ps r) (added_grown e.types (own e.types) (typed ps r))

      new_right : (m : Made) → IsTyped r m → Right (IsHeaded e) (new_means (k e) h.name m)
      unfolding after bind_at numbered_node
      new_right m made = subst (λ (m : Made). Right (IsHeaded e) (new_means (k e) h.name m)) (sym made.is) (λ clear.
          let room : length e.procedures < 250 = grind (arith, nat_tests, clear.1.0) in
          record { its = _; procedures = refl; procedure = refl; few = typed_few; told = λ few. headed_told ps r bs ls made.number made.given room few (told (typed_few few)) (returns (typed_few few)) })

      again_right : (p : ExternalProcedure) → awaited_procedure f h.name.name ≡ Some p → (m : Made) → IsTyped r m → Right (IsHeaded e) (again_means p (k e) h.name m)
      unfolding again_means
      again_right p is m made = subst (λ (m : Made). Right (IsHeaded e) (again_means p (k e) h.name m)) (sym made.is)
          (λ clear. record { its = _; procedures = refl; procedure = refl; few = typed_few; told = λ few. absurd (none-some p (sym (none_here (typed_few few)) ∙ is)) })

      either_right : (m : Made) → IsTyped r m → (o : Option ExternalProcedure) → awaited_procedure f h.name.name ≡ o → Right (IsHeaded e) (named_by o (k e) h.name m)
      either_right m made None is = new_right m made
      either_right m made (Some p) is = again_right p is m made

      named_right : (m : Made) → IsTyped r m → Right (IsHeaded e) (named_means (k e) h.name m)
      unfolding awaited_procedure
      named_right m made =
          let same : awaited_procedure m.0 h.name.name ≡ awaited_procedure f h.name.name = ap (λ (m : Made). awaited_procedure m.0 h.name.name) made.is in
          subst (λ (o : Option ExternalProcedure). Right (IsHeaded e) (named_by o (k e) h.name m)) (sym same) (either_right m made (awaited_procedure f h.name.name) refl)

    -- without a type where a parameter or the result has a fault
    module _ (wrong : Few e.types → ⊥) where
      broken_by : (o : Option ExternalProcedure) → Right (IsHeaded e) (named_by o (k e) h.name (f, None))
      unfolding after bind_at numbered_node again_means
      broken_by None clear = record { its = _; procedures = refl; procedure = refl; few = λ few. few; told = λ few. absurd (wrong few) }
      broken_by (Some p) clear = record { its = _; procedures = refl; procedure = refl; few = λ few. few; told = λ few. absurd (wrong few) }

      broken_right : Right (IsHeaded e) (named_means (k e) h.name (f, None))
      broken_right = broken_by (awaited_procedure f h.name.name)

    typed_so : (r : Option ℕ) → (Few e.types → ResultTold e.types r) → (c : Bool) → ps.right ≡ c → Right (IsHeaded e) (after (form_node f h.place (if c then Some (typed ps r) else None)) (named_means (k e) h.name))
    unfolding after
    typed_so r returns true is = after_right (IsTyped r) (IsHeaded e) (type_node f h.place (typed ps r)) (named_means (k e) h.name) (typed_right r) (named_right r returns)
    typed_so r returns false is = broken_right (λ few. true≢false (sym (told few).right ∙ is))

    formed_right : (n : NamedType) → IsResult e n → Right (IsHeaded e) (after (form_node f h.place (procedure_form ps n)) (named_means (k e) h.name))
    unfolding after
    formed_right Absent j = typed_so None (λ few. tt) ps.right refl
    formed_right (Given r) j = typed_so (Some r) j ps.right refl
    formed_right Faulty j = broken_right j

  parts_right : (q : Headed) → IsHeading e q → (r : Option Qualident) → Right (IsHeaded e) (after (after (result_means q.0 r) (λ n. form_node q.0 h.place (procedure_form q.1 n))) (named_means (k e) h.name))
  parts_right q j r = both_right (IsResult e) (IsHeaded e) (result_means q.0 r) (λ n. form_node q.0 h.place (procedure_form q.1 n)) (named_means (k e) h.name) (its r) rest
    where
      rest : (n : NamedType) → IsResult e n → Right (IsHeaded e) (after (form_node q.0 h.place (procedure_form q.1 n)) (named_means (k e) h.name))
      rest n i = subst (λ (g : Env). Right (IsHeaded e) (after (form_node g h.place (procedure_form q.1 n)) (named_means (k e) h.name))) (sym j.is) (formed_right q.1 j.blocks j.locals j.told n i)

      its : (r : Option Qualident) → Right (IsResult e) (result_means q.0 r)
      its None = λ clear. tt
      its (Some x) = after_right (λ o. Few e.types → Lies e.types o) (IsResult e) (type_named q.0 x) (result_node q.0.types x.name.place) (type_there e begun q j x)
          (λ o lies. subst (λ (t : Table). Right (IsResult e) (result_node t x.name.place o)) (sym (ap (λ (g : Env). g.types) j.is)) (result_right e begun x.name.place o lies))

  pub heading_right : Right (IsHeaded e) (heading_means e h)
  heading_right = after_right (IsHeading e) (IsHeaded e) (walk (section_step (home_at e (k e))) (names.begun e, no_parameters) h.sections) _
      (walk_keeps (IsHeading e) (section_step (home_at e (k e))) (λ q s j. section_right e begun q s j) (names.begun e, no_parameters) h.sections (none_yet e))
      (λ q j. parts_right q j h.result)

-- ---- what is declared inside of a procedure
module _ (e : Env) (g : Env) (headed : IsHeaded e g) where
  abbrev n : ℕ
  n = length e.procedures

  abbrev at : Env
  at = inside n (Some headed.its) g

  its_there : slice_get g.procedures n ≡ Some headed.its
  its_there = ap (λ (ps : List RProc). slice_get ps n) headed.procedures ∙ last_there e.procedures headed.its

  pub is_inside : entered n g ≡ at
  is_inside = ap (λ (o : Option RProc). inside n o g) its_there

  pub begun_inside : Begun at
  begun_inside few = let d = headed.told few in record {
    told = record { types = d.told.types; words = d.told.words; names = d.told.names; homed = d.told.homed; stands = stands_inside g.scopes.blocks g.procedures g.variables g.locals d.told.homed n headed.its its_there };
    residents = d.residents;
    variables = d.variables;
    headings = d.headings;
    headed = d.headed;
  }

  pub left : (ss : List Stmt) (ts : Texts) (w : Env) → After at ts w → After e (Some ss ∷ ts) (outside g w)
  left ss ts w inner = record {
    longer = λ i q is. inner.longer i q (ap (λ (ps : List RProc). slice_get ps i) headed.procedures ∙ earlier e.procedures (headed.its ∷ []) i q is);
    count = omega (arith, inner.count, longer_by);
    whole = (tt, inner.whole);
    procedure = headed.procedure;
    few = λ few. headed.few (inner.few few);
    told = λ few.
        let d = inner.told few in
        let around = headed.told (inner.few few) in
        record {
          told = record {
            types = d.told.types;
            words = d.told.words;
            names = d.told.names;
            homed = d.told.homed;
            stands = stands_stays g.procedures w.procedures inner.longer g.scopes.outer g.scopes.inner g.procedure (omega (arith, inner.count)) around.told.stands;
          };
          residents = d.residents;
          variables = d.variables;
          headings = d.headings;
          headed = d.headed;
        };
  }
    where
      longer_by : length g.procedures ≡ length e.procedures + 1
      longer_by = ap length headed.procedures ∙ length_push e.procedures headed.its

pub procedure_right : (e : Env) → Begun e → (h : Heading) (ss : List Stmt) (ts : Texts) (body : Means) → ((f : Env) → Begun f → Right (After f ts) (body f)) → Right (After e (Some ss ∷ ts)) (procedure_means e h body)
procedure_right e begun h ss ts body right = after_right (IsHeaded e) (After e (Some ss ∷ ts)) (heading_means e h) _ (heading_right e begun h) (λ g headed.
    let same = is_inside e g headed in
    after_right (After (at e g headed) ts) (After e (Some ss ∷ ts)) (body (entered (length e.procedures) g)) _
    (subst (λ (f : Env). Right (After (at e g headed) ts) (body f)) (sym same) (right (at e g headed) (begun_inside e g headed)))
    (λ w inner clear. left e g headed ss ts w inner))
