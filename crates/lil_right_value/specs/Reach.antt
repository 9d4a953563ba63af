-- What designators reach is told, and so is what is used of it.
use Rattle.std.proofs.Common.{◌≡◌, ◌⊎◌, inl, inr, ℕ, ◌+◌, ◌≤◌, Bool, true, false, not, ◌&&◌, List, [], length, slice_get, Option, Some, None, IfSome, if◌then◌else◌, refl, sym, ap, subst, ◌∙◌, arith, true≢false}
use Rattle.std.specs.Prelude.{◌-◌, max, is_none}
use Rattle.lil_base.specs.declared.fault.{Place.Place, FaultKind.{FaultKind, TheVariants.{NotRecord, NotPointer}}}
use Rattle.lil_text.specs.declared.tree.Ident.{Ident}
use Rattle.lil_types.specs.{Types.{Table, cardinal}, declared.fields.FieldAt.FieldAt}
use Rattle.lil_declared.specs.declared.declared.{Mode.Mode, RVar.RVar}
use Rattle.lil_declared.specs.declared.declared.Mode.TheVariants as mode
use Rattle.lil_scope.specs.{Built.built, Names.{member, waits_for, level, chain}, declared.{env.Env.Env, thing.{Kind.Kind, Thing.Thing, Variable.Variable}}}
use Rattle.lil_scope.specs.declared.thing.Kind.TheVariants as k
use Rattle.lil_scope.specs.declared.thing.Thing.TheVariants as t
use Rattle.lil_kinds.specs.{Forms.{array_parts, field, is_record, target}, Kinds.{assignable, misses}, declared.found.{Form.Form, Found.Found, Located.Located, OpenArray.OpenArray, Standing.Standing}}
use Rattle.lil_kinds.specs.declared.forms.ArrayParts as checked
use Rattle.lil_kinds.specs.declared.found.Form.TheVariants as form
use Rattle.lil_kinds.specs.declared.found.Standing.TheVariants as standing
use Rattle.lil_resolved.specs.{Sizes.{place_depth, depth}, Views.{expression_of, place_of, along_is, held_is, field_is as field_view, index_is, follow_is}, declared.resolved.{RExpr.RExpr, RKind.RKind, RNamed.RNamed, RPlace.RPlace}}
use Rattle.lil_resolved.specs.declared.resolved.RBase.TheVariants as b
use Rattle.lil_resolved.specs.declared.resolved.RRoot.TheVariants as root
use Rattle.lil_resolved.specs.declared.resolved.RSelector.TheVariants as part
use Rattle.lil_shapes.specs.{Bases.{plain, kind_at, array_at, field_at}, Pointers.{lies_at, target_at, target_with, target_by}}
use Rattle.lil_forms.specs.{Parts.{placed_is, further_is}, Places.{at_root, further, located_form, located_in, variable_form, held_at, element_as, element_by, element_along}, Properties.{Property, Reach}, Values.typed, Variables.seen}
use Rattle.lil_forms.specs.Places as places
use Rattle.lil_call.specs.declared.call.Argument.TheVariants as argument
use Rattle.lil_operators.specs.Operations.{plain_found, raised}
use Rattle.lil_check_value.specs.{declared.{designators.{Named.Named, Part.Part, Reached.Reached}, names.Looked.{Looked, TheVariants.{Nothing, Field, Thing as Declared}}}, Looks.{look, looked_as, is_hidden_thing}}
use Rattle.lil_check_value.specs.Designators.{form_named, kind_by, variable_kind, whole_part, thing_reached, held_field, name_node, root_means, is_misplaced, refused_rows, record_kind, field_of, field_found, field_value, part_field, module_block, other_field_by, other_field, field_node, parts_of, with_field, with_index, index_fits, element_found, element_value, index_rows, part_index, other_index, index_node, opaque_kind, target_of, with_follow, target_found, target_value, part_follow, is_waiting, reached_follow, other_follow, follow_node, part_found, no_value, text_form, thing_found, named_value, value_node, variable_node, part_callee, thing_callee, callee_node, type_in, no_type_in, part_typed, typed_node}
use Rattle.lil_check_value.specs.declared.designators.Reached.TheVariants as reached
use Rattle.lil_right_call.specs.Told.{ArgumentTold, CalleeTold}
use Rattle.lil_right_type.specs.{Found.{reach, KindTold, LiesAt, OpensAt, GoesWith, bare, IsPlaced, HasPlace, IsFound, ThingTold, EnvTold}, Homes.{IsPlaceForm, IsOpenForm, IsVariableForm, IsModule, Seen}, Parts.{IsArray, IsPointer, array_is, field_is, target_is, never_opaque}, Right.{Clear, Right, IsThere, IsThereOr, there_or, is_so}, Typed.{Suits, kept_if, own_yields, assignable_stores, stores_suits}, Types.{IsOrdinal, known_ordinal}}
use Rattle.lil_right_value.specs.{Names.{SeenTold, LookTold, look_told, looked_told, member_seen}, Operators.{IsRaised, raised_is}}

-- ---- depths of places
held_depth : (w s : ℕ) → place_depth (place_of (at_root (root.Held w) s).place) ≡ 1
held_depth w s = ap place_depth (placed_is (root.Held w) [] ∙ held_is w)

along_depth : (n i : ℕ) (x : RExpr) (s : ℕ) → place_depth (place_of (at_root (root.Along n i x) s).place) ≡ 2 + depth (expression_of x)
along_depth n i x s = ap place_depth (placed_is (root.Along n i x) [] ∙ along_is n i x)

field_depth : (p : RPlace) (i : ℕ) → place_depth (place_of (further p (part.Field i))) ≡ place_depth (place_of p)
field_depth p i = ap place_depth (further_is p (part.Field i) ∙ field_view i (place_of p))

follow_depth : (p : RPlace) (n : ℕ) → place_depth (place_of (further p (part.Follow n))) ≡ place_depth (place_of p)
follow_depth p n = ap place_depth (further_is p (part.Follow n) ∙ follow_is n (place_of p))

index_depth : (p : RPlace) (j : RKind) (x : RExpr) → place_depth (place_of (further p (part.Index j x))) ≡ max (place_depth (place_of p)) (2 + depth (expression_of x))
index_depth p j x = ap place_depth (further_is p (part.Index j x) ∙ index_is j x (place_of p))

-- ---- variables and their parts
module _ {t : Table} {vs : RNamed → Option RVar} {around : List ℕ} {R : Reach} (P : Property t vs around R) where
  -- a place of a type, or an open array
  pub record PartTold (a : Part) : Type 0 where
    pub kind : KindTold t a.kind
    pub form : GoesWith P a.depth a.kind a.form
    pub placed : IsPlaced a.kind a.form
    pub some : 1 ≤ a.depth
    pub few : a.depth ≤ 12

  -- what is used of it
  part_told : (a : Part) → PartTold a → IsFound P (part_found a) × IsPlaced a.kind a.form
  part_told a h = (record { kind = h.kind; form = h.form; place = stands a.standing; some = h.some; few = h.few }, h.placed)
    where
      stands : (x : Standing) → HasPlace x a.kind a.form
      stands standing.Value = tt
      stands standing.Variable = h.placed
      stands standing.Character = h.placed

  -- one that is a place
  record IsPlace (a : Part) : Type 0 where
    sort : ℕ
    is : a.kind ≡ k.Of sort
    lies : lies_at t sort ≡ true
    place : IsThere (LiesAt P sort a.depth) (located_in a.form)

  -- one that is an open array
  record IsOpen (a : Part) : Type 0 where
    sort : ℕ
    is : a.kind ≡ k.Open sort
    lies : lies_at t sort ≡ true
    array : OpenArray
    form : a.form ≡ form.Open array
    opens : OpensAt P sort array

  which : (a : Part) → PartTold a → IsPlace a ⊎ IsOpen a
  which a h = by a.kind a.form refl refl h.kind h.form h.placed
    where
      by : (kind : Kind) (f : Form) → a.kind ≡ kind → a.form ≡ f → KindTold t kind → GoesWith P a.depth kind f → IsPlaced kind f → IsPlace a ⊎ IsOpen a
      by (k.Of s) (form.Located p) is same lies goes placed = inl (record { sort = s; is = is; lies = lies; place = subst (λ f. IsThere (LiesAt P s a.depth) (located_in f)) (sym same) goes })
      by (k.Open s) (form.Open o) is same lies goes placed = inr (record { sort = s; is = is; lies = lies; array = o; form = same; opens = goes })
      by (k.Open s) _ is same lies goes placed = absurd goes
      by _ _ is same lies goes placed = absurd placed

  place_told : (a : Part) (s : ℕ) (o : Option Located) → a.kind ≡ k.Of s → a.form ≡ located_form o → lies_at t s ≡ true → IsThere (LiesAt P s a.depth) o → 1 ≤ a.depth → a.depth ≤ 12 → PartTold a
  place_told a s None is same lies h some few = absurd h
  place_told a s (Some p) is same lies h some few = record {
    kind = subst (KindTold t) (sym is) lies;
    form = subst (λ f. GoesWith P a.depth a.kind f) (sym same) (subst (λ kind. GoesWith P a.depth kind (form.Located p)) (sym is) h);
    placed = subst (IsPlaced a.kind) (sym same) (subst (λ kind. IsPlaced kind (form.Located p)) (sym is) tt);
    some = some;
    few = few;
  }

-- what else a name means: it is built, and no variable
abbrev pub is_other : Thing → Bool
is_other (t.Variable v) = false
is_other (t.ExternalVariable v) = false
is_other t.Hidden = false
is_other t.Broken = false
is_other _ = true

module _ (e : Env) (P : Property e.types (seen e) e.withs (reach e)) (told : EnvTold e) where
  abbrev pub NamedTold : Thing → Type 0
  NamedTold x = ThingTold e.types e.texts x × (built x ≡ true) × (is_other x ≡ true) × Seen e.procedures (chain e) e x

  abbrev pub ReachedTold : Reached → Type 0
  ReachedTold (reached.Part a) = PartTold P a
  ReachedTold (reached.Other o) = NamedTold o.thing

  -- ---- names
  whole_told : (p q : Place) (o : Option Located) (s : ℕ) → lies_at e.types s ≡ true → IsThere (LiesAt P s 1) o → PartTold P (whole_part p q (located_form o) (k.Of s))
  whole_told p q o s lies h = place_told P (whole_part p q (located_form o) (k.Of s)) s o refl refl lies h (omega arith) (omega arith)

  -- a variable as a whole: a place, or an open array
  variable_told : (p q : Place) (v : Variable) → SeenTold e (t.Variable v) → IsThere ReachedTold (thing_reached e p q (t.Variable v))
  variable_told p q v h =
      let x = h.1 in
      subst (λ o. PartTold P (whole_part p q (form_named e o) (variable_kind v))) (sym x.is)
      (subst (λ o. PartTold P (whole_part p q (places.variable_at x.named o) (variable_kind v))) (sym x.there)
      (by v.mode (variable_form x.named x.its.mode x.its.sort) (λ at is. P.variable x.named x.its at x.there is) (λ a is. P.opened x.named x.its a x.there is) x.leads))
    where
      lies : lies_at e.types v.sort ≡ true
      lies = h.0

      placed : (f : Form) → ((at : Located) → f ≡ form.Located at → P.place at) → IsPlaceForm v.sort f → PartTold P (whole_part p q f (k.Of v.sort))
      placed f place h = subst (λ f. PartTold P (whole_part p q f (k.Of v.sort))) (sym h.is) (whole_told p q (Some h.at) v.sort lies (record { sort = h.sort; deep = omega (arith, h.deep); good = place h.at h.is }))

      opened : (f : Form) → ((a : OpenArray) → f ≡ form.Open a → P.array a) → IsOpenForm v.sort f → PartTold P (whole_part p q f (k.Open v.sort))
      opened f array h = subst (λ f. PartTold P (whole_part p q f (k.Open v.sort))) (sym h.is) (record { kind = lies; form = record { sort = h.sort; good = array h.array h.is }; placed = tt; some = omega arith; few = omega arith })

      by : (m : Mode) (f : Form) → ((at : Located) → f ≡ form.Located at → P.place at) → ((a : OpenArray) → f ≡ form.Open a → P.array a) → IsVariableForm m v.sort f → PartTold P (whole_part p q f (kind_by m v.sort))
      by mode.Plain f place array leads = placed f place leads
      by mode.Value f place array leads = placed f place leads
      by mode.Place f place array leads = placed f place leads
      by mode.OpenValue f place array leads = opened f array leads
      by mode.OpenPlace f place array leads = opened f array leads

  named_told : (p q : Place) (x : Thing) → SeenTold e x → built x ≡ true → is_hidden_thing x ≡ false → IsThere ReachedTold (thing_reached e p q x)
  named_told p q (t.Variable v) h is seen = variable_told p q v h
  named_told p q (t.ExternalVariable v) h is seen = absurd (true≢false (sym is))
  named_told p q t.Hidden h is seen = absurd (true≢false seen)
  named_told p q t.Broken h is seen = absurd h.0
  named_told p q (t.Constant c) h is seen = (h.0, is, refl, h.1)
  named_told p q (t.Named n c) h is seen = (h.0, is, refl, h.1)
  named_told p q t.Nil h is seen = (h.0, is, refl, h.1)
  named_told p q (t.Type s) h is seen = (h.0, is, refl, h.1)
  named_told p q (t.Procedure x) h is seen = (h.0, is, refl, h.1)
  named_told p q (t.ExternalProcedure x) h is seen = absurd (true≢false (sym is))
  named_told p q (t.Resident x s) h is seen = (h.0, is, refl, h.1)
  named_told p q (t.Standard x) h is seen = (h.0, is, refl, h.1)
  named_told p q (t.Module n) h is seen = (h.0, is, refl, h.1)

  field_told : (s d i f : ℕ) (o : Option Located) → field_at e.types s i ≡ Some f → IsThere (LiesAt P s d) o → IsThere (LiesAt P f d) (places.field_of e.types i o)
  field_told s d i f None at h = h
  field_told s d i f (Some p) at h =
      subst (λ o. IsThere (LiesAt P f d) (places.field_by i p o)) (sym (ap (λ s. field_at e.types s i) h.sort ∙ at))
      (record { sort = refl; deep = subst (λ n. n ≤ d + 1) (sym (field_depth p.place i)) h.deep; good = P.field p i f (ap (λ s. field_at e.types s i) h.sort ∙ at) h.good })

  held_told : (w r : ℕ) → slice_get e.withs w ≡ Some r → IsThere (LiesAt P r 1) (held_at e.withs w)
  held_told w r at = subst (λ o. IsThere (LiesAt P r 1) (places.held_by e.withs w o)) (sym at) (record { sort = refl; deep = at_most (held_depth _ r); good = P.held w r at })
    where
      at_most : {n : ℕ} → n ≡ 1 → n ≤ 1 + 1
      at_most is = omega (arith, is)

  name_right : (p at q : Place) (l : Looked) → LookTold e told l → Right (IsThere ReachedTold) (name_node e p at q l)
  unfolding name_node
  name_right p at q Nothing h clear = absurd (true≢false clear.0)
  name_right p at q (Field w f s) h clear = whole_told p q (held_field e w f) s h.3 (field_told h.0 1 f s (held_at e.withs w) h.2 (held_told w h.0 h.1))
  name_right p at q (Declared x) h clear = named_told p q x h (is_so (built x) clear.1.1.0) clear.1.0

  pub root_right : (p : Place) (x : Ident) → Right (IsThere ReachedTold) (root_means e p x)
  root_right p x = name_right p x.place x.place (look e x.name) (look_told e told x.name)

  -- ---- fields
  place_field_right : (dot : Place) (x : Ident) (a : Part) → PartTold P a → IsPlace P a → Right (IsThere ReachedTold) (part_field e.types dot x a)
  unfolding part_field
  place_field_right dot x a all h clear = by (field e.types h.sort x.name) refl (ap (λ kind. record_kind e.types kind) (sym h.is) ∙ is_so (record_kind e.types a.kind) clear.0) clear.1.0
    where
      is_field : (o : Option FieldAt) → field e.types h.sort x.name ≡ o → field_of e.types a.kind x.name ≡ o
      is_field o at = ap (λ kind. field_of e.types kind x.name) h.is ∙ at

      by : (o : Option FieldAt) → field e.types h.sort x.name ≡ o → is_record e.types h.sort ≡ true → (record_kind e.types a.kind && is_none (field_of e.types a.kind x.name)) ≡ false
          → IsThere ReachedTold (field_value e.types (record_kind e.types a.kind) a (field_of e.types a.kind x.name))
      by None at rec miss = absurd (true≢false (sym (λ i. (ap (record_kind e.types) h.is ∙ rec) i && is_none (is_field None at i)) ∙ miss))
      by (Some f) at rec miss =
          let g = field_is e.types told.types h.sort x.name f at in
          subst (λ c. IsThere ReachedTold (field_value e.types c a (field_of e.types a.kind x.name))) (sym (ap (record_kind e.types) h.is ∙ rec))
          (subst (λ o. IsThere ReachedTold (field_found e.types a o)) (sym (is_field (Some f) at))
          (place_told P (with_field e.types a f) f.sort (places.field_of e.types f.number (located_in a.form)) refl refl g.1 (field_told h.sort a.depth f.number f.sort (located_in a.form) g.0 h.place) all.some all.few))

  part_field_right : (dot : Place) (x : Ident) (a : Part) → PartTold P a → Right (IsThere ReachedTold) (part_field e.types dot x a)
  unfolding part_field
  part_field_right dot x a h clear = elim (which P a h) [
    | inl place ↦ place_field_right dot x a h place clear
    | inr opened ↦ absurd (true≢false (sym (ap (λ kind. not (record_kind e.types kind)) opened.is) ∙ clear.0))
  ]

  refused : {A : Type 0} (o : Named) (p : Place) (f : FaultKind) → Clear (refused_rows o p f) → A
  refused o p f clear = absurd (both (is_misplaced o.thing) clear.0 clear.1.0)
    where
      both : (c : Bool) → c ≡ false → not c ≡ false → ⊥
      both true h j = true≢false h
      both false h j = true≢false j

  other_field_right : (dot : Place) (x : Ident) (o : Named) → NamedTold o.thing → Right (IsThere ReachedTold) (other_field e dot x o)
  unfolding other_field
  other_field_right dot x o h = by (module_block o.thing) (its_block o.thing h.3)
    where
      its_block : (y : Thing) → Seen e.procedures (chain e) e y → IfSome (module_block y) (IsModule (length e.scopes.blocks) e.procedures)
      its_block (t.Module b) j = j
      its_block _ j = tt

      by : (b : Option ℕ) → IfSome b (IsModule (length e.scopes.blocks) e.procedures) → Right (IsThere ReachedTold) (other_field_by e dot x o b)
      by (Some b) j clear = name_right o.first o.name x.place (looked_as (member e.scopes b x.name)) (looked_told e told (member e.scopes b x.name) (member_seen e told b j x.name)) clear
      by None j clear = refused o dot NotRecord clear

  pub field_right : (dot : Place) (x : Ident) (o : Option Reached) → IsThere ReachedTold o → Right (IsThere ReachedTold) (field_node e dot x o)
  field_right dot x None h clear = h
  field_right dot x (Some (reached.Part a)) h clear = part_field_right dot x a h clear
  field_right dot x (Some (reached.Other o)) h clear = other_field_right dot x o h clear

  -- ---- elements
  element_told : (s d r : ℕ) (i : Found) (p : checked.ArrayParts) (f : Form) → IsArray e.types s p → IsFound P i → IsRaised d 2 i.depth r → assignable e.types p.index i.kind ≡ true → misses e.types p.index i.kind ≡ false
      → IsThere (LiesAt P s d) (located_in f) → IsThere (LiesAt P p.element r) (places.element_of e.types i f)
  element_told s d r i p (form.Located q) g j deep so out h =
      let o : IsOrdinal e.types p.index g.span.0 = known_ordinal e.types told.types p.index g.span.0 g.span.1 in
      let at : array_at e.types q.sort ≡ Some _ = ap (array_at e.types) h.sort ∙ g.at in
      subst (λ a. IsThere (LiesAt P p.element r) (element_by e.types i q a)) (sym at)
      (subst (λ j. IsThere (LiesAt P p.element r) (element_as q p.element j (typed e.types p.index i))) (sym o.at)
      (chosen o.kind (typed e.types p.index i) at o.at (stores_suits P o.kind i.depth _ o.ordinal (assignable_stores P told.types p.index o.kind i o.at j so out))))
    where
      deeper : (m n : ℕ) → m ≤ d + 1 → n ≤ i.depth + 1 → max m (2 + n) ≤ r + 1
      deeper m n u v = omega (arith, deep.left, deep.right)

      chosen : (j : RKind) (x : Option RExpr) → array_at e.types q.sort ≡ Some (record { index = p.index; element = p.element }) → kind_at e.types p.index ≡ Some j → IsThere (Suits P j i.depth) x
          → IsThere (LiesAt P p.element r) (element_as q p.element (Some j) x)
      chosen j None at kind y = y
      chosen j (Some x) at kind y = record {
        sort = refl;
        deep = subst (λ n. n ≤ r + 1) (sym (index_depth q.place j x)) (deeper (place_depth (place_of q.place)) (depth (expression_of x)) h.deep y.1);
        good = P.index q _ j x at kind y.0 h.good y.2;
      }
  element_told s d r i p _ g j deep so out h = absurd h

  -- one along an open array
  along_told : (s d r : ℕ) (i : Found) (o : OpenArray) → OpensAt P s o → IsFound P i → IsRaised d 2 i.depth r → assignable e.types cardinal i.kind ≡ true → misses e.types cardinal i.kind ≡ false → IsThere (LiesAt P s r) (element_along o (typed e.types cardinal i))
  along_told s d r i o opens j deep so out = by (typed e.types cardinal i) (stores_suits P (plain b.Cardinal) i.depth _ refl (assignable_stores P told.types cardinal (plain b.Cardinal) i refl j so out))
    where
      deeper : (n : ℕ) → n ≤ i.depth + 1 → 2 + n ≤ r + 1
      deeper n u = omega (arith, deep.right, u)

      by : (x : Option RExpr) → IsThere (Suits P (plain b.Cardinal) i.depth) x → IsThere (LiesAt P s r) (element_along o x)
      by None y = y
      by (Some x) y = record {
        sort = opens.sort;
        deep = subst (λ n. n ≤ r + 1) (sym (along_depth o.levels o.number x o.sort)) (deeper (depth (expression_of x)) y.1);
        good = P.along o x y.0 opens.good y.2;
      }

  part_index_right : (bracket : Place) (a : Part) (i : Found) → PartTold P a → IsFound P i → Right (IsThere ReachedTold) (part_index e.types bracket a i)
  unfolding part_index
  part_index_right bracket a i h j clear = elim (which P a h) [
    | inl place ↦ by_place place (array_parts e.types place.sort) refl
    | inr opened ↦ chosen (record { index = cardinal; element = opened.sort }) (ap (parts_of e.types) opened.is) opened.lies (λ r deep so out.
        subst (λ f. IsThere (LiesAt P opened.sort r) (places.element_of e.types i f)) (sym opened.form) (along_told opened.sort a.depth r i opened.array opened.opens j deep so out))
  ]
    where
      -- by an index that is right
      chosen : (p : checked.ArrayParts) → parts_of e.types a.kind ≡ Some p → lies_at e.types p.element ≡ true
          → ((r : ℕ) → IsRaised a.depth 2 i.depth r → assignable e.types p.index i.kind ≡ true → misses e.types p.index i.kind ≡ false → IsThere (LiesAt P p.element r) (places.element_of e.types i a.form))
          → IsThere ReachedTold (element_value e.types a i (parts_of e.types a.kind) (raised a.depth 2 i.depth))
      chosen p at lies element =
          let asked = subst (λ o. Clear (index_rows e.types bracket i.first i.kind o)) at clear.1 in
          let so = is_so (assignable e.types p.index i.kind) asked.0 in
          let deep = raised_is a.depth 2 i.depth clear.0 in
          subst (λ o. IsThere ReachedTold (element_value e.types a i o (raised a.depth 2 i.depth))) (sym at)
          (subst (λ d. IsThere ReachedTold (element_found e.types a i p d)) (sym deep.1)
          (kept_if ReachedTold (index_fits e.types p i.kind) (reached.Part (with_index e.types a i p deep.0)) (λ l. so l && not (asked.1.0 l))
          (place_told P (with_index e.types a i p deep.0) p.element (places.element_of e.types i a.form) refl refl lies (element deep.0 deep.2 so asked.1.0) (omega (arith, h.some, deep.2.left)) deep.2.few)))

      by_place : (place : IsPlace P a) (o : Option checked.ArrayParts) → array_parts e.types place.sort ≡ o → IsThere ReachedTold (element_value e.types a i (parts_of e.types a.kind) (raised a.depth 2 i.depth))
      by_place place None at = absurd (true≢false (subst (λ o. Clear (index_rows e.types bracket i.first i.kind o)) (ap (parts_of e.types) place.is ∙ at) clear.1).0)
      by_place place (Some p) at =
          let its = array_is e.types told.types place.sort p at in
          chosen p (ap (parts_of e.types) place.is ∙ at) its.element (λ r deep so out. element_told place.sort a.depth r i p a.form its j deep so out place.place)

  other_index_right : (bracket : Place) (o : Named) (i : Found) → Right (IsThere ReachedTold) (other_index bracket o (Some i))
  unfolding other_index
  other_index_right bracket o i clear = absurd (both (is_misplaced o.thing) clear.0 clear.1.1.0)
    where
      both : (c : Bool) → c ≡ false → not c ≡ false → ⊥
      both true h j = true≢false h
      both false h j = true≢false j

  pub index_right : (bracket : Place) (o : Option Reached) (i : Option Found) → IsThere ReachedTold o → IsThere (IsFound P) i → Right (IsThere ReachedTold) (index_node e.types bracket o i)
  index_right bracket None i h j clear = h
  index_right bracket (Some (reached.Part a)) None h j clear = j
  index_right bracket (Some (reached.Other o)) None h j clear = absurd j
  index_right bracket (Some (reached.Part a)) (Some i) h j clear = part_index_right bracket a i h j clear
  index_right bracket (Some (reached.Other o)) (Some i) h j clear = other_index_right bracket o i clear

  -- ---- what a pointer points to
  pointed_told : (s d m : ℕ) (o : Option Located) → IsPointer e.types s m → IsThere (LiesAt P s d) o → IsThere (LiesAt P m d) (places.target_of e.types o)
  pointed_told s d m None g h = h
  pointed_told s d m (Some p) g h =
      let at : target_at e.types p.sort ≡ Some (record { pointer = s; sort = m }) =
      ap (target_by e.types) (ap (kind_at e.types) h.sort ∙ g.kind) ∙ ap (target_with e.types s) g.pointed ∙ ap (λ c. if c then Some (record { pointer = s; sort = m }) else None) g.target in
      subst (λ o. IsThere (LiesAt P m d) (places.target_by p o)) (sym at) (record { sort = refl; deep = subst (λ n. n ≤ d + 1) (sym (follow_depth p.place s)) h.deep; good = P.follow p _ at h.good })

  place_follow_right : (arrow : Place) (a : Part) → PartTold P a → IsPlace P a → Right (IsThere ReachedTold) (part_follow e.types arrow a)
  unfolding part_follow
  place_follow_right arrow a all h clear = by (target e.types h.sort) refl clear.1.0
    where
      clear_kind : opaque_kind e.types a.kind ≡ false
      clear_kind = ap (opaque_kind e.types) h.is ∙ never_opaque e.types told.types h.sort

      is_target : (o : Option ℕ) → target e.types h.sort ≡ o → target_of e.types a.kind ≡ o
      is_target o at = ap (target_of e.types) h.is ∙ at

      by : (o : Option ℕ) → target e.types h.sort ≡ o → (not (opaque_kind e.types a.kind) && is_none (target_of e.types a.kind)) ≡ false → IsThere ReachedTold (target_value e.types (opaque_kind e.types a.kind) a (target_of e.types a.kind))
      by None at miss = absurd (true≢false (sym (λ i. not (clear_kind i) && is_none (is_target None at i)) ∙ miss))
      by (Some m) at miss =
          let g = target_is e.types told.types h.sort m at in
          subst (λ c. IsThere ReachedTold (target_value e.types c a (target_of e.types a.kind))) (sym clear_kind)
          (subst (λ o. IsThere ReachedTold (target_found e.types a o)) (sym (is_target (Some m) at))
          (place_told P (with_follow e.types a m) m (places.target_of e.types (located_in a.form)) refl refl g.target (pointed_told h.sort a.depth m (located_in a.form) g h.place) all.some all.few))

  part_follow_right : (arrow : Place) (a : Part) → PartTold P a → Right (IsThere ReachedTold) (part_follow e.types arrow a)
  unfolding part_follow
  part_follow_right arrow a h clear = elim (which P a h) [
    | inl place ↦ place_follow_right arrow a h place clear
    | inr opened ↦ absurd (true≢false (sym (ap (λ kind. not (opaque_kind e.types kind) && is_none (target_of e.types kind)) opened.is) ∙ clear.1.0))
  ]

  -- nothing may lie behind one that waits for its target, and then W is so
  module _ (W : Type 0) (waits : (n : ℕ) → waits_for e n ≡ true → W) where
    reached_follow_right : (arrow : Place) (a : Part) → PartTold P a → Right (IsThereOr W ReachedTold) (reached_follow e arrow a)
    reached_follow_right arrow a h = by (is_waiting e a.kind) refl
      where
        by : (c : Bool) → is_waiting e a.kind ≡ c → Right (IsThereOr W ReachedTold) (if c then (None, []) else part_follow e.types arrow a)
        by true is clear = elim (which P a h) [
          | inl place ↦ waits place.sort (sym (ap (is_waiting e) place.is) ∙ is)
          | inr opened ↦ absurd (true≢false (sym is ∙ ap (is_waiting e) opened.is))
        ]
        by false is clear = there_or W ReachedTold (part_follow e.types arrow a).0 (part_follow_right arrow a h clear)

    pub follow_right : (arrow : Place) (o : Option Reached) → IsThereOr W ReachedTold o → Right (IsThereOr W ReachedTold) (follow_node e arrow o)
    unfolding other_follow
    follow_right arrow None h clear = h
    follow_right arrow (Some (reached.Part a)) h clear = reached_follow_right arrow a h clear
    follow_right arrow (Some (reached.Other o)) h clear = refused o arrow NotPointer clear

  -- ---- uses
  thing_right : (o : Named) → NamedTold o.thing → Right (IsThere (IsFound P)) (named_value e.texts o)
  unfolding named_value
  thing_right o h clear = by o.thing h clear.0 clear.1.0
    where
      by : (x : Thing) → NamedTold x → is_misplaced x ≡ false → no_value x ≡ false → IsThere (IsFound P) (thing_found e.texts o.first x)
      by (t.Constant kind) h c d = record { kind = h.0.0; form = bare P 1 kind _ h.0.1; place = tt; some = omega arith; few = omega arith }
      by (t.Named n chars) h c d = record { kind = h.0.0; form = subst (λ o. GoesWith P 1 (k.Chars chars) (text_form o)) (sym h.0.1.1) h.0.1.2; place = tt; some = omega arith; few = omega arith }
      by t.Nil h c d = record { kind = tt; form = tt; place = tt; some = omega arith; few = omega arith }
      by (t.Variable v) h c d = absurd (true≢false (sym h.2))
      by (t.Type s) h c d = absurd (true≢false c)
      by (t.Procedure x) h c d = subst (λ (nested : Bool). IsThere (IsFound P) (if nested then None else Some (plain_found o.first (form.Routine x.number) (k.Routine x.sort)))) (sym d) (record {
        kind = tt;
        form = record { reached = subst (λ n. reach e x.sort x.number n) (ap (λ (nested : Bool). if nested then level e + 1 - x.level else 0) d) h.3; low = omega (arith, h.3.low) };
        place = tt;
        some = omega arith;
        few = omega arith;
      })
      by (t.ExternalVariable v) h c d = absurd (true≢false (sym h.1))
      by (t.ExternalProcedure x) h c d = absurd (true≢false (sym h.1))
      by (t.Resident x s) h c d = absurd (true≢false d)
      by (t.Standard x) h c d = absurd (true≢false d)
      by (t.Module n) h c d = absurd (true≢false c)
      by t.Hidden h c d = absurd (true≢false (sym h.2))
      by t.Broken h c d = absurd h.0

  pub value_right : (o : Option Reached) → IsThere ReachedTold o → Right (IsThere (IsFound P)) (value_node e.texts o)
  value_right None h clear = h
  value_right (Some (reached.Part a)) h clear = (part_told P a h).0
  value_right (Some (reached.Other o)) h clear = thing_right o h clear

  pub variable_right : (o : Option Reached) → IsThere ReachedTold o → Right (IsThere (λ a. IsFound P a × IsPlaced a.kind a.form)) (variable_node o)
  variable_right None h clear = h
  variable_right (Some (reached.Part a)) h clear = part_told P a h
  variable_right (Some (reached.Other o)) h clear = absurd (true≢false clear.0)

  callee_told : (x : Thing) → NamedTold x → is_misplaced x ≡ false → IsThere (CalleeTold P) (thing_callee e x)
  callee_told (t.Constant kind) h c = tt
  callee_told (t.Named n chars) h c = tt
  callee_told t.Nil h c = tt
  callee_told (t.Variable v) h c = absurd (true≢false (sym h.2))
  callee_told (t.Type s) h c = absurd (true≢false c)
  callee_told (t.Procedure x) h c = (h.0, h.3, omega (arith, h.3.low), h.3.few)
  callee_told (t.ExternalVariable v) h c = absurd (true≢false (sym h.1))
  callee_told (t.ExternalProcedure x) h c = absurd (true≢false (sym h.1))
  callee_told (t.Resident x s) h c = (h.0, h.1)
  callee_told (t.Standard x) h c = tt
  callee_told (t.Module n) h c = absurd (true≢false c)
  callee_told t.Hidden h c = absurd (true≢false (sym h.2))
  callee_told t.Broken h c = absurd h.0

  pub called_right : (o : Option Reached) → IsThere ReachedTold o → Right (IsThere (CalleeTold P)) (callee_node e o)
  called_right None h clear = h
  called_right (Some (reached.Part a)) h clear = elim (which P a h) [
    | inl place ↦ subst (λ kind. CalleeTold P (part_callee e.types kind a)) (sym place.is) (h.few, λ g is. own_yields P told.types place.sort g a.depth a.form is (subst (λ kind. GoesWith P a.depth kind a.form) place.is h.form))
    | inr opened ↦ subst (λ kind. CalleeTold P (part_callee e.types kind a)) (sym opened.is) tt
  ]
  called_right (Some (reached.Other o)) h clear = callee_told o.thing h clear.0

  type_told : (p : Place) (x : Thing) → NamedTold x → no_type_in x ≡ false → ArgumentTold P (argument.Type p (type_in x))
  type_told p (t.Type s) h c = h.0 h.1
  type_told p (t.Constant kind) h c = absurd (true≢false c)
  type_told p (t.Named n chars) h c = absurd (true≢false c)
  type_told p t.Nil h c = absurd (true≢false c)
  type_told p (t.Variable v) h c = absurd (true≢false c)
  type_told p (t.Procedure x) h c = absurd (true≢false c)
  type_told p (t.ExternalVariable v) h c = absurd (true≢false c)
  type_told p (t.ExternalProcedure x) h c = absurd (true≢false c)
  type_told p (t.Resident x s) h c = absurd (true≢false c)
  type_told p (t.Standard x) h c = absurd (true≢false c)
  type_told p (t.Module n) h c = absurd (true≢false c)
  type_told p t.Hidden h c = absurd (true≢false c)
  type_told p t.Broken h c = absurd (true≢false c)

  pub typed_right : (p : Place) (o : Option Reached) → IsThere ReachedTold o → Right (ArgumentTold P) (typed_node p o)
  typed_right p None h clear = h
  typed_right p (Some (reached.Part a)) h clear = by a.is_whole clear
    where
      by : (c : Bool) → Right (ArgumentTold P) (part_typed c p a)
      by true clear = absurd (true≢false clear.0)
      by false clear = (part_told P a h).0
  typed_right p (Some (reached.Other o)) h clear = type_told p o.thing h clear.0
