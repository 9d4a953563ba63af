-- The code of places, part by part.
use Rattle.std.proofs.Common.{◌≡◌, ℕ, ◌+◌, ◌<◌, ◌≤◌, true, List, [], ◌∷◌, ◌++◌, map, take, length, get_or, Option, Some, None, refl, sym, ap, ◌∙◌, subst, arith, append-nil}
use Rattle.std.specs.Prelude.{slice_get}
use Rattle.std.proofs.lemmas.List.{take_all, map-append}
use Rattle.lil_base.specs.Words.{word_of}
use Rattle.lil_resolved.specs.{declared.{resolved.{RArgument.{RArgument, TheOpen.RSelector-F, TheFolds.map-RSelector}, RExpr.RExpr, RMember.RMember, RRoot.RRoot, ROperation.ROperation, RPlace.{RPlace, out-RPlace}, RSelector.{RSelector, out-RSelector}}, shapes.{RField.RField, RElements.RElements}}, Kinds.{Kind, least, numbers, Shape, Address, led_to, words, is_there, part_at, offset, shape_by, shape_at, element_of}, Resolved.{Named, OfLevel, variable_at, Argument, Designator, Variable, Handed, Held, Field, Element, Follow, Expression, kind_of, shape_of}, Sizes.{place_strings, expression_strings}}
use Rattle.lil_resolved.specs.declared.resolved.RArgument.TheOpen as o
use Rattle.lil_resolved.specs.{Plain.{by_value, by_place, parameter_variable}, Sound.IsSoundPlace, Views.{selected, selector_layer, argument_of, expression_of, member_of, operation_of, root_of, selector_of, place_of, shapes_of, place_is, selector_is}}
use Rattle.lil_asm.specs.declared.instr.Instr.TheVariants.{Llw, Ixc, Nlt}
use Rattle.lil_table.specs.Rows.{cut, access_at, IsAt, InstrsAt, Access, OnTop, further, offset_in, address_code, load_code, test_code}
use Rattle.lil_labels.specs.{Entries.small_at, declared.buffer.HeldRecord.HeldRecord, Tables.{Tables, declared_at, target_by, variable_by, part_by, elements_by, held_by}, Drafts.{Draft, Final, Adds, Emits, Doing, DoingAll}, Emitting.{emits_none, emits_then, emits_as, adds_as, emits_tied, take_next}}
use Rattle.lil_expr.specs.{Strings.emits_end, Accesses.words_in, Generating.{Value, ReachedAt, Found, Selecting, selector_part}, Variables.{standing, kept, pointed}}
use Rattle.lil_expr.proofs.Tables.{whole_there, array_there, row_is, part_within, PartIs, part_is, ElementsAre, elements_are}

-- ---- variables
there_is : (o : Option Shape) → is_there (shape_by o) ≡ true → (t : Shape) × (o ≡ Some t) × (is_there t ≡ true)
there_is None h = absurd (cc)
there_is (Some t) h = (t, refl, h)

pub variable_found : (v : Named) (f : RField) (d : Draft) → f ≡ variable_by (declared_at d.tables v) → Emits d d (Found (Variable v) (access_at v f.offset) f.shape)
variable_found v f d is =
    emits_as d d _ (Found (Variable v) (access_at v f.offset) f.shape)
    (λ x t sound there.
    let known = there_is (variable_at x.layout.scope v) there in
    let s = standing x v known.0 known.1 in
    let same : f ≡ variable_by (Some s.variable) = is ∙ ap (λ (ts : Tables). variable_by (declared_at ts v)) (sym t.1) ∙ ap variable_by s.there in
    let lies : f.offset ≡ s.variable.offset = ap (λ (f : RField). f.offset) same in
    let number : f.shape ≡ s.variable.shape = ap (λ (f : RField). f.shape) same in
    record {
      place = record { offset = s.offset; shape = known.0; at = s.at; typed = known.1; there = known.2; stays = t.0 };
      access = ap (access_at v) lies ∙ s.access ∙ ap (λ (o : Option ℕ). access_at v (offset_in o)) (sym s.at);
      shape = ap (shape_at (shapes_of x.tables.shapes)) number ∙ by_value x.tables.shapes s.variable (ap is_there s.shape ∙ known.2) ∙ s.shape ∙ ap shape_by (sym known.1);
      within = omega (arith, s.within, ap (λ (n : ℕ). words_in (access_at v n)) lies, ap (λ (o : Option Shape). words (shape_by o)) known.1);
    })
    (emits_tied d d _ (emits_none d))

-- what was handed in for a VAR parameter
pub handed_found : (n v : ℕ) (f : RField) (c d : Draft) → f ≡ variable_by (declared_at c.tables (OfLevel n v)) → Emits c d (Doing (λ word. load_code (access_at (OfLevel n v) f.offset))) → Emits c d (Found (Handed n v) OnTop f.shape)
handed_found n v f c d is load =
    emits_as c d _ (Found (Handed n v) OnTop f.shape)
    (λ x t sound there.
    let s = standing x (OfLevel n v) (Address sound.0) (parameter_variable x.layout.scope n v (Address sound.0) sound.1) in
    let same : f ≡ variable_by (Some s.variable) = is ∙ ap (λ (ts : Tables). variable_by (declared_at ts (OfLevel n v))) (sym t.1) ∙ ap variable_by s.there in
    let lies : access_at (OfLevel n v) f.offset ≡ access_at (OfLevel n v) s.offset = ap (λ (f : RField). access_at (OfLevel n v) f.offset) same ∙ s.access in
    let number : f.shape ≡ s.variable.shape = ap (λ (f : RField). f.shape) same in
    let leads : shape_at (shapes_of x.tables.shapes) f.shape ≡ sound.0 = ap (shape_at (shapes_of x.tables.shapes)) number ∙ by_place x.tables.shapes s.variable sound.0 s.shape in
    record {
      place = record { offset = s.offset; shape = sound.0; at = s.at; typed = sound.1; there = sound.2; load = subst (λ (a : Access). IsAt x.code (length c.bytes) (load_code a) (length d.bytes)) lies t.0 };
      access = refl;
      shape = leads ∙ ap (λ (o : Option Shape). led_to (shape_by o)) (sym sound.1);
      within = omega (arith, ap words leads, ap (λ (o : Option Shape). words (led_to (shape_by o))) sound.1, small_at x.tables.shapes f.shape x.described.measured);
    })
    (emits_tied c d _ load)

-- ---- the records of WITHs
pub held_found : (w : ℕ) (h : HeldRecord) (c d : Draft) → h ≡ held_by (slice_get c.tables.held w) → Emits c d (Doing (λ word. Llw h.word)) → Emits c d (Found (Held w) OnTop h.shape)
held_found w h c d is load =
    emits_as c d _ (Found (Held w) OnTop h.shape)
    (λ x t sound there.
    let k = kept x w sound.0 sound.1 in
    let same : h ≡ k.held = is ∙ ap (λ (ts : Tables). held_by (slice_get ts.held w)) (sym t.1) ∙ ap held_by k.there in
    let number : h.shape ≡ k.held.shape = ap (λ (h : HeldRecord). h.shape) same in
    let lies : shape_at (shapes_of x.tables.shapes) h.shape ≡ shape_at x.layout.scope.held w = ap (shape_at (shapes_of x.tables.shapes)) number ∙ k.shape ∙ ap shape_by (sym sound.1) in
    let loaded = subst (λ (h : HeldRecord). IsAt x.code (length c.bytes) (Llw h.word) (length d.bytes)) same t.0 in
    record {
      place = record { word = k.held.word; shape = sound.0; at = k.word; typed = sound.1; there = sound.2; load = loaded };
      access = refl;
      shape = lies;
      within = omega (arith, ap words lies, small_at x.tables.shapes h.shape x.described.measured);
    })
    (emits_tied c d _ load)

-- ---- fields
words_further : (n : ℕ) (a : Access) → words_in (further n a) ≤ words_in a + n
words_further n a = grind arith

pub field_selected : (s : RSelector) (i n : ℕ) (a b : Access) (f : RField) (c : Draft) → ((d : Designator) → selector_of s d ≡ Field d i) → f ≡ part_by (slice_get c.tables.shapes n) i → (words_in a + f.offset ≤ 65535 → b ≡ further f.offset a)
    → Adds (selector_part s) c c (Selecting s a n b f.shape)
field_selected s i n a b f c form is moved =
    adds_as c c _ (sym (ap place_strings (form (Held 0))))
    (emits_as c c _ (Selecting s a n b f.shape)
    (λ x t start d place.
    subst (λ (e : Designator). Found e b f.shape x start (length c.bytes)) (sym (form d))
    (λ sound there.
    let r = place sound (whole_there (shape_of x.layout.scope d) i there) in
    let table = shapes_of x.tables.shapes in
    let found = part_is x.tables.shapes n i x.described.measured (ap (λ (t : Shape). is_there (part_at t (i ∷ []))) r.shape ∙ there) in
    let same : f ≡ part_by (slice_get x.tables.shapes n) i = is ∙ ap (λ (ts : Tables). part_by (slice_get ts.shapes n) i) (sym t.1) in
    let part : PartIs table (shape_of x.layout.scope d) i f = subst (λ (t : Shape). PartIs table t i f) r.shape (subst (λ (f : RField). PartIs table (shape_at table n) i f) (sym same) found) in
    let inside = part_within (shape_of x.layout.scope d) i there in
    let goes : b ≡ further f.offset a = moved (omega (arith, r.within, inside, part.lies)) in
    record {
      place = record { there = there; here = r.place };
      access = goes ∙ ap (λ (o : ℕ). further o a) part.lies ∙ ap (further (offset (shape_of x.layout.scope d) (i ∷ []))) r.access;
      shape = part.shape;
      within = omega (arith, ap words_in goes, words_further f.offset a, part.lies, inside, r.within);
    }))
    (emits_tied c c _ (emits_none c)))

-- ---- elements
element_reached : (x : Final) (d : Designator) (k j : Kind) (e : Expression) (n w : ℕ) (a : Access) (es : RElements) (p found start middle tested q : ℕ) → es ≡ elements_by (slice_get x.tables.shapes n) → j ≡ kind_of e → w ≡ cut (word_of (least k))
    → IsSoundPlace x.layout.scope (Element d k e) → is_there (element_of (shape_of x.layout.scope d)) ≡ true → ReachedAt d a n x p found → InstrsAt x.code (address_code a) found start → Value e x start middle
    → InstrsAt x.code (test_code k j) middle tested → IsAt x.code tested (Ixc w es.words) q → ReachedAt (Element d k e) OnTop es.shape x p q
element_reached x d k j e n w a es p found start middle tested q is typed worded sound there r address value test element =
    let t = shape_of x.layout.scope d in
    let table = shapes_of x.tables.shapes in
    let known = elements_are x.tables.shapes n x.described.measured (ap (λ (t : Shape). is_there (element_of t)) r.shape ∙ there) in
    let elements : ElementsAre table t es = subst (λ (t : Shape). ElementsAre table t es) r.shape (subst (λ (es : RElements). ElementsAre table (shape_at table n) es) (sym is) known) in
    let at = subst (λ (a : Access). InstrsAt x.code (address_code a) found start) r.access address in
    let tests = subst (λ (j : Kind). InstrsAt x.code (test_code k j) middle tested) typed test in
    let by = subst (λ (w : ℕ). IsAt x.code tested (Ixc w (words (element_of t))) q) worded (subst (λ (m : ℕ). IsAt x.code tested (Ixc w m) q) elements.sized element) in
    record {
      place = search (row_is t (numbers k) there sound.0, there, sound, r.place, at, value sound.3, tests, by);
      access = refl;
      shape = elements.shape;
      within = omega (arith, ap words elements.shape, small_at x.tables.shapes es.shape x.described.measured);
    }

pub element_selected : (s : RSelector) (k j : Kind) (e : Expression) (n w : ℕ) (a : Access) (es : RElements) (c0 c1 c2 c3 c4 : Draft) → ((d : Designator) → selector_of s d ≡ Element d k e) → es ≡ elements_by (slice_get c0.tables.shapes n) → j ≡ kind_of e → w ≡ cut (word_of (least k))
    → Emits c0 c1 (DoingAll (address_code a)) → Adds (expression_strings e) c1 c2 (Value e) → Emits c2 c3 (DoingAll (test_code k j)) → Emits c3 c4 (Doing (λ word. Ixc w es.words)) → Adds (selector_part s) c0 c4 (Selecting s a n OnTop es.shape)
element_selected s k j e n w a es c0 c1 c2 c3 c4 form is typed worded address value test element =
    adds_as c0 c4 _ (sym (ap place_strings (form (Held 0))))
    (emits_as c0 c4 _ (Selecting s a n OnTop es.shape)
    (λ x t start d place.
    subst (λ (q : Designator). Found q OnTop es.shape x start (length c4.bytes)) (sym (form d))
    (λ sound there. element_reached x d k j e n w a es start _ _ _ _ _ (is ∙ ap (λ (ts : Tables). elements_by (slice_get ts.shapes n)) (sym t.1)) typed worded sound there
    (place sound.2 (array_there (shape_of x.layout.scope d) there)) t.0.0 t.0.1.0 t.0.1.1.0 t.0.1.1.1))
    (emits_tied c0 c4 _ (emits_then c0 c1 c4 _ _ address (emits_end c1 c2 c4 _ _ value (emits_then c2 c3 c4 _ _ test element)))))

-- ---- what pointers point to
pub follow_selected : (s : RSelector) (i n m : ℕ) (a : Access) (c0 c1 c2 : Draft) → ((d : Designator) → selector_of s d ≡ Follow d i) → m ≡ target_by (slice_get c0.tables.targets i)
    → Emits c0 c1 (Doing (λ word. load_code a)) → Emits c1 c2 (Doing (λ word. Nlt)) → Adds (selector_part s) c0 c2 (Selecting s a n OnTop m)
follow_selected s i n m a c0 c1 c2 form is load test =
    adds_as c0 c2 _ (sym (ap place_strings (form (Held 0))))
    (emits_as c0 c2 _ (Selecting s a n OnTop m)
    (λ x t start d place.
    subst (λ (e : Designator). Found e OnTop m x start (length c2.bytes)) (sym (form d))
    (λ sound there.
    let r = place sound.2 (ap is_there sound.0) in
    let table = shapes_of x.tables.shapes in
    let lies : shape_at table m ≡ shape_at x.layout.scope.targets i = ap (shape_at table) (is ∙ ap (λ (ts : Tables). target_by (slice_get ts.targets i)) (sym t.1)) ∙ pointed x i sound.1 in
    let loaded = subst (λ (a : Access). IsAt x.code (length c0.bytes) (load_code a) (length c1.bytes)) r.access t.0.0 in
    record {
      place = record { found = length c0.bytes; loaded = length c1.bytes; typed = sound.0; there = sound.1; here = r.place; load = loaded; test = t.0.1 };
      access = refl;
      shape = lies;
      within = omega (arith, ap words lies, small_at x.tables.shapes m x.described.measured);
    }))
    (emits_tied c0 c2 _ (emits_then c0 c1 c2 _ _ load test)))

-- ---- one behind another
selected_more : (d : Designator) (fs : List (Designator → Designator)) (f : Designator → Designator) → selected d (fs ++ f ∷ []) ≡ f (selected d fs)
selected_more d [] f = refl
selected_more d (g ∷ fs) f = selected_more (g d) fs f

layer_strings : (y : RSelector-F Argument Expression (Kind → Expression → Expression) Designator (Designator → Designator) (Expression → Expression) Designator) (d : Designator)
    → place_strings d ++ place_strings (selector_layer y (Held 0)) ≡ place_strings (selector_layer y d)
layer_strings (o.Field i) d = append-nil (place_strings d)
layer_strings (o.Index k e) d = refl
layer_strings (o.Follow n) d = append-nil (place_strings d)

selector_strings : (s : RSelector) (d : Designator) → place_strings d ++ selector_part s ≡ place_strings (selector_of s d)
selector_strings s d =
    let y = map-RSelector RArgument RExpr RMember RRoot RSelector ROperation RPlace Argument Expression (Kind → Expression → Expression) Designator (Designator → Designator) (Expression → Expression) Designator argument_of expression_of member_of root_of selector_of operation_of place_of (out-RSelector s) in
    ap (λ (e : Designator). place_strings d ++ place_strings e) (selector_is s (Held 0)) ∙ layer_strings y d ∙ sym (ap place_strings (selector_is s d))

pub next_selector : (ss : List RSelector) (i : ℕ) (root : Designator) (s : RSelector) (a b : Access) (n m : ℕ) (c0 c1 c2 : Draft) → i < length ss → s ≡ get_or ss i s
    → Adds (place_strings (selected root (map selector_of (take i ss)))) c0 c1 (Found (selected root (map selector_of (take i ss))) a n)
    → Adds (selector_part s) c1 c2 (Selecting s a n b m) → Adds (place_strings (selected root (map selector_of (take (i + 1) ss)))) c0 c2 (Found (selected root (map selector_of (take (i + 1) ss))) b m)
next_selector ss i root s a b n m c0 c1 c2 inside is so_far next =
    let d = selected root (map selector_of (take i ss)) in
    let all : selected root (map selector_of (take (i + 1) ss)) ≡ selector_of s d =
    ap (λ (ss : List RSelector). selected root (map selector_of ss)) (take_next ss i s inside is)
    ∙ (ap (selected root) (map-append selector_of (take i ss) (s ∷ [])) ∙ selected_more root (map selector_of (take i ss)) (selector_of s)) in
    subst (λ (d : Designator). Adds (place_strings d) c0 c2 (Found d b m)) (sym all)
    (adds_as c0 c2 _ (selector_strings s d)
    (emits_as c0 c2 _ (Found (selector_of s d) b m) (λ x t. t.1 (length c0.bytes) d t.0) (emits_then c0 c1 c2 _ _ so_far next)))

pub all_selectors : (p : RPlace) (ss : List RSelector) (i : ℕ) (a : Access) (n : ℕ) (c0 c1 : Draft) → ss ≡ (out-RPlace p).selectors → length ss ≤ i
    → Adds (place_strings (selected (root_of (out-RPlace p).root) (map selector_of (take i ss)))) c0 c1 (Found (selected (root_of (out-RPlace p).root) (map selector_of (take i ss))) a n) → Adds (place_strings (place_of p)) c0 c1 (Found (place_of p) a n)
all_selectors p ss i a n c0 c1 same past =
    subst (λ (d : Designator). Adds (place_strings d) c0 c1 (Found d a n)) (ap (λ (ss : List RSelector). selected (root_of (out-RPlace p).root) (map selector_of ss)) (take_all i ss past ∙ same) ∙ sym (place_is p))
