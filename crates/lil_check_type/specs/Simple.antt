-- Types that may be an index or a set's base.
use Rattle.std.specs.Prelude.{ℕ, ◌+◌, ◌==◌, nat_lt, pos, int_lt, Bool, false, not, ◌&&◌, List, [], ◌∷◌, length, map, Option, Some, None, if◌then◌else◌}
use Rattle.lil_base.specs.declared.fault.{Place.Place, FaultKind.TheVariants.{SetBase, EmptyRange}}
use Rattle.lil_text.specs.declared.tree.{Ident.Ident, Qualident.Qualident}
use Rattle.lil_language.specs.declared.unit.Simple.{Simple}
use Rattle.lil_language.specs.declared.unit.Simple.TheVariants as simple
use Rattle.lil_types.specs.{declared.table.{Span.Span, TypeForm.TypeForm}, Types.Table}
use Rattle.lil_types.specs.declared.table.TypeForm.TheVariants as form
use Rattle.lil_report.specs.Told.{Row, row, after, walk}
use Rattle.lil_scope.specs.declared.thing.Kind.TheVariants as k
use Rattle.lil_scope.specs.{declared.{thing.Thing.Thing, env.Env.Env}, Names.bind}
use Rattle.lil_scope.specs.declared.thing.Thing.TheVariants as t
use Rattle.lil_check_value.specs.{Looks.type_named, Values.asked_means}
use Rattle.lil_check_type.specs.{declared.named.NamedType.{NamedType, TheVariants.{Absent, Given, Faulty}}, Made.{Made, type_node, form_node, span_of, ordinal_node}, Bounds.{bound_of, range_node}}

-- ---- enumerations: each constant is bound in the block at hand, behind itself
abbrev pub names_of : List Ident → List (List ℕ)
names_of is = map (λ i. i.name) is

abbrev pub constant_thing : Option ℕ → ℕ → Thing
constant_thing (Some n) w = t.Constant (k.Scalar n w)
constant_thing None w = t.Broken

-- the number of the next constant. Numbers stop at 65535
abbrev pub next_word : ℕ → ℕ
next_word w = if nat_lt w 65535 then w + 1 else w

abbrev pub constant_step : Option ℕ → Env × ℕ → Ident → (Env × ℕ) × List Row
constant_step n s i = after (bind s.0 i (constant_thing n s.1)) (λ e. ((e, next_word s.1), []))

-- 53 EmptyRange, at an enumeration's first token: it has no constant. The grammar gives none of these
unfoldable pub names_node : Place → List Ident → TypeForm × List Row
names_node p is = (form.Enumeration (names_of is), row (length is == 0) p EmptyRange ∷ [])

abbrev pub enumeration_means : Env → Place → List Ident → Made × List Row
enumeration_means e p is = after (names_node p is) (λ f. after (type_node e p f) (λ m. after (walk (constant_step m.1) (m.0, 0) is) (λ s. ((s.0, m.1), []))))

-- ---- subranges
abbrev pub given : Option ℕ → NamedType
given (Some n) = Given n
given None = Faulty

-- the ordinal type that is named as base, if there is one
abbrev pub base_means : Env → Option Qualident → NamedType × List Row
base_means e None = (Absent, [])
base_means e (Some q) = after (type_named e q) (λ o. after (ordinal_node e.types q.name.place o) (λ o. (given o, [])))

unfoldable pub simple_means : Env → Simple → Made × List Row
simple_means e (simple.Named q) = after (type_named e q) (λ o. ((e, o), []))
simple_means e (simple.Enumeration p is) = enumeration_means e p is
simple_means e (simple.Subrange p q x y) = after (base_means e q) (λ n. after (asked_means e x) (λ a. after (asked_means e y) (λ b. after (range_node e.types p n (bound_of a) (bound_of b)) (form_node e p))))

-- ---- where a type is wrong: at its name, or at its first token
abbrev pub simple_place : Simple → Place
simple_place (simple.Named q) = q.name.place
simple_place (simple.Enumeration p is) = p
simple_place (simple.Subrange p q x y) = p

abbrev pub first_of : Option Ident → Place → Place
first_of (Some i) p = i.place
first_of None p = p

abbrev pub simple_first : Simple → Place
simple_first (simple.Named q) = first_of q.owner q.name.place
simple_first (simple.Enumeration p is) = p
simple_first (simple.Subrange p q x y) = p

-- ---- indexes
abbrev pub index_means : Env → Simple → Made × List Row
index_means e s = after (simple_means e s) (λ m. after (ordinal_node m.0.types (simple_place s) m.1) (λ o. ((m.0, o), [])))

-- ---- sets
abbrev pub is_short : Option Span → Bool
is_short (Some s) = not (int_lt s.low (pos 0)) && not (int_lt (pos 15) s.high)
is_short None = false

abbrev pub set_form : Table → Option ℕ → Option TypeForm
set_form t (Some n) = if is_short (span_of t n) then Some (form.SetOf n) else None
set_form t None = None

-- 39 SetBase, at the base's first token: it isn't ordinal, or has values outside 0 to 15
unfoldable pub base_node : Table → Place → Option ℕ → Option TypeForm × List Row
base_node t p (Some n) = (set_form t (Some n), row (not (is_short (span_of t n))) p SetBase ∷ [])
base_node t p None = (None, [])

abbrev pub set_means : Env → Place → Simple → Made × List Row
set_means e p s = after (simple_means e s) (λ m. after (base_node m.0.types (simple_first s) m.1) (form_node m.0 p))
