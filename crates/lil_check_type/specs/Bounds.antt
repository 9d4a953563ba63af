-- Constants that stand for values of an ordinal type: bounds of subranges, and labels.
use Rattle.std.specs.Prelude.{ℕ, ◌==◌, nat_lt, ℤ, pos, negsuc, int_lt, Bool, true, false, not, ◌&&◌, ◌||◌, List, [], ◌∷◌, ◌++◌, Option, Some, None, if◌then◌else◌}
use Rattle.lil_base.specs.declared.fault.{Place.Place, FaultKind.TheVariants.{Assign, ConstRange, NotConst, EmptyRange}}
use Rattle.lil_types.specs.{declared.table.{Span.Span, TypeForm.TypeForm}, Types.{Table, integer, cardinal, char, base, span}}
use Rattle.lil_types.specs.declared.table.TypeForm.TheVariants as form
use Rattle.lil_report.specs.Told.{Row, row}
use Rattle.lil_scope.specs.declared.thing.Kind.{Kind}
use Rattle.lil_scope.specs.declared.thing.Kind.TheVariants as k
use Rattle.lil_kinds.specs.{Kinds.{compatible, misses, is_ordinal, is_constant, number}, declared.found.Found.Found}
use Rattle.lil_check_type.specs.declared.{bounds.Bound.Bound, named.NamedType.{NamedType, TheVariants.{Absent, Given, Faulty}}}

-- what is asked of the operand that stands as a bound or label
abbrev pub bound_of : Option Found → Option Bound
bound_of (Some a) = Some (record { kind = a.kind; first = a.first })
bound_of None = None

-- ---- the type with which a bound goes together
abbrev pub whole_type : ℤ → ℕ
whole_type (pos n) = cardinal
whole_type (negsuc n) = integer

-- the type below an operand: a whole constant's by its sign
abbrev pub type_below : Table → Kind → Option ℕ
type_below t (k.Whole v) = Some (whole_type v)
type_below t (k.Scalar n w) = Some (base t n)
type_below t (k.Chars c) = Some char
type_below t (k.Of n) = Some (base t n)
type_below t _ = None

-- the base of a subrange: the type that it names, or the one below its first bound, which is then ordinal
abbrev pub range_base : Table → NamedType → Kind → Option ℕ
range_base t (Given n) a = Some n
range_base t Absent a = if is_ordinal t a then type_below t a else None
range_base t Faulty a = None

-- a bound that doesn't go together with the base. Where the first bound isn't ordinal none does
abbrev pub is_unlike : Table → Option ℕ → Kind → Bool
is_unlike t (Some n) b = not (compatible t (k.Of n) b)
is_unlike t None b = true

-- a bound outside of the type that a subrange names
abbrev pub is_outside : Table → NamedType → Kind → Bool
is_outside t (Given n) b = misses t n b
is_outside t _ b = false

-- ---- two bounds. Any two whole numbers can be compared, and else values of one type
abbrev pub alike : Option ℕ → Option ℕ → Bool
alike (Some m) (Some n) = m == n || (nat_lt m 2 && nat_lt n 2)
alike _ _ = false

abbrev pub goes_down : Option ℤ → Option ℤ → Bool
goes_down (Some m) (Some n) = int_lt n m
goes_down _ _ = false

abbrev pub is_empty : Table → Kind → Kind → Bool
is_empty t a b = alike (type_below t a) (type_below t b) && goes_down (number t a) (number t b)

abbrev pub span_by : Option ℤ → Option ℤ → Option Span
span_by (Some m) (Some n) = if int_lt n m then None else Some (span m n)
span_by _ _ = None

-- all values from one constant to another
abbrev pub span_between : Table → Kind → Kind → Option Span
span_between t a b = if alike (type_below t a) (type_below t b) then span_by (number t a) (number t b) else None

-- ---- the tests of a bound or label
-- 31 Assign: it isn't compatible with the base or the tag
-- 51 NotConst: it is no constant
abbrev pub constant_rows : Table → Option ℕ → Bound → List Row
constant_rows t of b = row (is_unlike t of b.kind) b.first Assign ∷ row (not (is_constant b.kind)) b.first NotConst ∷ []

-- 50 ConstRange: it lies outside the base that is named
abbrev pub bound_rows : Table → NamedType → Option ℕ → Bound → List Row
bound_rows t named of b = constant_rows t of b ++ row (is_outside t named b.kind) b.first ConstRange ∷ []

abbrev pub bound_right : Table → NamedType → Option ℕ → Kind → Bool
bound_right t named of b = not (is_unlike t of b) && (is_constant b && not (is_outside t named b))

-- ---- subranges
abbrev pub range_by : Option ℕ → Option Span → Option TypeForm
range_by (Some n) (Some s) = Some (form.Subrange n s)
range_by _ _ = None

abbrev pub range_form : Table → NamedType → Option ℕ → Kind → Kind → Option TypeForm
range_form t named of a b = if bound_right t named of a && bound_right t named of b then range_by of (span_between t a b) else None

-- 53 EmptyRange, at the subrange's first token: its lower bound is greater
abbrev pub range_rows : Table → Place → NamedType → Option ℕ → Bound → Bound → List Row
range_rows t p named of a b = bound_rows t named of a ++ bound_rows t named of b ++ row (is_empty t a.kind b.kind) p EmptyRange ∷ []

abbrev pub range_over : Table → Place → NamedType → Option ℕ → Bound → Bound → Option TypeForm × List Row
range_over t p named of a b = (range_form t named of a.kind b.kind, range_rows t p named of a b)

abbrev pub range_node : Table → Place → NamedType → Option Bound → Option Bound → Option TypeForm × List Row
range_node t p Absent (Some a) (Some b) = range_over t p Absent (range_base t Absent a.kind) a b
range_node t p (Given n) (Some a) (Some b) = range_over t p (Given n) (range_base t (Given n) a.kind) a b
range_node t p _ _ _ = (None, [])
