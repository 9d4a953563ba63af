-- Operators and sets over operands that have values.
use Rattle.std.specs.Prelude.{ℕ, ◌+◌, nat_lt, Option, Some, None, if◌then◌else◌, List, ◌-◌, ◌^◌, ℤ, pos, negsuc, int_lt, is_none, Bool, true, false, not, ◌&&◌, [], ◌∷◌, ◌++◌, bit_or}
use Rattle.lil_base.specs.{declared.{fault.{Place.Place, FaultKind.TheVariants.{Operands, ConstRange, ExprDeep, ConstArith}}, operator.{OneOp.OneOp, TwoOp.{TwoOp, TheVariants.In}}}, Lists.joined}
use Rattle.lil_report.specs.{declared.report.Fault.Fault, Told.{Row, row, rows_of, after, walk, tell}}
use Rattle.lil_scope.specs.declared.thing.Kind.{Kind}
use Rattle.lil_kinds.specs.{declared.found.{Form.Form, Found.Found, Applied.{Applied, TheVariants.{Refused, Outside, Gives}}}, Forms.{set_base, element_span}, Kinds.{compatible, number, outside}, Operators.{one, two, operand_type}}
use Rattle.lil_kinds.specs.declared.found.Form.TheVariants as form
use Rattle.lil_kinds.specs.declared.found.Standing.TheVariants as standing
use Rattle.lil_types.specs.Types.{Table, cardinal}
use Rattle.lil_resolved.specs.declared.resolved.RMember.{RMember}
use Rattle.lil_shapes.specs.{declared.members.Members.Members, Bases.members_at}
use Rattle.lil_forms.specs.{Values.{single_by, span_by, set_form, typed_by, typed, value_form, one_of, operated, chain_form}, declared.operators.Built.Built}
use Rattle.lil_scope.specs.declared.thing.Kind.TheVariants as k
use Rattle.lil_operators.specs.declared.{sets.{Operand.Operand, Tally.Tally, Gathered.Gathered}, operations.{Chained.Chained, SoFar.{SoFar, TheVariants.{First, Behind}}}}
use Rattle.lil_forms.specs.Values as forms

-- ---- depths of expressions: one above 12 has no value

abbrev pub greater : ℕ → ℕ → ℕ
greater a b = if nat_lt a b then b else a

-- a depth, if an expression may have it
abbrev pub limited : ℕ → Option ℕ
limited d = if nat_lt 12 d then None else Some d

-- the depth of a node whose left part has the one depth and whose right part is raised by some words
abbrev pub raised : ℕ → ℕ → ℕ → Option ℕ
raised a by' b = limited (greater a (by' + b))

-- ---- constants, and values of which nothing but a form and a kind is known

-- a value, None where something in it is wrong, and its tests
abbrev pub Meaning : Type 0
Meaning = Option Found × List Row

abbrev pub plain_found : Place → Form → Kind → Found
plain_found p f kind = record { form = f; kind = kind; first = p; depth = 1; standing = standing.Value }

-- ---- constants, of which the kind says all
abbrev pub constant_found : Place → Kind → Found
constant_found p kind = plain_found p form.Nothing kind

-- ---- sets of elements that have values

-- ---- elements: what is known of them, and what they are in the set
-- an element: a value, or all from one to another
pub record Bounds : Type 0 where
  pub low : Operand
  pub high : Option Operand

-- the elements of a set: their forms, where all of them have one, and what is known of them
pub record Elements : Type 0 where
  pub forms : Option (List RMember)
  pub bounds : List Bounds

abbrev pub operand_of : Found → Operand
operand_of a = record { kind = a.kind; first = a.first; depth = a.depth }

abbrev pub with_element : Elements → Option RMember → Operand → Option Operand → Elements
with_element es form low high = record { forms = joined es.forms form; bounds = es.bounds ++ record { low = low; high = high } ∷ [] }

abbrev pub no_elements : Elements
no_elements = record { forms = Some []; bounds = [] }

-- what may be in a set, where its type is known
abbrev pub kinds_of : Table → Option ℕ → Option Members
kinds_of types None = None
kinds_of types (Some s) = members_at types s

-- elements of a set and one more, where all of them have values: a value that stands alone, or the first and the last of several
abbrev pub joined_one : Table → Option ℕ → Option Elements → Option Found → Option Elements
joined_one types s (Some es) (Some a) = Some (with_element es (single_by types (kinds_of types s) a) (operand_of a) None)
joined_one types s _ _ = None

abbrev pub joined_range : Table → Option ℕ → Option Elements → Option Found → Option Found → Option Elements
joined_range types s (Some es) (Some a) (Some b) = Some (with_element es (span_by types (kinds_of types s) a b) (operand_of a) (Some (operand_of b)))
joined_range types s _ _ _ = None

-- ---- the tests of an element
abbrev pub fits_base : Table → Option ℕ → Kind → Bool
fits_base types None kind = false
fits_base types (Some b) kind = compatible types (k.Of b) kind

abbrev pub operand_misses : Table → ℕ → Kind → Bool
operand_misses types s kind = outside (element_span types s) (number types kind)

abbrev pub operand_fits : Table → ℕ → Kind → Bool
operand_fits types s kind = fits_base types (set_base types s) kind && not (operand_misses types s kind)

-- 30 Operands and 50 ConstRange
abbrev pub operand_rows : Table → ℕ → Operand → List Row
operand_rows types s a = row (not (fits_base types (set_base types s) a.kind)) a.first Operands ∷ row (operand_misses types s a.kind) a.first ConstRange ∷ []

-- ---- the members of a constant set, each by the bit of its number's weight
abbrev pub span_word : ℕ → ℕ → ℕ
span_word low high = if nat_lt high low then 0 else 2 ^ (high + 1) - 2 ^ low

abbrev pub is_member_number : ℤ → Bool
is_member_number n = not (int_lt n (pos 0)) && not (int_lt (pos 15) n)

abbrev pub member_number : ℤ → ℕ
member_number (pos n) = n
member_number (negsuc n) = 0

abbrev pub members : ℤ → ℤ → ℕ
members low high = if is_member_number low && is_member_number high then span_word (member_number low) (member_number high) else 0

abbrev pub with_members : Option ℕ → Option ℤ → Option ℤ → Option ℕ
with_members (Some w) (Some low) (Some high) = Some (bit_or w (members low high))
with_members _ _ _ = None

-- a lower element takes one word more, an upper one two
abbrev pub deepened : Option ℕ → ℕ → ℕ → Option ℕ
deepened None by' d = None
deepened (Some all) by' d = raised all by' d

-- what is known of the elements so far: whether all fit, the depth, and the word where all are constant
abbrev pub no_tally : Tally
no_tally = record { fits = true; depth = Some 1; word = Some 0 }

abbrev pub alone_tally : Table → ℕ → Tally → Operand → Tally
alone_tally types s y a = record { fits = y.fits && operand_fits types s a.kind; depth = deepened y.depth 1 a.depth; word = with_members y.word (number types a.kind) (number types a.kind) }

abbrev pub range_tally : Table → ℕ → Tally → Operand → Operand → Tally
range_tally types s y a b = record {
  fits = y.fits && (operand_fits types s a.kind && operand_fits types s b.kind);
  depth = deepened (deepened y.depth 1 a.depth) 2 b.depth;
  word = with_members y.word (number types a.kind) (number types b.kind);
}

abbrev pub tally_by : Table → ℕ → Tally → Operand → Option Operand → Tally × List Row
tally_by types s y a None = (alone_tally types s y a, operand_rows types s a)
tally_by types s y a (Some b) = (range_tally types s y a b, operand_rows types s a ++ operand_rows types s b)

unfoldable pub bounds_node : Table → ℕ → Tally → Bounds → Tally × List Row
bounds_node types s y b = tally_by types s y b.low b.high

-- ---- the whole set
abbrev pub set_found : Table → Place → ℕ → Option (List RMember) → Option ℕ → ℕ → Found
set_found types p s forms (Some w) d = record { form = form.Nothing; kind = k.Scalar s w; first = p; depth = 1; standing = standing.Value }
set_found types p s forms None d = record { form = set_form types s forms; kind = k.Of s; first = p; depth = d; standing = standing.Value }

abbrev pub set_given : Table → Place → ℕ → Option (List RMember) → Tally → Option ℕ → Option Found
set_given types p s forms y None = None
set_given types p s forms y (Some d) = if y.fits then Some (set_found types p s forms y.word d) else None

-- 60 ExprDeep
unfoldable pub set_end : Table → Place → ℕ → Option (List RMember) → Tally → Meaning
set_end types p s forms y = (set_given types p s forms y y.depth, row (is_none y.depth) p ExprDeep ∷ [])

abbrev pub elements_tally : Table → ℕ → List Bounds → Tally × List Row
elements_tally types s bs = walk (bounds_node types s) no_tally bs

-- ---- elements as they are gathered: all that the set asks of them, without the elements themselves
-- where the set's type has a fault, an element has no tests
abbrev pub bounds_in : Table → Option ℕ → Tally → Bounds → Tally × List Row
bounds_in types None y b = (y, [])
bounds_in types (Some s) y b = bounds_node types s y b

abbrev pub gathered_by : Option (List RMember) → Option Fault → Tally × List Row → Gathered
gathered_by forms r m = record { forms = forms; tally = m.0; report = tell r m.1 }

abbrev pub gathered : Table → Option ℕ → Elements → Gathered
gathered types s es = gathered_by es.forms None (walk (bounds_in types s) no_tally es.bounds)

abbrev pub all_gathered : Table → Option ℕ → Option Elements → Option Gathered
all_gathered types s None = None
all_gathered types s (Some es) = Some (gathered types s es)

-- the same, an element after the other
abbrev pub none_gathered : Gathered
none_gathered = gathered_by (Some []) None (no_tally, [])

abbrev pub with_gathered : Table → Option ℕ → Gathered → Option RMember → Operand → Option Operand → Gathered
with_gathered types s g form low high = gathered_by (joined g.forms form) g.report (bounds_in types s g.tally (record { low = low; high = high }))

abbrev pub gathered_one : Table → Option ℕ → Option Gathered → Option Found → Option Gathered
gathered_one types s (Some g) (Some a) = Some (with_gathered types s g (single_by types (kinds_of types s) a) (operand_of a) None)
gathered_one types s _ _ = None

abbrev pub gathered_range : Table → Option ℕ → Option Gathered → Option Found → Option Found → Option Gathered
gathered_range types s (Some g) (Some a) (Some b) = Some (with_gathered types s g (span_by types (kinds_of types s) a b) (operand_of a) (Some (operand_of b)))
gathered_range types s _ _ _ = None

abbrev pub set_of : Table → Place → ℕ → Elements → Meaning
set_of types p s es = after (elements_tally types s es.bounds) (set_end types p s es.forms)

abbrev pub set_node : Table → Place → Option ℕ → Option Elements → Meaning
set_node types p None es = (None, [])
set_node types p (Some s) None = (None, [])
set_node types p (Some s) (Some es) = set_of types p s es

-- the same set of elements that were gathered: what their tests found is one test
abbrev pub gathered_of : Table → Place → ℕ → Gathered → Meaning
gathered_of types p s g = after (g.tally, rows_of g.report) (set_end types p s g.forms)

abbrev pub gathered_set : Table → Place → Option ℕ → Option Gathered → Meaning
gathered_set types p None g = (None, [])
gathered_set types p (Some s) None = (None, [])
gathered_set types p (Some s) (Some g) = gathered_of types p s g

abbrev pub is_refused : Applied → Bool
is_refused Refused = true
is_refused Outside = false
is_refused (Gives kind) = false

abbrev pub is_outside : Applied → Bool
is_outside Refused = false
is_outside Outside = true
is_outside (Gives kind) = false

-- ---- a sign or NOT
abbrev pub one_found : Table → Place → OneOp → Found → Kind → Found
-- a value is computed in the type of the operand's values
one_found types p op a (k.Of s) = record { form = value_form (one_of op (typed types s a)); kind = k.Of s; first = p; depth = a.depth; standing = standing.Value }
one_found types p op a kind = constant_found p kind

abbrev pub one_value : Table → Place → OneOp → Found → Applied → Option Found
one_value types p op a Refused = None
one_value types p op a Outside = None
one_value types p op a (Gives kind) = Some (one_found types p op a kind)

abbrev pub applied_rows : Applied → Place → List Row
applied_rows x at =
    -- 30 Operands
    row (is_refused x) at Operands
    -- 52 ConstArith
    ∷ row (is_outside x) at ConstArith ∷ []

unfoldable pub one_applied : Table → Place → OneOp → Place → Found → Meaning
one_applied types p op at a = (one_value types p op a (one types op a.kind), applied_rows (one types op a.kind) at)

abbrev pub one_node : Table → Place → OneOp → Place → Option Found → Meaning
one_node types p op at None = (None, [])
one_node types p op at (Some a) = one_applied types p op at a

-- ---- operators between operands
-- a first operand as the beginning of a chain
abbrev pub begun : Option Found → Option Chained
begun None = None
begun (Some a) = Some (record { so_far = First a.form; kind = a.kind; depth = a.depth })

-- the type of a left operand that has none: that of the right one, or beside a set that of its members
abbrev pub or_cardinal : Option ℕ → ℕ
or_cardinal (Some s) = s
or_cardinal None = cardinal

abbrev pub left_type : Table → TwoOp → Kind → Kind → ℕ
left_type types In a b = or_cardinal (set_base types (operand_type types In a b))
left_type types op a b = operand_type types op a b

-- what stands before an operator, where the first operand gets a type by it
abbrev pub before : Table → ℕ → Kind → SoFar → Option Built
before types s kind (First f) = forms.begun (typed_by types s kind f)
before types s kind (Behind b) = b

abbrev pub behind : Table → TwoOp → Chained → Found → Option Built
behind types op a b = operated op (before types (left_type types op a.kind b.kind) a.kind a.so_far) (typed types (operand_type types op a.kind b.kind) b)

-- an operation more behind those that stand; what is constant begins anew
abbrev pub two_chained : Option Built → Kind → ℕ → Chained
two_chained x (k.Of s) d = record { so_far = Behind x; kind = k.Of s; depth = d }
two_chained x kind d = record { so_far = First form.Nothing; kind = kind; depth = 1 }

abbrev pub two_given : Option Built → Kind → Option ℕ → Option Chained
two_given x kind None = None
two_given x kind (Some d) = Some (two_chained x kind d)

abbrev pub two_value : Option Built → Applied → Option ℕ → Option Chained
two_value x Refused d = None
two_value x Outside d = None
two_value x (Gives kind) d = two_given x kind d

unfoldable pub two_applied : Table → Place → TwoOp → Place → Chained → Found → Option Chained × List Row
two_applied types p op at a b = (
  two_value (behind types op a b) (two types op a.kind b.kind) (raised a.depth 1 b.depth),
  -- 60 ExprDeep
  row (is_none (raised a.depth 1 b.depth)) p ExprDeep ∷ applied_rows (two types op a.kind b.kind) at,
)

abbrev pub two_node : Table → Place → TwoOp → Place → Option Chained → Option Found → Option Chained × List Row
two_node types p op at None b = (None, [])
two_node types p op at (Some a) None = (None, [])
two_node types p op at (Some a) (Some b) = two_applied types p op at a b

-- the whole chain
abbrev pub whole_form : SoFar → Form
whole_form (First f) = f
whole_form (Behind b) = chain_form b

abbrev pub chain_found : Place → Option Chained → Option Found
chain_found p None = None
chain_found p (Some a) = Some (record { form = whole_form a.so_far; kind = a.kind; first = p; depth = a.depth; standing = standing.Value })
