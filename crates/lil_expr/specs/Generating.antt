-- What the code means that the generator of expressions adds.
use Rattle.std.specs.Prelude.{◌≡◌, ℕ, ◌+◌, ◌≤◌, true, List, Option, Some, None}
use Rattle.lil_base.specs.declared.operator.TwoOp.{TwoOp, TheVariants.{Or, And}}
use Rattle.lil_resolved.specs.{declared.resolved.{RArgument.RArgument, ROperation.{ROperation, out-ROperation}, RSelector.RSelector, RMember.RMember}, Kinds.{Kind, OfSet, words, is_there, shape_at}, Resolved.{Designator, Held, Expression, kind_of, shape_of}, Sizes.{place_strings, expression_strings, argument_strings}, Sound.{IsSoundPlace, IsSoundExpression, IsSoundStored}, Views.{empty_set, argument_of, expression_of, operation_of, selector_of, member_of, shapes_of}}
use Rattle.lil_table.specs.Rows.{InstrsAt, test_code, Access, access_of, address_code, PlaceAt, ExpressionAt, ValueRow}
use Rattle.lil_labels.specs.{declared.buffer.Aim.Aim, Drafts.{Final, Meaning}}
use Rattle.lil_labels.specs.declared.buffer.Aim.TheVariants as aim
use Rattle.lil_expr.specs.Accesses.{words_in}

-- the words of the strings of a part of a place, a member of a set, an operation and an argument
abbrev pub selector_part : RSelector → List ℕ
selector_part s = place_strings (selector_of s (Held 0))

abbrev pub member_part : RMember → List ℕ
member_part m = expression_strings (member_of m OfSet empty_set)

abbrev pub operation_part : ROperation → List ℕ
operation_part o = expression_strings (expression_of (out-ROperation o).operand)

abbrev pub argument_part : RArgument → List ℕ
argument_part g = argument_strings (argument_of g)

-- a sound expression has its code
abbrev pub Value : Expression → Meaning
Value e x p q = IsSoundExpression x.layout.scope e → ExpressionAt x.layout x.code e p q

-- a value and its test, where one of a kind is wanted
pub record TestedAt (k : Kind) (e : Expression) (x : Final) (p q : ℕ) : Type 0 where
  pub middle : ℕ
  pub value : ExpressionAt x.layout x.code e p middle
  pub test : InstrsAt x.code (test_code k (kind_of e)) middle q

-- a sound value has its code and its test
abbrev pub Tested : Kind → Expression → Meaning
Tested k e x p q = IsSoundExpression x.layout.scope e → TestedAt k e x p q

-- the same of one that is stored at a place of the kind, where up to 3 words of others stand below its own
abbrev pub Stored : Expression → Kind → Meaning
Stored e k x p q = (n : ℕ) → IsSoundStored x.layout.scope e k → n ≤ 3 → ValueRow x.layout x.code n e k p q

-- behind the code of any set, it makes it that of the set with the member too
abbrev pub Joining : Kind → RMember → Meaning
Joining k m x p q = (start : ℕ) (s : Expression) → Value s x start p → Value (member_of m k s) x start q

-- behind the code of any value, it makes it that of the operation's value
abbrev pub Operating : ROperation → Meaning
Operating o x p q = (start : ℕ) (a : Expression) → Value a x start p → Value (operation_of o a) x start q

-- the code of a place: how code has it, a number of its shape in the tables, and that 16 bits say where its words lie
pub record ReachedAt (d : Designator) (a : Access) (n : ℕ) (x : Final) (p q : ℕ) : Type 0 where
  pub place : PlaceAt x.layout x.code d p q
  pub access : a ≡ access_of x.layout d
  pub shape : shape_at (shapes_of x.tables.shapes) n ≡ shape_of x.layout.scope d
  pub within : words_in a + words (shape_of x.layout.scope d) ≤ 32000

-- a sound place where something lies has its code
abbrev pub Found : Designator → Access → ℕ → Meaning
Found d a n x p q = IsSoundPlace x.layout.scope d → is_there (shape_of x.layout.scope d) ≡ true → ReachedAt d a n x p q

-- a place and its address, and a number of its shape in the tables
pub record AddressAt (d : Designator) (n : ℕ) (x : Final) (p q : ℕ) : Type 0 where
  pub found : ℕ
  pub place : PlaceAt x.layout x.code d p found
  pub address : InstrsAt x.code (address_code (access_of x.layout d)) found q
  pub shape : shape_at (shapes_of x.tables.shapes) n ≡ shape_of x.layout.scope d

-- a sound place where something lies has its code and its address
abbrev pub Addressed : Designator → ℕ → Meaning
Addressed d n x p q = IsSoundPlace x.layout.scope d → is_there (shape_of x.layout.scope d) ≡ true → AddressAt d n x p q

-- behind the code of any place that code has so, it makes it that of the place's part
abbrev pub Selecting : RSelector → Access → ℕ → Access → ℕ → Meaning
Selecting s a n b m x p q = (start : ℕ) (d : Designator) → Found d a n x start p → Found (selector_of s d) b m x start q

-- the jump over the right operand, where the left one may decide
abbrev pub aim_of : TwoOp → Option Aim
aim_of And = Some aim.And
aim_of Or = Some aim.Or
aim_of o = None
