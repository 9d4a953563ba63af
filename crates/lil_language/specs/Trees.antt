-- The nodes of trees as the grammar makes them, and where they begin.
use Rattle.std.specs.Prelude.{ℕ, Bool, true, false, List, [], ◌∷◌, Option, Some, None}
use Rattle.lil_base.specs.declared.{fault.Place.Place, operator.TwoOp.TwoOp}
use Rattle.lil_text.specs.declared.tree.{Ident.Ident, Qualident.Qualident}
use Rattle.lil_language.specs.declared.{tree.{Expr.{Expr, out-Expr, Expr-F}, Operation.{Operation, roll-Operation}, Range.{Range, roll-Range}, Designator.{Designator, roll-Designator}, Selector.Selector, Stmt.Stmt, Guard.{Guard, roll-Guard}, Arm.{Arm, roll-Arm}, ForHead.ForHead}, unit.{UnitKind.UnitKind, Import.Import, Formal.Formal, Section.Section}}
use Rattle.lil_language.specs.declared.unit.{Heading.Heading, Sort.Sort, FieldList.FieldList, Variant.{Variant, roll-Variant}, Constant.Constant, TypeName.TypeName, Variables.Variables, Decl.Decl, Block.{Block, roll-Block}, Head.Head, Unit.Unit}
use Rattle.lil_language.specs.declared.tree.Expr.TheVariants as e
use Rattle.lil_language.specs.declared.tree.Expr.TheOpen as o

abbrev pub qualident : Option Ident → Ident → Qualident
qualident owner name = record { owner = owner; name = name }

abbrev pub range : Expr → Option Expr → Range
range low high = roll-Range (record { low = low; high = high })

abbrev pub designator : Ident → List Selector → Designator
designator first selectors = roll-Designator (record { first = first; selectors = selectors })

abbrev pub guard : Expr → List Stmt → Guard
guard condition body = roll-Guard (record { condition = condition; body = body })

abbrev pub arm : List Range → List Stmt → Arm
arm labels body = roll-Arm (record { labels = labels; body = body })

abbrev pub for_head : Ident → Place → Expr → Expr → Option Expr → ForHead
for_head variable becomes from to by = record { variable = variable; becomes = becomes; from = from; to = to; by = by }

-- the place of an expression's first token, a parenthesis around it included
abbrev pub first_in : Expr-F Expr Selector Designator Operation Range → Place
first_in (o.Whole p v) = p
first_in (o.Code p c) = p
first_in (o.Chars p text) = p
first_in (o.SetOf p q rs) = p
first_in (o.Desig p d) = p
first_in (o.Call p d xs) = p
first_in (o.One p op at x) = p
first_in (o.Chain p x os) = p

unfoldable pub first_place : Expr → Place
first_place x = first_in (out-Expr x)

-- the same expression behind a parenthesis at this place
abbrev pub begun_in : Place → Expr-F Expr Selector Designator Operation Range → Expr
begun_in p (o.Whole q v) = e.Whole p v
begun_in p (o.Code q c) = e.Code p c
begun_in p (o.Chars q text) = e.Chars p text
begun_in p (o.SetOf q t rs) = e.SetOf p t rs
begun_in p (o.Desig q d) = e.Desig p d
begun_in p (o.Call q d xs) = e.Call p d xs
begun_in p (o.One q op at x) = e.One p op at x
begun_in p (o.Chain q x os) = e.Chain p x os

unfoldable pub begun_at : Place → Expr → Expr
begun_at p x = begun_in p (out-Expr x)

-- a list of none or one
abbrev pub listed : {A : Type 0} → Option A → List A
listed None = []
listed (Some a) = a ∷ []

-- a first operand and what operators do to it; without operators it is the operand alone
abbrev pub operation : TwoOp × Place → Expr → Operation
operation op x = roll-Operation (record { operator = op.0; place = op.1; operand = x })

abbrev pub chained : Expr → List Operation → Expr
chained x [] = x
chained x (o ∷ os) = e.Chain (first_place x) x (o ∷ os)

-- a name and what is selected of it, or a call of that
abbrev pub named : Ident → List Selector → Option (List Expr) → Expr
named x ss None = e.Desig x.place (designator x ss)
named x ss (Some xs) = e.Call x.place (designator x ss) xs

-- ---- where they begin
abbrev pub qualident_place : Qualident → Place
qualident_place q = by q.owner
  where
    by : Option Ident → Place
    by None = q.name.place
    by (Some owner) = owner.place

-- the first of some tokens that may be there
abbrev pub first_of : Option Place → Place → Place
first_of None q = q
first_of (Some p) q = p

abbrev pub is_there : Option Place → Bool
is_there None = false
is_there (Some p) = true

abbrev pub no_place : Place
no_place = record { line = 0; column = 0; offset = 0 }

abbrev pub names_place : List Ident → Place
names_place [] = no_place
names_place (x ∷ xs) = x.place

-- ---- declarations and units
abbrev pub formal : Option Place → Option Place → Qualident → Formal
formal v a q = record { place = first_of v (first_of a (qualident_place q)); by_place = is_there v; open_array = is_there a; sort = q }

abbrev pub section : Option Place → List Ident → Option Place → Qualident → Section
section v xs a q = record { place = first_of v (names_place xs); by_place = is_there v; names = xs; open_array = is_there a; sort = q }

-- parameters and the type of a result, where parentheses are there
abbrev pub parameters_in : {A : Type 0} → Option (List A × Option Qualident) → List A
parameters_in None = []
parameters_in (Some y) = y.0

abbrev pub result_in : {A : Type 0} → Option (List A × Option Qualident) → Option Qualident
result_in None = None
result_in (Some y) = y.1

abbrev pub heading : Place → Ident → Option (List Section × Option Qualident) → Heading
heading p x y = record { place = p; name = x; sections = parameters_in y; result = result_in y }

abbrev pub variant : List Range → List FieldList → Variant
variant labels fields = roll-Variant (record { labels = labels; fields = fields })

abbrev pub constant : Ident → Expr → Constant
constant x value = record { name = x; value = value }

abbrev pub type_name : Ident → Option Sort → TypeName
type_name x sort = record { name = x; sort = sort }

abbrev pub variables : List Ident → Sort → Variables
variables xs sort = record { names = xs; sort = sort }

abbrev pub block : List Decl → List Stmt → Ident → Block
block decls body end = roll-Block (record { decls = decls; body = body; end = end })

abbrev pub import : Place → Option Ident → List Ident → Import
import p from xs = record { place = p; from = from; names = xs }

abbrev pub head : Place → UnitKind → Ident → List Import → Option (List Ident) → Head
head p kind x imports exports = record { place = p; kind = kind; name = x; imports = imports; exports = exports }

abbrev pub unit : ℕ → Head → List Decl → List Stmt → Ident → Unit
unit weight h decls body end = record { head = h; decls = decls; body = body; end = end; weight = weight }
