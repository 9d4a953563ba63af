-- The grammar of the language (Programming in Modula-2, Syntax), as data: `◃` applies a tree's form to a part, `◂` skips a
-- part, `one` is a token, `part` a part that counts as nested. Repetitions and choices have names of their own.
use Rattle.std.specs.Prelude.{◌≡◌, ℕ, Bool, false, List, [], ◌∷◌, ◌++◌, Option, Some, None}
use Rattle.lil_base.specs.declared.fault.Place.{Place}
use Rattle.lil_base.specs.declared.operator.OneOp.TheVariants as o
use Rattle.lil_text.specs.{declared.{token.{Token.Token, TokenKind.TokenKind, Mark.Mark, Word.Word}, tree.{Ident.Ident, Qualident.Qualident}}, Nesting.Limit}
use Rattle.lil_text.specs.declared.token.Mark.TheVariants as m
use Rattle.lil_text.specs.declared.token.Word.TheVariants as w
use Rattle.lil_grammar.specs.Steps.{Parser, pure, at}
use Rattle.lil_syntax.specs.{Terminals.{Kinds, among, Kind as k, Terminal as t}, Syntax.{Syntax, give, one, part, ◌◃◌, ◌◂◌, ◌or◌, repeat, Grammar, Derived, begins, goes_on, reads, before, read}}
use Rattle.lil_language.specs.declared.{tree.{Expr.Expr, Operation.Operation, Range.Range, Designator.Designator, Selector.Selector, Stmt.Stmt, Guard.Guard, Arm.Arm, ForHead.ForHead}, unit.{Simple.Simple, Sort.Sort, FieldList.FieldList, Variant.Variant, Formal.Formal, Section.Section, Heading.Heading, Constant.Constant, TypeName.TypeName}}
use Rattle.lil_language.specs.{declared.unit.{Variables.Variables, Decl.Decl, Import.Import, Head.Head, Unit.Unit}, Trees.{qualident, range, designator, guard, arm, for_head, listed, begun_at, operation, chained, qualident_place}}
use Rattle.lil_language.specs.declared.tree.Expr.TheVariants as e
use Rattle.lil_language.specs.declared.tree.Selector.TheVariants as sel
use Rattle.lil_language.specs.declared.tree.Stmt.TheVariants as st
use Rattle.lil_language.specs.declared.unit.Simple.TheVariants as si
use Rattle.lil_language.specs.declared.unit.Sort.TheVariants as so
use Rattle.lil_language.specs.declared.unit.FieldList.TheVariants as fi
use Rattle.lil_language.specs.declared.unit.Decl.TheVariants as de
use Rattle.lil_language.specs.declared.unit.UnitKind.TheVariants as uk
use Rattle.lil_language.specs.Trees as tree

-- the parts that count as nested: expressions, factors behind NOT, statements, types, a record's CASE, and procedures
pub data Part : Type 0 where
  expression operand form sort record_case procedure : Part

abbrev pub Tree : Part → Type 0
Tree expression = Expr
Tree operand = Expr
Tree form = Stmt
Tree sort = Sort
Tree record_case = FieldList
Tree procedure = Decl

abbrev pub Of : Type 0 → Type 1
Of A = Syntax Tree A

abbrev pub mark : Mark → Of Place
mark m = one (t.mark m)

abbrev pub word : Word → Of Place
word w = one (t.word w)

abbrev pub name : Of Ident
name = one t.name

abbrev pub expr : Of Expr
expr = part expression

-- [ p ]
abbrev pub optional : {A : Type 0} → Of A → Of (Option A)
optional p = give Some ◃ p or give None

-- [ p ], where no p is no item
abbrev pub perhaps : {A : Type 0} → Of (List A) → Of (List A)
perhaps p = p or give []

-- what stands behind a token
abbrev pub behind : {A : Type 0} → Of Place → Of A → Of A
behind sep p = give (λ x. x) ◂ sep ◃ p

-- a form that waits for the name before it
abbrev pub put_to : {A B : Type 0} → A → (A → B) → B
put_to x f = f x

abbrev pub applied : {A B : Type 0} → A → Of (A → B) → Of B
applied x s = give (put_to x) ◃ s

abbrev pub with_last : {A : Type 0} → List A → A → List A
with_last xs x = xs ++ x ∷ []

abbrev pub with_listed : {A : Type 0} → List A → Option A → List A
with_listed xs x = xs ++ listed x

-- p { sep p }
abbrev pub list : {A : Type 0} → Of A → Of Place → Of (List A)
list p sep = repeat (λ x. x ∷ []) p with_last (behind sep p)

-- the same of parts that may be no token
abbrev pub sparse : {A : Type 0} → Of (Option A) → Of Place → Of (List A)
sparse p sep = repeat listed p with_listed (behind sep p)

-- { p }
abbrev pub all : {A : Type 0} → Of A → Of (List A)
all p = repeat (λ xs. xs) (give []) with_last (give (λ x. x) ◃ p)

-- ---- names
abbrev pub qualified : Ident → Option Ident → Qualident
qualified x None = qualident None x
qualified x (Some y) = qualident (Some x) y

unfoldable pub a_qualident : Of Qualident
a_qualident = give qualified ◃ name ◃ optional (behind (mark m.Dot) name)

unfoldable pub names : Of (List Ident)
names = list name (mark m.Comma)

-- ---- expressions
unfoldable pub element : Of Range
element = give range ◃ expr ◃ optional (behind (mark m.Through) expr)

unfoldable pub labels : Of (List Range)
labels = list element (mark m.Comma)

unfoldable pub some_labels : Of (List Range)
some_labels = perhaps labels

unfoldable pub elements : Of (List Range)
elements = give (λ rs. rs) ◂ mark m.OpenBrace ◃ some_labels ◂ mark m.CloseBrace

unfoldable pub exprs : Of (List Expr)
exprs = list expr (mark m.Comma)

unfoldable pub arguments : Of (List Expr)
arguments = perhaps exprs

unfoldable pub actuals : Of (List Expr)
actuals = give (λ xs. xs) ◂ mark m.Open ◃ arguments ◂ mark m.Close

unfoldable pub call : Of (Option (List Expr))
call = optional actuals

unfoldable pub field : Of Selector
field = give sel.Field ◃ mark m.Dot ◃ name

unfoldable pub index : Of Selector
index = give sel.Index ◃ mark m.OpenBracket ◃ exprs ◂ mark m.CloseBracket

unfoldable pub follow : Of Selector
follow = give sel.Follow ◃ mark m.Arrow

unfoldable pub part_selector : Of Selector
part_selector = index or follow

unfoldable pub selector : Of Selector
selector = field or part_selector

unfoldable pub selectors : Of (List Selector)
selectors = all selector

-- selectors of which the first is no field
unfoldable pub part_selectors : Of (List Selector)
part_selectors = repeat (λ s. s ∷ []) part_selector with_last (give (λ s. s) ◃ selector)

unfoldable pub a_designator : Of Designator
a_designator = give designator ◃ name ◃ selectors

-- a set's elements behind its type's name, or what is selected and called, behind a name and behind its field
abbrev pub set_of : List Range → Ident → Expr
set_of rs x = e.SetOf x.place (Some (qualident None x)) rs

abbrev pub set_of_field : List Range → Place × Ident → Ident → Expr
set_of_field rs y x = e.SetOf x.place (Some (qualident (Some x) y.1)) rs

abbrev pub selected : List Selector → Option (List Expr) → Ident → Expr
selected ss xs x = tree.named x ss xs

abbrev pub field_selected : List Selector → Option (List Expr) → Place × Ident → Ident → Expr
field_selected ss xs y x = tree.named x (sel.Field y.0 y.1 ∷ ss) xs

unfoldable pub field_set : Of (Place × Ident → Ident → Expr)
field_set = give set_of_field ◃ elements

unfoldable pub field_path : Of (Place × Ident → Ident → Expr)
field_path = give field_selected ◃ selectors ◃ call

unfoldable pub behind_field : Of (Place × Ident → Ident → Expr)
behind_field = field_set or field_path

abbrev pub at_field : Place → Ident → (Place × Ident → Ident → Expr) → Ident → Expr
at_field p y f = f (p, y)

unfoldable pub a_field : Of (Ident → Expr)
a_field = give at_field ◃ mark m.Dot ◃ name ◃ behind_field

unfoldable pub a_part : Of (Ident → Expr)
a_part = give selected ◃ part_selectors ◃ call

unfoldable pub name_set : Of (Ident → Expr)
name_set = give set_of ◃ elements

unfoldable pub name_call : Of (Ident → Expr)
name_call = give (selected []) ◃ call

unfoldable pub behind_name : Of (Ident → Expr)
behind_name = name_set or a_field or a_part or name_call

unfoldable pub named : Of Expr
named = give put_to ◃ name ◃ behind_name

unfoldable pub number : Of Expr
number = give (λ y. e.Whole y.0 y.1) ◃ one t.number

unfoldable pub code : Of Expr
code = give (λ y. e.Code y.0 y.1) ◃ one t.code

unfoldable pub chars : Of Expr
chars = give (λ y. e.Chars y.0 y.1) ◃ one t.chars

unfoldable pub bit_set : Of Expr
bit_set = give (λ p rs. e.SetOf p None rs) ◃ mark m.OpenBrace ◃ some_labels ◂ mark m.CloseBrace

unfoldable pub inner : Of Expr
inner = give begun_at ◃ mark m.Open ◃ expr ◂ mark m.Close

unfoldable pub negated : Of Expr
negated = give (λ p x. e.One p o.Not p x) ◃ word w.Not ◃ part operand

unfoldable pub literal : Of Expr
literal = number or code or chars

unfoldable pub factor : Of Expr
factor = literal or bit_set or inner or negated or named

unfoldable pub multiplication : Of Operation
multiplication = give operation ◃ one t.multiplication ◃ factor

unfoldable pub multiplications : Of (List Operation)
multiplications = all multiplication

unfoldable pub term : Of Expr
term = give chained ◃ factor ◃ multiplications

unfoldable pub signed : Of Expr
signed = give (λ op x. e.One op.1 op.0 op.1 x) ◃ one t.sign ◃ term or term

unfoldable pub addition : Of Operation
addition = give operation ◃ one t.addition ◃ term

unfoldable pub additions : Of (List Operation)
additions = all addition

unfoldable pub sum : Of Expr
sum = give chained ◃ signed ◃ additions

unfoldable pub comparison : Of Operation
comparison = give operation ◃ one t.relation ◃ sum

abbrev pub compared : Expr → Option Operation → Expr
compared x o = chained x (listed o)

unfoldable pub relation : Of Expr
relation = give compared ◃ sum ◃ optional comparison

-- ---- statements
unfoldable pub statement : Of (Option Stmt)
statement = optional (part form)

unfoldable pub statements : Of (List Stmt)
statements = sparse statement (mark m.Semicolon)

unfoldable pub guarded : Of Guard
guarded = give guard ◃ expr ◂ word w.Then ◃ statements

unfoldable pub guards : Of (List Guard)
guards = list guarded (word w.Elsif)

unfoldable pub otherwise : Of (Option (List Stmt))
otherwise = optional (behind (word w.Else) statements)

unfoldable pub if_form : Of Stmt
if_form = give st.If ◃ word w.If ◃ guards ◃ otherwise ◂ word w.End

unfoldable pub an_arm : Of Arm
an_arm = give arm ◃ labels ◂ mark m.Colon ◃ statements

unfoldable pub some_arm : Of (Option Arm)
some_arm = optional an_arm

unfoldable pub arms : Of (List Arm)
arms = sparse some_arm (mark m.Bar)

unfoldable pub case_form : Of Stmt
case_form = give st.Case ◃ word w.Case ◃ expr ◂ word w.Of ◃ arms ◃ otherwise ◂ word w.End

unfoldable pub while_form : Of Stmt
while_form = give st.While ◃ word w.While ◃ expr ◂ word w.Do ◃ statements ◂ word w.End

unfoldable pub repeat_form : Of Stmt
repeat_form = give st.Repeat ◃ word w.Repeat ◃ statements ◂ word w.Until ◃ expr

unfoldable pub loop_form : Of Stmt
loop_form = give st.Loop ◃ word w.Loop ◃ statements ◂ word w.End

unfoldable pub step : Of (Option Expr)
step = optional (behind (word w.By) expr)

unfoldable pub a_for_head : Of ForHead
a_for_head = give for_head ◃ name ◃ mark m.Becomes ◃ expr ◂ word w.To ◃ expr ◃ step

unfoldable pub for_form : Of Stmt
for_form = give st.For ◃ word w.For ◃ a_for_head ◂ word w.Do ◃ statements ◂ word w.End

unfoldable pub with_form : Of Stmt
with_form = give st.With ◃ word w.With ◃ a_designator ◂ word w.Do ◃ statements ◂ word w.End

unfoldable pub exit_form : Of Stmt
exit_form = give st.Exit ◃ word w.Exit

unfoldable pub return_form : Of Stmt
return_form = give st.Return ◃ word w.Return ◃ optional expr

unfoldable pub named_form : Of Stmt
named_form = give put_to ◃ a_designator ◃ (give (λ p x d. st.Assign d p x) ◃ mark m.Becomes ◃ expr or give (λ xs d. st.Call d xs) ◃ actuals or give (λ d. st.Call d []))

unfoldable pub choice_form : Of Stmt
choice_form = if_form or case_form

unfoldable pub loops_form : Of Stmt
loops_form = while_form or repeat_form or loop_form or for_form

unfoldable pub word_form : Of Stmt
word_form = with_form or exit_form or return_form

unfoldable pub a_form : Of Stmt
a_form = choice_form or loops_form or word_form or named_form

-- ---- types
unfoldable pub bounds : Of (Place × Expr × Expr)
bounds = give (λ p x y. (p, x, y)) ◃ mark m.OpenBracket ◃ expr ◂ mark m.Through ◃ expr ◂ mark m.CloseBracket

abbrev pub bounded : Qualident → Option (Place × Expr × Expr) → Simple
bounded q None = si.Named q
bounded q (Some b) = si.Subrange (qualident_place q) (Some q) b.1 b.2

unfoldable pub named_type : Of Simple
named_type = give bounded ◃ a_qualident ◃ optional bounds

unfoldable pub unnamed : Of Simple
unnamed = give (λ b. si.Subrange b.0 None b.1 b.2) ◃ bounds

unfoldable pub enumeration : Of Simple
enumeration = give si.Enumeration ◃ mark m.Open ◃ names ◂ mark m.Close

unfoldable pub simple : Of Simple
simple = enumeration or unnamed or named_type

unfoldable pub simples : Of (List Simple)
simples = list simple (mark m.Comma)

unfoldable pub by_place : Of (Option Place)
by_place = optional (word w.Var)

unfoldable pub open_array : Of (Option Place)
open_array = optional (give (λ p q. p) ◃ word w.Array ◃ word w.Of)

unfoldable pub formal : Of Formal
formal = give tree.formal ◃ by_place ◃ open_array ◃ a_qualident

unfoldable pub formals : Of (List Formal)
formals = list formal (mark m.Comma)

unfoldable pub some_formals : Of (List Formal)
some_formals = perhaps formals

unfoldable pub result : Of (Option Qualident)
result = optional (behind (mark m.Colon) a_qualident)

unfoldable pub formal_part : Of (List Formal × Option Qualident)
formal_part = give (λ xs r. (xs, r)) ◂ mark m.Open ◃ some_formals ◂ mark m.Close ◃ result

unfoldable pub field_row : Of FieldList
field_row = give fi.Fields ◃ names ◂ mark m.Colon ◃ part sort

unfoldable pub a_fieldlist : Of FieldList
a_fieldlist = part record_case or field_row

unfoldable pub field_statement : Of (Option FieldList)
field_statement = optional a_fieldlist

unfoldable pub fields : Of (List FieldList)
fields = sparse field_statement (mark m.Semicolon)

unfoldable pub array : Of Sort
array = give so.ArrayOf ◃ word w.Array ◃ simples ◂ word w.Of ◃ part sort

unfoldable pub record_type : Of Sort
record_type = give so.RecordOf ◃ word w.Record ◃ fields ◂ word w.End

unfoldable pub set : Of Sort
set = give so.SetOver ◃ word w.Set ◂ word w.Of ◃ simple

unfoldable pub pointer : Of Sort
pointer = give so.PointerTo ◃ word w.Pointer ◂ word w.To ◃ part sort

abbrev pub procedure_of : Place → Option (List Formal × Option Qualident) → Sort
procedure_of p y = so.ProcedureOf p (tree.parameters_in y) (tree.result_in y)

unfoldable pub procedure_type : Of Sort
procedure_type = give procedure_of ◃ word w.Procedure ◃ optional formal_part

unfoldable pub scalar : Of Sort
scalar = give so.Scalar ◃ simple

unfoldable pub structured : Of Sort
structured = array or record_type or set

unfoldable pub a_sort : Of Sort
a_sort = structured or pointer or procedure_type or scalar

unfoldable pub a_variant : Of Variant
a_variant = give tree.variant ◃ labels ◂ mark m.Colon ◃ fields

unfoldable pub some_variant : Of (Option Variant)
some_variant = optional a_variant

unfoldable pub variants : Of (List Variant)
variants = sparse some_variant (mark m.Bar)

unfoldable pub other_fields : Of (Option (List FieldList))
other_fields = optional (behind (word w.Else) fields)

-- [ [ name ] ":" ] qualident
unfoldable pub unnamed_tag : Of (Option Ident × Qualident)
unnamed_tag = give (λ q. (None, q)) ◃ behind (mark m.Colon) a_qualident

unfoldable pub named_tag : Of (Option Ident × Qualident)
named_tag = give put_to ◃ name ◃ (give (λ q x. (Some x, q)) ◃ behind (mark m.Colon) a_qualident or give (λ y x. (None, qualident (Some x) y)) ◃ behind (mark m.Dot) name or give (λ x. (None, qualident None x)))

unfoldable pub tag : Of (Option Ident × Qualident)
tag = unnamed_tag or named_tag

unfoldable pub field_variants : Of FieldList
field_variants = give (λ p t vs o. fi.Variants p t.0 t.1 vs o) ◃ word w.Case ◃ tag ◂ word w.Of ◃ variants ◃ other_fields ◂ word w.End

-- ---- declarations
unfoldable pub a_section : Of Section
a_section = give tree.section ◃ by_place ◃ names ◂ mark m.Colon ◃ open_array ◃ a_qualident

unfoldable pub sections : Of (List Section)
sections = list a_section (mark m.Semicolon)

unfoldable pub some_sections : Of (List Section)
some_sections = perhaps sections

unfoldable pub section_part : Of (List Section × Option Qualident)
section_part = give (λ xs r. (xs, r)) ◂ mark m.Open ◃ some_sections ◂ mark m.Close ◃ result

unfoldable pub heading : Of Heading
heading = give tree.heading ◃ word w.Procedure ◃ name ◃ optional section_part

unfoldable pub constant : Of Constant
constant = give tree.constant ◃ name ◂ mark m.Equal ◃ expr ◂ mark m.Semicolon

unfoldable pub constants : Of (List Constant)
constants = all constant

unfoldable pub constant_part : Of Decl
constant_part = give de.ConstIs ◃ word w.Const ◃ constants

unfoldable pub a_type : Of TypeName
a_type = give (λ x s. tree.type_name x (Some s)) ◃ name ◂ mark m.Equal ◃ part sort ◂ mark m.Semicolon

unfoldable pub types : Of (List TypeName)
types = all a_type

unfoldable pub type_part : Of Decl
type_part = give de.TypeIs ◃ word w.TypeWord ◃ types

unfoldable pub type_form : Of (Option Sort)
type_form = optional (behind (mark m.Equal) (part sort))

unfoldable pub definition_type : Of TypeName
definition_type = give tree.type_name ◃ name ◃ type_form ◂ mark m.Semicolon

unfoldable pub definition_types : Of (List TypeName)
definition_types = all definition_type

unfoldable pub definition_type_part : Of Decl
definition_type_part = give de.TypeIs ◃ word w.TypeWord ◃ definition_types

unfoldable pub variable : Of Variables
variable = give tree.variables ◃ names ◂ mark m.Colon ◃ part sort ◂ mark m.Semicolon

unfoldable pub variable_list : Of (List Variables)
variable_list = all variable

unfoldable pub variable_part : Of Decl
variable_part = give de.VarsAre ◃ word w.Var ◃ variable_list

unfoldable pub procedure_part : Of Decl
procedure_part = give (λ x. x) ◃ part procedure ◂ mark m.Semicolon

unfoldable pub decl : Of Decl
decl = constant_part or type_part or variable_part or procedure_part

unfoldable pub decls : Of (List Decl)
decls = all decl

unfoldable pub definition_heading : Of Decl
definition_heading = give (λ h. de.ProcIs h None) ◃ heading ◂ mark m.Semicolon

unfoldable pub definition_decl : Of Decl
definition_decl = constant_part or definition_type_part or variable_part or definition_heading

unfoldable pub definition_decls : Of (List Decl)
definition_decls = all definition_decl

unfoldable pub body : Of (List Stmt)
body = perhaps (behind (word w.Begin) statements)

unfoldable pub block : Of (List Decl × List Stmt)
block = give (λ ds ss. (ds, ss)) ◃ decls ◃ body ◂ word w.End

unfoldable pub a_procedure : Of Decl
a_procedure = give (λ h b x. de.ProcIs h (Some (tree.block b.0 b.1 x))) ◃ heading ◂ mark m.Semicolon ◃ block ◃ name

-- ---- units
unfoldable pub import_from : Of Import
import_from = give (λ p x xs. tree.import p (Some x) xs) ◃ word w.From ◃ name ◂ word w.Import ◃ names ◂ mark m.Semicolon

unfoldable pub import_all : Of Import
import_all = give (λ p xs. tree.import p None xs) ◃ word w.Import ◃ names ◂ mark m.Semicolon

unfoldable pub an_import : Of Import
an_import = import_from or import_all

unfoldable pub imports : Of (List Import)
imports = all an_import

unfoldable pub export : Of (List Ident)
export = give (λ xs. xs) ◂ word w.Export ◂ word w.Qualified ◃ names ◂ mark m.Semicolon

unfoldable pub exports : Of (Option (List Ident))
exports = optional export

unfoldable pub definition_head : Of Head
definition_head = give (λ p x is es. tree.head p uk.Definition x is es) ◃ word w.Definition ◂ word w.Module ◃ name ◂ mark m.Semicolon ◃ imports ◃ exports

unfoldable pub implementation_head : Of Head
implementation_head = give (λ p x is. tree.head p uk.Implementation x is None) ◃ word w.Implementation ◂ word w.Module ◃ name ◂ mark m.Semicolon ◃ imports

unfoldable pub program_head : Of Head
program_head = give (λ p x is. tree.head p uk.Program x is None) ◃ word w.Module ◃ name ◂ mark m.Semicolon ◃ imports

unfoldable pub module_head : Of Head
module_head = implementation_head or program_head

-- a unit of n tokens
unfoldable pub definition : ℕ → Of Unit
definition n = give (λ h ds x. tree.unit n h ds [] x) ◃ definition_head ◃ definition_decls ◂ word w.End ◃ name ◂ mark m.Dot

unfoldable pub other_unit : ℕ → Of Unit
other_unit n = give (λ h b x. tree.unit n h b.0 b.1 x) ◃ module_head ◃ block ◃ name ◂ mark m.Dot

unfoldable pub unit : ℕ → Of Unit
unit n = definition n or other_unit n

unfoldable pub text : ℕ → Of Unit
text n = give (λ u. u) ◃ unit n ◂ one t.finish

-- ---- the parts
abbrev pub produced : (n : Part) → Of (Tree n)
produced expression = relation
produced operand = factor
produced form = a_form
produced sort = a_sort
produced record_case = field_variants
produced procedure = a_procedure

abbrev pub factors : Kinds
factors = k.number ∷ k.code ∷ k.chars ∷ k.mark m.OpenBrace ∷ k.mark m.Open ∷ k.word w.Not ∷ k.name ∷ []

abbrev pub first : Part → Kinds
first expression = k.mark m.Plus ∷ k.mark m.Minus ∷ factors
first operand = factors
first form = k.word w.If ∷ k.word w.Case ∷ k.word w.While ∷ k.word w.Repeat ∷ k.word w.Loop ∷ k.word w.For ∷ k.word w.With ∷ k.word w.Exit ∷ k.word w.Return ∷ k.name ∷ []
first sort = k.word w.Array ∷ k.word w.Record ∷ k.word w.Set ∷ k.word w.Pointer ∷ k.word w.Procedure ∷ k.mark m.Open ∷ k.mark m.OpenBracket ∷ k.name ∷ []
first record_case = k.word w.Case ∷ []
first procedure = k.word w.Procedure ∷ []

abbrev pub selects : Kinds
selects = k.mark m.Dot ∷ k.mark m.OpenBracket ∷ k.mark m.Arrow ∷ k.mark m.Open ∷ k.mark m.OpenBrace ∷ []

abbrev pub operators : Kinds
operators = k.mark m.Equal ∷ k.mark m.Unequal ∷ k.mark m.Less ∷ k.mark m.AtMost ∷ k.mark m.Greater ∷ k.mark m.AtLeast ∷ k.word w.In ∷ k.mark m.Plus ∷ k.mark m.Minus ∷ k.word w.Or ∷ k.mark m.Times ∷ k.mark m.Slash ∷ k.word w.Div ∷ k.word w.Mod ∷ k.word w.And ∷ []

abbrev pub after_sort : Kinds
after_sort = k.mark m.Dot ∷ k.mark m.OpenBracket ∷ k.mark m.Open ∷ k.mark m.Colon ∷ []

abbrev pub goes : Part → Kinds
goes expression = selects ++ operators
goes operand = selects
goes form = (first expression ++ k.mark m.Becomes ∷ []) ++ (selects ++ operators)
goes sort = after_sort
goes record_case = []
goes procedure = []

unfoldable pub grammar : Grammar Tree
grammar = record { production = produced; first = first; goes = goes }

-- which tokens, up to which, derive a value of a syntax, under a limit of nesting
abbrev pub Derives : {A : Type 0} → Of A → Limit → List Token → List Token → A → Type 0
Derives s l ts rest x = Derived grammar s l ts rest x

-- what may follow a phrase and does not go on with it
abbrev pub Ends : {A : Type 0} → Of A → List Token → Type 0
Ends s ts = at (among (goes_on first goes s)) ts ≡ false

-- one turn of a repetition
abbrev pub turned : {S B : Type 0} → ℕ → Of B → (S → B → S) → S → Parser S
turned d turn add s = before first goes (read grammar d) turn (λ b. pure (add s b))

abbrev pub turns : {B : Type 0} → Of B → TokenKind → Bool
turns turn = among (begins first goes turn)

-- how a syntax is read, with at most d parts in one another
unfoldable pub reading : {A : Type 0} → ℕ → Of A → Parser A
reading d s = reads first goes (read grammar d) s
