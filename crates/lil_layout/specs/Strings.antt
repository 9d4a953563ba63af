-- How many words the strings of expressions, of arguments and of statements take.
use Rattle.std.specs.Prelude.{ℕ, ◌+◌, List, length}
use Rattle.lil_resolved.specs.{declared.resolved.{RExpr.RExpr, RRoot.RRoot, RPlace.RPlace, RSelector.RSelector, RMember.RMember, ROperation.{ROperation, out-ROperation}, RArgument.RArgument, RArm.RArm, RGuard.RGuard, RStmt.RStmt}, Kinds.OfSet, Resolved.Held, Sizes.{place_strings, expression_strings, argument_strings, body_strings}}
use Rattle.lil_resolved.specs.Views.{empty_set, expression_of, root_of, place_of, selector_of, member_of, argument_of, statement_of, statements_of}

abbrev pub expression_words : RExpr → ℕ
expression_words e = length (expression_strings (expression_of e))

abbrev pub root_words : RRoot → ℕ
root_words r = length (place_strings (root_of r))

abbrev pub place_words : RPlace → ℕ
place_words p = length (place_strings (place_of p))

-- a part of a place, a member of a set and an operation have those of the expressions in them
abbrev pub selector_words : RSelector → ℕ
selector_words s = length (place_strings (selector_of s (Held 0)))

abbrev pub member_words : RMember → ℕ
member_words m = length (expression_strings (member_of m OfSet empty_set))

abbrev pub operation_words : ROperation → ℕ
operation_words o = expression_words (out-ROperation o).operand

abbrev pub argument_words : RArgument → ℕ
argument_words a = length (argument_strings (argument_of a))

abbrev pub statement_words : RStmt → ℕ
statement_words s = length (body_strings (statement_of s))

abbrev pub body_words : List RStmt → ℕ
body_words ss = length (body_strings (statements_of ss))

-- a guard has those of its condition and of the statements behind its THEN, and an arm of those behind its labels
abbrev pub guard_words : RGuard → ℕ
guard_words g = expression_words g.condition + body_words g.body

abbrev pub arm_words : RArm → ℕ
arm_words a = body_words a.body
