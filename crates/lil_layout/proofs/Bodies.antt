-- How many words the strings of each form of statement take, as sums over its lists.
use Rattle.std.proofs.Common.{◌≡◌, ℕ, ℤ, ◌+◌, List, [], ◌∷◌, ◌++◌, length, map, Option, Some, None, refl, ap, ◌∙◌, arith, length-append}
use Rattle.std.specs.List.{sum_by}
use Rattle.std.proofs.lemmas.List.Sums.{sum_by-cons}
use Rattle.lil_resolved.specs.{declared.resolved.{RArgument.RArgument, RArm.RArm, RGuard.RGuard, RExpr.RExpr, RPlace.RPlace, RKind.RKind, RVariable.RVariable, Direction.Direction, Membership.Membership, Allocation.Allocation, RStmt.RStmt}, Views.{expression_of, place_of, assign_is, copy_is, text_is, change_is, member_changed_is, new_is, allocate_is, answer_is, call_is, call_value_is, while_is, repeat_is, for_is, inside_is, request_is, if_is, case_is, guard_is, arm_is, arguments_of, statement_of, statements_of, guard_of, arm_of, joined, guarded, armed, arms_of, else_of}, Resolved.{Statements, Empty, Then, Arms}}
use Rattle.lil_resolved.specs.Sizes.{words_of, place_strings, expression_strings, arguments_strings, statement_strings, body_strings, arms_strings}
use Rattle.lil_base.specs.declared.request.Request as request
use Rattle.lil_resolved.specs.declared.resolved.RStmt.TheVariants as v
use Rattle.lil_layout.specs.{Data.text_words, Strings.{expression_words, place_words, argument_words, statement_words, body_words, guard_words, arm_words}}
use Rattle.lil_layout.proofs.Counted.{given_words}

-- ---- statements behind statements
joined_words : (ss more : Statements) → length (body_strings (joined ss more)) ≡ length (body_strings ss) + length (body_strings more)
joined_words Empty more = omega arith
joined_words (Then s ss) more = omega (arith, length-append (statement_strings s) (body_strings (joined ss more)), length-append (statement_strings s) (body_strings ss), joined_words ss more)

pub body_is : (ss : List RStmt) → body_words ss ≡ sum_by statement_words ss
body_is [] = refl
body_is (s ∷ ss) = omega (arith, joined_words (statement_of s) (statements_of ss), body_is ss, sum_by-cons statement_words s ss)

-- one statement alone
alone : (xs : List ℕ) → length (xs ++ []) ≡ length xs
alone xs = omega (arith, length-append xs [])

-- two lists of one statement
both : (xs ys : List ℕ) → length ((xs ++ ys) ++ []) ≡ length xs + length ys
both xs ys = alone (xs ++ ys) ∙ length-append xs ys

pub assign_words : (p : RPlace) (k : RKind) (e : RExpr) → statement_words (v.Assign p k e) ≡ place_words p + expression_words e
assign_words p k e = ap (λ ss. length (body_strings ss)) (assign_is p k e) ∙ both (place_strings (place_of p)) (expression_strings (expression_of e))

pub copy_words : (p from : RPlace) → statement_words (v.Copy p from) ≡ place_words p + place_words from
copy_words p from = ap (λ ss. length (body_strings ss)) (copy_is p from) ∙ both (place_strings (place_of p)) (place_strings (place_of from))

pub string_words : (p : RPlace) (cs : List ℕ) → statement_words (v.Text p cs) ≡ place_words p + length (words_of cs)
string_words p cs = ap (λ ss. length (body_strings ss)) (text_is p cs) ∙ both (place_strings (place_of p)) (words_of cs)

pub change_words : (d : Direction) (p : RPlace) (k : RKind) (e : RExpr) → statement_words (v.Change d p k e) ≡ place_words p + expression_words e
change_words d p k e = ap (λ ss. length (body_strings ss)) (change_is d p k e) ∙ both (place_strings (place_of p)) (expression_strings (expression_of e))

pub member_changed_words : (m : Membership) (p : RPlace) (k : RKind) (e : RExpr) → statement_words (v.Member m p k e) ≡ place_words p + expression_words e
member_changed_words m p k e = ap (λ ss. length (body_strings ss)) (member_changed_is m p k e) ∙ both (place_strings (place_of p)) (expression_strings (expression_of e))

pub new_words : (p : RPlace) (n : ℕ) → statement_words (v.New p n) ≡ place_words p
new_words p n = ap (λ ss. length (body_strings ss)) (new_is p n) ∙ alone (place_strings (place_of p))

pub allocate_words : (w : Allocation) (p : RPlace) (e : RExpr) → statement_words (v.Allocate w p e) ≡ place_words p + expression_words e
allocate_words w p e = ap (λ ss. length (body_strings ss)) (allocate_is w p e) ∙ both (place_strings (place_of p)) (expression_strings (expression_of e))

pub answer_words : (k : RKind) (e : RExpr) → statement_words (v.Answer k e) ≡ expression_words e
answer_words k e = ap (λ ss. length (body_strings ss)) (answer_is k e) ∙ alone (expression_strings (expression_of e))

pub call_words : (p n : ℕ) (given : List RArgument) → statement_words (v.Call p n given) ≡ sum_by argument_words given
call_words p n given = ap (λ ss. length (body_strings ss)) (call_is p n given) ∙ alone (arguments_strings (arguments_of given)) ∙ given_words given

pub call_value_words : (e : RExpr) (given : List RArgument) → statement_words (v.CallValue e given) ≡ expression_words e + sum_by argument_words given
call_value_words e given =
    let called = both (expression_strings (expression_of e)) (arguments_strings (arguments_of given)) in
    ap (λ ss. length (body_strings ss)) (call_value_is e given) ∙ called ∙ ap (λ n. expression_words e + n) (given_words given)

pub while_words : (e : RExpr) (ss : List RStmt) → statement_words (v.While e ss) ≡ expression_words e + body_words ss
while_words e ss = ap (λ ss. length (body_strings ss)) (while_is e ss) ∙ both (expression_strings (expression_of e)) (body_strings (statements_of ss))

pub repeat_words : (ss : List RStmt) (e : RExpr) → statement_words (v.Repeat ss e) ≡ body_words ss + expression_words e
repeat_words ss e = ap (λ ss. length (body_strings ss)) (repeat_is ss e) ∙ both (body_strings (statements_of ss)) (expression_strings (expression_of e))

pub for_words : (x : RVariable) (a b : RExpr) (step : ℤ) (ss : List RStmt) → statement_words (v.For x a b step ss) ≡ expression_words a + expression_words b + body_words ss
for_words x a b step ss =
    let first = expression_strings (expression_of a) in
    let last = expression_strings (expression_of b) in
    let body = body_strings (statements_of ss) in
    omega (arith, ap (λ ss. length (body_strings ss)) (for_is x a b step ss), alone (first ++ last ++ body), length-append (first ++ last) body, length-append first last)

pub inside_words : (p : RPlace) (ss : List RStmt) → statement_words (v.With p ss) ≡ place_words p + body_words ss
inside_words p ss = ap (λ ss. length (body_strings ss)) (inside_is p ss) ∙ both (place_strings (place_of p)) (body_strings (statements_of ss))

pub request_words : (r : request.Request) (given : List RArgument) → statement_words (v.Request r given) ≡ sum_by argument_words given
request_words r given = ap (λ ss. length (body_strings ss)) (request_is r given) ∙ alone (arguments_strings (arguments_of given)) ∙ given_words given

-- ---- guards
guard_before : (g : RGuard) (other : Statements) → length (body_strings (guard_of g other)) ≡ guard_words g + length (body_strings other)
guard_before g other =
    let condition = expression_strings (expression_of g.condition) in
    let body = body_strings (statements_of g.body) in
    omega (arith, ap (λ ss. length (body_strings ss)) (guard_is g other), alone (condition ++ body ++ body_strings other), length-append (condition ++ body) (body_strings other), length-append condition body)

guarded_words : (gs : List RGuard) (other : Statements) → length (body_strings (guarded (map guard_of gs) other)) ≡ sum_by guard_words gs + length (body_strings other)
guarded_words [] other = omega arith
guarded_words (g ∷ gs) other = omega (arith, guard_before g (guarded (map guard_of gs) other), guarded_words gs other, sum_by-cons guard_words g gs)

pub if_words : (gs : List RGuard) (other : List RStmt) → statement_words (v.If gs other) ≡ sum_by guard_words gs + body_words other
if_words gs other = ap (λ ss. length (body_strings ss)) (if_is gs other) ∙ guarded_words gs (statements_of other)

-- ---- arms
arm_before : (a : RArm) (other : Arms) → length (arms_strings (arm_of a other)) ≡ arm_words a + length (arms_strings other)
arm_before a other = ap (λ r. length (arms_strings r)) (arm_is a other) ∙ length-append (body_strings (statements_of a.body)) (arms_strings other)

armed_words : (cases : List RArm) (other : Arms) → length (arms_strings (armed (map arm_of cases) other)) ≡ sum_by arm_words cases + length (arms_strings other)
armed_words [] other = omega arith
armed_words (a ∷ rest) other = omega (arith, arm_before a (armed (map arm_of rest) other), armed_words rest other, sum_by-cons arm_words a rest)

else_words : (other : Option (List RStmt)) → length (arms_strings (else_of other)) ≡ text_words other
else_words None = refl
else_words (Some ss) = refl

pub case_words : (e : RExpr) (cases : List RArm) (other : Option (List RStmt)) → statement_words (v.Case e cases other) ≡ expression_words e + (sum_by arm_words cases + text_words other)
case_words e cases other = ap (λ ss. length (body_strings ss)) (case_is e cases other) ∙ both (expression_strings (expression_of e)) (arms_strings (arms_of cases other))
    ∙ ap (λ n. expression_words e + n) (armed_words cases (else_of other) ∙ ap (λ n. sum_by arm_words cases + n) (else_words other))
