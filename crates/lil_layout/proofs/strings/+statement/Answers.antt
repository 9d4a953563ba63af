use Rattle.std.proofs.Common.{min, sym, ap, ◌∙◌, arith}
use Rattle.std.specs.List.{sum_by}
use Rattle.std.proofs.lemmas.List.{take_all}
use Rattle.lil_layout.specs.{Data.{text_words}, Strings.{statement_words, body_words, arm_words}}
use Rattle.lil_layout.proofs.Bodies.{body_is, case_words}
use Rattle.lil_layout.proofs.strings.+statement.Goals as goal

pub body_words-returns : goal.body_words-returns
body_words-returns t c = c.loop-one.invariant ∙ ap (λ n. min n 4294967295) (ap (sum_by statement_words) (take_all c.loop-one.one-index c.args.of.now (omega arith)) ∙ sym (body_is c.args.of.now))

pub statement_words-returns-in-Some : goal.statement_words-returns-in-Some
statement_words-returns-in-Some t c =
    let whole = ap statement_words c.in-Case.is ∙ case_words c.in-Case.value c.in-Case.arms c.in-Case.otherwise in
    let last = ap text_words c.in-Some.is in
    omega (arith, whole, last, ap (sum_by arm_words) c.as_slice-in-Case.ensures, ap body_words c.as_slice-in-Some.ensures)
