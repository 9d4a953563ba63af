use Rattle.std.proofs.Common.{◌≡◌, sym, ◌∙◌, length, arith}
use Rattle.std.proofs.lemmas.Bool.{eqb-true}
use Rattle.lil_base.specs.Faults.{fault}
use Rattle.lil_text.specs.Lexical.{start, here, too_long, stopped}
use Rattle.lil_lexer.proofs.CutLaws.{cut_next, cut_whole}
use Rattle.lil_lexer.proofs.cutting.cut.Goals as goal

pub returns-then-text-gt-LONGEST_TEXT-clause-fault : goal.returns-then-text-gt-LONGEST_TEXT-clause-fault
returns-then-text-gt-LONGEST_TEXT-clause-fault c = λ f e. let same : fault 65 start ≡ f = cc in rw (← same) (too_long c.if-text-gt-LONGEST_TEXT.true)

pub loop-rest-init : goal.loop-rest-init
loop-rest-init c = record {
  cut = rw c.new-found.ensures here;
  room = omega arith;
}

pub returns-in_err-what-clause-fault : goal.returns-in_err-what-clause-fault
returns-in_err-what-clause-fault c = λ f e.
    let same = rw e at c.from_residual.ensures.1 in
    stopped c.if-text-gt-LONGEST_TEXT.false c.loop-rest.invariant.cut (rw (← same) at c.in_err-what.ensures)

pub loop-rest-preserved : goal.loop-rest-preserved
loop-rest-preserved c = record {
  cut = cut_next c.loop-rest.invariant.cut c.in_ok-what.ensures c.in_ok-found.ensures c.behind-place.ensures.value c.split_at.ensures.front c.split_at.ensures.back;
  room = omega arith;
}

pub returns-clause-found : goal.returns-clause-found
returns-clause-found c =
    let none = eqb-true (length c.loop-rest.rest.now) 0 (sym c.is_empty.ensures ∙ c.loop-rest-test.false) in
    cut_whole c.if-text-gt-LONGEST_TEXT.false c.loop-rest.invariant.cut none c.in_ok-with_token.ensures
