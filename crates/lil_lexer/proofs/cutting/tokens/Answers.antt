use Rattle.lil_lexer.proofs.CutLaws.{owes, tokens_read, fault_read, tokens_or_fault, never_both, tokens_unique}
use Rattle.lil_lexer.proofs.cutting.tokens.Goals as goal

pub returns-clause-only : goal.returns-clause-only
returns-clause-only c = λ ts h. owes c.cut.result c.cut.ensures.found c.cut.ensures.fault (rw (← c.as_slice.ensures) at (tokens_read h))

pub returns-clause-exact : goal.returns-clause-exact
returns-clause-exact c = λ f h. owes c.cut.result c.cut.ensures.found c.cut.ensures.fault (rw (← c.as_slice.ensures) at (fault_read h))

pub returns-clause-whole : goal.returns-clause-whole
returns-clause-whole c = tokens_or_fault c.args.t.now

pub returns-clause-apart : goal.returns-clause-apart
returns-clause-apart c = λ ts f h k. never_both h k

pub returns-clause-one : goal.returns-clause-one
returns-clause-one c = λ ts us h k. tokens_unique h k
