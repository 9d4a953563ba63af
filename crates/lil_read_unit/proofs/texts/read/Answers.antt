use Rattle.std.proofs.Common.{inr}
use Rattle.lil_read_unit.proofs.{Counting.tokens_few, Wholes.{one_unit, apart_unit, whole_unit, fault_at}}
use Rattle.lil_read_unit.proofs.texts.read.Goals as goal

pub returns-in_err-found-clause-one : goal.returns-in_err-found-clause-one
returns-in_err-found-clause-one c = one_unit c.args.text.now c.in_err-found.ensures.one

pub returns-in_err-found-clause-whole : goal.returns-in_err-found-clause-whole
returns-in_err-found-clause-whole c = whole_unit c.args.text.now c.in_err-found.ensures.whole

pub returns-in_err-found-clause-apart : goal.returns-in_err-found-clause-apart
returns-in_err-found-clause-apart c = apart_unit c.args.text.now c.in_err-found.ensures.one c.in_err-found.ensures.apart

pub unit-requires : goal.unit-requires
unit-requires c = tokens_few c.in_ok-found.ensures.found

pub returns-clause-fault : goal.returns-clause-fault
returns-clause-fault c f is = inr (c.in_ok-found.found, c.in_ok-found.ensures.found, c.unit.ensures.fault f is)

pub returns-clause-exact : goal.returns-clause-exact
returns-clause-exact c f h = c.unit.ensures.exact f (fault_at c.args.text.now c.in_ok-found.ensures.one c.in_ok-found.ensures.apart c.in_ok-found.found c.in_ok-found.ensures.found f h)

pub returns-clause-apart : goal.returns-clause-apart
returns-clause-apart c = apart_unit c.args.text.now c.in_ok-found.ensures.one c.in_ok-found.ensures.apart
