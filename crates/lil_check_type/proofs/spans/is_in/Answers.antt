use Rattle.std.proofs.Common.{refl, sym, ◌∙◌, arith}
use Rattle.lil_check_type.proofs.Lists.{value_at, no_value}
use Rattle.lil_check_type.proofs.spans.is_in.Goals as goal

pub loop-u-init : goal.loop-u-init
loop-u-init c = refl

pub returns-then-meets : goal.returns-then-meets
returns-then-meets c = sym (value_at c.args.items.now c.args.s c.loop-u.u-index _ c.loop-u-test.true c.loop-u.invariant (sym c.meets.ensures ∙ c.if-meets.true))

pub loop-u-preserved : goal.loop-u-preserved
loop-u-preserved c = value_at c.args.items.now c.args.s c.loop-u.u-index _ c.loop-u-test.true c.loop-u.invariant (sym c.meets.ensures ∙ c.if-meets.false)

pub returns : goal.returns
returns c = sym (no_value c.args.items.now c.args.s c.loop-u.u-index (omega arith) c.loop-u.invariant)
