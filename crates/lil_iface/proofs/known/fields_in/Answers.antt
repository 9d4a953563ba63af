use Rattle.std.proofs.Common.{◌∙◌}
use Rattle.lil_iface.specs.Known.{field_in}
use Rattle.lil_iface.proofs.Mapped.{mapped_more}
use Rattle.lil_iface.proofs.known.fields_in.Goals as goal

pub loop-one-preserved : goal.loop-one-preserved
loop-one-preserved c = c.in_ok-more.ensures.more ∙ mapped_more field_in c.args.of.now c.loop-one.one-index c.one-item.result c.loop-one.all c.loop-one-test.true c.one-item.is c.loop-one.invariant
