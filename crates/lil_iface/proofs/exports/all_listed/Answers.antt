use Rattle.lil_iface.proofs.Among.{listed_more}
use Rattle.lil_iface.proofs.exports.all_listed.Goals as goal

pub loop-one-preserved : goal.loop-one-preserved
loop-one-preserved c = listed_more c.loop-one.all c.add.new.self c.args.of.now c.loop-one.one-index c.one-item.result c.loop-one-test.true c.one-item.is c.in_ok-add.ensures c.loop-one.invariant
