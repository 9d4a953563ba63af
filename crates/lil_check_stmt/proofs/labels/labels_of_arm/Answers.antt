use Rattle.std.proofs.Common.{rules, arith}
use Rattle.lil_check_stmt.specs.Labels.{label_step}
use Rattle.lil_report.specs.Laws.{said_value, said_more, said_all}
use Rattle.lil_check_stmt.proofs.Forms.{is_label}
use Rattle.lil_check_stmt.proofs.labels.labels_of_arm.Goals as goal

pub loop-one-init : goal.loop-one-init
loop-one-init c = said_value (search rules)

pub loop-one-preserved : goal.loop-one-preserved
loop-one-preserved c = said_more (label_step c.args.env.now c.args.selector) _ c.args.of.now c.loop-one.one-index c.one-item.result c.loop-one-test.true (search rules) c.loop-one.invariant
    (is_label c.args.env.now c.args.selector c.loop-one.labels c.one-item.result c.tag_of-tag.result c.tag_of-tag.ensures c.in_ok-span.ensures (search rules))

pub returns : goal.returns
returns c = said_all (label_step c.args.env.now c.args.selector) _ c.args.of.now c.loop-one.one-index (omega arith) c.loop-one.invariant
