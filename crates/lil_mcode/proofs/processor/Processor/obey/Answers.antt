use Rattle.std.proofs.Common.{arith}
use Rattle.lil_mcode.specs.Fetch.{running_code, current}
use Rattle.lil_mcode.proofs.NoRows.{row_bad}
use Rattle.lil_mcode.proofs.processor.Processor.obey.Goals as goal

pub returns-in-0-3 : goal.returns-in-0-3
returns-in-0-3 c =
    let s = c.args.self.now in
    (row_bad s (current s) c.args.first (running_code s) c.args.place (omega arith)).is

pub returns-in-0-4 : goal.returns-in-0-4
returns-in-0-4 c =
    let s = c.args.self.now in
    (row_bad s (current s) c.args.first (running_code s) c.args.place (grind arith)).is
