use Rattle.std.proofs.Common.{take}
use Rattle.lil_report.specs.Told.{Said, walk}
use Rattle.lil_check_type.specs.Records.{field_step}
use Rattle.lil_check_type.proofs.records.add_fields.Given as goal

abbrev pub invariant-loop-name : goal.invariant-loop-name
invariant-loop-name l = Said (walk (field_step l.sort) l.fn.fields (take l.name-index l.names)) l.fn.report l.fields l.report
