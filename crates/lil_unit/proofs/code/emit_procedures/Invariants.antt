use Rattle.std.proofs.Common.{take, map}
use Rattle.lil_resolved.specs.{Sizes.procedures_strings, Views.procedure_of}
use Rattle.lil_labels.specs.Drafts.{Adds, in_procedure}
use Rattle.lil_unit.specs.Framing.{EachFramed}
use Rattle.lil_unit.proofs.code.emit_procedures.Given as goal

-- the code so far is that of the procedures so far
abbrev pub invariant-loop-i : goal.invariant-loop-i
invariant-loop-i l =
    let ps = map (procedure_of l.fn.code.tables.shapes) (take l.i l.procedures) in
    Adds (procedures_strings ps) l.fn.code (in_procedure l.fn.code.tables.own l.code) (EachFramed 0 ps l.entries)
