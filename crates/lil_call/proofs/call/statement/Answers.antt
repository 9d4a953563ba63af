use Rattle.std.proofs.Common.{refl}
use Rattle.lil_call.specs.declared.call.Callee.TheVariants as callee
use Rattle.lil_call.specs.Calls.{of_procedure, of_variable, of_resident}
use Rattle.lil_call.proofs.Steps.{statement_as}
use Rattle.lil_call.proofs.call.statement.Goals as goal

pub returns-in-Procedure : goal.returns-in-Procedure
returns-in-Procedure c = statement_as c.args.t.now c.args.first c.args.arguments _ (callee.Procedure c.in-Procedure.sort c.in-Procedure.number c.in-Procedure.levels) _ (of_procedure c.in-Procedure.sort c.in-Procedure.number c.in-Procedure.levels) c.statement_call.result c.args.report.now c.statement_call.new.report c.in-Procedure.is c.of_procedure-v.ensures refl c.statement_call.ensures

pub returns-in-Variable : goal.returns-in-Variable
returns-in-Variable c = statement_as c.args.t.now c.args.first c.args.arguments _ (callee.Variable c.in-Variable.sort c.in-Variable.depth c.in-Variable.value) _ (of_variable c.in-Variable.sort c.in-Variable.depth c.in-Variable.value) c.statement_call-in-Variable.result c.args.report.now c.statement_call-in-Variable.new.report c.in-Variable.is c.of_variable-v.ensures refl c.statement_call-in-Variable.ensures

pub returns-in-Resident : goal.returns-in-Resident
returns-in-Resident c = statement_as c.args.t.now c.args.first c.args.arguments _ (callee.Resident c.in-Resident.number c.in-Resident.sort) _ (of_resident c.in-Resident.number c.in-Resident.sort) c.statement_call-in-Resident.result c.args.report.now c.statement_call-in-Resident.new.report c.in-Resident.is c.of_resident-v.ensures refl c.statement_call-in-Resident.ensures
