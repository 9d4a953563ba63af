use Rattle.std.proofs.Common.{take, [], Some}
use Rattle.lil_report.specs.Told.{Said, walk}
use Rattle.lil_operators.specs.{Operations.{no_elements}, Gathering.{Gathers}}
use Rattle.lil_check_value.specs.Values as spec
use Rattle.lil_check_value.proofs.values.+expression.Given as goal

abbrev pub invariant-all_arguments-loop-one : goal.invariant-all_arguments-loop-one
invariant-all_arguments-loop-one l = Said (walk (spec.argument_means l.env l.asked) [] (take l.one-index l.of)) l.fn.report l.all l.report

abbrev pub invariant-all_selected-loop-one : goal.invariant-all_selected-loop-one
invariant-all_selected-loop-one l = Said (walk (spec.step_means l.env) l.fn.of (take l.one-index l.selectors)) l.fn.report l.of l.report

abbrev pub invariant-elements-loop-one : goal.invariant-elements-loop-one
invariant-elements-loop-one l = Gathers l.env.types l.sort (walk (spec.joins_mean l.env l.sort) (Some no_elements) (take l.one-index l.elements)) l.fn.report l.all l.report

abbrev pub invariant-indexed-loop-one : goal.invariant-indexed-loop-one
invariant-indexed-loop-one l = Said (walk (spec.index_means l.env l.bracket) l.fn.of (take l.one-index l.indexes)) l.fn.report l.of l.report

abbrev pub invariant-operated-loop-one : goal.invariant-operated-loop-one
invariant-operated-loop-one l = Said (walk (spec.operation_means l.env l.first) l.fn.of (take l.one-index l.operations)) l.fn.report l.of l.report
