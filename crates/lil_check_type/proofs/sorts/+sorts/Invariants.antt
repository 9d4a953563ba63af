use Rattle.std.proofs.Common.{take}
use Rattle.lil_report.specs.Told.{Said, walk}
use Rattle.lil_check_type.specs.{Labels.no_labels, Sorts.{Part, Cased, list_step, variant_step}}
use Rattle.lil_check_type.proofs.sorts.+sorts.Given as goal

abbrev pub invariant-each_list-loop-one : goal.invariant-each_list-loop-one
invariant-each_list-loop-one l = Said {A = Part} (walk list_step (l.fn.env, l.fn.fields) (take l.one-index l.fn.of)) l.fn.report (l.env, l.fields) l.report

abbrev pub invariant-each_variant-loop-one : goal.invariant-each_variant-loop-one
invariant-each_variant-loop-one l = Said {A = Cased} (walk (variant_step l.tag) ((l.fn.env, l.fn.fields), no_labels) (take l.one-index l.fn.of)) l.fn.report ((l.env, l.fields), l.before) l.report
