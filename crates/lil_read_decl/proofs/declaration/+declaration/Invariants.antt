use Rattle.std.proofs.Common.{◌≡◌, ◌+◌, ◌-◌, ◌*◌}
use Rattle.lil_grammar.specs.Steps.{loop}
use Rattle.lil_syntax.specs.Syntax.{give, ◌◃◌}
use Rattle.lil_language.specs.Grammar as spec
use Rattle.lil_read_decl.proofs.declaration.+declaration.Given as goal

abbrev pub decreases-procedure : goal.decreases-procedure
decreases-procedure l = 8 * l.depth + 0

abbrev pub decreases-procedure_part : goal.decreases-procedure_part
decreases-procedure_part l = 8 * l.depth + 1

abbrev pub decreases-decl : goal.decreases-decl
decreases-decl l = 8 * l.depth + 2

abbrev pub decreases-decls : goal.decreases-decls
decreases-decls l = 8 * l.depth + 3

abbrev pub decreases-block : goal.decreases-block
decreases-block l = 8 * l.depth + 4

abbrev pub decreases-a_procedure : goal.decreases-a_procedure
decreases-a_procedure l = 8 * l.depth + 5

abbrev pub invariant-decls-loop-turn : goal.invariant-decls-loop-turn
invariant-decls-loop-turn l = spec.reading l.depth spec.decls l.fn.reader ≡ loop (spec.turns (give (λ x. x) ◃ spec.decl)) (spec.turned l.depth (give (λ x. x) ◃ spec.decl) spec.with_last) (l._turn-end - l._turn) l.found l.reader
