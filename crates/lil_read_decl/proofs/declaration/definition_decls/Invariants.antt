use Rattle.std.proofs.Common.{◌≡◌, ◌-◌}
use Rattle.lil_grammar.specs.Steps.{loop}
use Rattle.lil_syntax.specs.Syntax.{give, ◌◃◌}
use Rattle.lil_language.specs.Grammar as spec
use Rattle.lil_read_decl.proofs.declaration.definition_decls.Given as goal

abbrev pub invariant-loop-turn : goal.invariant-loop-turn
invariant-loop-turn l = spec.reading l.depth spec.definition_decls l.fn.reader ≡ loop (spec.turns (give (λ x. x) ◃ spec.definition_decl)) (spec.turned l.depth (give (λ x. x) ◃ spec.definition_decl) spec.with_last) (l._turn-end - l._turn) l.found l.reader
