use Rattle.std.proofs.Common.{◌≡◌, ◌-◌}
use Rattle.lil_text.specs.declared.token.Mark.TheVariants as m
use Rattle.lil_grammar.specs.Steps.{loop}
use Rattle.lil_language.specs.Grammar as spec
use Rattle.lil_read_type.proofs.ordinal.simples.Given as goal

abbrev pub invariant-loop-turn : goal.invariant-loop-turn
invariant-loop-turn l = spec.reading l.depth spec.simples l.fn.reader ≡ loop (spec.turns (spec.behind (spec.mark m.Comma) spec.simple)) (spec.turned l.depth (spec.behind (spec.mark m.Comma) spec.simple) spec.with_last) (l._turn-end - l._turn) l.found l.reader
