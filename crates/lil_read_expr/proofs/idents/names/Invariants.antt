use Rattle.std.proofs.Common.{◌≡◌, ◌-◌}
use Rattle.lil_text.specs.declared.token.Mark.TheVariants as m
use Rattle.lil_grammar.specs.Steps.{loop}
use Rattle.lil_language.specs.Grammar as spec
use Rattle.lil_read_expr.proofs.idents.names.Given as goal

abbrev pub invariant-loop-turn : goal.invariant-loop-turn
invariant-loop-turn l = spec.reading l.depth spec.names l.fn.reader ≡ loop (spec.turns (spec.behind (spec.mark m.Comma) spec.name)) (spec.turned l.depth (spec.behind (spec.mark m.Comma) spec.name) spec.with_last) (l._turn-end - l._turn) l.found l.reader
