use Rattle.lil_session.proofs.{Telling.answered, Defining.{defined, left_again}}
use Rattle.lil_session.proofs.top.lilith.Goals as goal

pub returns-clause-answered : goal.returns-clause-answered
returns-clause-answered g c = λ none. answered (c.dispatch.ensures.reported none)

pub returns-clause-compiled : goal.returns-clause-compiled
returns-clause-compiled g c = λ name is. defined (c.dispatch.ensures.compiled name is)

pub returns-clause-left : goal.returns-clause-left
returns-clause-left g c = λ m n old new.
    left_again c.args.words.now (g.V.Volume.files c.args.volume.now) (g.V.Volume.files c.dispatch.new.volume) m n old new
    (λ none. (c.dispatch.ensures.reported none).ran.files) (λ name is. (c.dispatch.ensures.compiled name is).compiled.files)
