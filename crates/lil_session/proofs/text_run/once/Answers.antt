use Rattle.lil_session.proofs.Telling.{answered}
use Rattle.lil_session.proofs.text_run.once.Goals as goal

pub returns-clause-answered : goal.returns-clause-answered
returns-clause-answered g c = answered c.report_once.ensures.reported
