use Rattle.lil_session.proofs.Pieces.{put_or_cut, put_or_rose}
use Rattle.lil_session.proofs.report.try_put.Goals as goal

pub returns-clause-prefix : goal.returns-clause-prefix
returns-clause-prefix g c = put_or_cut (g.R.Sink.written c.args.report.now) (g.R.Sink.written c.put.new.self) c.args.piece.now c.put.result c.put.ensures.ok c.put.ensures.err

pub returns-clause-tried : goal.returns-clause-tried
returns-clause-tried g c = put_or_rose (g.R.Sink.written c.args.report.now) (g.R.Sink.written c.put.new.self) c.args.piece.now (g.R.Sink.faults c.args.report.now) (g.R.Sink.faults c.put.new.self) c.put.result c.put.ensures.ok c.put.ensures.cause.failed
