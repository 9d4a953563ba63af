use Rattle.lil_syntax.specs.Syntax.{reads}
use Rattle.lil_language.specs.{Grammar.{expr, reading}, Sound.expr_decided}
use Rattle.lil_language.specs.Laws as laws
use Rattle.lil_read_stmt.proofs.cursor.read_expression.Goals as goal

pub returns-clause-found : goal.returns-clause-found
unfolding reading reads
returns-clause-found c = laws.found expr expr_decided c.args.depth c.args.reader.now _ _ c.expr.ensures

pub returns-clause-longest : goal.returns-clause-longest
unfolding reading reads
returns-clause-longest c = laws.longest expr expr_decided c.args.depth c.args.reader.now _ _ c.expr.ensures

pub returns-clause-only : goal.returns-clause-only
unfolding reading reads
returns-clause-only c = laws.only expr expr_decided c.args.depth c.args.reader.now _ _ c.expr.ensures

pub returns-clause-exact : goal.returns-clause-exact
unfolding reading reads
returns-clause-exact c = laws.stops expr expr_decided c.args.depth c.args.reader.now _ _ c.expr.ensures
