use Rattle.lil_language.specs.{Grammar.statements, Sound.statements_decided}
use Rattle.lil_language.specs.Laws as laws
use Rattle.lil_read_stmt.proofs.cursor.read_statements.Goals as goal

pub returns-clause-found : goal.returns-clause-found
returns-clause-found c = laws.found statements statements_decided c.args.depth c.args.reader.now _ _ c.statements.ensures

pub returns-clause-longest : goal.returns-clause-longest
returns-clause-longest c = laws.longest statements statements_decided c.args.depth c.args.reader.now _ _ c.statements.ensures

pub returns-clause-only : goal.returns-clause-only
returns-clause-only c = laws.only statements statements_decided c.args.depth c.args.reader.now _ _ c.statements.ensures

pub returns-clause-exact : goal.returns-clause-exact
returns-clause-exact c = laws.stops statements statements_decided c.args.depth c.args.reader.now _ _ c.statements.ensures
