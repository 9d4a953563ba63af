use Rattle.lil_compile.proofs.Fitting.{entries_few}
use Rattle.lil_compile.proofs.prepare.prepare.Goals as goal

pub next_key-requires : goal.next_key-requires
next_key-requires c = entries_few c.args.of c.requires.fits
