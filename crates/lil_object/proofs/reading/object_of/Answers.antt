use Rattle.std.proofs.Common.{refl, arith}
use Rattle.lil_format.specs.Format.{reads}
use Rattle.lil_format.specs.FieldLaws.{all_bytes}
use Rattle.lil_format.specs.FormatLaws.{is_found, is_only}
use Rattle.lil_object.specs.Object.{object}
use Rattle.lil_object.proofs.reading.object_of.Goals as goal

pub returns-clause-exact : goal.returns-clause-exact
returns-clause-exact c = c.to_end.ensures c.args.bytes.now (reads object c.args.bytes.now) refl (rw c.new-source.ensures at c.object-read.ensures)

pub returns-clause-found : goal.returns-clause-found
returns-clause-found c = is_found object _ _ (all_bytes _ (λ i. omega (arith, c.type_inv.bytes i))) (returns-clause-exact c)

pub returns-clause-only : goal.returns-clause-only
returns-clause-only c = is_only object _ _ (returns-clause-exact c)
