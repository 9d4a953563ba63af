use Rattle.std.proofs.Common.{arith}
use Rattle.lil_format.specs.FieldLaws.{all_bytes}
use Rattle.lil_format.specs.FormatLaws.{is_found, is_only}
use Rattle.lil_symfile.specs.Symbol as spec
use Rattle.lil_symfile.proofs.reading.read_slice.Goals as goal

pub returns-clause-found : goal.returns-clause-found
returns-clause-found c = is_found spec.symbol_file _ _ (all_bytes _ (λ i. omega (arith, c.type_inv.bytes i))) c.file.ensures

pub returns-clause-only : goal.returns-clause-only
returns-clause-only c = is_only spec.symbol_file _ _ c.file.ensures
