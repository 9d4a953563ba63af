use Rattle.lil_forms.proofs.Bytes.{bytes_are}
use Rattle.lil_forms.proofs.statements.note_characters.Goals as goal

pub returns : goal.returns
returns c = bytes_are c.args.of.now c.type_inv.of
