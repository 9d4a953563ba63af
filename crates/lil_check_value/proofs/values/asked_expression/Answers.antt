use Rattle.lil_language.specs.Trees.{first_place}
use Rattle.lil_check_value.specs.Values.{means}
use Rattle.lil_check_value.proofs.Forms.{is_asked}
use Rattle.lil_check_value.proofs.values.asked_expression.Goals as goal

pub returns : goal.returns
returns c = is_asked (first_place c.args.of.now) (means c.args.env.now c.args.of.now) c.new-own.ensures c.in_ok-found.ensures c.first_place-first.ensures c.is_untold-untold.ensures c.note.ensures c.note_all.ensures
