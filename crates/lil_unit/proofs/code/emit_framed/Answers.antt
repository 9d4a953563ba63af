use Rattle.std.specs.Option.{option_map}
use Rattle.lil_resolved.specs.Views.{kind_view, statements_of}
use Rattle.lil_unit.proofs.Modules.{is_framed}
use Rattle.lil_unit.proofs.code.emit_framed.Goals as goal

pub returns : goal.returns
returns c =
    is_framed (option_map kind_view c.args.frame.kind) c.leave_instr.result (statements_of c.args.body.now) c.args.frame.words c.frame_words.result c.args.frame.locals.now c.args.frame.parameters _ _ _ _ _
    c.leave_instr.ensures.is c.frame_words.ensures c.in_ok-put.ensures c.in_ok-emit_copies.ensures c.in_ok-emit_body.ensures c.in_ok-put-2.ensures
