use Rattle.std.proofs.Common.{rules}
use Rattle.lil_check_decl.proofs.Forms.{is_procedure}
use Rattle.lil_check_decl.proofs.decl.+declarations.Goals as goal

pub decl-returns-in_ok-inside_block-in-Some : goal.decl-returns-in_ok-inside_block-in-Some
decl-returns-in_ok-inside_block-in-Some t c = is_procedure _ c.in-ProcIs.head c.in-Some.body _ c.in-ProcIs.is c.in-Some.is (search rules) c.len-number.ensures c.in_ok-heading-in-ProcIs.ensures c.len-waiting.ensures c.in_ok-around-in-Some.ensures.around c.in_ok-around-in-Some.ensures.inside c.in_ok-inside_block-in-Some.ensures c.leave.ensures
