use Rattle.std.proofs.Common.{ap, min, nat_lt, ◌∙◌}
use Rattle.lil_layout.specs.Data.{data_words}
use Rattle.lil_check_unit.proofs.Limits.{too_long}
use Rattle.lil_check_unit.proofs.modules.is_too_long.Goals as goal

pub returns : goal.returns
returns c =
    let d = c.args.of.now.declared in
    let s = c.args.of.now.stated in
    ap (nat_lt 32000) (c.data_words-words.ensures ∙ (λ j. min (data_words d.types (c.as_slice.ensures j) (c.as_slice-2.ensures j) s.body) 4294967295)) ∙ too_long (data_words d.types d.variables s.procedures s.body)
