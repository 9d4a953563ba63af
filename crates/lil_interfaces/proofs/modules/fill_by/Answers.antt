use Rattle.std.proofs.Common.{◌≡◌, ◌++◌, length, ap, ◌∙◌}
use Rattle.std.proofs.lemmas.Result.{IfOk-weaker}
use Rattle.lil_interfaces.specs.{Moving.with_names, Entering.{with_itself, places, and_origins, numbers_in, with_types}}
use Rattle.lil_interfaces.proofs.Filling.{filled_is}
use Rattle.lil_interfaces.proofs.modules.fill_by.Goals as goal

pub returns : goal.returns
returns c =
    let s = c.args.so_far.now in
    let i = c.args.of.now in
    IfOk-weaker c.add_texts.result _ _
    (λ u texts. filled_is c.args.block s i c.in_ok-add_rests.ensures
    (c.in_ok-places.ensures ∙ ap (λ ws. places ws (with_itself i)) c.as_slice.ensures)
    (c.in_ok-add_origins.ensures ∙ (λ j. and_origins (c.as_slice-2.ensures j) s.origins (c.as_slice-types.ensures j)))
    (c.in_ok-numbers.ensures ∙ (λ j. numbers_in (c.as_slice-3.ensures j) c.add_origins.new.origins (c.as_slice-types.ensures j)))
    (c.in_ok-add_types.ensures ∙ (λ j. with_types (c.as_slice-4.ensures j) c.add_origins.new.origins (c.as_slice-5.ensures j) s.env.types (c.as_slice-types.ensures j)))
    (c.in_ok-add_names.ensures ∙ (λ j. with_names (c.as_slice-6.ensures j) (c.len-start.ensures j) c.args.block s.env.scopes.blocks (c.as_slice-names.ensures j)))
    (texts ∙ ap (λ ts. s.env.texts ++ ts) c.as_slice-7.ensures))
    c.add_texts.ensures
