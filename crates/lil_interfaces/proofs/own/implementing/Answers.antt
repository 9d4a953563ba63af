use Rattle.std.proofs.Common.{◌≡◌, ◌∷◌, [], ◌∙◌}
use Rattle.lil_interfaces.specs.{Own.with_own_names, Entering.{places, and_origins, numbers_in, with_types}}
use Rattle.lil_interfaces.proofs.Owning.{implementing_is}
use Rattle.lil_interfaces.proofs.own.implementing.Goals as goal

pub returns : goal.returns
returns c =
    let i = c.args.of.now in
    implementing_is i c.in_ok-so_far.ensures c.in_ok-rests.ensures
    (c.in_ok-places.ensures ∙ (λ j. 0 ∷ places (c.as_slice.ensures j) (c.as_slice-2.ensures j)))
    (c.in_ok-add_origins.ensures ∙ (λ j. and_origins (c.as_slice-3.ensures j) (c.new-origins.ensures j) (c.as_slice-types.ensures j)))
    (c.in_ok-numbers.ensures ∙ (λ j. numbers_in (c.as_slice-4.ensures j) c.add_origins.new.origins (c.as_slice-types.ensures j)))
    (c.in_ok-table.ensures ∙ (λ j. with_types (c.as_slice-5.ensures j) c.add_origins.new.origins (c.as_slice-numbers.ensures j) [] (c.as_slice-types.ensures j)))
    c.in_ok-so_far-2.ensures
    (c.in_ok-add_own_names.ensures ∙ (λ j. with_own_names (c.as_slice-numbers.ensures j) c.in_ok-so_far-2.field-0 (c.as_slice-names.ensures j)))
