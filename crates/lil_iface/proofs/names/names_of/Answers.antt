use Rattle.std.proofs.Common.{◌≡◌, List, ℕ, map, drop, ap, ◌∙◌}
use Rattle.std.specs.List.{flat_map}
use Rattle.std.proofs.lemmas.Result.{IfOk-weaker}
use Rattle.lil_iface.specs.{Iface.{offsets_from, offsets, name_of}, Listed.name_in}
use Rattle.lil_iface.proofs.OwnNames.{names_are, own_is}
use Rattle.lil_iface.proofs.names.names_of.Goals as goal

pub returns : goal.returns
returns c =
    let e = c.args.of.now.env in
    let os : c.in_ok-offsets.offsets ≡ offsets e = c.in_ok-offsets.ensures ∙ ap (offsets_from 0 e.types) c.as_slice.ensures in
    let own = own_is c.args.of.now.imported e c.in_ok-bound.ensures (c.behind.ensures ∙ ap (drop c.args.of.now.imported) c.as_slice-2.ensures) c.in_ok-own.ensures in
    IfOk-weaker c.all_names.result _ _
    (λ ns p.
    p
    ∙ (λ j. flat_map (name_in e (os j) c.in_ok-exports.exports) (map (λ b. b.now) (c.as_slice-3.ensures.value j)))
    ∙ names_are e (offsets e) c.in_ok-exports.exports c.args.exports.now c.in_ok-exports.ensures (map (λ b. b.now) c.in_ok-own.own.items)
    ∙ ap (flat_map (name_of e (offsets e) c.args.exports.now)) own)
    c.all_names.ensures
