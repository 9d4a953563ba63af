use Rattle.std.proofs.Common.{◌≡◌, ℕ, List, take}
use Rattle.std.specs.List.{list_any}
use Rattle.lil_scope.specs.Names.{same, is_among}
use Rattle.lil_iface.proofs.exports.all_listed.Given as goal

abbrev pub invariant-loop-one : goal.invariant-loop-one
invariant-loop-one l = (n : List ℕ) → is_among l.all n ≡ list_any (λ i. same n i.name) (take l.one-index l.of)
