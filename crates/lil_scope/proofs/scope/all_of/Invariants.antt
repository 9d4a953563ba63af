use Rattle.std.proofs.Common.{◌≡◌, ◌++◌, map, true}
use Rattle.lil_scope.specs.Names.{are_names, bound_of, seen}
use Rattle.lil_scope.proofs.scope.all_of.Given as goal

abbrev pub invariant-loop-key : goal.invariant-loop-key
invariant-loop-key l =
    (are_names (map seen l.key-iterator) ≡ true) × (map bound_of (map seen l.fn.names.entries) ≡ l.bounds ++ map bound_of (map seen l.key-iterator))
