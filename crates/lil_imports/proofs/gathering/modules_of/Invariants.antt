use Rattle.std.proofs.Common.{◌≡◌, ◌+◌, ◌++◌, map, drop}
use Rattle.lil_imports.specs.Gathering.{modules_of}
use Rattle.lil_imports.proofs.gathering.modules_of.Given as goal

abbrev pub invariant-loop-one : goal.invariant-loop-one
invariant-loop-one l = map (λ i. i.now) l.all.items ++ modules_of (drop l.one-index l.of) ≡ modules_of l.of

abbrev pub invariant-loop-name : goal.invariant-loop-name
invariant-loop-name l = map (λ i. i.now) l.all.items ++ (drop l.name-index l.name-items ++ modules_of (drop (l.one-index + 1) l.of)) ≡ modules_of l.of
