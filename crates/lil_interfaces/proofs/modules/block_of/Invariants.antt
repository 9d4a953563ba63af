use Rattle.std.proofs.Common.{◌≡◌, drop}
use Rattle.lil_interfaces.specs.Imports.{block_of}
use Rattle.lil_interfaces.proofs.modules.block_of.Given as goal

-- none of those before has the name
abbrev pub invariant-loop-one : goal.invariant-loop-one
invariant-loop-one l = block_of (drop l.one-index l.modules) l.name ≡ block_of l.modules l.name
