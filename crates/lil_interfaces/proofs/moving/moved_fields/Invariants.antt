use Rattle.std.proofs.Common.{◌≡◌, take, map}
use Rattle.lil_interfaces.specs.Moving.{moved_field}
use Rattle.lil_interfaces.proofs.moving.moved_fields.Given as goal

abbrev pub invariant-loop-one : goal.invariant-loop-one
invariant-loop-one l = l.all ≡ map (moved_field l.numbers) (take l.one-index l.of)
