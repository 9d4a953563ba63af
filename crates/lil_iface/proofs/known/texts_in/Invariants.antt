use Rattle.std.proofs.Common.{◌≡◌, take}
use Rattle.std.specs.List.{flat_map}
use Rattle.lil_iface.specs.Known.{text_of}
use Rattle.lil_iface.proofs.known.texts_in.Given as goal

abbrev pub invariant-loop-one : goal.invariant-loop-one
invariant-loop-one l = l.all ≡ flat_map (λ y. text_of y.class) (take l.one-index l.of)
