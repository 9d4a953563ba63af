use Rattle.std.proofs.Common.{◌≡◌, ◌∙◌, false, sym, arith}
use Rattle.std.proofs.lemmas.Bool.{lt-leb}
use Rattle.lil_mcode.specs.Control.{above, is_in}
use Rattle.lil_mcode.proofs.Search.{found_later}
use Rattle.lil_asm.specs.Bytes.{Entry}
use Rattle.lil_mcode.proofs.processor.control.chosen_place.Goals as goal

pub loop-left-preserved : goal.loop-left-preserved
loop-left-preserved c =
    let code = c.args.code.now in
    let at = c.loop-left.at in
    let low = c.in_ok-low.low in
    let high = c.in_ok-high.high in
    let target = c.in_ok-target.target in
    let entry : Entry code at low high target = record { low_at = sym c.in_ok-low.ensures.value; high_at = sym c.in_ok-high.ensures.value; target_at = sym c.in_ok-target.ensures.value } in
    let outside : is_in low high c.args.x ≡ false = lt-leb (above low c.args.x) (above low high) (rw (sym c.distance.ensures, sym c.distance-in-loop-left.ensures) c.if-distance.false) in (
      c.loop-left.invariant.0 ∙ found_later code c.loop-left.left at c.args.x c.args.other low high target (omega (arith, c.loop-left-test.true)) entry outside,
      omega (arith, c.loop-left.invariant.1, c.loop-left-test.true),
    )
