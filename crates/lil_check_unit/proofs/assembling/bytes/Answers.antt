use Rattle.std.proofs.Common.{◌≡◌, ℕ, ◌+◌, map, get_or, Some, None, if◌then◌else◌, refl, sym, ap, arith}
use Rattle.lil_check_unit.proofs.Making.{bytes_next, numbers_next, no_byte}
use Rattle.lil_check_unit.proofs.assembling.bytes.Goals as goal

pub returns-then-number-ge255 : goal.returns-then-number-ge255
returns-then-number-ge255 c =
    let xs = c.args.of.now in
    ap (λ b. if b then Some (map (λ n. n + 1) xs) else None) (sym (no_byte xs c.loop-number.number-index (get_or xs c.loop-number.number-index 0) c.loop-number-test.true refl c.if-number-ge255.true))

pub loop-number-preserved : goal.loop-number-preserved
loop-number-preserved c =
    let xs = c.args.of.now in
    let i = c.loop-number.number-index in
    let x : ℕ = get_or xs i 0 in
    (bytes_next xs i x c.loop-number-test.true refl c.loop-number.invariant.0 (omega (arith, c.if-number-ge255.false)), numbers_next xs i x c.loop-number-test.true refl c.loop-number.invariant.1 refl c.in_ok-push.ensures.ok)
