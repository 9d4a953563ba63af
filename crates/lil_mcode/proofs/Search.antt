-- The search of the entries of CASE, one by one.
use Rattle.std.proofs.Common.{◌≡◌, ℕ, zero, suc, ◌+◌, ◌-◌, ◌≤◌, false, List, refl, ap, ◌∙◌, arith}
use Rattle.lil_asm.specs.Bytes.{Entry}
use Rattle.lil_mcode.specs.Control.{chosen, is_in}

pub chosen_later : (code : List ℕ) (n p x other low high target : ℕ) → Entry code p low high target → is_in low high x ≡ false → chosen code (suc n) p x other ≡ chosen code n (p + 6) x other
chosen_later code n p x other low high target e h = rw (e.low_at, e.high_at, e.target_at, h) refl

pub found_later : (code : List ℕ) (n p x other low high target : ℕ) → 1 ≤ n → Entry code p low high target → is_in low high x ≡ false → chosen code n p x other ≡ chosen code (n - 1) (p + 6) x other
found_later code zero p x other low high target some e h = absurd (omega arith)
found_later code (suc n) p x other low high target some e h =
    let back : n ≡ suc n - 1 = omega arith in
    chosen_later code n p x other low high target e h ∙ ap (λ (k : ℕ). chosen code k (p + 6) x other) back
