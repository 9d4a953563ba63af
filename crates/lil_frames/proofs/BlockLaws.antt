-- Blocks that lie apart, one more of them, and some of them gone.
use Rattle.std.proofs.Common.{◌≡◌, ℕ, suc, ◌+◌, ◌-◌, ◌*◌, ◌≤◌, Bool, true, false, List, [], ◌∷◌, ◌++◌, length, Some, None, slice_get, nat_lt, if◌then◌else◌, refl, sym, ap, ◌∙◌, arith}
use Rattle.lil_frames.specs.{declared.blocks.Block.Block, Blocks.{lowest_of, Apart, of_lower}}

pub lowest_more : (above : ℕ) (bs : List Block) (b : Block) → lowest_of above (bs ++ b ∷ []) ≡ b.at - 2
lowest_more above [] b = refl
lowest_more above (x ∷ bs) b = lowest_more (x.at - 2) bs b

pub apart_more : (above : ℕ) (bs : List Block) (b : Block) → Apart above bs → 2 ≤ b.at → b.at + b.words ≤ lowest_of above bs → Apart above (bs ++ b ∷ [])
apart_more above [] b h two below = (two, below, h)
apart_more above (x ∷ bs) b h two below = (h.0, h.1, apart_more (x.at - 2) bs b h.2 two below)

-- each block has two words of its own
pub apart_room : (above : ℕ) (bs : List Block) → Apart above bs → lowest_of above bs + 2 * length bs ≤ above
apart_room above [] h = omega arith
apart_room above (x ∷ bs) h = let rest = apart_room (x.at - 2) bs h.2 in omega (arith, h.0, h.1)

pub apart_higher : (above higher : ℕ) (bs : List Block) → above ≤ higher → Apart above bs → Apart higher bs
apart_higher above higher [] le h = h
apart_higher above higher (x ∷ bs) le h = (h.0, omega (arith, h.1), h.2)

pub lowest_last : (above : ℕ) (bs : List Block) (b : Block) → slice_get bs (length bs - 1) ≡ Some b → lowest_of above bs ≡ b.at - 2
lowest_last above [] b h = let none : None ≡ Some b = h in cc
lowest_last above (x ∷ []) b h =
    let one : length (x ∷ []) - 1 ≡ 0 = omega arith in
    let same : Some x ≡ Some b = ap (slice_get (x ∷ [])) (sym one) ∙ h in
    let it : x ≡ b = cc in
    ap (λ (y : Block). y.at - 2) it
lowest_last above (x ∷ y ∷ bs) b h =
    let on : suc (length (y ∷ bs) - 1) ≡ length (x ∷ y ∷ bs) - 1 = omega arith in
    lowest_last (x.at - 2) (y ∷ bs) b (ap (slice_get (x ∷ y ∷ bs)) on ∙ h)

kept_or_not : (above : ℕ) (x : Block) (rest : List Block) → 2 ≤ x.at → x.at + x.words ≤ above → Apart (x.at - 2) rest → (keeps : Bool) → Apart above (if keeps then x ∷ rest else rest)
kept_or_not above x rest two below apart true = (two, below, apart)
kept_or_not above x rest two below apart false = apart_higher (x.at - 2) above rest (omega (arith, two, below)) apart

pub apart_lower : (level above : ℕ) (bs : List Block) → Apart above bs → Apart above (of_lower level bs)
apart_lower level above [] h = h
apart_lower level above (x ∷ bs) h = kept_or_not above x (of_lower level bs) h.0 h.1 (apart_lower level (x.at - 2) bs h.2) (nat_lt x.level level)
