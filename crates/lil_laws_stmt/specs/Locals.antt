-- All variables of an activation come to life in words of its frame, and go with it.
use Rattle.lil_meaning.specs.Items.{Datum, begun}
use Rattle.std.proofs.Common.{⊎_elim}
use Rattle.std.proofs.lemmas.Bool.{cases_lt}
use Rattle.lil_match.specs.Homes.{IsWord}
use Rattle.lil_match.specs.Kept.{offset_low}
use Rattle.std.proofs.Common.{◌≡◌, ℕ, zero, suc, ◌+◌, ◌<◌, ◌≤◌, ◌⊎◌, inl, inr, Bool, true, false, cond, eqb, List, [], ◌∷◌, Option, Some, get_or, refl, sym, ap, ◌∙◌, subst, arith, eqb-true}
use Rattle.std.specs.Prelude.{slice_get, ◌==◌}
use Rattle.std.proofs.lemmas.{Bool.{cases_Bool, and_parts}, Option.{none-some, same_Some}}
use Rattle.lil_resolved.specs.Kinds.{Kind, Shape, Absent, Word, words, is_there, part_at, offset as part_offset, all_words, offsets_from, shape_at, shape_by}
use Rattle.lil_meaning.specs.Items.{Root, Global, Local, Object, Cells, same_root, stored, with_locals}
use Rattle.lil_match.specs.{Parts.{yes, no}, Homes.{Owner, Of, Own, Fixed, Free, Home, extends_self, Mem, is_word_kept, zero_is, same_root_eq, same_root_refl, own_fixed}}
use Rattle.lil_laws_stmt.specs.{Births.{adopted, whole_place, mem_adopted}, Painting.{own_free, free_fixed, of_own, painted, painted_there, painted_beside, Side, Before, Between, Behind', side}}

-- ---- other cells
-- cells that are the same where a home has scalars
pub mem_seen : (h : Home) (cells other : Cells) (store : List ℕ) → Mem h cells store → ((r : Root) (q : List ℕ) (k : Kind) → part_at (h.shape r) q ≡ Word k → other r q ≡ cells r q) → Mem h other store
mem_seen h cells other store mem same = record {
  owned = mem.owned;
  inside = mem.inside;
  holds = λ r q k is.
      let was = mem.holds r q k is in
      rw (same r q k is) was;
  kept = mem.kept;
  fixed = mem.fixed;
  long = mem.long;
}

pub none_there : (q : List ℕ) (k : Kind) → part_at Absent q ≡ Word k → ⊥
none_there [] k e = cc
none_there (i ∷ q) k e = cc

-- a root's own cells stored there
pub stored_self : (cells : Cells) (r s : Root) (q : List ℕ) → stored cells (whole_place r) (cells r) s q ≡ cells s q
stored_self cells r s q = by (same_root r s) refl
  where
    by : (b : Bool) → same_root r s ≡ b → cond b (cells r q) (cells s q) ≡ cells s q
    by true e = ap (λ (z : Root). cells z q) (same_root_eq r s e)
    by false e = refl

-- ---- the home with them: the first has number x, and begins at b. What was handed in for one is no cell, and its words stay the machine's own
abbrev pub own_shape : Shape → Shape
own_shape t = cond (is_there t) t Absent

own_shape_same : (t : Shape) → is_there t ≡ true → own_shape t ≡ t
own_shape_same t there = yes (is_there t) t Absent there

own_shape_short : (t : Shape) → words (own_shape t) ≤ words t
own_shape_short t = by (is_there t)
  where
    by : (b : Bool) → words (cond b t Absent) ≤ words t
    by true = omega arith
    by false = omega arith

-- one that has a scalar is there
own_shape_there : (t : Shape) (q : List ℕ) (k : Kind) → part_at (own_shape t) q ≡ Word k → (is_there t ≡ true) × (own_shape t ≡ t)
own_shape_there t q k is = by (is_there t) refl is
  where
    by : (b : Bool) → is_there t ≡ b → part_at (cond b t Absent) q ≡ Word k → (is_there t ≡ true) × (own_shape t ≡ t)
    by true e is = (e, own_shape_same t e)
    by false e is = absurd (none_there q k is)

abbrev born_bases : (a x b : ℕ) → List Shape → (Root → ℕ) → Root → ℕ
born_bases a x b [] f = f
born_bases a x b (t ∷ ts) f = born_bases a (suc x) (b + words t) ts (λ s. cond (same_root (Local a x) s) b (f s))

abbrev born_shapes : (a x : ℕ) → List Shape → (Root → Shape) → Root → Shape
born_shapes a x [] f = f
born_shapes a x (t ∷ ts) f = born_shapes a (suc x) ts (λ s. cond (same_root (Local a x) s) (own_shape t) (f s))

abbrev born_owners : (a x b : ℕ) → List Shape → (ℕ → Owner) → ℕ → Owner
born_owners a x b [] f = f
born_owners a x b (t ∷ ts) f = born_owners a (suc x) (b + words t) ts (painted f b (b + words (own_shape t)) (λ i. Of (Local a x)))

abbrev pub born : (a x b : ℕ) → List Shape → Home → Home
born a x b ts h = record h { base = born_bases a x b ts h.base; shape = born_shapes a x ts h.shape; owner = born_owners a x b ts h.owner }

-- a root that is none of them
abbrev pub IsOther : (a x : ℕ) → Root → Type 0
IsOther a x s = (y : ℕ) → x ≤ y → same_root (Local a y) s ≡ false

pub base_other : (a x b : ℕ) (ts : List Shape) (f : Root → ℕ) (s : Root) → IsOther a x s → born_bases a x b ts f s ≡ f s
base_other a x b [] f s other = refl
base_other a x b (t ∷ ts) f s other =
    base_other a (suc x) (b + words t) ts (λ s. cond (same_root (Local a x) s) b (f s)) s (λ y le. other y (omega (arith, le)))
    ∙ no (same_root (Local a x) s) b (f s) (other x (omega arith))

pub shape_other : (a x : ℕ) (ts : List Shape) (f : Root → Shape) (s : Root) → IsOther a x s → born_shapes a x ts f s ≡ f s
shape_other a x [] f s other = refl
shape_other a x (t ∷ ts) f s other =
    shape_other a (suc x) ts (λ s. cond (same_root (Local a x) s) (own_shape t) (f s)) s (λ y le. other y (omega (arith, le)))
    ∙ no (same_root (Local a x) s) (own_shape t) (f s) (other x (omega arith))

-- earlier ones of the same activation
earlier : (a x : ℕ) → IsOther a (suc x) (Local a x)
earlier a x y le = by (same_root (Local a y) (Local a x)) refl
  where
    by : (b : Bool) → same_root (Local a y) (Local a x) ≡ b → b ≡ false
    by true e = absurd (omega (arith, le, eqb-true y x (and_parts (eqb a a) (eqb y x) e).1))
    by false e = refl

-- each has its shape, and begins where the offsets say
pub base_there : (a x b at k : ℕ) (ts : List Shape) (f : Root → ℕ) → b ≡ at + k → (y offset : ℕ) → slice_get (offsets_from k ts) y ≡ Some offset → born_bases a x b ts f (Local a (x + y)) ≡ at + offset
base_there a x b at k [] f is y offset there = absurd (none-some offset there)
base_there a x b at k (t ∷ ts) f is zero offset there =
    ap (λ (z : ℕ). born_bases a (suc x) (b + words t) ts (λ s. cond (same_root (Local a x) s) b (f s)) (Local a z)) (let e : x + 0 ≡ x = omega arith in e)
    ∙ base_other a (suc x) (b + words t) ts (λ s. cond (same_root (Local a x) s) b (f s)) (Local a x) (earlier a x)
    ∙ yes (same_root (Local a x) (Local a x)) b (f (Local a x)) (same_root_refl (Local a x))
    ∙ is ∙ ap (λ (z : ℕ). at + z) (same_Some k offset there)
base_there a x b at k (t ∷ ts) f is (suc y) offset there =
    ap (λ (z : ℕ). born_bases a (suc x) (b + words t) ts (λ s. cond (same_root (Local a x) s) b (f s)) (Local a z)) (let e : x + suc y ≡ suc x + y = omega arith in e)
    ∙ base_there a (suc x) (b + words t) at (k + words t) ts (λ s. cond (same_root (Local a x) s) b (f s)) (omega (arith, is)) y offset there

pub shape_there : (a x : ℕ) (ts : List Shape) (f : Root → Shape) (y : ℕ) (t : Shape) → slice_get ts y ≡ Some t → is_there t ≡ true → born_shapes a x ts f (Local a (x + y)) ≡ t
shape_there a x [] f y t at there = absurd (none-some t at)
shape_there a x (u ∷ ts) f zero t at there =
    ap (λ (z : ℕ). born_shapes a (suc x) ts (λ s. cond (same_root (Local a x) s) (own_shape u) (f s)) (Local a z)) (let e : x + 0 ≡ x = omega arith in e)
    ∙ shape_other a (suc x) ts (λ s. cond (same_root (Local a x) s) (own_shape u) (f s)) (Local a x) (earlier a x)
    ∙ yes (same_root (Local a x) (Local a x)) (own_shape u) (f (Local a x)) (same_root_refl (Local a x))
    ∙ ap own_shape (same_Some u t at)
    ∙ own_shape_same t there
shape_there a x (u ∷ ts) f (suc y) t at there =
    ap (λ (z : ℕ). born_shapes a (suc x) ts (λ s. cond (same_root (Local a x) s) (own_shape u) (f s)) (Local a z)) (let e : x + suc y ≡ suc x + y = omega arith in e)
    ∙ shape_there a (suc x) ts (λ s. cond (same_root (Local a x) s) (own_shape u) (f s)) y t at there

-- what was handed in for one is no root
pub shape_none : (a x : ℕ) (ts : List Shape) (f : Root → Shape) (y : ℕ) (t : Shape) → slice_get ts y ≡ Some t → is_there t ≡ false → born_shapes a x ts f (Local a (x + y)) ≡ Absent
shape_none a x [] f y t at none = absurd (none-some t at)
shape_none a x (u ∷ ts) f zero t at none =
    ap (λ (z : ℕ). born_shapes a (suc x) ts (λ s. cond (same_root (Local a x) s) (own_shape u) (f s)) (Local a z)) (let e : x + 0 ≡ x = omega arith in e)
    ∙ shape_other a (suc x) ts (λ s. cond (same_root (Local a x) s) (own_shape u) (f s)) (Local a x) (earlier a x)
    ∙ yes (same_root (Local a x) (Local a x)) (own_shape u) (f (Local a x)) (same_root_refl (Local a x))
    ∙ ap own_shape (same_Some u t at)
    ∙ no (is_there t) t Absent none
shape_none a x (u ∷ ts) f (suc y) t at none =
    ap (λ (z : ℕ). born_shapes a (suc x) ts (λ s. cond (same_root (Local a x) s) (own_shape u) (f s)) (Local a z)) (let e : x + suc y ≡ suc x + y = omega arith in e)
    ∙ shape_none a (suc x) ts (λ s. cond (same_root (Local a x) s) (own_shape u) (f s)) y t at none

-- their words are theirs, and the others stay
pub owner_other : (a x b : ℕ) (ts : List Shape) (f : ℕ → Owner) (i : ℕ) → (i < b) ⊎ (b + all_words ts ≤ i) → born_owners a x b ts f i ≡ f i
owner_other a x b [] f i o = refl
owner_other a x b (t ∷ ts) f i (inl less) =
    owner_other a (suc x) (b + words t) ts (painted f b (b + words (own_shape t)) (λ j. Of (Local a x))) i (inl (omega (arith, less))) ∙ painted_beside f b (b + words (own_shape t)) (λ j. Of (Local a x)) i (inl less)
owner_other a x b (t ∷ ts) f i (inr more) =
    owner_other a (suc x) (b + words t) ts (painted f b (b + words (own_shape t)) (λ j. Of (Local a x))) i (inr (omega (arith, more)))
    ∙ painted_beside f b (b + words (own_shape t)) (λ j. Of (Local a x)) i (inr (omega (arith, more), omega (arith, more, own_shape_short t)))

pub owner_there : (a x b : ℕ) (ts : List Shape) (f : ℕ → Owner) (i : ℕ) → b ≤ i → i < b + all_words ts → (born_owners a x b ts f i ≡ f i) ⊎ ((y : ℕ) × (born_owners a x b ts f i ≡ Of (Local a y)))
owner_there a x b [] f i from below = absurd (omega (arith, from, below))
owner_there a x b (t ∷ ts) f i from below = by (side b (b + words (own_shape t)) i) (cases_lt i (b + words t)) (owner_there a (suc x) (b + words t) ts (painted f b (b + words (own_shape t)) (λ j. Of (Local a x))) i)
  where
    by : Side b (b + words (own_shape t)) i → (i < b + words t) ⊎ (b + words t ≤ i) → (b + words t ≤ i → i < b + words t + all_words ts → (born_owners a x b (t ∷ ts) f i ≡ painted f b (b + words (own_shape t)) (λ j. Of (Local a x)) i) ⊎ ((y : ℕ) × (born_owners a x b (t ∷ ts) f i ≡ Of (Local a y))))
        → (born_owners a x b (t ∷ ts) f i ≡ f i) ⊎ ((y : ℕ) × (born_owners a x b (t ∷ ts) f i ≡ Of (Local a y)))
    by (Before z) o rest = absurd (omega (arith, z, from))
    by (Between z y) o rest =
        inr (x, owner_other a (suc x) (b + words t) ts (painted f b (b + words (own_shape t)) (λ j. Of (Local a x))) i (inl (omega (arith, y, own_shape_short t))) ∙ painted_there f b (b + words (own_shape t)) (λ j. Of (Local a x)) i z y)
    by (Behind' z y) (inl less) rest = inl (owner_other a (suc x) (b + words t) ts (painted f b (b + words (own_shape t)) (λ j. Of (Local a x))) i (inl less) ∙ painted_beside f b (b + words (own_shape t)) (λ j. Of (Local a x)) i (inr (z, y)))
    by (Behind' z y) (inr more) rest =
        ⊎_elim (λ same. inl (same ∙ painted_beside f b (b + words (own_shape t)) (λ j. Of (Local a x)) i (inr (z, y)))) (λ one. inr one) (rest more (omega (arith, below)))

-- the words of what was handed in stay what they were
pub owner_handed : (a x b at k : ℕ) (ts : List Shape) (f : ℕ → Owner) → b ≡ at + k → (y offset : ℕ) (t : Shape) → slice_get (offsets_from k ts) y ≡ Some offset → slice_get ts y ≡ Some t → is_there t ≡ false → (i : ℕ) → offset ≤ i → i < offset + words t
    → born_owners a x b ts f (at + i) ≡ f (at + i)
owner_handed a x b at k [] f is y offset t there typed none i from below = absurd (none-some offset there)
owner_handed a x b at k (u ∷ ts) f is zero offset t there typed none i from below =
    let here : at + offset ≡ b = omega (arith, is, same_Some k offset there) in
    let same = same_Some u t typed in
    let long : words (own_shape u) ≡ 0 = ap (λ (z : Shape). words (own_shape z)) same ∙ ap words (no (is_there t) t Absent none) in
    owner_other a (suc x) (b + words u) ts (painted f b (b + words (own_shape u)) (λ j. Of (Local a x))) (at + i) (inl (omega (arith, here, below, ap words same)))
    ∙ painted_beside f b (b + words (own_shape u)) (λ j. Of (Local a x)) (at + i) (inr (omega (arith, here, from), omega (arith, here, from, long)))
owner_handed a x b at k (u ∷ ts) f is (suc y) offset t there typed none i from below =
    owner_handed a (suc x) (b + words u) at (k + words u) ts (painted f b (b + words (own_shape u)) (λ j. Of (Local a x))) (omega (arith, is)) y offset t there typed none i from below
    ∙ painted_beside f b (b + words (own_shape u)) (λ j. Of (Local a x)) (at + i) (let low = offset_low (k + words u) ts y offset t there typed in inr (omega (arith, is, low.0, from), omega (arith, is, low.0, from, own_shape_short u)))

-- THE law of a call's variables: they come to life over words that are theirs already
pub mem_born : (a x b at k : ℕ) (ts : List Shape) (h : Home) (cells : Cells) (store : List ℕ) → b ≡ at + k → Mem h cells store → ((y : ℕ) → x ≤ y → h.shape (Local a y) ≡ Absent) → ((i : ℕ) → b ≤ i → i < b + all_words ts → h.owner i ≡ Own)
    → ((y offset : ℕ) (t : Shape) (q : List ℕ) (j : Kind) → slice_get (offsets_from k ts) y ≡ Some offset → slice_get ts y ≡ Some t → is_there t ≡ true → part_at t q ≡ Word j → IsWord h j (cells (Local a (x + y)) q) (get_or store (at + offset + part_offset t q) 0))
    → b + all_words ts ≤ 65535 → Mem (born a x b ts h) cells store
mem_born a x b at k [] h cells store is mem unborn own puts room = mem
mem_born a x b at k (t ∷ ts) h cells store is mem unborn own puts room =
    mem_born a (suc x) (b + words t) at (k + words t) ts (adopted h (Local a x) b (own_shape t)) cells store (omega (arith, is))
    (mem_seen (adopted h (Local a x) b (own_shape t)) (stored cells (whole_place (Local a x)) (cells (Local a x))) cells store
    (mem_adopted h cells store store mem (Local a x) b (own_shape t) (cells (Local a x)) (unborn x (omega arith)) (omega (arith, room, own_shape_short t))
    (λ i from below. inl (own i from (omega (arith, below, own_shape_short t))))
    (λ i o. refl)
    (λ q j typed.
    let there = own_shape_there t q j typed in
    let word = puts 0 k t q j refl refl there.0 (ap (λ (z : Shape). part_at z q) (sym there.1) ∙ typed) in
    let at_is : at + k + part_offset t q ≡ b + part_offset (own_shape t) q = omega (arith, is, ap (λ (z : Shape). part_offset z q) there.1) in
    is_word_kept h (adopted h (Local a x) b (own_shape t)) (λ o e. refl) (λ o e. refl) refl (extends_self h.workspaces) j (cells (Local a x) q) (get_or store (b + part_offset (own_shape t) q) 0)
    (subst (λ (i : ℕ). IsWord h j (cells (Local a x) q) (get_or store i 0)) at_is (subst (λ (y : ℕ). IsWord h j (cells (Local a y) q) (get_or store (at + k + part_offset t q) 0)) (let e : x + 0 ≡ x = omega arith in e) word)))
    refl)
    (λ r q j typed. sym (stored_self cells (Local a x) r q)))
    (λ y le. no (same_root (Local a x) (Local a y)) (own_shape t) (h.shape (Local a y)) (later y le) ∙ unborn y (omega (arith, le)))
    (λ i from below. painted_beside h.owner b (b + words (own_shape t)) (λ j. Of (Local a x)) i (inr (omega (arith, from), omega (arith, from, own_shape_short t))) ∙ own i (omega (arith, from)) (omega (arith, below)))
    (λ y offset u q j at_there typed there is_word.
    is_word_kept h (adopted h (Local a x) b (own_shape t)) (λ o e. refl) (λ o e. refl) refl (extends_self h.workspaces) j (cells (Local a (suc x + y)) q) (get_or store (at + offset + part_offset u q) 0)
    (subst (λ (z : ℕ). IsWord h j (cells (Local a z) q) (get_or store (at + offset + part_offset u q) 0)) (let e : x + suc y ≡ suc x + y = omega arith in e) (puts (suc y) offset u q j at_there typed there is_word)))
    (omega (arith, room))
  where
    later : (y : ℕ) → suc x ≤ y → same_root (Local a x) (Local a y) ≡ false
    later y le = by (same_root (Local a x) (Local a y)) refl
      where
        by : (c : Bool) → same_root (Local a x) (Local a y) ≡ c → c ≡ false
        by true e = absurd (omega (arith, le, eqb-true x y (and_parts (eqb a a) (eqb x y) e).1))
        by false e = refl

-- the cells of an activation that begins, which none of the home's roots has
pub mem_entered : (h : Home) (cells : Cells) (store : List ℕ) (a : ℕ) (done : List Datum) (ts : List Shape) → Mem h cells store → ((y : ℕ) → h.shape (Local a y) ≡ Absent) → Mem h (with_locals cells a done ts) store
mem_entered h cells store a done ts mem unborn = mem_seen h cells (with_locals cells a done ts) store mem same
  where
    same : (r : Root) (q : List ℕ) (k : Kind) → part_at (h.shape r) q ≡ Word k → with_locals cells a done ts r q ≡ cells r q
    same (Global m x) q k is = refl
    same (Object o) q k is = refl
    same (Local b x) q k is = by (b == a) refl
      where
        by : (c : Bool) → (b == a) ≡ c → cond c (begun cells (slice_get done x) (shape_at ts x) q) (cells (Local b x) q) ≡ cells (Local b x) q
        by true e = absurd (none_there q k (ap (λ (t : Shape). part_at t q) (sym (unborn x) ∙ ap (λ (c : ℕ). h.shape (Local c x)) (sym (eqb-true b a e))) ∙ is))
        by false e = refl

pub fresh_local : (cells : Cells) (a : ℕ) (done : List Datum) (ts : List Shape) (y : ℕ) (t : Shape) (q : List ℕ) → slice_get ts y ≡ Some t → with_locals cells a done ts (Local a y) q ≡ begun cells (slice_get done y) t q
fresh_local cells a done ts y t q there = yes (eqb a a) (begun cells (slice_get done y) (shape_at ts y) q) (cells (Local a y) q) (refl_eq a) ∙ ap (λ (o : Option Shape). begun cells (slice_get done y) (shape_by o) q) there
  where
    refl_eq : (a : ℕ) → eqb a a ≡ true
    refl_eq a = (and_parts (eqb a a) (eqb y y) (same_root_refl (Local a y))).0

-- ---- a return
abbrev pub of_activation : ℕ → Root → Bool
of_activation a (Local c x) = a == c
of_activation a r = false

abbrev pub released : Home → (from to base a : ℕ) → Home
released h from to base a = record h {
  shape = λ s. cond (of_activation a s) Absent (h.shape s);
  owner = painted h.owner from to (λ i. Free base);
}

module _ (h : Home) (cells : Cells) (store : List ℕ) (mem : Mem h cells store) (from to base a : ℕ)
    (mine : (i : ℕ) → from ≤ i → i < to → (h.owner i ≡ Own) ⊎ ((x : ℕ) × (h.owner i ≡ Of (Local a x)))) where
  abbrev gone : Home
  gone = released h from to base a

  own_root : (i : ℕ) (s : Root) → h.owner i ≡ Of s → (h.owner i ≡ Own) ⊎ ((x : ℕ) × (h.owner i ≡ Of (Local a x))) → of_activation a s ≡ true
  own_root i s is (inl own) = absurd (of_own s (sym is ∙ own))
  own_root i s is (inr one) =
      let same : Local a one.0 ≡ s = (let e : Of (Local a one.0) ≡ Of s = sym one.1 ∙ is in cc) in
      subst (λ (r : Root). of_activation a r ≡ true) same ((and_parts (eqb a a) (eqb one.0 one.0) (same_root_refl (Local a one.0))).0)

  -- a root that stays
  stays : (s : Root) → of_activation a s ≡ false → (i : ℕ) → h.owner i ≡ Of s → gone.owner i ≡ Of s
  stays s alive i e = by (side from to i)
    where
      by : Side from to i → gone.owner i ≡ Of s
      by (Before z) = painted_beside h.owner from to (λ j. Free base) i (inl z) ∙ e
      by (Between z y) = absurd (let clash : true ≡ false = sym (own_root i s e (mine i z y)) ∙ alive in cc)
      by (Behind' z y) = painted_beside h.owner from to (λ j. Free base) i (inr (z, y)) ∙ e

  was : (i : ℕ) (o : Owner) → (Free base ≡ o → ⊥) → gone.owner i ≡ o → h.owner i ≡ o
  was i o other e = by (side from to i)
    where
      by : Side from to i → h.owner i ≡ o
      by (Before z) = sym (painted_beside h.owner from to (λ j. Free base) i (inl z)) ∙ e
      by (Between z y) = absurd (other (sym (painted_there h.owner from to (λ j. Free base) i z y) ∙ e))
      by (Behind' z y) = sym (painted_beside h.owner from to (λ j. Free base) i (inr (z, y))) ∙ e

  lived : (s : Root) (q : List ℕ) (k : Kind) → part_at (cond (of_activation a s) Absent (h.shape s)) q ≡ Word k → of_activation a s ≡ false
  lived s q k is = by (of_activation a s) refl is
    where
      by : (b : Bool) → of_activation a s ≡ b → part_at (cond b Absent (h.shape s)) q ≡ Word k → b ≡ false
      by true e is = absurd (none_there q k is)
      by false e is = refl

  -- a word that never changes is none of them
  pub fixed_released : (i : ℕ) → h.owner i ≡ Fixed → gone.owner i ≡ Fixed
  fixed_released i e = by (side from to i)
    where
      other : (h.owner i ≡ Own) ⊎ ((x : ℕ) × (h.owner i ≡ Of (Local a x))) → ⊥
      other (inl own) = own_fixed (sym own ∙ e)
      other (inr one) = let clash : Of (Local a one.0) ≡ Fixed = sym one.1 ∙ e in cc

      by : Side from to i → gone.owner i ≡ Fixed
      by (Before z) = painted_beside h.owner from to (λ j. Free base) i (inl z) ∙ e
      by (Between z y) = absurd (other (mine i z y))
      by (Behind' z y) = painted_beside h.owner from to (λ j. Free base) i (inr (z, y)) ∙ e

  -- THE law of a return: the variables go, and their words are in no use
  pub mem_released : Mem (released h from to base a) cells store
  mem_released = record {
    owned = λ s i less. by s i less (cases_Bool (of_activation a s));
    inside = λ s. low s (cases_Bool (of_activation a s));
    holds = λ s q k is.
        let alive = lived s q k is in
        let same : cond (of_activation a s) Absent (h.shape s) ≡ h.shape s = no (of_activation a s) Absent (h.shape s) alive in
        is_word_kept h gone (λ o l. refl) (λ o l. refl) refl (extends_self h.workspaces) k (cells s q) _
        (subst (λ (z : Shape). let w : ℕ = get_or store (h.base s + part_offset z q) 0 in Rattle.lil_match.specs.Homes.IsWord h k (cells s q) w) (sym same) (mem.holds s q k (ap (λ (z : Shape). part_at z q) (sym same) ∙ is)));
    kept = λ i e. mem.kept i (was i Own (λ z. own_free base (sym z)) e);
    fixed = λ i e. mem.fixed i (was i Fixed (free_fixed base) e);
    long = mem.long;
  }
    where
      by : (s : Root) (i : ℕ) → i < words (cond (of_activation a s) Absent (h.shape s)) → (of_activation a s ≡ true) ⊎ (of_activation a s ≡ false) → gone.owner (h.base s + i) ≡ Of s
      by s i less (inl e) = absurd (omega (arith, less, ap words (yes (of_activation a s) Absent (h.shape s) e)))
      by s i less (inr e) = stays s e (h.base s + i) (mem.owned s i (omega (arith, less, ap words (no (of_activation a s) Absent (h.shape s) e))))

      low : (s : Root) → (of_activation a s ≡ true) ⊎ (of_activation a s ≡ false) → h.base s + words (cond (of_activation a s) Absent (h.shape s)) ≤ 65535
      low s (inl e) = omega (arith, mem.inside s, ap words (yes (of_activation a s) Absent (h.shape s) e))
      low s (inr e) = omega (arith, mem.inside s, ap words (no (of_activation a s) Absent (h.shape s) e))
