-- Words that are the machine's own or in no use become a root that comes to life.
use Rattle.std.proofs.Common.{◌≡◌, ℕ, ◌+◌, ◌<◌, ◌≤◌, ◌⊎◌, inl, inr, Bool, true, false, cond, List, [], length, get_or, refl, sym, ap, ◌∙◌, arith}
use Rattle.std.proofs.lemmas.Bool.{cases_Bool}
use Rattle.lil_resolved.specs.Kinds.{Kind, Scalar, Shape, Absent, Word, words, is_there, part_at, offset}
use Rattle.lil_meaning.specs.Items.{Root, Object, Place, Cells, Under, same_root, stored}
use Rattle.lil_match.specs.{Parts.{yes, no}, Homes.{Owner, Of, Own, Fixed, Home, Ours, ours_root, extends_self, Mem, IsWord, is_word_kept, same_root_eq, fixed_of_none, scalar_owned}}
use Rattle.lil_laws_stmt.specs.Painting.{of_own, painted, painted_there, painted_beside, Side, Before, Between, Behind', side}

abbrev pub adopted : Home → Root → ℕ → Shape → Home
adopted h r b t = record h {
  base = λ s. cond (same_root r s) b (h.base s);
  shape = λ s. cond (same_root r s) t (h.shape s);
  owner = painted h.owner b (b + words t) (λ i. Of r);
}

abbrev pub whole_place : Root → Place
whole_place r = record { root = r; path = [] }

module _ (h : Home) (cells : Cells) (store new : List ℕ) (mem : Mem h cells store) (r : Root) (b : ℕ) (t : Shape) (u : Under) (unborn : h.shape r ≡ Absent) (room : b + words t ≤ 65535)
    (ours : (i : ℕ) → b ≤ i → i < b + words t → Ours (h.owner i)) (stays : (i : ℕ) → (i < b) ⊎ ((b ≤ i) × (b + words t ≤ i)) → get_or new i 0 ≡ get_or store i 0)
    (puts : (q : List ℕ) (k : Kind) → part_at t q ≡ Word k → IsWord (adopted h r b t) k (u q) (get_or new (b + offset t q) 0)) (long : length new ≡ length store) where
  abbrev x : Home
  x = adopted h r b t

  -- a root's word lies beside them
  beside : (i : ℕ) (s : Root) → h.owner i ≡ Of s → (i < b) ⊎ ((b ≤ i) × (b + words t ≤ i))
  beside i s is = by (side b (b + words t) i)
    where
      by : Side b (b + words t) i → (i < b) ⊎ ((b ≤ i) × (b + words t ≤ i))
      by (Before z) = inl z
      by (Between z y) = absurd (ours_root (h.owner i) s (ours i z y) is)
      by (Behind' z y) = inr (z, y)

  -- a word that isn't the new root's was no other's
  was : (i : ℕ) (o : Owner) → (Of r ≡ o → ⊥) → x.owner i ≡ o → (h.owner i ≡ o) × (get_or new i 0 ≡ get_or store i 0)
  was i o other e = by (side b (b + words t) i)
    where
      by : Side b (b + words t) i → (h.owner i ≡ o) × (get_or new i 0 ≡ get_or store i 0)
      by (Before z) = (sym (painted_beside h.owner b (b + words t) (λ j. Of r) i (inl z)) ∙ e, stays i (inl z))
      by (Between z y) = absurd (other (sym (painted_there h.owner b (b + words t) (λ j. Of r) i z y) ∙ e))
      by (Behind' z y) = (sym (painted_beside h.owner b (b + words t) (λ j. Of r) i (inr (z, y))) ∙ e, stays i (inr (z, y)))

  -- an object that lives isn't the new root
  old : (o : ℕ) → is_there (h.shape (Object o)) ≡ true → same_root r (Object o) ≡ false
  old o there = by (same_root r (Object o)) refl
    where
      by : (e : Bool) → same_root r (Object o) ≡ e → same_root r (Object o) ≡ false
      by true is = let gone : is_there (h.shape (Object o)) ≡ false = ap (λ (s : Root). is_there (h.shape s)) (sym (same_root_eq r (Object o) is)) ∙ ap is_there unborn in cc
      by false is = is

  owned : (s : Root) (i : ℕ) → i < words (x.shape s) → x.owner (x.base s + i) ≡ Of s
  owned s i less = by (cases_Bool (same_root r s))
    where
      by : (same_root r s ≡ true) ⊎ (same_root r s ≡ false) → x.owner (x.base s + i) ≡ Of s
      by (inl e) =
          let small : i < words t = omega (arith, less, ap words (yes (same_root r s) t (h.shape s) e)) in
          ap (λ (n : ℕ). x.owner (n + i)) (yes (same_root r s) b (h.base s) e)
          ∙ painted_there h.owner b (b + words t) (λ j. Of r) (b + i) (omega arith) (omega (arith, small))
          ∙ ap Of (same_root_eq r s e)
      by (inr e) =
          let its = mem.owned s i (omega (arith, less, ap words (no (same_root r s) t (h.shape s) e))) in
          ap (λ (n : ℕ). x.owner (n + i)) (no (same_root r s) b (h.base s) e)
          ∙ painted_beside h.owner b (b + words t) (λ j. Of r) (h.base s + i) (beside (h.base s + i) s its)
          ∙ its

  inside : (s : Root) → x.base s + words (x.shape s) ≤ 65535
  inside s = by (cases_Bool (same_root r s))
    where
      by : (same_root r s ≡ true) ⊎ (same_root r s ≡ false) → x.base s + words (x.shape s) ≤ 65535
      by (inl e) = omega (arith, room, yes (same_root r s) b (h.base s) e, ap words (yes (same_root r s) t (h.shape s) e))
      by (inr e) = omega (arith, mem.inside s, no (same_root r s) b (h.base s) e, ap words (no (same_root r s) t (h.shape s) e))

  abbrev Holds : Kind → Scalar → ℕ → ℕ → Type 0
  Holds k v base at = IsWord x k v (get_or new (base + at) 0)

  holds : (s : Root) (q : List ℕ) (k : Kind) → part_at (x.shape s) q ≡ Word k → Holds k (stored cells (whole_place r) u s q) (x.base s) (offset (x.shape s) q)
  holds s q k is = by (cases_Bool (same_root r s))
    where
      by : (same_root r s ≡ true) ⊎ (same_root r s ≡ false) → Holds k (stored cells (whole_place r) u s q) (x.base s) (offset (x.shape s) q)
      by (inl e) =
          let its : part_at t q ≡ Word k = ap (λ (z : Shape). part_at z q) (sym (yes (same_root r s) t (h.shape s) e)) ∙ is in
          rw (yes (same_root r s) (u q) (cells s q) e, yes (same_root r s) b (h.base s) e, yes (same_root r s) t (h.shape s) e) (puts q k its)
      by (inr e) =
          let its : part_at (h.shape s) q ≡ Word k = ap (λ (z : Shape). part_at z q) (sym (no (same_root r s) t (h.shape s) e)) ∙ is in
          let was = mem.holds s q k its in
          rw (no (same_root r s) (u q) (cells s q) e, no (same_root r s) b (h.base s) e, no (same_root r s) t (h.shape s) e)
          (is_word_kept h x (λ o l. no (same_root r (Object o)) b (h.base (Object o)) (old o l)) (λ o l. no (same_root r (Object o)) t (h.shape (Object o)) (old o l)) refl (extends_self h.workspaces) k (cells s q)
          (get_or new (h.base s + offset (h.shape s) q) 0)
          (record { word = stays (h.base s + offset (h.shape s) q) (beside (h.base s + offset (h.shape s) q) s (scalar_owned h cells store s q k mem its).0) ∙ was.word; fits = was.fits; refers = was.refers }))

  -- THE law of birth: an object, and so a local variable
  pub mem_adopted : Mem (adopted h r b t) (stored cells (whole_place r) u) new
  mem_adopted = record {
    owned = owned;
    inside = inside;
    holds = holds;
    kept = λ i e. let w = was i Own (of_own r) e in w.1 ∙ mem.kept i w.0;
    fixed = λ i e. let w = was i Fixed (fixed_of_none r) e in w.1 ∙ mem.fixed i w.0;
    long = long ∙ mem.long;
  }
