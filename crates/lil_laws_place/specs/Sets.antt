-- The words of sets, and of the numbers that they get or lose.
use Rattle.std.proofs.Common.{◌≡◌, ℕ, ◌≤◌, Bool, true, false, not, ◌&&◌, List, ◌∷◌, refl, sym, ap, ◌∙◌, arith}
use Rattle.std.specs.Prelude.{ℤ, pos, negsuc, ◌≤ℤ◌, int_lt, nat_le, nat_lt}
use Rattle.std.proofs.lemmas.{Bool.{and_parts, le-ltb}, Int.ints}
use Rattle.lil_base.specs.{Words.word_of, Laws.bounds, Sets.{set_word, union, minus, span}}
use Rattle.lil_resolved.specs.{Kinds.{Kind, OfSet, is_element, least, greatest, nat_of, Scalar, SetOf, within, scalar_word, ordinal_of, members_of}, Members.{united, without, from_to}, MemberLaws.{word_united, word_without}}
use Rattle.lil_meaning.specs.Steps.{with_span, with_member}
use Rattle.lil_asm.specs.declared.instr.Instr.TheVariants.{Spn}
use Rattle.lil_mcode.specs.{declared.machine.Event.{Event, TheVariants.Went}, Table.{Module, State, act, going, one_more, one_less}}
use Rattle.lil_match.specs.{Arithmetic.word_is, Parts.no, Ranges.fits_has}

pub not_true : (b : Bool) → not b ≡ true → b ≡ false
not_true false h = refl
not_true true h = cc

and_false : (a b : Bool) → b ≡ false → (a && b) ≡ false
and_false true b h = h
and_false false b h = refl

-- a value's word is its number, from 0 to 15
pub record IsMember (v : Scalar) : Type 0 where
  pub less : scalar_word v ≤ 15
  pub number : nat_of (ordinal_of v) ≡ scalar_word v

pub member_is : (k : Kind) (v : Scalar) → is_element k ≡ true → within k v ≡ true → IsMember v
member_is k v element fits =
    let b = bounds (least k) (ordinal_of v) (greatest k) (fits_has k v fits) in
    let e = and_parts (not (int_lt (least k) (pos 0))) (not (int_lt (pos 15) (greatest k))) element in
    by (ordinal_of v) refl (omega (arith, ints, b.0, not_true _ e.0)) (omega (arith, ints, b.1, not_true _ e.1))
  where
    by : (z : ℤ) → ordinal_of v ≡ z → pos 0 ≤ℤ z → z ≤ℤ pos 15 → IsMember v
    by (pos n) e low high =
        let w : scalar_word v ≡ n = word_is v ∙ ap word_of e in
        record { less = omega (arith, ints, w, high); number = ap nat_of e ∙ sym w }
    by (negsuc n) e low high = absurd (omega (arith, ints, low))

-- the word of a set
pub set_of : (u : Scalar) → within OfSet u ≡ true → scalar_word u ≡ set_word (members_of u)
set_of (SetOf s) fits = refl
set_of u fits = cc

module _ (u a b : Scalar) (fits : within OfSet u ≡ true) (low : IsMember a) (high : IsMember b) where
  of_numbers : (f : (ℕ → Bool) → (ℕ → Bool) → ℕ → Bool) → set_word (f (members_of u) (from_to (scalar_word a) (scalar_word b))) ≡ set_word (f (members_of u) (from_to (nat_of (ordinal_of a)) (nat_of (ordinal_of b))))
  of_numbers f =
      ap (λ (n : ℕ). set_word (f (members_of u) (from_to n (scalar_word b)))) (sym low.number)
      ∙ ap (λ (n : ℕ). set_word (f (members_of u) (from_to (nat_of (ordinal_of a)) n))) (sym high.number)

  pub span_word : union (scalar_word u) (span (scalar_word a) (scalar_word b)) ≡ scalar_word (with_span u a b)
  span_word =
      ap (λ (t : ℕ). union t (span (scalar_word a) (scalar_word b))) (set_of u fits)
      ∙ word_united (members_of u) (from_to (scalar_word a) (scalar_word b))
      ∙ of_numbers united

  pub less_word : minus (scalar_word u) (span (scalar_word a) (scalar_word b)) ≡ set_word (without (members_of u) (from_to (nat_of (ordinal_of a)) (nat_of (ordinal_of b))))
  less_word =
      ap (λ (t : ℕ). minus t (span (scalar_word a) (scalar_word b))) (set_of u fits)
      ∙ word_without (members_of u) (from_to (scalar_word a) (scalar_word b))
      ∙ of_numbers without

  -- the instruction that puts them in
  pub span_act : (own : Module) (m : State) (below : List ℕ) (p q : ℕ)
      → act Spn q own (going m p (scalar_word b ∷ scalar_word a ∷ scalar_word u ∷ below)) ≡ (let r : Event × State = (Went, going m q (scalar_word (with_span u a b) ∷ below)) in r)
  span_act own m below p q =
      no _ _ _ (and_false (nat_le (scalar_word a) (scalar_word b)) (nat_lt 15 (scalar_word b)) (le-ltb 15 (scalar_word b) high.less))
      ∙ ap (λ (w : ℕ). let r : Event × State = (Went, going m q (w ∷ below)) in r) span_word

-- what INCL and EXCL make of the word of a set
abbrev pub member_change : Bool → ℕ → ℕ → ℕ
member_change false = one_more
member_change true = one_less

pub member_word : (out : Bool) (u v : Scalar) → within OfSet u ≡ true → IsMember v → member_change out (scalar_word u) (scalar_word v) ≡ scalar_word (with_member out u v)
member_word false u v fits is = span_word u v v fits is is
member_word true u v fits is = less_word u v v fits is is
