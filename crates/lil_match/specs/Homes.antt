-- Where the meaning's cells lie in the store.
use Rattle.std.proofs.Common.{◌≡◌, ℕ, zero, suc, ◌+◌, ◌-◌, ◌*◌, ◌<◌, ◌≤◌, Bool, true, false, eqb, List, [], ◌∷◌, ◌++◌, length, get_or, set, take, drop, refl, sym, ap, ◌∙◌, subst, ◌⊎◌, inl, inr, ⊎_elim, arith, length-set, length-drop}
use Rattle.std.proofs.lemmas.{Bool.{eq-eqb, ltb-true, ne_eqb, cases_Bool, cases_eq, cases_lt, eqb-true, and_parts, and_from}, List.{get_or-set_same, get_or-set_other, get_or-take, get_or-drop, length-take-le}, Int.ints}
use Rattle.std.specs.Prelude.{Some, slice_get, ◌==◌, pos, nat_lt, nat_le, if◌then◌else◌}
use Rattle.lil_base.specs.{Words.{Cardinal, between}, Sets.set_word}
use Rattle.lil_resolved.specs.{Members.no_members, MemberLaws.word_none}
use Rattle.lil_resolved.specs.Kinds.{Pointee, Objects, Workspaces, Kind, OfWhole, OfTruth, OfCharacter, OfEnumeration, OfSet, OfPointer, OfProcedure, OfRange, base_of, is_plain, alike, takes_value, Scalar, Number, Truth, Character, SetOf, ToObject, ToWorkspace, ToProcedure, procedure_word, Nil, is_reference, within, scalar_word, ordinal_of, zero_of, Shape, Absent, Word, Row, Signature, Outline, outline_signature, procedure_by, words, is_there, part_at, offset, shape_at}
use Rattle.lil_resolved.specs.Sound.{is_character, is_text}
use Rattle.lil_meaning.specs.Items.{Root, Global, Local, Object, Place, part_of, Cells, Under, under, rest_behind, at_rest, same_root, stored, alone, text_under}
use Rattle.lil_frames.specs.Words.{spliced}
use Rattle.lil_match.specs.{Parts.{yes, no, part_fits, part_append, offset_append, Inside, Outside, word_long, parts}, Splices.{spliced_length, spliced_before, spliced_there, spliced_after}}

-- whose a word of the store is: a root's, the machine's own, one that never changes, or in no use, as room of the stack with this base
pub data Owner : Type 0 where
  Of : (r : Root) → Owner
  Own : Owner
  Fixed : Owner
  Free : (base : ℕ) → Owner

-- what is said of the module whose words these are: what pointers point to and what procedures of procedure types have, by the numbers of their
-- types, its procedures, from number 1, and its own number
pub record Listed : Type 0 where
  pub targets : List Shape
  pub signatures : List Signature
  pub procedures : List Outline
  pub number : ℕ

pub record Home : Type 0 where
  pub base : Root → ℕ
  -- absent where the root does not live
  pub shape : Root → Shape
  pub owner : ℕ → Owner
  -- what the machine's own words and those that never change are
  pub shadow : ℕ → ℕ
  pub listed : Listed
  -- where the workspaces begin, by their numbers
  pub workspaces : List ℕ

-- the first word of a place, and what lies there
abbrev pub address : Home → Place → ℕ
address h p = h.base p.root + offset (h.shape p.root) p.path

abbrev pub shape_there : Home → Place → Shape
shape_there h p = part_at (h.shape p.root) p.path

-- the word of a scalar: of a reference the first word of that object or workspace, of a procedure those of its module and its own number, else its number
abbrev pub word_for : Home → Scalar → ℕ
word_for h (ToObject o) = h.base (Object o)
word_for h (ToWorkspace w) = get_or h.workspaces w 0
word_for h (ToProcedure m p) = procedure_word m p
word_for h v = scalar_word v

-- a procedure of the module that is a value of the procedure type with this number: it is declared in no other, and has what that asks
pub record IsRoutine (listed : Listed) (n m p : ℕ) : Type 0 where
  pub here : m ≡ listed.number
  pub low : p < 256
  pub its : Outline
  pub known : procedure_by listed.procedures p ≡ Some its
  pub declared : its.around ≡ []
  pub same : slice_get listed.signatures n ≡ Some (outline_signature its)

-- a pointer leads to an object that is what its type points to, an address to a workspace, and a procedure is one of its type
abbrev pub Refers : Home → Kind → Scalar → Type 0
Refers h (OfPointer (Objects n)) (ToObject o) = (is_there (h.shape (Object o)) ≡ true) × (h.shape (Object o) ≡ shape_at h.listed.targets n)
Refers h (OfPointer Workspaces) (ToWorkspace w) = w < length h.workspaces
Refers h (OfProcedure n) (ToProcedure m p) = IsRoutine h.listed n m p
Refers h (OfRange base low high) v = Refers h base v
Refers h _ _ = Unit {0}

-- A scalar of a kind, as a word. A fresh cell of a range may lie outside of it, so the scalar is one of the kind that the range was taken from.
pub record IsWord (h : Home) (k : Kind) (v : Scalar) (w : ℕ) : Type 0 where
  pub word : w ≡ word_for h v
  pub fits : within (base_of k) v ≡ true
  pub refers : Refers h k v

-- the first has the same addresses, and may have more behind them
abbrev pub Extends : (more addresses : List ℕ) → Type 0
Extends more addresses = (w : ℕ) → w < length addresses → (w < length more) × (get_or more w 0 ≡ get_or addresses w 0)

pub extends_self : (addresses : List ℕ) → Extends addresses addresses
extends_self addresses w less = (less, refl)

-- the roots that live, as far as a home tells
abbrev pub lives : Home → Root → Bool
lives h (Global m x) = true
lives h r = is_there (h.shape r)

-- a value of a kind that has no references
plain_value : (k : Kind) (v : Scalar) → is_plain k ≡ true → within k v ≡ true → is_reference v ≡ false
plain_value (OfRange base low high) v plain e = plain_value base v plain (and_parts (within base v) (between low (ordinal_of v) high) e).0
plain_value (OfPointer to) v plain e = cc
plain_value (OfProcedure n) v plain e = cc
plain_value (OfWhole t) (Number z) plain e = refl
plain_value OfTruth (Truth b) plain e = refl
plain_value OfCharacter (Character c) plain e = refl
plain_value (OfEnumeration n) (Number z) plain e = refl
plain_value OfSet (SetOf s) plain e = refl
plain_value k v plain e = cc

word_alone : (h : Home) (v : Scalar) → is_reference v ≡ false → word_for h v ≡ scalar_word v
word_alone h (ToObject o) e = cc
word_alone h (ToWorkspace w) e = cc
word_alone h (ToProcedure m p) e = cc
word_alone h v e = refl

pub plain_word : (h : Home) (k : Kind) (v : Scalar) → is_plain k ≡ true → within k v ≡ true → word_for h v ≡ scalar_word v
plain_word h k v plain e = word_alone h v (plain_value k v plain e)

pub plain_refers : (h : Home) (k : Kind) (v : Scalar) → is_plain k ≡ true → Refers h k v
plain_refers h (OfRange base low high) v plain = plain_refers h base v plain
plain_refers h (OfPointer n) v plain = cc
plain_refers h (OfProcedure n) v plain = cc
plain_refers h _ v plain = tt

pub refers_base : (h : Home) (k : Kind) (v : Scalar) → Refers h k v → Refers h (base_of k) v
refers_base h (OfRange base low high) v r = refers_base h base v r
refers_base h k v r = r

-- kinds of which values may be stored in one another, but pointers
pub alike_plain : (k j : Kind) → alike k j ≡ true → (is_plain k ≡ true) × (is_plain j ≡ true)
alike_plain (OfWhole s) (OfWhole t) e = (refl, refl)
alike_plain OfTruth OfTruth e = (refl, refl)
alike_plain OfCharacter OfCharacter e = (refl, refl)
alike_plain (OfEnumeration m) (OfEnumeration n) e = (refl, refl)
alike_plain OfSet OfSet e = (refl, refl)
alike_plain _ _ e = cc

pub base_plain : (k : Kind) → is_plain (base_of k) ≡ is_plain k
base_plain (OfRange base low high) = base_plain base
base_plain _ = refl

pub takes_plain : (k j : Kind) → takes_value k j ≡ true → (is_plain k ≡ true) × (is_plain j ≡ true)
takes_plain k j e = let p = alike_plain (base_of k) j e in (sym (base_plain k) ∙ p.0, p.1)

-- a value of a kind is one of the kind that it was taken from
pub within_base : (k : Kind) (v : Scalar) → within k v ≡ true → within (base_of k) v ≡ true
within_base (OfRange base low high) v h = within_base base v (and_parts (within base v) (between low (ordinal_of v) high) h).0
within_base _ v h = h

-- the store has the cells, the machine's own words, and those that never change
pub record Mem (h : Home) (cells : Cells) (store : List ℕ) : Type 0 where
  pub owned : (r : Root) (i : ℕ) → i < words (h.shape r) → h.owner (h.base r + i) ≡ Of r
  pub inside : (r : Root) → h.base r + words (h.shape r) ≤ 65535
  pub holds : (r : Root) (q : List ℕ) (k : Kind) → part_at (h.shape r) q ≡ Word k → IsWord h k (cells r q) (get_or store (h.base r + offset (h.shape r) q) 0)
  pub kept : (a : ℕ) → h.owner a ≡ Own → get_or store a 0 ≡ h.shadow a
  pub fixed : (a : ℕ) → h.owner a ≡ Fixed → get_or store a 0 ≡ h.shadow a
  pub long : length store ≡ 65536

pub same_root_eq : (a b : Root) → same_root a b ≡ true → a ≡ b
same_root_eq (Global m x) (Global n y) h = let p = and_parts (eqb m n) (eqb x y) h in cc (eqb-true m n p.0, eqb-true x y p.1)
same_root_eq (Local m x) (Local n y) h = let p = and_parts (eqb m n) (eqb x y) h in cc (eqb-true m n p.0, eqb-true x y p.1)
same_root_eq (Object m) (Object n) h = ap Object (eqb-true m n h)
same_root_eq _ _ h = cc

pub same_root_refl : (a : Root) → same_root a a ≡ true
same_root_refl (Global m x) = and_from (eqb m m) (eqb x x) (eq-eqb m m refl) (eq-eqb x x refl)
same_root_refl (Local m x) = and_from (eqb m m) (eqb x x) (eq-eqb m m refl) (eq-eqb x x refl)
same_root_refl (Object m) = eq-eqb m m refl

of_same : (r s : Root) → Of r ≡ Of s → r ≡ s
of_same r s e = cc

own_of_none : (r : Root) → Of r ≡ Own → ⊥
own_of_none r e = cc

pub fixed_of_none : (r : Root) → Of r ≡ Fixed → ⊥
fixed_of_none r e = cc

pub own_fixed : Own ≡ Fixed → ⊥
own_fixed e = cc

pub of_free : (r : Root) (b : ℕ) → Of r ≡ Free b → ⊥
of_free r b e = cc

absent_no : (k : Kind) → Absent ≡ Word k → ⊥
absent_no k e = cc

-- ---- zero as a word
zero_word : (k : Kind) → scalar_word (zero_of k) ≡ 0
zero_word (OfRange k low high) = zero_word k
zero_word OfSet = eqb-true (set_word no_members) 0 (word_none no_members)
zero_word _ = refl

zero_constant : (n : ℕ) → between (pos 0) (pos 0) (pos n) ≡ true
zero_constant n = grind (arith, ints)

zero_fits : (k : Kind) → within (base_of k) (zero_of k) ≡ true
zero_fits (OfWhole Cardinal) = refl
zero_fits (OfEnumeration n) = zero_constant (n - 1)
zero_fits (OfRange k low high) = zero_fits k
zero_fits _ = refl

zero_refers : (h : Home) (k : Kind) → Refers h k (zero_of k)
zero_refers h (OfRange base low high) = zero_refers h base
zero_refers h (OfPointer (Objects n)) = tt
zero_refers h (OfPointer Workspaces) = tt
zero_refers h _ = tt

zero_for : (h : Home) (k : Kind) → word_for h (zero_of k) ≡ scalar_word (zero_of k)
zero_for h (OfRange base low high) = zero_for h base
zero_for h _ = refl

-- a fresh cell
pub zero_is : (h : Home) (k : Kind) (v : Scalar) (w : ℕ) → v ≡ zero_of k → w ≡ 0 → IsWord h k v w
zero_is h k v w fresh none = record {
  word = none ∙ sym (zero_word k) ∙ sym (zero_for h k) ∙ ap (word_for h) (sym fresh);
  fits = ap (within (base_of k)) fresh ∙ zero_fits k;
  refers = subst (Refers h k) (sym fresh) (zero_refers h k);
}

-- homes that agree on the objects that live and on the workspaces have the same words, and pointers lead to the same
module _ (h x : Home) (base : (o : ℕ) → is_there (h.shape (Object o)) ≡ true → x.base (Object o) ≡ h.base (Object o)) (shape : (o : ℕ) → is_there (h.shape (Object o)) ≡ true → x.shape (Object o) ≡ h.shape (Object o))
    (listed : x.listed ≡ h.listed) (workspaces : Extends x.workspaces h.workspaces) where
  pointer_kept : (to : Pointee) (v : Scalar) → within (OfPointer to) v ≡ true → Refers h (OfPointer to) v → word_for h v ≡ word_for x v
  pointer_kept (Objects n) (ToObject o) e r = sym (base o r.0)
  pointer_kept Workspaces (ToWorkspace w) e r = sym (workspaces w r).1
  pointer_kept to Nil e r = refl
  pointer_kept to v e r = cc

  plain_kept : (k : Kind) (v : Scalar) → is_plain k ≡ true → within k v ≡ true → word_for h v ≡ word_for x v
  plain_kept k v plain e = plain_word h k v plain e ∙ sym (plain_word x k v plain e)

  pub word_kept : (k : Kind) (v : Scalar) → within k v ≡ true → Refers h k v → word_for h v ≡ word_for x v
  word_kept (OfRange under low high) v e r = word_kept under v (and_parts (within under v) (between low (ordinal_of v) high) e).0 r
  word_kept (OfPointer to) v e r = pointer_kept to v e r
  word_kept (OfProcedure n) (ToProcedure m p) e r = refl
  word_kept (OfProcedure n) Nil e r = refl
  word_kept (OfProcedure n) v e r = cc
  word_kept (OfWhole t) v e r = plain_kept (OfWhole t) v refl e
  word_kept OfTruth v e r = plain_kept OfTruth v refl e
  word_kept OfCharacter v e r = plain_kept OfCharacter v refl e
  word_kept (OfEnumeration n) v e r = plain_kept (OfEnumeration n) v refl e
  word_kept OfSet v e r = plain_kept OfSet v refl e

  pub refers_kept : (k : Kind) (v : Scalar) → Refers h k v → Refers x k v
  refers_kept (OfRange under low high) v r = refers_kept under v r
  refers_kept (OfPointer (Objects n)) (ToObject o) r = (ap is_there (shape o r.0) ∙ r.0, shape o r.0 ∙ r.1 ∙ ap (λ (ls : Listed). shape_at ls.targets n) (sym listed))
  refers_kept (OfPointer Workspaces) (ToWorkspace w) r = (workspaces w r).0
  refers_kept (OfProcedure n) (ToProcedure m p) r = subst (λ (ls : Listed). IsRoutine ls n m p) (sym listed) r
  refers_kept _ v r = tt

  pub is_word_kept : (k : Kind) (v : Scalar) (w : ℕ) → IsWord h k v w → IsWord x k v w
  is_word_kept k v w i = record { word = i.word ∙ word_kept (base_of k) v i.fits (refers_base h k v i.refers); fits = i.fits; refers = refers_kept k v i.refers }

-- under a scalar there is that scalar alone
alone_path : (q : List ℕ) (k j : Kind) → part_at (Word k) q ≡ Word j → (k ≡ j) × (offset (Word k) q ≡ 0)
alone_path [] k j e = (let same : k ≡ j = cc in same, refl)
alone_path (x ∷ q) k j e = absurd (absent_no j e)

-- the word of a scalar's place is its root's, and lies in the store
pub scalar_owned : (h : Home) (cells : Cells) (store : List ℕ) (r : Root) (q : List ℕ) (k : Kind) → Mem h cells store → part_at (h.shape r) q ≡ Word k
    → (h.owner (h.base r + offset (h.shape r) q) ≡ Of r) × (h.base r + offset (h.shape r) q < 65536)
scalar_owned h cells store r q k mem is =
    let fits : offset (h.shape r) q < words (h.shape r) = omega (arith, part_fits (h.shape r) q (ap is_there is), word_long (part_at (h.shape r) q) k is) in
    (mem.owned r (offset (h.shape r) q) fits, omega (arith, mem.inside r, fits))

-- the words of a place lie in the store
pub place_inside : (h : Home) (cells : Cells) (store : List ℕ) (p : Place) → Mem h cells store → is_there (shape_there h p) ≡ true → address h p + words (shape_there h p) ≤ 65535
place_inside h cells store p mem there = omega (arith, mem.inside p.root, part_fits (h.shape p.root) p.path there)

-- a part of a place lies so many words behind it
pub part_there : (h : Home) (p : Place) (x : ℕ) → is_there (shape_there h p) ≡ true
    → (shape_there h (part_of p x) ≡ part_at (shape_there h p) (x ∷ [])) × (address h (part_of p x) ≡ address h p + offset (shape_there h p) (x ∷ []))
part_there h p x there = (
  part_append (h.shape p.root) p.path (x ∷ []) there,
  omega (arith, offset_append (h.shape p.root) p.path (x ∷ []) there),
)

-- each character of a string is one, and so is 0C behind it
pub text_character : (cs : List ℕ) (i : ℕ) → is_text cs ≡ true → nat_le (get_or cs i 0) 255 ≡ true
text_character [] i e = refl
text_character (c ∷ cs) zero e = (and_parts (is_character c) (is_text cs) e).0
text_character (c ∷ cs) (suc i) e = text_character cs i (and_parts (is_character c) (is_text cs) e).1

-- The words of a place are those of new scalars, and no others have changed.
pub record Wrote (h : Home) (p : Place) (u : Under) (store new : List ℕ) : Type 0 where
  pub there : (q : List ℕ) (k : Kind) → part_at (shape_there h p) q ≡ Word k → IsWord h k (u q) (get_or new (address h p + offset (shape_there h p) q) 0)
  pub beside : (a : ℕ) → (a < address h p) ⊎ (address h p + words (shape_there h p) ≤ a) → get_or new a 0 ≡ get_or store a 0
  pub long : length new ≡ length store

-- THE law of stores: the cells of the place alone have changed
module _ (h : Home) (cells : Cells) (store new : List ℕ) (p : Place) (u : Under) (mem : Mem h cells store) (living : is_there (shape_there h p) ≡ true) (wrote : Wrote h p u store new) where
  -- a word that isn't the root's lies beside the place
  clear : (a : ℕ) → (h.owner a ≡ Of p.root → ⊥) → (a < address h p) ⊎ (address h p + words (shape_there h p) ≤ a)
  clear a foreign = by (cases_lt a (address h p)) (cases_lt a (address h p + words (shape_there h p)))
    where
      by : (a < address h p) ⊎ (address h p ≤ a) → (a < address h p + words (shape_there h p)) ⊎ (address h p + words (shape_there h p) ≤ a) → (a < address h p) ⊎ (address h p + words (shape_there h p) ≤ a)
      by (inl l) e = inl l
      by s (inr g) = inr g
      by (inr g) (inl l) =
          let at : h.base p.root + (a - h.base p.root) ≡ a = omega (arith, g) in
          absurd (foreign (ap h.owner (sym at) ∙ mem.owned p.root (a - h.base p.root) (omega (arith, g, l, part_fits (h.shape p.root) p.path living))))

  abbrev Holds : Root → List ℕ → Kind → Type 0
  Holds s q j = IsWord h j (stored cells p u s q) (get_or new (h.base s + offset (h.shape s) q) 0)

  -- another word
  other : (s : Root) (q : List ℕ) (j : Kind) → part_at (h.shape s) q ≡ Word j → stored cells p u s q ≡ cells s q
      → (h.base s + offset (h.shape s) q < address h p) ⊎ (address h p + words (shape_there h p) ≤ h.base s + offset (h.shape s) q) → Holds s q j
  other s q j e value apart =
      let old = mem.holds s q j e in
      record {
        word = wrote.beside (h.base s + offset (h.shape s) q) apart ∙ old.word ∙ ap (word_for h) (sym value);
        fits = ap (within (base_of j)) value ∙ old.fits;
        refers = subst (Refers h j) (sym value) old.refers;
      }

  -- a scalar of the same root
  own_root : (q : List ℕ) (j : Kind) → part_at (h.shape p.root) q ≡ Word j → Inside (h.shape p.root) p.path q ⊎ Outside (h.shape p.root) p.path q → Holds p.root q j
  own_root q j e (inl i) =
      let here = yes (same_root p.root p.root) (at_rest u (cells p.root q) (rest_behind p.path q)) (cells p.root q) (same_root_refl p.root) in
      let value : stored cells p u p.root q ≡ u i.rest = here ∙ ap (at_rest u (cells p.root q)) i.is in
      let new_word = wrote.there i.rest j (sym i.part ∙ e) in
      let same : h.base p.root + offset (h.shape p.root) q ≡ address h p + offset (shape_there h p) i.rest = omega (arith, i.at) in
      record {
        word = ap (λ (a : ℕ). get_or new a 0) same ∙ new_word.word ∙ ap (word_for h) (sym value);
        fits = ap (within (base_of j)) value ∙ new_word.fits;
        refers = subst (Refers h j) (sym value) new_word.refers;
      }
  own_root q j e (inr o) =
      let here = yes (same_root p.root p.root) (at_rest u (cells p.root q) (rest_behind p.path q)) (cells p.root q) (same_root_refl p.root) in
      other p.root q j e (here ∙ ap (at_rest u (cells p.root q)) o.is)
      (⊎_elim (λ (l : offset (h.shape p.root) q < offset (h.shape p.root) p.path). inl (omega (arith, l)))
      (λ (g : offset (h.shape p.root) p.path + words (shape_there h p) ≤ offset (h.shape p.root) q). inr (omega (arith, g))) o.apart)

  by : (s : Root) (q : List ℕ) (j : Kind) → part_at (h.shape s) q ≡ Word j → (same_root p.root s ≡ true) ⊎ (same_root p.root s ≡ false) → Holds s q j
  by s q j e (inl is) =
      let one : p.root ≡ s = same_root_eq p.root s is in
      let of_own : part_at (h.shape p.root) q ≡ Word j = ap (λ (z : Root). part_at (h.shape z) q) one ∙ e in
      subst (λ (z : Root). Holds z q j) one (own_root q j of_own (parts (h.shape p.root) p.path q j living of_own))
  by s q j e (inr is) =
      other s q j e (no (same_root p.root s) (at_rest u (cells s q) (rest_behind p.path q)) (cells s q) is)
      (clear (h.base s + offset (h.shape s) q)
      (λ mine.
      let one : p.root ≡ s = of_same p.root s (sym mine ∙ (scalar_owned h cells store s q j mem e).0) in
      let two : same_root p.root s ≡ true = ap (same_root p.root) (sym one) ∙ same_root_refl p.root in
      (let clash : true ≡ false = sym two ∙ is in cc)))

  pub mem_wrote : Mem h (stored cells p u) new
  mem_wrote = record {
    owned = mem.owned;
    inside = mem.inside;
    holds = λ s q j e. by s q j e (cases_Bool (same_root p.root s));
    kept = λ a own. wrote.beside a (clear a (λ mine. own_of_none p.root (sym mine ∙ own))) ∙ mem.kept a own;
    fixed = λ a own. wrote.beside a (clear a (λ mine. fixed_of_none p.root (sym mine ∙ own))) ∙ mem.fixed a own;
    long = wrote.long ∙ mem.long;
  }

-- a scalar is stored at a place
pub mem_stored : (h : Home) (cells : Cells) (store : List ℕ) (p : Place) (k : Kind) (v : Scalar) → Mem h cells store → shape_there h p ≡ Word k → within k v ≡ true → Refers h k v
    → Mem h (stored cells p (alone v)) (set store (address h p) (word_for h v))
mem_stored h cells store p k v mem living fits refers =
    mem_wrote h cells store (set store (address h p) (word_for h v)) p (alone v) mem (ap is_there living)
    (record {
      there = λ q j e.
          let only = alone_path q k j (ap (λ (t : Shape). part_at t q) (sym living) ∙ e) in
          let same : address h p + offset (shape_there h p) q ≡ address h p = omega (arith, ap (λ (t : Shape). offset t q) living, only.1) in
          record {
            word = ap (λ (a : ℕ). get_or (set store (address h p) (word_for h v)) a 0) same
                ∙ get_or-set_same store (address h p) (word_for h v) 0 (omega (arith, (scalar_owned h cells store p.root p.path k mem living).1, mem.long));
            fits = ap (λ (z : Kind). within (base_of z) v) (sym only.0) ∙ within_base k v fits;
            refers = subst (λ (z : Kind). Refers h z v) only.0 refers;
          };
      beside = λ a apart. get_or-set_other store (address h p) a (word_for h v) 0
          (λ e. ⊎_elim (λ (l : a < address h p). omega (arith, l, e)) (λ (g : address h p + words (shape_there h p) ≤ a). omega (arith, g, e, word_long (shape_there h p) k living)) apart);
      long = length-set store (address h p) (word_for h v);
    })

-- the words of a place are copied to another of the same shape
pub mem_copied : (h : Home) (cells : Cells) (store : List ℕ) (to from : Place) → Mem h cells store → is_there (shape_there h to) ≡ true → shape_there h from ≡ shape_there h to
    → Mem h (stored cells to (under cells from)) (spliced store (address h to) (take (words (shape_there h to)) (drop (address h from) store)))
mem_copied h cells store to from mem there same =
    let w : ℕ = words (shape_there h to) in
    let low : address h to + w ≤ 65535 = place_inside h cells store to mem there in
    let source : address h from + w ≤ 65535 = omega (arith, place_inside h cells store from mem (ap is_there same ∙ there), ap words same) in
    let ws : List ℕ = take w (drop (address h from) store) in
    let count : length ws ≡ w = length-take-le w (drop (address h from) store) (omega (arith, length-drop (address h from) store, mem.long, source)) in
    let room : address h to + length ws ≤ length store = omega (arith, count, low, mem.long) in
    mem_wrote h cells store (spliced store (address h to) ws) to (under cells from) mem there
    (record {
      there = λ q k e.
          let is : part_at (h.shape from.root) (from.path ++ q) ≡ Word k = part_append (h.shape from.root) from.path q (ap is_there same ∙ there) ∙ ap (λ (t : Shape). part_at t q) same ∙ e in
          let old = mem.holds from.root (from.path ++ q) k is in
          let fits : offset (shape_there h to) q < w = omega (arith, part_fits (shape_there h to) q (ap is_there e), word_long (part_at (shape_there h to) q) k e) in
          let at : address h from + offset (shape_there h to) q ≡ h.base from.root + offset (h.shape from.root) (from.path ++ q) =
          omega (arith, offset_append (h.shape from.root) from.path q (ap is_there same ∙ there), ap (λ (t : Shape). offset t q) same) in
          record {
            word = spliced_there store (address h to) ws (offset (shape_there h to) q) room (omega (arith, count, fits))
                ∙ get_or-take w (drop (address h from) store) (offset (shape_there h to) q) 0 fits
                ∙ get_or-drop (address h from) store (offset (shape_there h to) q) 0
                ∙ ap (λ (a : ℕ). get_or store a 0) at
                ∙ old.word;
            fits = old.fits;
            refers = old.refers;
          };
      beside = λ a apart. ⊎_elim (λ (l : a < address h to). spliced_before store (address h to) ws a room l)
          (λ (g : address h to + w ≤ a). spliced_after store (address h to) ws a room (omega (arith, g, count))) apart;
      long = spliced_length store (address h to) ws room;
    })

-- a string and zeros behind it come to an array of characters
pub mem_written : (h : Home) (cells : Cells) (store : List ℕ) (to : Place) (count : ℕ) (cs ws : List ℕ) → Mem h cells store → shape_there h to ≡ Row count (Word OfCharacter) → is_text cs ≡ true
    → length ws ≡ count → ((i : ℕ) → i < count → get_or ws i 0 ≡ get_or cs i 0) → Mem h (stored cells to (text_under cs)) (spliced store (address h to) ws)
mem_written h cells store to count cs ws mem there text long same =
    let low : address h to + words (shape_there h to) ≤ 65535 = place_inside h cells store to mem (ap is_there there) in
    let size : words (shape_there h to) ≡ length ws = ap words there ∙ (let e : count * 1 ≡ length ws = omega (arith, long) in e) in
    let room : address h to + length ws ≤ length store = omega (arith, size, low, mem.long) in
    mem_wrote h cells store (spliced store (address h to) ws) to (text_under cs) mem (ap is_there there)
    (record {
      there = λ q k e. subst (λ (t : Shape). IsWord h k (text_under cs q) (get_or (spliced store (address h to) ws) (address h to + offset t q) 0)) (sym there)
          (by room q k (ap (λ (t : Shape). part_at t q) (sym there) ∙ e));
      beside = λ a apart. ⊎_elim (λ (l : a < address h to). spliced_before store (address h to) ws a room l)
          (λ (g : address h to + words (shape_there h to) ≤ a). spliced_after store (address h to) ws a room (omega (arith, g, size))) apart;
      long = spliced_length store (address h to) ws room;
    })
  where
    element : (i : ℕ) (q : List ℕ) (k : Kind) → (if nat_lt i count then part_at (Word OfCharacter) q else Absent) ≡ Word k → (i < count) × (part_at (Word OfCharacter) q ≡ Word k)
    element i q k e = pick (nat_lt i count) refl e
      where
        pick : (b : Bool) → nat_lt i count ≡ b → (if b then part_at (Word OfCharacter) q else Absent) ≡ Word k → (i < count) × (part_at (Word OfCharacter) q ≡ Word k)
        pick true less e = (ltb-true i count less, e)
        pick false less e = absurd (absent_no k e)

    by : address h to + length ws ≤ length store → (q : List ℕ) (k : Kind) → part_at (Row count (Word OfCharacter)) q ≡ Word k
        → IsWord h k (text_under cs q) (get_or (spliced store (address h to) ws) (address h to + offset (Row count (Word OfCharacter)) q) 0)
    by room [] k e = cc
    by room (i ∷ []) k e =
        let one = element i [] k e in
        let kind : OfCharacter ≡ k = cc (one.1) in
        let at : address h to + offset (Row count (Word OfCharacter)) (i ∷ []) ≡ address h to + i = omega arith in
        record {
          word = ap (λ (a : ℕ). get_or (spliced store (address h to) ws) a 0) at ∙ spliced_there store (address h to) ws i room (omega (arith, one.0, long)) ∙ same i one.0;
          fits = ap (λ (z : Kind). within (base_of z) (Character (get_or cs i 0))) (sym kind) ∙ text_character cs i text;
          refers = subst (λ (z : Kind). Refers h z (Character (get_or cs i 0))) kind tt;
        }
    by room (i ∷ j ∷ q) k e = absurd (absent_no k (element i (j ∷ q) k e).1)

-- a word that is the machine's own, or in no use
abbrev pub Ours : Owner → Type 0
Ours o = (o ≡ Own) ⊎ ((b : ℕ) × (o ≡ Free b))

pub ours_root : (o : Owner) (r : Root) → Ours o → o ≡ Of r → ⊥
ours_root o r (inl e) f = cc
ours_root o r (inr (b, e)) f = cc

pub ours_fixed : (o : Owner) → Ours o → o ≡ Fixed → ⊥
ours_fixed o (inl e) f = cc
ours_fixed o (inr (b, e)) f = cc

-- a word stays as it is in another home and another store, or is ours before and afterwards
pub record Stays (h x : Home) (store new : List ℕ) (a : ℕ) : Type 0 where
  pub owner : x.owner a ≡ h.owner a
  pub shadow : x.shadow a ≡ h.shadow a
  pub word : get_or new a 0 ≡ get_or store a 0

pub record Turns (h x : Home) (new : List ℕ) (a : ℕ) : Type 0 where
  pub before : Ours (h.owner a)
  pub after : Ours (x.owner a)
  pub word : x.owner a ≡ Own → get_or new a 0 ≡ x.shadow a

abbrev pub turned : Home → (ℕ → Owner) → (ℕ → ℕ) → List ℕ → Home
turned h owner shadow workspaces = record h { owner = owner; shadow = shadow; workspaces = workspaces }

-- THE law of the machine's words: those that turn change no cell, and none that never changes
module _ (h : Home) (store new : List ℕ) (owner : ℕ → Owner) (shadow : ℕ → ℕ) (workspaces : List ℕ)
    (each : (a : ℕ) → Stays h (turned h owner shadow workspaces) store new a ⊎ Turns h (turned h owner shadow workspaces) new a) where
  stays : (a : ℕ) → (Ours (h.owner a) → ⊥) → Stays h (turned h owner shadow workspaces) store new a
  stays a other = ⊎_elim (λ s. s) (λ t. absurd (other t.before)) (each a)

  pub fixed_turned : (a : ℕ) → h.owner a ≡ Fixed → (owner a ≡ Fixed) × (shadow a ≡ h.shadow a)
  fixed_turned a is = let s = stays a (λ ours. ours_fixed (h.owner a) ours is) in (s.owner ∙ is, s.shadow)

  pub mem_turned : (cells : Cells) → Mem h cells store → Extends workspaces h.workspaces → length new ≡ length store → Mem (turned h owner shadow workspaces) cells new
  mem_turned cells mem extends long = record {
    owned = λ r i less. let was = mem.owned r i less in let s = of_root (h.base r + i) r was in s.owner ∙ was;
    inside = mem.inside;
    holds = λ r q k e.
        let old = mem.holds r q k e in
        let s = of_root (h.base r + offset (h.shape r) q) r (scalar_owned h cells store r q k mem e).0 in
        is_word_kept h (turned h owner shadow workspaces) (λ o l. refl) (λ o l. refl) refl extends k (cells r q) (get_or new (h.base r + offset (h.shape r) q) 0)
        (record { word = s.word ∙ old.word; fits = old.fits; refers = old.refers });
    kept = λ a own. ⊎_elim (λ s. s.word ∙ mem.kept a (sym s.owner ∙ own) ∙ sym s.shadow) (λ t. t.word own) (each a);
    fixed = λ a is. ⊎_elim (λ s. s.word ∙ mem.fixed a (sym s.owner ∙ is) ∙ sym s.shadow) (λ t. absurd (ours_fixed (owner a) t.after is)) (each a);
    long = long ∙ mem.long;
  }
    where
      of_root : (a : ℕ) (r : Root) → h.owner a ≡ Of r → Stays h (turned h owner shadow workspaces) store new a
      of_root a r is = stays a (λ ours. ours_root (h.owner a) r ours is)

-- a function that is another number at one place
abbrev pub replaced : (ℕ → ℕ) → ℕ → ℕ → ℕ → ℕ
replaced f a w b = if a == b then w else f b

-- one of the machine's own words becomes another
abbrev pub shadowed : Home → ℕ → ℕ → Home
shadowed h a w = record h { shadow = replaced h.shadow a w }

-- one of the machine's own words that is set changes no cell
pub mem_shadowed : (h : Home) (cells : Cells) (store : List ℕ) (a w : ℕ) → h.owner a ≡ Own → a < 65536 → Mem h cells store → Mem (shadowed h a w) cells (set store a w)
mem_shadowed h cells store a w own small mem =
    mem_turned h store (set store a w) h.owner (replaced h.shadow a w) h.workspaces (λ b. by b (cases_eq a b)) cells mem (extends_self h.workspaces) (length-set store a w)
  where
    by : (b : ℕ) → (a ≡ b) ⊎ (a ≡ b → ⊥) → Stays h (shadowed h a w) store (set store a w) b ⊎ Turns h (shadowed h a w) (set store a w) b
    by b (inl e) =
        let ours : h.owner b ≡ Own = ap h.owner (sym e) ∙ own in
        let word : get_or (set store a w) b 0 ≡ w = ap (λ (x : ℕ). get_or (set store a w) x 0) (sym e) ∙ get_or-set_same store a w 0 (omega (arith, small, mem.long)) in
        inr (record { before = inl ours; after = inl ours; word = λ own. word ∙ sym (yes (eqb a b) w (h.shadow b) (eq-eqb a b e)) })
    by b (inr d) = inl (record { owner = refl; shadow = no (eqb a b) w (h.shadow b) (ne_eqb a b d); word = get_or-set_other store a b w 0 (λ e. d (sym e)) })
