-- Phrases in which no test finds a fault, and what is true of their values.
use Rattle.std.proofs.Common.{◌≡◌, Bool, true, false, List, [], ◌∷◌, ◌++◌, Option, Some, None, refl, ap, sym, subst, ◌∙◌}
use Rattle.std.specs.Prelude.{not}
use Rattle.lil_report.specs.{Least.{worse, when}, Told.{Row, tell, after, walk}}
use Rattle.lil_shapes.specs.ListLaws.{AllFine}

-- no test finds a fault
abbrev pub Clear : List Row → Type 0
Clear [] = Unit {0}
Clear (r ∷ rs) = (r.wrong ≡ false) × Clear rs

-- where none does, the phrase's value has a property
abbrev pub Right : {A : Type 0} → (A → Type 0) → A × List Row → Type 0
Right P m = Clear m.1 → P m.0

-- something is there and has a property, or nothing is, and then W is so
abbrev pub IsThereOr : {A : Type 0} → Type 0 → (A → Type 0) → Option A → Type 0
IsThereOr W P None = W
IsThereOr W P (Some a) = P a

-- something is there, and has a property
abbrev pub IsThere : {A : Type 0} → (A → Type 0) → Option A → Type 0
IsThere P = IsThereOr ⊥ P

-- something is there, whatever it is
abbrev pub IsAny : {A : Type 0} → A → Type 0
IsAny a = Unit {0}

-- no fault is told then
pub clear_none : (rs : List Row) → Clear rs → tell None rs ≡ None
unfolding tell worse when
clear_none [] h = refl
clear_none (r ∷ rs) h = ap (λ b. tell (worse None (when b r.place r.kind)) rs) h.0 ∙ clear_none rs h.1

pub clear_left : (rs ss : List Row) → Clear (rs ++ ss) → Clear rs
clear_left [] ss h = tt
clear_left (r ∷ rs) ss h = (h.0, clear_left rs ss h.1)

pub clear_right : (rs ss : List Row) → Clear (rs ++ ss) → Clear ss
clear_right [] ss h = h
clear_right (r ∷ rs) ss h = clear_right rs ss h.1

-- ---- what is true of all elements
module _ {A : Type 0} (P Q : A → Type 0) where
  pub all_then : ((x : A) → P x → Q x) → (xs : List A) → AllFine P xs → AllFine Q xs
  all_then f [] h = tt
  all_then f (x ∷ xs) h = (f x h.0, all_then f xs h.1)

-- ---- tests of conditions
pub is_so : (b : Bool) → not b ≡ false → b ≡ true
is_so true h = refl
is_so false h = cc

module _ {A B : Type 0} (P : A → Type 0) (Q : B → Type 0) where
  pub after_right : (m : A × List Row) (k : A → B × List Row) → Right P m → ((a : A) → P a → Right Q (k a)) → Right Q (after m k)
  unfolding after
  after_right m k h g clear = g m.0 (h (clear_left m.1 (k m.0).1 clear)) (clear_right m.1 (k m.0).1 clear)

module _ {S X : Type 0} (P : S → Type 0) (Q : X → Type 0) (f : S → X → S × List Row) (keeps : (s : S) (x : X) → P s → Q x → Right P (f s x)) where
  pub walk_right : (s : S) (xs : List X) → P s → AllFine Q xs → Right P (walk f s xs)
  walk_right s [] h all clear = h
  walk_right s (x ∷ xs) h all clear = after_right P P (f s x) (λ s. walk f s xs) (keeps s x h all.0) (λ t j. walk_right t xs j all.1) clear

-- ---- what gives nothing where it is given nothing
pub there_or : {A : Type 0} (W : Type 0) (P : A → Type 0) (o : Option A) → IsThere P o → IsThereOr W P o
there_or W P None h = absurd h
there_or W P (Some a) h = h

module _ {A B : Type 0} (W : Type 0) (P : A → Type 0) (Q : B → Type 0) where
  pub given_or : (k : Option A → Option B) → k None ≡ None → ((o : Option A) → IsThere P o → IsThere Q (k o)) → (o : Option A) → IsThereOr W P o → IsThereOr W Q (k o)
  given_or k none h None w = subst (IsThereOr W Q) (sym none) w
  given_or k none h (Some a) p = there_or W Q (k (Some a)) (h (Some a) p)

  pub node_or : (k : Option A → Option B × List Row) → (k None).0 ≡ None → ((o : Option A) → IsThere P o → Right (IsThere Q) (k o)) → (o : Option A) → IsThereOr W P o → Right (IsThereOr W Q) (k o)
  node_or k none h None w clear = subst (IsThereOr W Q) (sym none) w
  node_or k none h (Some a) p clear = there_or W Q (k (Some a)).0 (h (Some a) p clear)
