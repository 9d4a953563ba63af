-- Tests one after the other.
use Rattle.std.proofs.Common.{◌≡◌, ℕ, List, [], ◌∷◌, ◌++◌, Option, refl, subst, ap, sym, ◌∙◌}
use Rattle.std.proofs.Common.{◌+◌, ◌<◌, ◌≤◌, length, take, get_or, map}
use Rattle.std.proofs.lemmas.List.{take_more, take_all}
use Rattle.lil_report.specs.{declared.report.Fault.Fault, Told.{Row, noted, tell, after, Said, walk}}

pub tell_append : (o : Option Fault) (xs ys : List Row) → tell o (xs ++ ys) ≡ tell (tell o xs) ys
unfolding tell
tell_append o [] ys = refl
tell_append o (r ∷ xs) ys = tell_append (noted o r) xs ys

module _ {A B : Type 0} (m : A × List Row) (k : A → B × List Row) where
  pub said_after : {r s t : Option Fault} {a : A} {b : B} → Said m r a s → Said (k a) s b t → Said (after m k) r b t
  unfolding after
  said_after {r = r} {s = s} {t = t} {b = b} h g =
      let at_value : Said (k m.0) s b t = subst (λ a. Said (k a) s b t) h.value g in
      let all : Said (k m.0) (tell r m.1) b t = subst (λ s. Said (k m.0) s b t) h.told at_value in
      record { value = all.value; told = all.told ∙ sym (tell_append r m.1 (k m.0).1) }

module _ {A : Type 0} where
  pub said_pure : (a : A) (r : Option Fault) → Said (a, []) r a r
  unfolding tell
  said_pure a r = record { value = refl; told = refl }

  pub said_value : {a b : A} {r : Option Fault} → a ≡ b → Said (b, []) r a r
  unfolding tell
  said_value e = record { value = e; told = refl }

  pub said_as : {m n : A × List Row} {r s : Option Fault} {a : A} → m ≡ n → Said n r a s → Said m r a s
  said_as {r = r} {s = s} {a = a} e h = subst (λ n. Said n r a s) (sym e) h

  pub said_to : {m : A × List Row} {r s : Option Fault} {a b : A} → Said m r a s → b ≡ a → Said m r b s
  said_to h e = record { value = e ∙ h.value; told = h.told }

module _ {A B : Type 0} (f : A → B) where
  pub said_map : {m : A × List Row} {r s : Option Fault} {a : A} → Said m r a s → Said (after m (λ a. (f a, []))) r (f a) s
  said_map h = said_after _ _ h (said_value refl)

-- ---- walks
module _ {S X : Type 0} (f : S → X → S × List Row) where
  pub said_one : (x : X) (a : S) {r s : Option Fault} {b : S} → Said (f a x) r b s → Said (walk f a (x ∷ [])) r b s
  said_one x a h = said_after (f a x) (λ s. (s, [])) h (said_value refl)

  -- one list behind another
  pub said_joined : (ys : List X) (s : S) (xs : List X) {r t u : Option Fault} {a b : S} → Said (walk f s xs) r a t → Said (walk f a ys) t b u → Said (walk f s (xs ++ ys)) r b u
  unfolding after tell
  said_joined ys s [] {r = r} {t = t} {u = u} {a = a} {b = b} h g = subst (λ t. Said (walk f s ys) t b u) h.told (subst (λ a. Said (walk f a ys) t b u) h.value g)
  said_joined ys s (y ∷ xs) {r = r} {t = t} {u = u} {a = a} {b = b} h g =
      said_after (f s y) (λ s. walk f s (xs ++ ys)) (record { value = refl; told = refl })
      (said_joined ys (f s y).0 xs {r = tell r (f s y).1} (record { value = h.value; told = h.told ∙ tell_append r (f s y).1 (walk f (f s y).0 xs).1 }) g)

pub said_more : {S X : Type 0} (f : S → X → S × List Row) (s : S) (xs : List X) (i : ℕ) (x : X) {r t u : Option Fault} {a b : S} → i < length xs → x ≡ get_or xs i x
    → Said (walk f s (take i xs)) r a t → Said (f a x) t b u → Said (walk f s (take (i + 1) xs)) r b u
said_more f s xs i x {r = r} {u = u} {a = a} {b = b} lt is h g =
    subst (λ z. Said (walk f s z) r b u) (sym (take_more xs i x lt ∙ ap (λ z. take i xs ++ z ∷ []) (sym is))) (said_joined f (x ∷ []) s (take i xs) h (said_one f x a g))

pub said_all : {S X : Type 0} (f : S → X → S × List Row) (s : S) (xs : List X) (i : ℕ) {r t : Option Fault} {a : S} → length xs ≤ i → Said (walk f s (take i xs)) r a t → Said (walk f s xs) r a t
said_all f s xs i {r = r} {t = t} {a = a} le h = subst (λ z. Said (walk f s z) r a t) (take_all i xs le) h

pub walk_map : {S X Y : Type 0} (f : S → Y → S × List Row) (g : X → Y) (s : S) (xs : List X) → walk f s (map g xs) ≡ walk (λ s x. f s (g x)) s xs
walk_map f g s [] = refl
walk_map f g s (x ∷ xs) = λ j. after (f s (g x)) (λ s. walk_map f g s xs j)
