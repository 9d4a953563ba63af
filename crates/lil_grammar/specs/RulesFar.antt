-- A parser refuses a part as too deep only where so many tokens stand, and so a phrase has one reading, whatever the limit.
use Rattle.std.proofs.Common.{◌≡◌, ℕ, zero, suc, ◌+◌, ◌<◌, ◌≤◌, Bool, true, false, List, [], ◌∷◌, length, Option, Some, None, Ok, Err, refl, ap, sym, ◌∙◌, inl, inr, arith}
use Rattle.lil_base.specs.declared.fault.Place.{Place}
use Rattle.lil_text.specs.{declared.token.{Token.Token, TokenKind.TokenKind}, Nesting.Limit}
use Rattle.lil_grammar.specs.{Steps.{syntax, nested, Outcome, Parser, and_then, ◌>>=◌, pure, at, either, either_by, shallow, token, taken, place_of, loop, many}, Places.Grammar, Rules.{Rule, ok_same, err_same, bind_ok, syntax_nested}, RulesLimit.limit, RulesLists.token_shrinks}

pub record Far {A : Type 0} (m : ℕ) (p : Parser A) : Type 0 where
  pub deep : (ts : List Token) (q : Place) → p ts ≡ Err (nested q) → m ≤ length ts
  pub less : (ts : List Token) (a : A) (rest : List Token) → p ts ≡ Ok (a, rest) → length rest ≤ length ts

unfoldable pub Shrinks : {A : Type 0} → Parser A → Type 0
Shrinks {A} p = (ts : List Token) (a : A) (rest : List Token) → p ts ≡ Ok (a, rest) → length rest < length ts

pub far_pure : {A : Type 0} (m : ℕ) (a : A) → Far m (pure a)
far_pure m a = record { deep = λ ts q is. absurd (cc); less = λ ts b rest is. omega (arith, ap (λ y. length y.1) (ok_same is)) }

taken_deep : {A : Type 0} (ts : List Token) (p q : Place) (o : Option A) → taken ts p o ≡ Err (nested q) → ⊥
taken_deep ts p q None is = syntax_nested p q (err_same is)
taken_deep ts p q (Some a) is = absurd (cc)

token_deep : {A : Type 0} (f : Token → Option A) (ts : List Token) (q : Place) → token f ts ≡ Err (nested q) → ⊥
unfolding token
token_deep f [] q is = syntax_nested (place_of []) q (err_same is)
token_deep f (t ∷ ts) q is = taken_deep ts t.place q (f t) is

pub far_token : {A : Type 0} (m : ℕ) (f : Token → Option A) → Far m (token f)
far_token m f = record { deep = λ ts q is. absurd (token_deep f ts q is); less = λ ts a rest is. omega (arith, token_shrinks f ts a rest is) }

module _ {A B : Type 0} {q : A → Parser B} {p : Parser A} where
  -- behind what takes so many tokens as n is more than m
  far_on : {n m : ℕ} → Far n p → ((ts : List Token) (a : A) (rest : List Token) → p ts ≡ Ok (a, rest) → n + length rest ≤ m + length ts) → ((a : A) → Far m (q a)) → Far n (p >>= q)
  far_on {n} x shrinks y = record {
    deep = λ ts place is. deep ts place (p ts) refl is;
    less = λ ts b rest is. let s = bind_ok (p ts) q (b, rest) is in omega (arith, x.less ts s.0.0 s.0.1 s.1, (y s.0.0).less s.0.1 b rest s.2);
  }
    where
      deep : (ts : List Token) (place : Place) (o : Outcome A) → p ts ≡ o → and_then o q ≡ Err (nested place) → n ≤ length ts
      deep ts place (Ok z) same is = omega (arith, shrinks ts z.0 z.1 same, (y z.0).deep z.1 place is)
      deep ts place (Err e) same is = x.deep ts place (same ∙ ap (λ e. Err e) (err_same is))

  pub far_then : {m : ℕ} → Far m p → ((a : A) → Far m (q a)) → Far m (p >>= q)
  far_then x y = far_on x (λ ts a rest is. omega (arith, x.less ts a rest is)) y

  pub far_behind : {m : ℕ} → Far (suc m) p → Shrinks p → ((a : A) → Far m (q a)) → Far (suc m) (p >>= q)
  unfolding Shrinks
  far_behind x shrinks y = far_on x (λ ts a rest is. omega (arith, shrinks ts a rest is)) y

pub far_map : {A B : Type 0} {m : ℕ} {p : Parser A} → Far m p → (f : A → B) → Far m (p >>= (λ a. pure (f a)))
far_map {m = m} x f = far_then x (λ a. far_pure m (f a))

pub far_by : {A C : Type 0} {m : ℕ} (class : List Token → C) {q : C → Parser A} → ((c : C) → Far m (q c)) → Far m (λ ts. q (class ts) ts)
far_by class x = record { deep = λ ts q is. (x (class ts)).deep ts q is; less = λ ts a rest is. (x (class ts)).less ts a rest is }

pub far_either : {A : Type 0} {m : ℕ} {p q : Parser A} (test : TokenKind → Bool) → Far m p → Far m q → Far m (either test p q)
far_either {m = m} {p = p} {q = q} test x y = far_by (at test) by
  where
    by : (b : Bool) → Far m (either_by p q b)
    by true = x
    by false = y

module _ {S : Type 0} {m : ℕ} (test : TokenKind → Bool) (turn : S → Parser S) (x : (s : S) → Far m (turn s)) where
  far_loop : (n : ℕ) (s : S) → Far m (loop test turn n s)
  unfolding loop
  far_loop zero s = far_pure m s
  far_loop (suc n) s = far_either test (far_then (x s) (far_loop n)) (far_pure m s)

  pub far_many : (s : S) → Far m (many test turn s)
  unfolding many
  far_many s = record { deep = λ ts q is. (far_loop (length ts) s).deep ts q is; less = λ ts a rest is. (far_loop (length ts) s).less ts a rest is }

pub far_shallow : {A : Type 0} (test : TokenKind → Bool) → Far {A = A} 0 (shallow test)
far_shallow {A} test = record { deep = λ ts q is. omega arith; less = λ ts a rest is. none (at test ts) ts a rest is }
  where
    none : (b : Bool) (ts : List Token) (a : A) (rest : List Token) → either_by {A = A} (λ ts. Err (nested (place_of ts))) (λ ts. Err (syntax (place_of ts))) b ts ≡ Ok (a, rest) → length rest ≤ length ts
    none true ts a rest is = absurd (cc)
    none false ts a rest is = absurd (cc)

-- ---- a phrase has one reading, whatever the limit
module _ {A : Type 0} {p : ℕ → Parser A} (G : Grammar A) {E : List Token → Type 0} (rules : (n : ℕ) → Rule (p n) (λ late. G (limit n late)) E) (far : (n : ℕ) → Far n (p n))
    (plain : (l : Limit) (ts rest : List Token) (a : A) → G l ts rest a → G None ts rest a) where
  -- with more levels than tokens, all that the grammar derives is read
  pub reads_plain : (ts rest : List Token) (a : A) → G None ts rest a → E rest → p (suc (length ts)) ts ≡ Ok (a, rest)
  reads_plain ts rest a h e = elim ((rules (suc (length ts))).reaches None ts rest a h e) [
    | inl n ↦ let less = (far (suc (length ts))).deep ts n.0 n.1 in absurd (omega arith)
    | inr is ↦ is
  ]

  pub one_reading : (l l' : Limit) (ts rest rest' : List Token) (a b : A) → G l ts rest a → G l' ts rest' b → E rest → E rest' → (a ≡ b) × (rest ≡ rest')
  one_reading l l' ts rest rest' a b h h' e e' =
      let same = ok_same (sym (reads_plain ts rest a (plain l ts rest a h) e) ∙ reads_plain ts rest' b (plain l' ts rest' b h') e') in
      (ap (λ y. y.0) same, ap (λ y. y.1) same)
