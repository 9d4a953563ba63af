-- What holds of each syntax: with which tokens it begins, that it derives something, and how it is read in steps.
use Rattle.std.proofs.Common.{◌≡◌, ◌⊎◌, Bool, true, false, ◌&&◌, if◌then◌else◌, List, [], ◌∷◌, ◌++◌, append_assoc, Ok, Err, refl, subst, ap, sym, ◌∙◌, inl, inr, true≢false}
use Rattle.std.proofs.lemmas.Bool.{and_parts, or_cases, or_left, or_right}
use Rattle.lil_text.specs.declared.token.{Token.Token, TokenKind.TokenKind}
use Rattle.lil_grammar.specs.{Steps.{Outcome, Parser, and_then, ◌>>=◌, pure, at}, Phrases.{Nothing, nothing, One, takes, After, ◌▸◌, left, right, Star, stop, go_on}}
use Rattle.lil_syntax.specs.{Terminals.{Kinds, among, Value, taken_as, kinds_of, Terminal}, Syntax.{Syntax, give, one, part, both, ◌or◌, repeat, Derives, nullable, begins, guarded, productive, reads, before}, KindLaws.{among_append, At, at_left, at_right, taken_kind, kind_taken, terminal_some}}

-- tokens behind some, with which they are something
abbrev pub Behind : {A : Type 0} → List Token → (List Token → List Token → A → Type 0) → Type 0
Behind {A} front P = (more : List Token) × (x : A) × ((rest : List Token) → P (front ++ (more ++ rest)) rest x)

abbrev pub Opened : {A : Type 0} → (List Token → List Token → A → Type 0) → Token → Type 0
Opened P u = Behind (u ∷ []) P

abbrev pub Something : {A : Type 0} → (List Token → List Token → A → Type 0) → Type 0
Something P = Behind [] P

starts_one : (t : Terminal) {ts rest : List Token} {x : Value t} → One (taken_as t) ts rest x → At (kinds_of t) ts
unfolding at
starts_one t (takes {t = u} {a = a} is) = taken_kind t u a is

-- of two, one after the other
two_start : (b b' : Bool) (cs ds : Kinds) {ts mid rest : List Token} → At cs ts ⊎ ((b ≡ true) × (ts ≡ mid)) → At ds mid ⊎ ((b' ≡ true) × (mid ≡ rest)) → At (cs ++ (if b then ds else [])) ts ⊎ ((b && b' ≡ true) × (ts ≡ rest))
two_start b b' cs ds {ts} (inl h) k = inl (at_left cs (if b then ds else []) ts h)
two_start true b' cs ds {ts} (inr h) (inl k) = inl (at_right cs ds ts (subst (λ ts. At ds ts) (sym h.1) k))
two_start true b' cs ds (inr h) (inr k) = inr (k.0, h.1 ∙ k.1)
two_start false b' cs ds (inr h) k = absurd (true≢false (sym h.0))

repeat_start : (b : Bool) (cs ds : Kinds) {ts mid rest : List Token} → At cs ts ⊎ ((b ≡ true) × (ts ≡ mid)) → At ds mid ⊎ (mid ≡ rest) → At (cs ++ (if b then ds else [])) ts ⊎ ((b ≡ true) × (ts ≡ rest))
repeat_start b cs ds {ts} (inl h) k = inl (at_left cs (if b then ds else []) ts h)
repeat_start true cs ds {ts} (inr h) (inl k) = inl (at_right cs ds ts (subst (λ ts. At ds ts) (sym h.1) k))
repeat_start true cs ds (inr h) (inr k) = inr (refl, h.1 ∙ k)
repeat_start false cs ds (inr h) k = absurd (true≢false (sym h.0))

among_if : (b : Bool) (ds : Kinds) (u : TokenKind) → among (if b then ds else []) u ≡ true → (b ≡ true) × (among ds u ≡ true)
among_if true ds u h = (refl, h)
among_if false ds u h = absurd (true≢false (sym h))

two_ends : {A B C : Type 0} (o : Outcome A) (f : A → B) (k : B → Parser C) → and_then o (λ a. k (f a)) ≡ and_then (and_then o (λ a. pure (f a))) k
two_ends (Ok y) f k = refl
two_ends (Err e) f k = refl

two_steps : {X A B C : Type 0} (c : X → A → B) (o : Outcome X) (p : Parser A) (k : B → Parser C) → and_then o (λ x. p >>= (λ a. k (c x a))) ≡ and_then (and_then o (λ x. p >>= (λ a. pure (c x a)))) k
two_steps c (Ok y) p k = two_ends (p y.1) (c y.0) k
two_steps c (Err e) p k = refl

may_left : {By : Type 0} (a b : Bool) → By ⊎ (a && b ≡ true) → By ⊎ (a ≡ true)
may_left a b (inl by) = inl by
may_left a b (inr h) = inr (and_parts a b h).0

may_right : {By : Type 0} (a b : Bool) → By ⊎ (a && b ≡ true) → By ⊎ (b ≡ true)
may_right a b (inl by) = inl by
may_right a b (inr h) = inr (and_parts a b h).1

may_if : {By : Type 0} (a b : Bool) → a ≡ true → By ⊎ ((if a then b else true) ≡ true) → By ⊎ (b ≡ true)
may_if a b e (inl by) = inl by
may_if true b e (inr h) = inr h
may_if false b e (inr h) = absurd (true≢false (sym e))

module _ {N : Type 0} {Tree : N → Type 0} (first goes : N → Kinds) where
  -- it begins with such a token, or is no token
  abbrev pub Starts : {A : Type 0} → Syntax Tree A → List Token → List Token → Type 0
  Starts s ts rest = At (begins first goes s) ts ⊎ ((nullable first goes s ≡ true) × (ts ≡ rest))

  module _ (D : (n : N) → List Token → List Token → Tree n → Type 0) (part_starts : (n : N) (ts rest : List Token) (x : Tree n) → D n ts rest x → At (first n) ts) where
    pub star_starts : {S B : Type 0} (turn : Syntax Tree B) (add : S → B → S) → ((ts rest : List Token) (b : B) → Derives D turn ts rest b → Starts turn ts rest)
        → {s x : S} {ts rest : List Token} → Star (λ s. After (Derives D turn) (λ b. Nothing (add s b))) s ts rest x → At (begins first goes turn) ts ⊎ (ts ≡ rest)
    star_starts turn add each stop = inr refl
    star_starts turn add each (go_on {ts = ts} {mid = mid} {rest = rest} (◌▸◌ {a = b} h (nothing e)) more) = elim (each ts mid b h) [
      | inl k ↦ inl k
      | inr k ↦ elim (star_starts turn add each more) [ inl j ↦ inl (subst (λ ts. At (begins first goes turn) ts) (sym k.1) j) | inr j ↦ inr (k.1 ∙ j) ]
    ]

    pub starts : {A : Type 0} (s : Syntax Tree A) (ts rest : List Token) (x : A) → Derives D s ts rest x → Starts s ts rest
    starts (give a) ts rest x (nothing e) = inr (refl, refl)
    starts (one t) ts rest x h = inl (starts_one t h)
    starts (part n) ts rest x h = inl (part_starts n ts rest x h)
    starts (both f p q) ts rest x (◌▸◌ {mid = mid} {a = a} h (◌▸◌ {a = b} k (nothing e))) = two_start (nullable first goes p) (nullable first goes q) (begins first goes p) (begins first goes q) (starts p ts mid a h) (starts q mid rest b k)
    starts (p or q) ts rest x (left h) = elim (starts p ts rest x h) [
      | inl k ↦ inl (at_left (begins first goes p) (begins first goes q) ts k)
      | inr k ↦ inr (or_left _ _ k.0, k.1)
    ]
    starts (p or q) ts rest x (right h) = elim (starts q ts rest x h) [
      | inl k ↦ inl (at_right (begins first goes p) (begins first goes q) ts k)
      | inr k ↦ inr (or_right _ _ k.0, k.1)
    ]
    starts (repeat start p add turn) ts rest x (◌▸◌ {mid = mid} {a = a} h more) =
        repeat_start (nullable first goes p) (begins first goes p) (begins first goes turn) (starts p ts mid a h) (star_starts turn add (λ ts rest b k. starts turn ts rest b k) more)

  -- ---- it is no token
  module _ (D : (n : N) → List Token → List Token → Tree n → Type 0) where
    pub empties : {A : Type 0} (s : Syntax Tree A) → nullable first goes s ≡ true → (x : A) × ((ts : List Token) → Derives D s ts ts x)
    empties (give a) h = (a, λ ts. nothing refl)
    empties (one t) h = absurd (true≢false (sym h))
    empties (part n) h = absurd (true≢false (sym h))
    empties (both f p q) h =
        let y = and_parts _ _ h in
        let a = empties p y.0 in
        let b = empties q y.1 in
        (f a.0 b.0, λ ts. a.1 ts ▸ b.1 ts ▸ nothing refl)
    empties (p or q) h = elim (or_cases _ _ h) [
      | inl k ↦ let a = empties p k in (a.0, λ ts. left (a.1 ts))
      | inr k ↦ let a = empties q k in (a.0, λ ts. right (a.1 ts))
    ]
    empties (repeat start p add turn) h = let a = empties p h in (start a.0, λ ts. a.1 ts ▸ stop)

    -- ---- it is something, and each token that begins it does
    after_some : {A B C : Type 0} {P : List Token → List Token → A → Type 0} {Q : List Token → List Token → B → Type 0} (front : List Token) (f : A → B → C) → Behind front P → Something Q → Behind front (After P (λ a. After Q (λ b. Nothing (f a b))))
    after_some {P = P} {Q = Q} front f x y = (
      x.0 ++ y.0,
      f x.1 y.1,
      λ rest. subst (λ ts. After P (λ a. After Q (λ b. Nothing (f a b))) (front ++ ts) rest (f x.1 y.1)) (sym (append_assoc x.0 y.0 rest)) (x.2 (y.0 ++ rest) ▸ y.2 rest ▸ nothing refl),
    )

    -- where its parts are, or without parts
    pub something : {A : Type 0} (s : Syntax Tree A) → ((n : N) → Something (D n)) ⊎ (productive first goes s ≡ true) → Something (Derives D s)
    something (give a) by = ([], a, λ rest. nothing refl)
    something (one t) by = let y = terminal_some t in (y.0 ∷ [], y.1, λ rest. takes y.2)
    something (part n) (inl each) = each n
    something (part n) (inr h) = absurd (true≢false (sym h))
    something (both f p q) by = after_some [] f (something p (may_left _ _ by)) (something q (may_right _ _ by))
    something (p or q) (inl each) = let y = something p (inl each) in (y.0, y.1, λ rest. left (y.2 rest))
    something (p or q) (inr h) = elim (or_cases _ _ h) [
      | inl k ↦ let y = something p (inr k) in (y.0, y.1, λ rest. left (y.2 rest))
      | inr k ↦ let y = something q (inr k) in (y.0, y.1, λ rest. right (y.2 rest))
    ]
    something (repeat start p add turn) by = let y = something p by in (y.0, start y.1, λ rest. y.2 rest ▸ stop)

    -- by what its parts begin with, or where each stands behind a token
    pub opens : ((n : N) → Something (D n)) → (u : Token) → {A : Type 0} (s : Syntax Tree A) → ((n : N) → among (first n) u.what ≡ true → Opened (D n) u) ⊎ (guarded first goes s ≡ true)
        → among (begins first goes s) u.what ≡ true → Opened (Derives D s) u
    opens each u (give a) by h = absurd (true≢false (sym h))
    opens each u (one t) by h = let y = kind_taken t u h in ([], y.0, λ rest. takes y.1)
    opens each u (part n) by h = elim by [ inl by ↦ by n h | inr none ↦ absurd (true≢false (sym none)) ]
    opens each u (both f p q) by h = elim (or_cases _ _ (sym (among_append (begins first goes p) (if nullable first goes p then begins first goes q else []) u.what) ∙ h)) [
      | inl k ↦ after_some (u ∷ []) f (opens each u p (may_left _ _ by) k) (something q (inl each))
      | inr k ↦ let c = among_if (nullable first goes p) (begins first goes q) u.what k in
          let a = empties p c.0 in
          let b = opens each u q (may_if (nullable first goes p) (guarded first goes q) c.0 (may_right _ _ by)) c.1 in
          (b.0, f a.0 b.1, λ rest. a.1 (u ∷ (b.0 ++ rest)) ▸ b.2 rest ▸ nothing refl)
    ]
    opens each u (p or q) by h = elim (or_cases _ _ (sym (among_append (begins first goes p) (begins first goes q) u.what) ∙ h)) [
      | inl k ↦ let y = opens each u p (may_left _ _ by) k in (y.0, y.1, λ rest. left (y.2 rest))
      | inr k ↦ let y = opens each u q (may_right _ _ by) k in (y.0, y.1, λ rest. right (y.2 rest))
    ]
    opens each u (repeat start p add turn) by h = elim (or_cases _ _ (sym (among_append (begins first goes p) (if nullable first goes p then begins first goes turn else []) u.what) ∙ h)) [
      | inl k ↦ let y = opens each u p (may_left _ _ by) k in (y.0, start y.1, λ rest. y.2 rest ▸ stop)
      | inr k ↦ let c = among_if (nullable first goes p) (begins first goes turn) u.what k in
          let a = empties p c.0 in
          let b = opens each u turn (may_if (nullable first goes p) (guarded first goes turn) c.0 (may_right _ _ by)) c.1 in
          (b.0, add (start a.0) b.1, λ rest. a.1 (u ∷ (b.0 ++ rest)) ▸ go_on (b.2 rest ▸ nothing refl) stop)
    ]

  -- ---- by what another relation of its parts derives
  module _ (D D' : (n : N) → List Token → List Token → Tree n → Type 0) (to : (n : N) (ts rest : List Token) (x : Tree n) → D n ts rest x → D' n ts rest x) where
    pub star_map : {S B : Type 0} (turn : Syntax Tree B) (add : S → B → S) → ((ts rest : List Token) (b : B) → Derives D turn ts rest b → Derives D' turn ts rest b)
        → {s x : S} {ts rest : List Token} → Star (λ s. After (Derives D turn) (λ b. Nothing (add s b))) s ts rest x → Star (λ s. After (Derives D' turn) (λ b. Nothing (add s b))) s ts rest x
    star_map turn add each stop = stop
    star_map turn add each (go_on {ts = ts} {mid = mid} (◌▸◌ {mid = m} {a = b} h (nothing e)) more) = go_on (each ts m b h ▸ nothing e) (star_map turn add each more)

    pub derives_map : {A : Type 0} (s : Syntax Tree A) (ts rest : List Token) (x : A) → Derives D s ts rest x → Derives D' s ts rest x
    derives_map (give a) ts rest x h = h
    derives_map (one t) ts rest x h = h
    derives_map (part n) ts rest x h = to n ts rest x h
    derives_map (both f p q) ts rest x (◌▸◌ {mid = mid} {a = a} h (◌▸◌ {mid = m} {a = b} k e)) = derives_map p ts mid a h ▸ derives_map q mid m b k ▸ e
    derives_map (p or q) ts rest x (left h) = left (derives_map p ts rest x h)
    derives_map (p or q) ts rest x (right h) = right (derives_map q ts rest x h)
    derives_map (repeat start p add turn) ts rest x (◌▸◌ {mid = mid} {a = a} h more) = derives_map p ts mid a h ▸ star_map turn add (λ ts rest b k. derives_map turn ts rest b k) more

  -- ---- how it is read, step by step
  module _ (at_part : (n : N) → Parser (Tree n)) where
    pub before_is : {A : Type 0} (s : Syntax Tree A) {B : Type 0} (k : A → Parser B) (ts : List Token) → before first goes at_part s k ts ≡ (reads first goes at_part s >>= k) ts
    unfolding reads before
    before_is (give a) k ts = refl
    before_is (one t) k ts = refl
    before_is (part n) k ts = refl
    before_is (both f p q) k ts =
        before_is p (λ a. reads first goes at_part q >>= (λ b. k (f a b))) ts
        ∙ two_steps f (reads first goes at_part p ts) (reads first goes at_part q) k
        ∙ ap (λ o. and_then o k) (sym (before_is p (λ a. reads first goes at_part q >>= (λ b. pure (f a b))) ts))
    before_is (p or q) k ts = refl
    before_is (repeat start p add turn) k ts = refl
