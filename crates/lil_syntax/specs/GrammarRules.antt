-- Each part of a sound grammar, at each nesting, and each syntax over it: the parser reads what the grammar derives, and stops exactly where nothing goes on.
use Rattle.std.proofs.Common.{◌≡◌, ◌⊎◌, ℕ, zero, suc, ◌+◌, ◌≤◌, Bool, true, false, List, [], ◌∷◌, ◌++◌, length, Some, None, refl, subst, inl, inr, arith}
use Rattle.std.proofs.lemmas.Bool.{and_parts, not-true}
use Rattle.lil_text.specs.{declared.token.Token.Token, Nesting.{Limit, Inside, unlimited}}
use Rattle.lil_grammar.specs.{Phrases.{Nothing, After, ◌▸◌, left, right, Star, stop, go_on}, Rules.{Late, IsFree, Relation, Rule, Begins, rule_within}, RulesLimit.{limit, inside_next, inside_free, inside_next_is, inside_zero_is, rule_shallow}}
use Rattle.lil_syntax.specs.{Terminals.{Kinds, among, part_of}, Syntax.{Syntax, give, one, part, both, ◌or◌, repeat, Derives, nullable, begins, goes_on, decided, guarded, productive, Grammar, DerivesIn, Is, Derived, read, parse, sound_at}, KindLaws.{never, At, NotAt, at_part_of, not_part_of, part_of_is}, SyntaxLaws.{Behind, Opened, Something, starts, something, opens, star_map, derives_map}}
use Rattle.lil_syntax.specs.SyntaxRules as by_syntax

-- what is tested of a production, one by one
pub record Fine {N : Type 0} {Tree : N → Type 0} (G : Grammar Tree) (n : N) : Type 0 where
  pub is_some : nullable G.first G.goes (G.production n) ≡ false
  pub is_decided : decided G.first G.goes (G.production n) ≡ true
  pub is_guarded : guarded G.first G.goes (G.production n) ≡ true
  pub is_productive : productive G.first G.goes (G.production n) ≡ true
  pub begins_in : part_of (begins G.first G.goes (G.production n)) (G.first n) ≡ true
  pub in_begins : part_of (G.first n) (begins G.first G.goes (G.production n)) ≡ true
  pub goes_in : part_of (goes_on G.first G.goes (G.production n)) (G.goes n) ≡ true

pub not_starts : (cs : Kinds) (b : Bool) {ts rest : List Token} → b ≡ false → At cs ts ⊎ ((b ≡ true) × (ts ≡ rest)) → At cs ts
not_starts cs b h (inl k) = k
not_starts cs b h (inr k) = absurd (never k.0 h)

module _ {N : Type 0} {Tree : N → Type 0} (G : Grammar Tree) (sound : (n : N) → sound_at G n ≡ true) where
  pub fine : (n : N) → Fine G n
  fine n =
      let a = and_parts _ _ (sound n) in
      let b = and_parts _ _ a.1 in
      let c = and_parts _ _ b.1 in
      let d = and_parts _ _ c.1 in
      let e = and_parts _ _ d.1 in
      let f = and_parts _ _ e.1 in
      record { is_some = not-true _ a.0; is_decided = b.0; is_guarded = c.0; is_productive = d.0; begins_in = e.0; in_begins = f.0; goes_in = f.1 }

  -- ---- by how many parts lie in one another
  taller : (h m : ℕ) → h ≤ m → (l : Limit) (n : N) (ts rest : List Token) (x : Tree n) → DerivesIn G h l n ts rest x → DerivesIn G m l n ts rest x
  taller zero m less l n ts rest x d = absurd d
  taller (suc h) zero less l n ts rest x d = absurd (omega arith)
  taller (suc h) (suc m) less l n ts rest x d = (d.0, d.1, derives_map G.first G.goes (DerivesIn G h d.0) (DerivesIn G m d.0) (taller h m (omega arith) d.0) (G.production n) ts rest x d.2)

  module _ (l : Limit) where
    abbrev High : {A : Type 0} → Syntax Tree A → List Token → List Token → A → Type 0
    High s ts rest x = (h : ℕ) × Derives (DerivesIn G h l) s ts rest x

    lift : {A : Type 0} (s : Syntax Tree A) (h m : ℕ) → h ≤ m → (ts rest : List Token) (x : A) → Derives (DerivesIn G h l) s ts rest x → Derives (DerivesIn G m l) s ts rest x
    lift s h m less ts rest x d = derives_map G.first G.goes (DerivesIn G h l) (DerivesIn G m l) (taller h m less l) s ts rest x d

    star_lift : {S B : Type 0} (turn : Syntax Tree B) (add : S → B → S) (h m : ℕ) → h ≤ m → {s x : S} {ts rest : List Token}
        → Star (λ s. After (Derives (DerivesIn G h l) turn) (λ b. Nothing (add s b))) s ts rest x → Star (λ s. After (Derives (DerivesIn G m l) turn) (λ b. Nothing (add s b))) s ts rest x
    star_lift turn add h m less d = star_map G.first G.goes (DerivesIn G h l) (DerivesIn G m l) (taller h m less l) turn add (lift turn h m less) d

    star_high : {S B : Type 0} (turn : Syntax Tree B) (add : S → B → S) → ((ts rest : List Token) (b : B) → Derives (Is G l) turn ts rest b → High turn ts rest b) → {s x : S} {ts rest : List Token}
        → Star (λ s. After (Derives (Is G l) turn) (λ b. Nothing (add s b))) s ts rest x → (h : ℕ) × Star (λ s. After (Derives (DerivesIn G h l) turn) (λ b. Nothing (add s b))) s ts rest x
    star_high turn add each stop = (0, stop)
    star_high turn add each (go_on {ts = ts} (◌▸◌ {mid = mid} {a = b} d e) more) =
        let y = each ts mid b d in
        let z = star_high turn add each more in
        (y.0 + z.0, go_on (lift turn y.0 (y.0 + z.0) (omega arith) ts mid b y.1 ▸ e) (star_lift turn add z.0 (y.0 + z.0) (omega arith) z.1))

    -- one bound for all the parts of a syntax
    high : {A : Type 0} (s : Syntax Tree A) (ts rest : List Token) (x : A) → Derives (Is G l) s ts rest x → High s ts rest x
    high (give a) ts rest x d = (0, d)
    high (one t) ts rest x d = (0, d)
    high (part n) ts rest x d = d
    high (both f p q) ts rest x (◌▸◌ {mid = mid} {a = a} d (◌▸◌ {mid = m} {a = b} k e)) =
        let y = high p ts mid a d in
        let z = high q mid m b k in
        (y.0 + z.0, lift p y.0 (y.0 + z.0) (omega arith) ts mid a y.1 ▸ lift q z.0 (y.0 + z.0) (omega arith) mid m b z.1 ▸ e)
    high (p or q) ts rest x (left d) = let y = high p ts rest x d in (y.0, left y.1)
    high (p or q) ts rest x (right d) = let y = high q ts rest x d in (y.0, right y.1)
    high (repeat from p add turn) ts rest x (◌▸◌ {mid = mid} {a = a} d more) =
        let y = high p ts mid a d in
        let z = star_high turn add (λ ts rest b k. high turn ts rest b k) more in
        (y.0 + z.0, lift p y.0 (y.0 + z.0) (omega arith) ts mid a y.1 ▸ star_lift turn add z.0 (y.0 + z.0) (omega arith) z.1)

  -- a part is its production, under the limit inside
  pub part_is : (l inner : Limit) (n : N) (ts rest : List Token) (x : Tree n) → Inside l ts inner → Derived G (G.production n) inner ts rest x → Is G l n ts rest x
  part_is l inner n ts rest x i d = let y = high inner (G.production n) ts rest x d in (suc y.0, (inner, i, y.1))

  pub is_part : (l : Limit) (n : N) (ts rest : List Token) (x : Tree n) → Is G l n ts rest x → (inner : Limit) × Inside l ts inner × Derived G (G.production n) inner ts rest x
  is_part l n ts rest x d = go d.0 d.1
    where
      go : (h : ℕ) → DerivesIn G h l n ts rest x → (inner : Limit) × Inside l ts inner × Derived G (G.production n) inner ts rest x
      go zero d = absurd d
      go (suc h) d = (d.0, d.1, derives_map G.first G.goes (DerivesIn G h d.0) (Is G d.0) (λ n ts rest x k. (h, k)) (G.production n) ts rest x d.2)

  -- ---- what begins a part
  starts_in : (h : ℕ) (l : Limit) (n : N) (ts rest : List Token) (x : Tree n) → DerivesIn G h l n ts rest x → At (G.first n) ts
  starts_in zero l n ts rest x d = absurd d
  starts_in (suc h) l n ts rest x d = at_part_of (begins G.first G.goes (G.production n)) (G.first n) (fine n).begins_in ts
      (not_starts (begins G.first G.goes (G.production n)) (nullable G.first G.goes (G.production n)) (fine n).is_some (starts G.first G.goes (DerivesIn G h d.0) (λ n ts rest x k. starts_in h d.0 n ts rest x k) (G.production n) ts rest x d.2))

  pub part_starts : (l : Limit) (n : N) (ts rest : List Token) (x : Tree n) → Is G l n ts rest x → At (G.first n) ts
  part_starts l n ts rest x d = starts_in d.0 l n ts rest x d.1

  pub part_some : (n : N) → Something (Is G None n)
  part_some n = let y = something G.first G.goes (Is G None) (G.production n) (inr (fine n).is_productive) in (y.0, y.1, λ rest. part_is None None n (y.0 ++ rest) rest y.1 unlimited (y.2 rest))

  pub part_opens : (u : Token) (n : N) → among (G.first n) u.what ≡ true → Opened (Is G None n) u
  part_opens u n h =
      let y = opens G.first G.goes (Is G None) part_some u (G.production n) (inr (fine n).is_guarded) (part_of_is (G.first n) (begins G.first G.goes (G.production n)) (fine n).in_begins u.what h) in
      (y.0, y.1, λ rest. part_is None None n (u ∷ (y.0 ++ rest)) rest y.1 unlimited (y.2 rest))

  -- ---- the rules
  abbrev pub PartAt : ℕ → (n : N) → Relation (Tree n)
  PartAt d n late ts rest x = Is G (limit d late) n ts rest x

  free_at_zero : (late : Late) (n : N) (ts rest : List Token) (x : Tree n) → Is G (limit 0 late) n ts rest x → IsFree late (length ts)
  free_at_zero late n ts rest x d = let y = is_part (limit 0 late) n ts rest x d in (inside_zero_is late ts y.0 y.1).0

  -- a part that begins late enough is free
  free_part : (d : ℕ) (late : Late) (n : N) (ts rest : List Token) (x : Tree n) → IsFree late (length ts) → Is G None n ts rest x → Is G (limit d late) n ts rest x
  free_part d late n ts rest x free h = let y = is_part None n ts rest x h in part_is (limit d late) None n ts rest x (inside_free d late ts free) (subst (λ l. Derived G (G.production n) l ts rest x) (none_inside y.1) y.2)
    where
      none_inside : {inner : Limit} → Inside None ts inner → inner ≡ None
      none_inside i = (inside_zero_is None ts _ i).1

  begun : (n : N) (front : List Token) → Behind front (Is G None n) → Begins (PartAt 0 n) [] front
  begun n front y = record { more = y.0; tree = y.1; derives = λ s late free. free_part 0 late n (front ++ (y.0 ++ s)) s y.1 free (y.2 s) }

  module _ (d : ℕ) (n : N) where
    abbrev Produced : Relation (Tree n)
    Produced late ts rest x = Derived G (G.production n) (limit d late) ts rest x

    to_part : (late : Late) (ts rest : List Token) (x : Tree n) → Produced late ts rest x → PartAt (suc d) n late ts rest x
    to_part late ts rest x h = part_is (limit (suc d) late) (limit d late) n ts rest x (inside_next d late ts) h

    from_part : (late : Late) (ts rest : List Token) (x : Tree n) → PartAt (suc d) n late ts rest x → Produced late ts rest x ⊎ (IsFree late (length ts) × Produced None ts rest x)
    from_part late ts rest x h = let y = is_part (limit (suc d) late) n ts rest x h in go y.0 y.1 y.2
      where
        go : (inner : Limit) → Inside (limit (suc d) late) ts inner → Derived G (G.production n) inner ts rest x → Produced late ts rest x ⊎ (IsFree late (length ts) × Produced None ts rest x)
        go inner i k = elim (inside_next_is d late ts inner i) [
          | inl e ↦ inl (subst (λ l. Derived G (G.production n) l ts rest x) e k)
          | inr e ↦ inr (e.0, subst (λ l. Derived G (G.production n) l ts rest x) e.1 k)
        ]

  pub rule_part : (d : ℕ) (n : N) → Rule (read G d n) (PartAt d n) (NotAt (G.goes n))
  unfolding read
  rule_part zero n = rule_shallow (among (G.first n)) (PartAt 0 n) (NotAt (G.goes n)) (λ late. part_starts (limit 0 late) n) (λ late. free_at_zero (Some late) n) (λ u h. begun n (u ∷ []) (part_opens u n h)) (begun n [] (part_some n))
  rule_part (suc d) n = rule_within (λ ts. refl) (to_part d n) (from_part d n) (λ rest e. not_part_of (goes_on G.first G.goes (G.production n)) (G.goes n) (fine n).goes_in rest e)
      (by_syntax.rule G.first G.goes (read G d) (λ late n ts rest x. Is G (limit d late) n ts rest x) (rule_part d) (λ late. part_starts (limit d late)) part_some part_opens (G.production n) (fine n).is_decided)

  -- a syntax of the grammar
  pub rule_of : {A : Type 0} (d : ℕ) (s : Syntax Tree A) → decided G.first G.goes s ≡ true → Rule (parse G d s) (λ late. Derived G s (limit d late)) (NotAt (goes_on G.first G.goes s))
  unfolding parse
  rule_of d s h = by_syntax.rule G.first G.goes (read G d) (λ late n ts rest x. Is G (limit d late) n ts rest x) (rule_part d) (λ late. part_starts (limit d late)) part_some part_opens s h
