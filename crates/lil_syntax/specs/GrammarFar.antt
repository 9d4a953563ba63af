-- A syntax refuses as too deep only where so many tokens stand.
use Rattle.std.proofs.Common.{◌≡◌, ◌⊎◌, ℕ, zero, suc, Bool, true, false, if◌then◌else◌, List, None, refl, sym, ◌∙◌, inl, inr, true≢false}
use Rattle.std.proofs.lemmas.Bool.{and_parts}
use Rattle.lil_text.specs.{declared.token.Token.Token, Nesting.{Limit, unlimited}}
use Rattle.lil_grammar.specs.{Steps.{Parser, ◌>>=◌, pure, many}, Rules.took, RulesLimit.limit, RulesFar.{Far, Shrinks, far_pure, far_token, far_then, far_behind, far_map, far_either, far_many, far_shallow}}
use Rattle.lil_syntax.specs.{Terminals.{among, taken_as}, Syntax.{Syntax, give, one, part, both, ◌or◌, repeat, nullable, begins, decided, guarded, reads, before, Grammar, DerivesIn, Is, Derived, read, parse, sound_at}, SyntaxLaws.{before_is, derives_map, starts}, SyntaxRules.shrinks_by, GrammarRules.{not_starts, fine, part_starts, rule_of}}

far_as : {A : Type 0} {m : ℕ} {p p' : Parser A} → ((ts : List Token) → p' ts ≡ p ts) → Far m p → Far m p'
far_as same x = record { deep = λ ts q is. x.deep ts q (sym (same ts) ∙ is); less = λ ts a rest is. x.less ts a rest (sym (same ts) ∙ is) }

module _ {N : Type 0} {Tree : N → Type 0} (first goes : N → _) (at_part : (n : N) → Parser (Tree n)) (m : ℕ) (parts : (n : N) → Far m (at_part n)) where
  far_turns : {S B : Type 0} {m : ℕ} (turn : Syntax Tree B) (add : S → B → S) → Far m (reads first goes at_part turn) → (s : S) → Far m (many (among (begins first goes turn)) (λ s. before first goes at_part turn (λ b. pure (add s b))) s)
  far_turns turn add x = far_many (among (begins first goes turn)) (λ s. before first goes at_part turn (λ b. pure (add s b))) (λ s. far_as (before_is first goes at_part turn (λ b. pure (add s b))) (far_map x (add s)))

  pub far : {A : Type 0} (s : Syntax Tree A) → Far m (reads first goes at_part s)
  unfolding reads
  far (give a) = far_pure m a
  far (one t) = far_token m (taken_as t)
  far (part n) = parts n
  far (both f p q) = far_as (before_is first goes at_part p (λ a. reads first goes at_part q >>= (λ b. pure (f a b)))) (far_then (far p) (λ a. far_map (far q) (f a)))
  far (p or q) = far_either (among (begins first goes p)) (far p) (far q)
  far (repeat from p add turn) = far_then (far p) (λ a. far_turns turn add (far turn) (from a))

  -- where each part stands behind a token
  module _ (shrinks : (A : Type 0) (s : Syntax Tree A) → nullable first goes s ≡ false → decided first goes s ≡ true → Shrinks (reads first goes at_part s)) where
    by_nullable : {X : Type 0} (b c : Bool) → (c ≡ true → X) → (if b then c else true) ≡ true → X ⊎ (b ≡ false)
    by_nullable true c x h = inl (x h)
    by_nullable false c x h = inr refl

    pub far_guarded : {A : Type 0} (s : Syntax Tree A) → decided first goes s ≡ true → guarded first goes s ≡ true → Far (suc m) (reads first goes at_part s)
    unfolding reads
    far_guarded (give a) d h = far_pure (suc m) a
    far_guarded (one t) d h = far_token (suc m) (taken_as t)
    far_guarded (part n) d h = absurd (true≢false (sym h))
    far_guarded (both {X = X} f p q) d h =
        let dp = and_parts _ _ d in
        let hp = and_parts _ _ h in
        far_as (before_is first goes at_part p (λ a. reads first goes at_part q >>= (λ b. pure (f a b)))) (elim (by_nullable (nullable first goes p) (guarded first goes q) (λ j. far_guarded q (and_parts _ _ dp.1).0 j) hp.1) [
          | inl z ↦ far_then (far_guarded p dp.0 hp.0) (λ a. far_map z (f a))
          | inr none ↦ far_behind (far_guarded p dp.0 hp.0) (shrinks X p none dp.0) (λ a. far_map (far q) (f a))
        ])
    far_guarded (p or q) d h =
        let dp = and_parts _ _ d in
        let hp = and_parts _ _ h in
        far_either (among (begins first goes p)) (far_guarded p dp.0 hp.0) (far_guarded q (and_parts _ _ dp.1).0 hp.1)
    far_guarded (repeat {A = A} from p add turn) d h =
        let dp = and_parts _ _ d in
        let hp = and_parts _ _ h in
        elim (by_nullable (nullable first goes p) (guarded first goes turn) (λ j. far_guarded turn (and_parts _ _ dp.1).0 j) hp.1) [
          | inl x ↦ far_then (far_guarded p dp.0 hp.0) (λ a. far_turns turn add x (from a))
          | inr none ↦ far_behind (far_guarded p dp.0 hp.0) (shrinks A p none dp.0) (λ a. far_turns turn add (far turn) (from a))
        ]

module _ {N : Type 0} {Tree : N → Type 0} (G : Grammar Tree) (sound : (n : N) → sound_at G n ≡ true) where
  shrinks_at : (d : ℕ) (A : Type 0) (s : Syntax Tree A) → nullable G.first G.goes s ≡ false → decided G.first G.goes s ≡ true → Shrinks (reads G.first G.goes (read G d) s)
  unfolding Shrinks parse
  shrinks_at d A s none h ts a mid is = shrinks_by (begins G.first G.goes s) (λ late ts rest x k. not_starts (begins G.first G.goes s) (nullable G.first G.goes s) none (starts G.first G.goes (Is G (limit d late)) (part_starts G sound (limit d late)) s ts rest x k)) ts a mid (took (rule_of G sound d s h) is)

  pub far_part : (d : ℕ) (n : N) → Far d (read G d n)
  unfolding read
  far_part zero n = far_shallow (among (G.first n))
  far_part (suc d) n = far_guarded G.first G.goes (read G d) d (far_part d) (shrinks_at d) (G.production n) (fine G sound n).is_decided (fine G sound n).is_guarded

  pub far_of : {A : Type 0} (d : ℕ) (s : Syntax Tree A) → Far d (parse G d s)
  unfolding parse
  far_of d s = far G.first G.goes (read G d) d (far_part d) s

  -- ---- without a limit
  plain_in : (h : ℕ) (l : Limit) (n : N) (ts rest : List Token) (x : Tree n) → DerivesIn G h l n ts rest x → DerivesIn G h None n ts rest x
  plain_in zero l n ts rest x d = d
  plain_in (suc h) l n ts rest x d = (None, unlimited, derives_map G.first G.goes (DerivesIn G h d.0) (DerivesIn G h None) (plain_in h d.0) (G.production n) ts rest x d.2)

  pub plain_of : {A : Type 0} (s : Syntax Tree A) (l : Limit) (ts rest : List Token) (x : A) → Derived G s l ts rest x → Derived G s None ts rest x
  plain_of s l ts rest x d = derives_map G.first G.goes (Is G l) (Is G None) (λ n ts rest x k. (k.0, plain_in k.0 l n ts rest x k.1)) s ts rest x d
