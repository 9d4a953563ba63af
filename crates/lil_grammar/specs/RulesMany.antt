-- The rule of repetition, as long as a turn begins.
use Rattle.std.proofs.Common.{◌≡◌, ℕ, zero, suc, ◌≤◌, ◌<◌, Bool, true, false, List, [], ◌∷◌, length, Ok, Err, refl, subst, ap, sym, ◌∙◌, inl, inr, arith}
use Rattle.lil_text.specs.declared.token.{Token.Token, TokenKind.TokenKind}
use Rattle.lil_grammar.specs.{Steps.{Outcome, Parser, and_then, ◌>>=◌, pure, at, either_by, loop, many}, Phrases.{nothing, ◌▸◌, left, right, Star, stop, go_on}, RulesTokens.{Same, rule_pure}, RulesLists.{Opens, Or, either_answered}}
use Rattle.lil_grammar.specs.Rules.{Late, Relation, Answered, Reached, Reaches, Rule, Begins, Then, then_answered, then_reaches, answered_as}

abbrev pub Turns : {S : Type 0} → (S → Relation S) → S → Relation S
Turns D s late = Star (λ s. D s late) s

module _ {S : Type 0} (test : TokenKind → Bool) (turn : S → Parser S)
    (shrinks : (s : S) (ts : List Token) (s' : S) (mid : List Token) → turn s ts ≡ Ok (s', mid) → length mid < length ts) where
  abbrev step : (S → Parser S) → S → Bool → Parser S
  step go s = either_by (turn s >>= go) (pure s)

  enough_by : (go go' : S → Parser S) (s : S) (ts : List Token) → ((s' : S) (mid : List Token) → length mid < length ts → go s' mid ≡ go' s' mid)
      → (o : Outcome S) → turn s ts ≡ o → and_then o go ≡ and_then o go'
  enough_by go go' s ts h (Err e) is = refl
  enough_by go go' s ts h (Ok y) is = h y.0 y.1 (shrinks s ts y.0 y.1 is)

  enough_step : (go go' : S → Parser S) (s : S) (ts : List Token) → ((s' : S) (mid : List Token) → length mid < length ts → go s' mid ≡ go' s' mid) → (b : Bool) → step go s b ts ≡ step go' s b ts
  enough_step go go' s ts h true = enough_by go go' s ts h (turn s ts) refl
  enough_step go go' s ts h false = refl

  enough : (n m : ℕ) (s : S) (ts : List Token) → length ts ≤ n → length ts ≤ m → loop test turn n s ts ≡ loop test turn m s ts
  unfolding loop at
  enough zero zero s ts hn hm = refl
  enough zero (suc m) s [] hn hm = refl
  enough zero (suc m) s (t ∷ ts) hn hm = absurd (omega arith)
  enough (suc n) zero s [] hn hm = refl
  enough (suc n) zero s (t ∷ ts) hn hm = absurd (omega arith)
  enough (suc n) (suc m) s ts hn hm = enough_step (loop test turn n) (loop test turn m) s ts (λ s' mid h. enough n m s' mid (omega arith) (omega arith)) (at test ts)

  -- repetition, turn by turn
  pub many_is : (s : S) (ts : List Token) → many test turn s ts ≡ either_by (turn s >>= many test turn) (pure s) (at test ts) ts
  unfolding many loop
  many_is s ts =
      enough (length ts) (suc (length ts)) s ts (omega arith) (omega arith)
      ∙ enough_step (loop test turn (length ts)) (many test turn) s ts (λ s' mid h. enough (length ts) (length mid) s' mid (omega arith) (omega arith)) (at test ts)

  module _ (D : S → Relation S) (E F : List Token → Type 0) (rules : (s : S) → Rule (turn s) (D s) E)
      (begins : (late : Late) (s : S) (ts rest : List Token) (s' : S) → D s late ts rest s' → at test ts ≡ true)
      (over : (ts : List Token) → F ts → at test ts ≡ false)
      (goes : (ts : List Token) → at test ts ≡ true → E ts) (stops : (ts : List Token) → F ts → E ts)
      (ends : F []) (each : (s : S) (t : Token) → test t.what ≡ true → Opens (D s) t) where
    between : {late : Late} {s : S} {ts rest : List Token} {x : S} → Turns D s late ts rest x → F rest → E ts
    between (stop {ts = ts}) e = stops ts e
    between {late} (go_on {s = s} {s' = s'} {ts = ts} {mid = mid} h more) e = goes ts (begins late s ts mid s' h)

    to_turns : {late : Late} {s : S} {ts rest : List Token} {x : S} → Or (Then (D s) (Turns D)) (Same s) late ts rest x → Turns D s late ts rest x
    to_turns (left (h ▸ k)) = go_on h k
    to_turns {late} {s} {ts} (right (nothing e)) = subst (λ x. Turns D s late ts ts x) (sym e) stop

    from_turns : {late : Late} {s : S} {ts rest : List Token} {x : S} → Turns D s late ts rest x → Or (Then (D s) (Turns D)) (Same s) late ts rest x
    from_turns stop = right (nothing refl)
    from_turns (go_on h more) = left (h ▸ more)

    reaches : {late : Late} {s : S} {ts rest : List Token} {x : S} → Turns D s late ts rest x → F rest → Reached (many test turn s ts) x rest
    reaches (stop {s = s} {ts = ts}) e = inr (many_is s ts ∙ ap (λ b. step (many test turn) s b ts) (over ts e))
    reaches {late} (go_on {s = s} {s' = s'} {s'' = x} {ts = ts} {mid = mid} {rest = rest} h more) e =
        subst (λ o. Reached o x rest) (sym (many_is s ts ∙ ap (λ b. step (many test turn) s b ts) (begins late s ts mid s' h)))
        (then_reaches (turn s) (D s) (many test turn) (Turns D) ((rules s).reaches late ts mid s' h (between more e)) (reaches more e))

    turns_some : (s : S) → Begins (Turns D s) [] []
    turns_some s = record { more = []; tree = s; derives = λ ts late free. stop }

    module _ (s : S) where
      inner : (late : Late) (ts rest : List Token) (s' x : S) → Turns D s' late ts rest x → F rest → E ts
      inner late ts rest s' x h e = between h e

      first_turn : (late : Late) (ts rest : List Token) (x : S) → Then (D s) (Turns D) late ts rest x → at test ts ≡ true
      first_turn late ts rest x (◌▸◌ {mid = mid} {a = s'} h k) = begins late s ts mid s' h

      no_turn : (late : Late) (ts rest : List Token) (x : S) → Same s late ts rest x → F rest → at test ts ≡ false
      no_turn late ts rest x (nothing same) e = over ts e

      opens : (t : Token) → test t.what ≡ true → Opens (Then (D s) (Turns D)) t
      opens t h = let o = each s t h in (o.0, o.1, o.2 ▸ stop)

      turn_reaches : Reaches (turn s >>= many test turn) (Then (D s) (Turns D)) F
      turn_reaches late ts rest x (◌▸◌ {mid = mid} {a = s'} h k) e = then_reaches (turn s) (D s) (many test turn) (Turns D) ((rules s).reaches late ts mid s' h (between k e)) (reaches k e)

      answered_by : (ts : List Token) → ((s' : S) (mid : List Token) → length mid < length ts → Answered (many test turn s') (Turns D s') F mid (many test turn s' mid)) → Answered (many test turn s) (Turns D s) F ts (many test turn s ts)
      answered_by ts deeper = answered_as (many_is s) (λ late ts rest x h. to_turns h) (λ late ts rest x h. inl (from_turns h)) (λ rest e. e) ts
          (either_answered test F first_turn no_turn (λ rest e. e) (λ rest e. tt) ends opens turn_reaches (rule_pure s).reaches ts
          (λ is. then_answered (turn s) (D s) (many test turn) (Turns D) E F inner (rules s).reaches (λ s'. F) (λ s' rest e. e) turns_some ((rules s).answered ts) (λ s' mid is. deeper s' mid (shrinks s ts s' mid is)))
          (λ is. (rule_pure s).answered ts))

    answered_to : (n : ℕ) (s : S) (ts : List Token) → length ts ≤ n → Answered (many test turn s) (Turns D s) F ts (many test turn s ts)
    answered_to zero s ts h = answered_by s ts (λ s' mid less. absurd (omega arith))
    answered_to (suc n) s ts h = answered_by s ts (λ s' mid less. answered_to n s' mid (omega arith))

    pub rule_many : (s : S) → Rule (many test turn s) (Turns D s) F
    rule_many s = record { answered = λ ts. answered_to (length ts) s ts (omega arith); reaches = λ late ts rest x h e. reaches h e; some = turns_some s }
