-- A loop of a body that counts up, beside the repetition that counts down.
use Rattle.std.proofs.Common.{◌≡◌, ℕ, suc, ◌+◌, ◌-◌, ◌<◌, ◌≤◌, Bool, true, false, List, Ok, Err, ap, sym, ◌∙◌, arith}
use Rattle.lil_text.specs.declared.{token.{Token.Token, TokenKind.TokenKind}, stop.ReadStop.ReadStop}
use Rattle.lil_grammar.specs.Steps.{Outcome, Parser, and_then, ◌>>=◌, pure, at, either_by, loop}

module _ {S : Type 0} (test : TokenKind → Bool) (turn : S → Parser S) (s : S) (ts : List Token) {x : Outcome S} {n i : ℕ} (so_far : x ≡ loop test turn (n - i) s ts) where
  one_more : {b : Bool} → i < n → b ≡ at test ts → x ≡ either_by (turn s >>= loop test turn (n - (i + 1))) (pure s) b ts
  unfolding loop
  one_more below h =
      let turn_left : n - i ≡ suc (n - (i + 1)) = omega arith in
      so_far ∙ ap (λ k. loop test turn k s ts) turn_left ∙ ap (λ b. either_by (turn s >>= loop test turn (n - (i + 1))) (pure s) b ts) (sym h)

  -- the next token begins no turn, or no token is left
  pub loop_over : i < n → false ≡ at test ts → x ≡ Ok (s, ts)
  loop_over below h = one_more below h

  pub loop_done : n ≤ i → x ≡ Ok (s, ts)
  unfolding loop
  loop_done done = let none : n - i ≡ 0 = omega arith in so_far ∙ ap (λ k. loop test turn k s ts) none

  pub loop_on : i < n → true ≡ at test ts → (next : S) (mid : List Token) → turn s ts ≡ Ok (next, mid) → x ≡ loop test turn (n - (i + 1)) next mid
  loop_on below h next mid is = one_more below h ∙ ap (λ o. and_then o (loop test turn (n - (i + 1)))) is

  pub loop_fails : i < n → true ≡ at test ts → (e : ReadStop) → turn s ts ≡ Err e → x ≡ Err e
  loop_fails below h e is = one_more below h ∙ ap (λ o. and_then o (loop test turn (n - (i + 1)))) is

pub ruleset turns = (loop_over, loop_done, loop_on, loop_fails)
