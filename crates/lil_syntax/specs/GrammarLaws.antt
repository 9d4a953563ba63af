-- What a reader of the grammar may rely on, for each syntax of it that one token decides.
use Rattle.std.proofs.Common.{◌≡◌, ℕ, true, List, Some, Result, Ok, Err, IfOk, IfErr, subst, sym, inl, inr}
use Rattle.lil_text.specs.{declared.{token.Token.Token, stop.ReadStop.{ReadStop, TheVariants.{Fault, Memory}}}, Nesting.{Limit, within}}
use Rattle.lil_base.specs.declared.fault.SourceFault.{SourceFault}
use Rattle.lil_grammar.specs.{Steps.{syntax, nested, Outcome, Reads}, Places.{Longest, StopsAt, AnswersAt}, Rules.fell}
use Rattle.lil_syntax.specs.{Syntax.{Syntax, decided, goes_on, Grammar, Derived, parse, sound_at}, KindLaws.{NotAt, not_at_end}, GrammarRules.rule_of, GrammarFar.{far_of, plain_of}}
use Rattle.lil_grammar.specs.RulesUse as r
use Rattle.lil_grammar.specs.RulesFar as o
use Rattle.lil_grammar.specs.RulesExact as exact

memory_fault : {f : SourceFault} → Memory ≡ Fault f → ⊥
memory_fault e = absurd (cc)

module _ {N : Type 0} {Tree : N → Type 0} (G : Grammar Tree) (sound : (n : N) → sound_at G n ≡ true) {A : Type 0} (s : Syntax Tree A) (by_one : decided G.first G.goes s ≡ true) where
  -- what may follow it without going on with it
  abbrev pub Ends : List Token → Type 0
  Ends = NotAt (goes_on G.first G.goes s)

  -- one reading, whatever the limits
  pub unique : (l l' : Limit) (ts rest rest' : List Token) (x y : A) → Derived G s l ts rest x → Derived G s l' ts rest' y → Ends rest → Ends rest' → (x ≡ y) × (rest ≡ rest')
  unique = o.one_reading (Derived G s) (λ d. rule_of G sound d s by_one) (λ d. far_of G sound d s) (plain_of G sound s)

  module _ (d : ℕ) where
    pub is_derived : (ts : List Token) (x : A) (rest : List Token) → parse G d s ts ≡ Ok (x, rest) → Derived G s (within d) ts rest x
    is_derived = r.sound (rule_of G sound d s by_one) (Some 0)

    pub is_read : (ts rest : List Token) (x : A) → Derived G s (within d) ts rest x → Ends rest → parse G d s ts ≡ Ok (x, rest)
    is_read = r.complete (rule_of G sound d s by_one)

    -- it needs no memory
    pub never_memory : (ts : List Token) → parse G d s ts ≡ Err Memory → ⊥
    unfolding syntax nested
    never_memory ts is = elim (fell (rule_of G sound d s by_one) is).why [
      | inl h ↦ let e = h.is in memory_fault e
      | inr h ↦ let e = h.is in memory_fault e
    ]

    -- what is described is answered
    pub exactly : (ts : List Token) (outcome : Outcome A) → AnswersAt (Derived G s) d ts outcome → parse G d s ts ≡ outcome
    exactly = exact.exactly (Derived G s) d (rule_of G sound d s by_one) (not_at_end (goes_on G.first G.goes s))

    -- ---- for a function that reads by it
    module _ (ts new : List Token) where
      pub found : (result : Result A ReadStop) → Reads (parse G d s ts) result new → IfOk result (λ x. Derived G s (within d) ts new x)
      found (Ok x) h = is_derived ts x new h
      found (Err e) h = tt

      pub longest : (result : Result A ReadStop) → Reads (parse G d s ts) result new → IfOk result (λ x. Longest (Derived G s) ts new)
      longest (Ok x) h = r.longest (Derived G s) d (rule_of G sound d s by_one) (not_at_end (goes_on G.first G.goes s)) ts x new h
      longest (Err e) h = tt

      pub only : (result : Result A ReadStop) → Reads (parse G d s ts) result new → (x : A) (rest : List Token) → Derived G s (within d) ts rest x → Ends rest → Reads (Ok (x, rest)) result new
      only result reads x rest h e = subst (λ o. Reads o result new) (is_read ts rest x h e) reads

      pub stops : (result : Result A ReadStop) → Reads (parse G d s ts) result new → IfErr result (λ e. StopsAt (Derived G s) d ts e)
      stops (Ok x) h = tt
      stops (Err (Fault f)) h = r.stops_at (Derived G s) d (rule_of G sound d s by_one) (not_at_end (goes_on G.first G.goes s)) ts (Fault f) (h (λ e. memory_fault (sym e)))
      stops (Err Memory) h = tt
