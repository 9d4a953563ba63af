-- What holds of the units of texts, from what holds of tokens.
use Rattle.std.proofs.Common.{◌≡◌, ◌⊎◌, ℕ, List, subst, inl, inr}
use Rattle.lil_base.specs.declared.fault.SourceFault.{SourceFault}
use Rattle.lil_text.specs.{declared.token.Token.Token, Lexical.{HasTokens, HasLexicalFault}}
use Rattle.lil_language.specs.{Units.{IsRightUnit, HasUnitFault, Reads, HasReadFault}, declared.unit.Unit.Unit as Tree}
use Rattle.lil_read_unit.proofs.Answering as by

module _ (text : List ℕ) (one : (ts us : List Token) → HasTokens text ts → HasTokens text us → ts ≡ us) where
  pub one_unit : (u v : Tree) → Reads text u → Reads text v → u ≡ v
  one_unit u v h k = by.one k.0 u v (subst (λ ts. IsRightUnit ts u) (one h.0 k.0 h.1 k.1) h.2) k.2

  module _ (apart : (ts : List Token) (f : SourceFault) → HasTokens text ts → HasLexicalFault text f → ⊥) where
    pub apart_unit : (u : Tree) (f : SourceFault) → Reads text u → HasReadFault text f → ⊥
    apart_unit u f h (inl k) = apart h.0 f h.1 k
    apart_unit u f h (inr k) = by.apart k.0 u f (subst (λ ts. IsRightUnit ts u) (one h.0 k.0 h.1 k.1) h.2) k.2

    -- with the tokens at hand
    pub fault_at : (ts : List Token) → HasTokens text ts → (f : SourceFault) → HasReadFault text f → HasUnitFault ts f
    fault_at ts cut f (inl k) = absurd (apart ts f cut k)
    fault_at ts cut f (inr k) = subst (λ ts. HasUnitFault ts f) (one k.0 ts k.1 cut) k.2

by_tokens : (text : List ℕ) (ts : List Token) → HasTokens text ts → ((u : Tree) × IsRightUnit ts u) ⊎ ((f : SourceFault) × HasUnitFault ts f) → ((u : Tree) × Reads text u) ⊎ ((f : SourceFault) × HasReadFault text f)
by_tokens text ts cut (inl h) = inl (h.0, (ts, cut, h.1))
by_tokens text ts cut (inr h) = inr (h.0, inr (ts, cut, h.1))

pub whole_unit : (text : List ℕ) → ((ts : List Token) × HasTokens text ts) ⊎ ((f : SourceFault) × HasLexicalFault text f) → ((u : Tree) × Reads text u) ⊎ ((f : SourceFault) × HasReadFault text f)
whole_unit text (inl h) = by_tokens text h.0 h.1 (by.whole_text h.0)
whole_unit text (inr h) = inr (h.0, inl h.1)
