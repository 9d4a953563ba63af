-- The rules of nothing, and of one token.
use Rattle.std.proofs.Common.{◌≡◌, Bool, List, [], ◌∷◌, Option, Some, None, Ok, Err, refl, subst, ap, sym, inl, inr}
use Rattle.lil_base.specs.declared.fault.Place.{Place}
use Rattle.lil_text.specs.declared.{token.{Token.Token, TokenKind.TokenKind}, stop.ReadStop.ReadStop}
use Rattle.lil_grammar.specs.{Steps.{syntax, pure, first, place_of, at, token, taken}, Phrases.{Nothing, nothing, One, takes}, Rules.{Relation, Fell, Answered, Rule, Begins}}

-- anything may follow
abbrev pub Anything : List Token → Type 0
Anything ts = Unit {0}

abbrev pub Same : {A : Type 0} → A → Relation A
Same x late = Nothing x

pub rule_pure : {A : Type 0} (x : A) → Rule (pure x) (Same x) Anything
rule_pure {A} x = record {
  answered = λ ts. record { front = []; cut = refl; again = λ more h. refl; derives = λ late s. nothing refl };
  reaches = λ late ts rest a h e. inr (reads h);
  some = record { more = []; tree = x; derives = λ s late free. nothing refl };
}
  where
    reads : {ts rest : List Token} {a : A} → Nothing x ts rest a → pure x ts ≡ Ok (a, rest)
    reads (nothing {ts = ts} e) = ap (λ a. Ok (a, ts)) (sym e)

-- by the first token alone
pub by_first : (P : List Token → List Token → Type 0) → P [] [] → ((t : Token) (ts us : List Token) → P (t ∷ ts) (t ∷ us)) → (more rest : List Token) → first more ≡ first rest → P more rest
by_first P end some [] [] h = end
by_first P end some [] (t ∷ ts) h = absurd (cc)
by_first P end some (t ∷ ts) [] h = absurd (cc)
by_first P end some (t ∷ ts) (u ∷ us) h = let e : t ≡ u = cc in subst (λ u. P (t ∷ ts) (u ∷ us)) e (some t ts us)

pub at_same : (test : TokenKind → Bool) (more rest : List Token) → first more ≡ first rest → at test more ≡ at test rest
unfolding at
at_same test = by_first (λ more rest. at test more ≡ at test rest) refl (λ t ts us. refl)

-- ---- one token
abbrev pub Taken : {A : Type 0} → (Token → Option A) → Relation A
Taken f late = One f

module _ {A : Type 0} (f : Token → Option A) where
  taken_again : {e : ReadStop} (p : Place) (ts us : List Token) (o : Option A) → taken ts p o ≡ Err e → taken us p o ≡ Err e
  taken_again p ts us None is = is
  taken_again p ts us (Some a) is = absurd (cc)

  refused_again : {e : ReadStop} (ts more : List Token) → token f ts ≡ Err e → first more ≡ first ts → token f more ≡ Err e
  unfolding token
  refused_again {e} ts more is h = by_first (λ more ts. token f ts ≡ Err e → token f more ≡ Err e) (λ is. is) (λ t us ts is. taken_again t.place ts us (f t) is) more ts h is

  pub token_reads : {ts rest : List Token} {a : A} → One f ts rest a → token f ts ≡ Ok (a, rest)
  unfolding token
  token_reads (takes {t = t} {rest = rest} is) = ap (taken rest t.place) is

  module _ (some : Begins (Taken f) [] []) where
    refused : (ts : List Token) → token f ts ≡ Err (syntax (place_of ts)) → Fell (token f) (Taken f) Anything ts (syntax (place_of ts))
    unfolding token
    refused ts is = record {
      front = [];
      rest = ts;
      on = [];
      cut = refl;
      again = λ more h. refused_again ts more is h;
      begins = some;
      why = inl (record { none = refl; is = refl; at_end = refl });
    }

    answered_by : (t : Token) (ts : List Token) (o : Option A) → f t ≡ o → Answered (token f) (Taken f) Anything (t ∷ ts) (taken ts t.place o)
    unfolding token place_of
    answered_by t ts None is = refused (t ∷ ts) (ap (taken ts t.place) is)
    answered_by t ts (Some a) is = record { front = t ∷ []; cut = refl; again = λ more h. ap (taken more t.place) is; derives = λ late s. takes is }

    answered : (ts : List Token) → Answered (token f) (Taken f) Anything ts (token f ts)
    unfolding token
    answered [] = refused [] refl
    answered (t ∷ ts) = answered_by t ts (f t) refl

  pub rule_token : (t : Token) (a : A) → f t ≡ Some a → Rule (token f) (Taken f) Anything
  rule_token t a is = record { answered = answered some; reaches = λ late ts rest a h e. inr (token_reads h); some = some }
    where
      some : Begins (Taken f) [] []
      some = record { more = t ∷ []; tree = a; derives = λ s late free. takes is }
