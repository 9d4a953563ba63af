-- The rules of two ways by a test of the first token, and of a list of parts behind tokens that part them.
use Rattle.std.proofs.Common.{◌≡◌, suc, ◌<◌, Bool, true, false, List, [], ◌∷◌, ◌++◌, length, Option, Some, None, Ok, Err, refl, subst, ap, sym, ◌∙◌, inl, inr, arith}
use Rattle.lil_base.specs.declared.fault.Place.{Place}
use Rattle.lil_text.specs.declared.{token.{Token.Token, TokenKind.TokenKind}, stop.ReadStop.ReadStop}
use Rattle.lil_grammar.specs.{Steps.{syntax, Outcome, Parser, ◌>>=◌, pure, first, place_of, at, either, either_by, token, taken, Not}, Phrases.{Nothing, nothing, Either, left, right}, RulesTokens.{Same, rule_pure, at_same}}
use Rattle.lil_grammar.specs.Rules.{Late, Relation, Answered, Reached, Reaches, Rule, KeepsNone, fell_map, begins_as, ok_same, ok_err, err_same, syntax_nested, first-append, Then, rule_then}

-- something begins with the token, in the plain grammar
abbrev pub Opens : {A : Type 0} → Relation A → Token → Type 0
Opens {A} R t = (more : List Token) × (a : A) × R None (t ∷ more) [] a

-- ---- one of two ways
abbrev pub Or : {A : Type 0} → Relation A → Relation A → Relation A
Or P Q late = Either (P late) (Q late)

module _ {A : Type 0} {p q : Parser A} {P Q : Relation A} {E E' : List Token → Type 0} (test : TokenKind → Bool) (F : List Token → Type 0)
    (only_p : (late : Late) (ts rest : List Token) (a : A) → P late ts rest a → at test ts ≡ true) (only_q : (late : Late) (ts rest : List Token) (a : A) → Q late ts rest a → F rest → Not test ts)
    (ends_p : (rest : List Token) → F rest → E rest) (ends_q : (rest : List Token) → F rest → E' rest) (ends : F [])
    (each : (t : Token) → test t.what ≡ true → Opens P t) (reaches_p : Reaches p P E) (reaches_q : Reaches q Q E') where
  abbrev By : Bool → Relation A
  By true = P
  By false = Q

  abbrev EndsBy : Bool → List Token → Type 0
  EndsBy true = E
  EndsBy false = E'

  outer : (b : Bool) (rest : List Token) → F rest → EndsBy b rest
  outer true = ends_p
  outer false = ends_q

  to_or : (b : Bool) {late : Late} {ts rest : List Token} {a : A} → By b late ts rest a → Or P Q late ts rest a
  to_or true h = left h
  to_or false h = right h

  the_one : {b : Bool} {late : Late} {ts rest : List Token} {a : A} → at test ts ≡ b → Or P Q late ts rest a → F rest → By b late ts rest a
  the_one {late = late} {ts = ts} {rest = rest} {a = a} is (left h) e = subst (λ b. By b late ts rest a) (sym (only_p late ts rest a h) ∙ is) h
  the_one {late = late} {ts = ts} {rest = rest} {a = a} is (right h) e = subst (λ b. By b late ts rest a) (sym (only_q late ts rest a h e) ∙ is) h

  pub either_reaches : Reaches (either test p q) (Or P Q) F
  either_reaches late ts rest a (left h) e = subst (λ b. Reached (either_by p q b ts) a rest) (sym (only_p late ts rest a h)) (reaches_p late ts rest a h (ends_p rest e))
  either_reaches late ts rest a (right h) e = subst (λ b. Reached (either_by p q b ts) a rest) (sym (only_q late ts rest a h e)) (reaches_q late ts rest a h (ends_q rest e))

  -- the first way is not refused at its first token
  never : (ts : List Token) (place : Place) → at test ts ≡ true → ((more : List Token) → first more ≡ first ts → p more ≡ Err (syntax place)) → ⊥
  unfolding at
  never [] place is refuses = absurd (cc)
  never (t ∷ ts) place is refuses = let o = each t is in elim (reaches_p None (t ∷ o.0) [] o.1 o.2 (ends_p [] ends)) [
    | inl n ↦ syntax_nested place n.0 (err_same (sym (refuses (t ∷ o.0) refl) ∙ n.1))
    | inr is ↦ ok_err is (refuses (t ∷ o.0) refl)
  ]

  -- the class that takes nothing is that of no tokens
  at_nothing : (b : Bool) (a : A) → By b None [] [] a → at test [] ≡ b
  unfolding at
  at_nothing true a h = only_p None [] [] a h
  at_nothing false a h = refl

  module _ (ts : List Token) where
    again : {b : Bool} (front rest more : List Token) → at test ts ≡ b → ts ≡ front ++ rest → first more ≡ first rest → at test (front ++ more) ≡ b
    again front rest more is cut same = at_same test (front ++ more) ts (first-append front more rest same ∙ ap first (sym cut)) ∙ is

    at_end : {b : Bool} (front rest : List Token) (a : A) → at test ts ≡ b → ts ≡ front ++ rest → By b None (front ++ []) [] a → at test (front ++ []) ≡ b
    at_end {b} [] rest a is cut h = at_nothing b a h
    at_end (t ∷ front) rest a is cut h = at_same test (t ∷ (front ++ [])) ts (sym (ap first cut)) ∙ is

    end_by : {e : ReadStop} (b : Bool) (front rest : List Token) → at test ts ≡ b → ts ≡ front ++ rest → ((more : List Token) → first more ≡ first rest → either_by p q b (front ++ more) ≡ Err e)
        → e ≡ syntax (place_of rest) → either_by p q b front ≡ Err (syntax (place_of [])) → either test p q front ≡ Err (syntax (place_of []))
    unfolding at
    end_by true [] rest is cut refuses same end = absurd (never ts (place_of rest) is (λ more h. refuses more (h ∙ ap first cut) ∙ ap (λ e. Err e) same))
    end_by false [] rest is cut refuses same end = end
    end_by b (t ∷ us) rest is cut refuses same end = ap (λ b. either_by p q b (t ∷ us)) (at_same test (t ∷ us) ts (sym (ap first cut)) ∙ is) ∙ end

    answered_by : (b : Bool) → at test ts ≡ b → (o : Outcome A) → Answered (either_by p q b) (By b) (EndsBy b) ts o → Answered (either test p q) (Or P Q) F ts o
    answered_by b is (Ok y) x = record {
      front = x.front;
      cut = x.cut;
      again = λ more same. ap (λ b. either_by p q b (x.front ++ more)) (elim same [
        | inl same ↦ again x.front y.1 more is x.cut same
        | inr none ↦ ap (λ more. at test (x.front ++ more)) none ∙ at_end x.front y.1 y.0 is x.cut (x.derives None [])
      ]) ∙ x.again more same;
      derives = λ late s. to_or b (x.derives late s);
    }
    answered_by b is (Err e) x = fell_map x (λ more same. ap (λ b. either_by p q b (x.front ++ more)) (again x.front x.rest more is x.cut same) ∙ x.again more same)
        (begins_as (λ late ts rest a h. to_or b h) x.begins) (end_by b x.front x.rest is x.cut x.again) keeps
      where
        keeps : (t : Token) (tail : List Token) → x.rest ≡ t ∷ tail → KeepsNone (By b) (EndsBy b) x.front t → KeepsNone (Or P Q) F x.front t
        keeps t tail cut none more late rest a h e = none more late rest a (the_one (again x.front x.rest (t ∷ more) is x.cut (sym (ap first cut))) h e) (outer b rest e)

    pub either_answered : (at test ts ≡ true → Answered p P E ts (p ts)) → (at test ts ≡ false → Answered q Q E' ts (q ts)) → Answered (either test p q) (Or P Q) F ts (either test p q ts)
    either_answered x y = go (at test ts) refl
      where
        go : (b : Bool) → at test ts ≡ b → Answered (either test p q) (Or P Q) F ts (either_by p q b ts)
        go true is = answered_by true is (p ts) (x is)
        go false is = answered_by false is (q ts) (y is)

  pub rule_either : Rule p P E → Rule q Q E' → Rule (either test p q) (Or P Q) F
  rule_either x y = record { answered = λ ts. either_answered ts (λ is. x.answered ts) (λ is. y.answered ts); reaches = either_reaches; some = begins_as (λ late ts rest a h. left h) x.some }

-- ---- by a function of what was read
pub rule_map : {A B : Type 0} {p : Parser A} {P : Relation A} {E : List Token → Type 0} → Rule p P E → (f : A → B) → Rule (p >>= (λ a. pure (f a))) (Then P (λ a. Same (f a))) E
rule_map {A} {B} {E = E} x f = rule_then x (λ a. rule_pure (f a)) E (λ late ts rest a b h e. inner h e) (λ a rest e. tt)
  where
    inner : {ts rest : List Token} {a : A} {b : B} → Nothing (f a) ts rest b → E rest → E ts
    inner (nothing same) e = e

-- ---- what is left is shorter behind a token
pub token_shrinks : {A : Type 0} (f : Token → Option A) (ts : List Token) (a : A) (rest : List Token) → token f ts ≡ Ok (a, rest) → length rest < length ts
unfolding token
token_shrinks f [] a rest is = absurd (cc)
token_shrinks {A} f (t ∷ ts) a rest is = go (f t) is
  where
    go : (o : Option A) → taken ts t.place o ≡ Ok (a, rest) → length rest < suc (length ts)
    go None is = absurd (cc)
    go (Some b) is = omega (arith, ap (λ y. length y.1) (ok_same is))
