-- The laws between a parser and the relation of what it reads, and how those of a composed parser follow from those of its parts.
use Rattle.std.proofs.Common.{◌≡◌, ◌⊎◌, ℕ, ◌≤◌, ◌<◌, List, [], ◌∷◌, ◌++◌, length, length-append, append_assoc, Option, Some, None, Result, Ok, Err, refl, subst, ap, sym, ◌∙◌, inl, inr, arith}
use Rattle.lil_base.specs.{declared.fault.Place.Place, Faults.fault}
use Rattle.lil_text.specs.declared.{token.Token.Token, stop.ReadStop.ReadStop}
use Rattle.lil_grammar.specs.{Steps.{syntax, nested, Outcome, Parser, and_then, ◌>>=◌, first, place_of}, Phrases.{After, ◌▸◌}}

-- Which parts may lie too deep: all, by None, or those that begin with at most so many tokens left.
abbrev pub Late : Type 0
Late = Option ℕ

abbrev pub IsFree : Late → ℕ → Type 0
IsFree None n = Unit {0}
IsFree (Some late) n = n ≤ late

-- what the tokens from the first list up to the second derive
abbrev pub Relation : Type 0 → Type 1
Relation A = Late → List Token → List Token → A → Type 0

-- the same token or none
abbrev pub Follows : List Token → List Token → Type 0
Follows more rest = (first more ≡ first rest) ⊎ (more ≡ [])

-- What was taken is taken again before whatever begins with the same token, and at the end, and derives the same before anything.
pub record Took {A : Type 0} (p : Parser A) (R : Relation A) (ts : List Token) (a : A) (rest : List Token) : Type 0 where
  pub front : List Token
  pub cut : ts ≡ front ++ rest
  pub again : (more : List Token) → Follows more rest → p (front ++ more) ≡ Ok (a, more)
  pub derives : (late : Late) (s : List Token) → R late (front ++ s) s a

-- The tokens `front` and then `on` begin something, in which a part that begins within `front` keeps the limit.
pub record Begins {A : Type 0} (R : Relation A) (front on : List Token) : Type 0 where
  pub more : List Token
  pub tree : A
  pub derives : (s : List Token) (late : Late) → IsFree late (length (on ++ (more ++ s))) → R late (front ++ (on ++ (more ++ s))) s tree

-- No token but the one at which parsing stopped. It stops there at the end of the tokens too.
pub record IsSyntax {A : Type 0} (p : Parser A) (front on rest : List Token) (e : ReadStop) : Type 0 where
  pub none : on ≡ []
  pub is : e ≡ syntax (place_of rest)
  pub at_end : p front ≡ Err (syntax (place_of []))

-- where the limit is kept, nothing goes on with the token t
abbrev pub KeepsNone : {A : Type 0} → Relation A → (List Token → Type 0) → List Token → Token → Type 0
KeepsNone {A} R ends front t = (more : List Token) (late : ℕ) (rest : List Token) (a : A) → R (Some late) (front ++ t ∷ more) rest a → ends rest → length more < late

pub record IsDeep {A : Type 0} (R : Relation A) (ends : List Token → Type 0) (front on rest : List Token) (e : ReadStop) : Type 0 where
  pub token : Token
  pub tail : List Token
  pub one : on ≡ token ∷ []
  pub cut : rest ≡ token ∷ tail
  pub is : e ≡ nested token.place
  pub keeps_none : KeepsNone R ends front token

abbrev pub Why : {A : Type 0} → Parser A → Relation A → (List Token → Type 0) → List Token → List Token → List Token → ReadStop → Type 0
Why p R ends front on rest e = IsSyntax p front on rest e ⊎ IsDeep R ends front on rest e

-- A refusal before `rest`. It comes again for whatever goes on with the same token there.
pub record Fell {A : Type 0} (p : Parser A) (R : Relation A) (ends : List Token → Type 0) (ts : List Token) (e : ReadStop) : Type 0 where
  pub front : List Token
  pub rest : List Token
  pub on : List Token
  pub cut : ts ≡ front ++ rest
  pub again : (more : List Token) → first more ≡ first rest → p (front ++ more) ≡ Err e
  pub begins : Begins R front on
  pub why : Why p R ends front on rest e

abbrev pub Answered : {A : Type 0} → Parser A → Relation A → (List Token → Type 0) → List Token → Outcome A → Type 0
Answered p R ends ts (Ok y) = Took p R ts y.0 y.1
Answered p R ends ts (Err e) = Fell p R ends ts e

abbrev pub Nested : {A : Type 0} → Outcome A → Type 0
Nested o = (q : Place) × (o ≡ Err (nested q))

abbrev pub Reached : {A : Type 0} → Outcome A → A → List Token → Type 0
Reached o a rest = Nested o ⊎ (o ≡ Ok (a, rest))

abbrev pub Reaches : {A : Type 0} → Parser A → Relation A → (List Token → Type 0) → Type 0
Reaches {A} p R ends = (late : Late) (ts rest : List Token) (a : A) → R late ts rest a → ends rest → Reached (p ts) a rest

-- `ends` says what may follow a phrase without going on with it.
pub record Rule {A : Type 0} (p : Parser A) (R : Relation A) (ends : List Token → Type 0) : Type 0 where
  pub answered : (ts : List Token) → Answered p R ends ts (p ts)
  pub reaches : Reaches p R ends
  pub some : Begins R [] []

module _ {A : Type 0} {p : Parser A} {R : Relation A} {E : List Token → Type 0} (x : Rule p R E) {ts : List Token} where
  pub took : {a : A} {rest : List Token} → p ts ≡ Ok (a, rest) → Took p R ts a rest
  took is = subst (λ o. Answered p R E ts o) is (x.answered ts)

  pub fell : {e : ReadStop} → p ts ≡ Err e → Fell p R E ts e
  fell is = subst (λ o. Answered p R E ts o) is (x.answered ts)

-- ---- outcomes
pub ok_same : {A : Type 0} {x y : A} → ◌≡◌ {A = Result A ReadStop} (Ok x) (Ok y) → x ≡ y
ok_same e = cc

pub err_same : {A : Type 0} {d e : ReadStop} → ◌≡◌ {A = Result A ReadStop} (Err d) (Err e) → d ≡ e
err_same e = cc

pub ok_err : {A : Type 0} {o : Outcome A} {x : A × List Token} {e : ReadStop} → o ≡ Ok x → o ≡ Err e → ⊥
ok_err h k = absurd (cc)

pub syntax_nested : (p q : Place) → syntax p ≡ nested q → ⊥
unfolding syntax nested
syntax_nested p q e = let same : fault 10 p ≡ fault 12 q = cc in let h : ◌≡◌ {A = ℕ} 10 12 = ap (λ f. f.number) same in absurd (omega arith)

pub bind_ok : {A B : Type 0} (o : Outcome A) (f : A → Parser B) (y : B × List Token) → and_then o f ≡ Ok y → (p : A × List Token) × (o ≡ Ok p) × (f p.0 p.1 ≡ Ok y)
bind_ok (Ok p) f y e = (p, refl, e)
bind_ok (Err s) f y e = absurd (cc)

pub then_is : {A B : Type 0} {o : Outcome A} {a : A} {mid : List Token} {r : Outcome B} (f : A → Parser B) → o ≡ Ok (a, mid) → f a mid ≡ r → and_then o f ≡ r
then_is f e h = ap (λ o. and_then o f) e ∙ h

pub first-append : (front more rest : List Token) → first more ≡ first rest → first (front ++ more) ≡ first (front ++ rest)
first-append [] more rest h = h
first-append (t ∷ ts) more rest h = refl

pub follows-append : (front more rest : List Token) → Follows more rest → Follows (front ++ more) (front ++ rest)
follows-append [] more rest h = h
follows-append (t ∷ ts) more rest h = inl refl

pub follows-front : (front rest : List Token) → Follows front (front ++ rest)
follows-front [] rest = inr refl
follows-front (t ∷ ts) rest = inl refl

-- ---- by another parser and another relation
module _ {A B : Type 0} {p : Parser A} {R : Relation A} {E : List Token → Type 0} {p' : Parser B} {R' : Relation B} {E' : List Token → Type 0} where
  why_map : {front front' on rest : List Token} {e : ReadStop} → (e ≡ syntax (place_of rest) → p front ≡ Err (syntax (place_of [])) → p' front' ≡ Err (syntax (place_of [])))
      → ((t : Token) (tail : List Token) → rest ≡ t ∷ tail → KeepsNone R E front t → KeepsNone R' E' front' t) → Why p R E front on rest e → Why p' R' E' front' on rest e
  why_map end keeps (inl h) = inl (record { none = h.none; is = h.is; at_end = end h.is h.at_end })
  why_map end keeps (inr h) = inr (record { token = h.token; tail = h.tail; one = h.one; cut = h.cut; is = h.is; keeps_none = keeps h.token h.tail h.cut h.keeps_none })

  -- a refusal at the same place
  pub fell_map : {ts : List Token} {e : ReadStop} (x : Fell p R E ts e) → ((more : List Token) → first more ≡ first x.rest → p' (x.front ++ more) ≡ Err e) → Begins R' x.front x.on
      → (e ≡ syntax (place_of x.rest) → p x.front ≡ Err (syntax (place_of [])) → p' x.front ≡ Err (syntax (place_of []))) → ((t : Token) (tail : List Token) → x.rest ≡ t ∷ tail → KeepsNone R E x.front t → KeepsNone R' E' x.front t) → Fell p' R' E' ts e
  fell_map x again begins end keeps = record {
    front = x.front;
    rest = x.rest;
    on = x.on;
    cut = x.cut;
    again = again;
    begins = begins;
    why = why_map end keeps x.why;
  }

pub begins_as : {A : Type 0} {R R' : Relation A} {front on : List Token} → ((late : Late) (ts rest : List Token) (a : A) → R late ts rest a → R' late ts rest a) → Begins R front on → Begins R' front on
begins_as to b = record { more = b.more; tree = b.tree; derives = λ s late free. to late _ s b.tree (b.derives s late free) }

-- ---- one after another
abbrev pub Then : {A B : Type 0} → Relation A → (A → Relation B) → Relation B
Then P Q late = After (P late) (λ a. Q a late)

pub is_free_less : {m : ℕ} (late : Late) {n : ℕ} → n ≤ m → IsFree late m → IsFree late n
is_free_less None h k = tt
is_free_less (Some late) h k = omega arith

pub length_behind : (xs ys : List Token) → length ys ≤ length (xs ++ ys)
length_behind xs ys = omega (arith, length-append xs ys)

module _ {A B : Type 0} (P : Relation A) (Q : A → Relation B) where
  pub first_begins : {front on : List Token} → ((a : A) → Begins (Q a) [] []) → Begins P front on → Begins (Then P Q) front on
  first_begins {front} {on} some x =
      let y = some x.tree in
      record {
        more = x.more ++ y.more;
        tree = y.tree;
        derives = λ s late free.
            let assoc = append_assoc x.more y.more s in
            let free' = subst (λ ts. IsFree late (length (on ++ ts))) assoc free in
            let less : length (y.more ++ s) ≤ length (on ++ (x.more ++ (y.more ++ s))) = omega (arith, length_behind on (x.more ++ (y.more ++ s)), length_behind x.more (y.more ++ s)) in
            subst (λ ts. Then P Q late (front ++ (on ++ ts)) s y.tree) (sym assoc) (x.derives (y.more ++ s) late free' ▸ y.derives s late (is_free_less late less free'));
      }

  pub second_begins : {p : Parser A} {ts mid front on : List Token} {a : A} → (x : Took p P ts a mid) → Begins (Q a) front on → Begins (Then P Q) (x.front ++ front) on
  second_begins {front = front} {on = on} x y = record {
    more = y.more;
    tree = y.tree;
    derives = λ s late free. subst (λ ts. Then P Q late ts s y.tree) (sym (append_assoc x.front front (on ++ (y.more ++ s))))
        (x.derives late (front ++ (on ++ (y.more ++ s))) ▸ y.derives s late free);
  }

module _ {A B : Type 0} (p : Parser A) (P : Relation A) (q : A → Parser B) (Q : A → Relation B) where
  pub then_took : {ts mid rest : List Token} {a : A} {b : B} → Took p P ts a mid → Took (q a) (Q a) mid b rest → Took (p >>= q) (Then P Q) ts b rest
  then_took {rest = rest} {b = b} x y = record {
    front = x.front ++ y.front;
    cut = x.cut ∙ ap (λ r. x.front ++ r) y.cut ∙ sym (append_assoc x.front y.front rest);
    again = λ more same. subst (λ ts. and_then (p ts) q ≡ Ok (b, more)) (sym (append_assoc x.front y.front more))
        (then_is q (x.again (y.front ++ more) (subst (λ r. Follows (y.front ++ more) r) (sym y.cut) (follows-append y.front more rest same))) (y.again more same));
    derives = λ late s. subst (λ ts. Then P Q late ts s b) (sym (append_assoc x.front y.front s)) (x.derives late (y.front ++ s) ▸ y.derives late s);
  }

  -- `inner`: what goes on with the second part does not go on with the first
  module _ (E F : List Token → Type 0) (inner : (late : Late) (ts rest : List Token) (a : A) (b : B) → Q a late ts rest b → F rest → E ts) where
    first_fell : {ts : List Token} {e : ReadStop} → ((a : A) → Begins (Q a) [] []) → Fell p P E ts e → Fell (p >>= q) (Then P Q) F ts e
    first_fell some x = fell_map x (λ more same. ap (λ o. and_then o q) (x.again more same)) (first_begins P Q some x.begins) (λ is end. ap (λ o. and_then o q) end) keeps
      where
        keeps : (t : Token) (tail : List Token) → x.rest ≡ t ∷ tail → KeepsNone P E x.front t → KeepsNone (Then P Q) F x.front t
        keeps t tail cut none more late rest b (◌▸◌ {mid = mid} {a = a} h k) ends = none more late mid a h (inner (Some late) mid rest a b k ends)

    module _ (reaches : Reaches p P E) where
      second_fell : {ts mid : List Token} {a : A} {e : ReadStop} (E' : List Token → Type 0) → ((rest : List Token) → F rest → E' rest) → Took p P ts a mid → Fell (q a) (Q a) E' mid e → Fell (p >>= q) (Then P Q) F ts e
      second_fell {mid = mid} {a = a} {e = e} E' outer x y = record {
        front = x.front ++ y.front;
        rest = y.rest;
        on = y.on;
        cut = x.cut ∙ ap (λ r. x.front ++ r) y.cut ∙ sym (append_assoc x.front y.front y.rest);
        again = λ more same. subst (λ ts. and_then (p ts) q ≡ Err e) (sym (append_assoc x.front y.front more)) (then_is q (first_again more same) (y.again more same));
        begins = second_begins P Q x y.begins;
        why = why_map (λ is end. then_is q (x.again y.front (subst (λ r. Follows y.front r) (sym y.cut) (follows-front y.front y.rest))) end) keeps y.why;
      }
        where
          first_again : (more : List Token) → first more ≡ first y.rest → p (x.front ++ (y.front ++ more)) ≡ Ok (a, y.front ++ more)
          first_again more same = x.again (y.front ++ more) (inl (first-append y.front more y.rest same ∙ ap first (sym y.cut)))

          -- the first part is the one that was taken, and so the second falls
          second : (t : Token) → KeepsNone (Q a) E' y.front t → (more : List Token) (late : ℕ) (rest middle : List Token) (a' : A) (b : B) {o : Outcome A} → o ≡ Ok (a, y.front ++ t ∷ more)
              → Reached o a' middle → Q a' (Some late) middle rest b → F rest → length more < late
          second t none more late rest middle a' b is (inl n) k ends = absurd (ok_err is n.1)
          second t none more late rest middle a' b is (inr is') k ends = none more late rest b (subst (λ y. Q y.0 (Some late) y.1 rest b) (ok_same (sym is' ∙ is)) k) (outer rest ends)

          keeps : (t : Token) (tail : List Token) → y.rest ≡ t ∷ tail → KeepsNone (Q a) E' y.front t → KeepsNone (Then P Q) F (x.front ++ y.front) t
          keeps t tail cut none more late rest b h ends = by (first_again (t ∷ more) (sym (ap first cut))) (subst (λ ts. Then P Q (Some late) ts rest b) (append_assoc x.front y.front (t ∷ more)) h)
            where
              by : {ts : List Token} → p ts ≡ Ok (a, y.front ++ t ∷ more) → Then P Q (Some late) ts rest b → length more < late
              by {ts} is (◌▸◌ {mid = middle} {a = a'} h k) = second t none more late rest middle a' b is (reaches (Some late) ts middle a' h (inner (Some late) middle rest a' b k ends)) k ends

      pub then_answered : (E' : A → List Token → Type 0) → ((a : A) (rest : List Token) → F rest → E' a rest) → ((a : A) → Begins (Q a) [] []) → {ts : List Token} → Answered p P E ts (p ts)
          → ((a : A) (mid : List Token) → p ts ≡ Ok (a, mid) → Answered (q a) (Q a) (E' a) mid (q a mid)) → Answered (p >>= q) (Then P Q) F ts ((p >>= q) ts)
      then_answered E' outer some {ts} x y = go (p ts) refl x
        where
          second : {a : A} {mid : List Token} (o : Outcome B) → Took p P ts a mid → Answered (q a) (Q a) (E' a) mid o → Answered (p >>= q) (Then P Q) F ts o
          second (Ok z) x y = then_took x y
          second {a} (Err e) x y = second_fell (E' a) (outer a) x y

          go : (o : Outcome A) → p ts ≡ o → Answered p P E ts o → Answered (p >>= q) (Then P Q) F ts (and_then o q)
          go (Ok z) is x = second (q z.0 z.1) x (y z.0 z.1 is)
          go (Err e) is x = first_fell some x

  pub then_reaches : {ts mid rest : List Token} {a : A} {b : B} → Reached (p ts) a mid → Reached (q a mid) b rest → Reached ((p >>= q) ts) b rest
  then_reaches (inl n) k = inl (n.0, ap (λ o. and_then o q) n.1)
  then_reaches (inr is) (inl n) = inl (n.0, then_is q is n.1)
  then_reaches (inr is) (inr k) = inr (then_is q is k)

pub rule_then : {A B : Type 0} {p : Parser A} {P : Relation A} {E : List Token → Type 0} {q : A → Parser B} {Q : A → Relation B} {E' : A → List Token → Type 0} → Rule p P E → ((a : A) → Rule (q a) (Q a) (E' a)) → (F : List Token → Type 0)
    → ((late : Late) (ts rest : List Token) (a : A) (b : B) → Q a late ts rest b → F rest → E ts) → ((a : A) (rest : List Token) → F rest → E' a rest) → Rule (p >>= q) (Then P Q) F
rule_then {p = p} {P = P} {E = E} {q = q} {Q = Q} {E' = E'} x y F inner outer = record {
  answered = λ ts. then_answered p P q Q E F inner x.reaches E' outer (λ a. (y a).some) (x.answered ts) (λ a mid is. (y a).answered mid);
  reaches = reaches;
  some = first_begins P Q (λ a. (y a).some) x.some;
}
  where
    reaches : Reaches (p >>= q) (Then P Q) F
    reaches late ts rest b (◌▸◌ {mid = mid} {a = a} h k) ends = then_reaches p P q Q (x.reaches late ts mid a h (inner late mid rest a b k ends)) ((y a).reaches late mid rest b k (outer a rest ends))

-- ---- by another relation, in which a part may be free, and another name of the parser
module _ {A : Type 0} {p p' : Parser A} {R R' : Relation A} {E E' : List Token → Type 0} (same : (ts : List Token) → p' ts ≡ p ts) (to : (late : Late) (ts rest : List Token) (a : A) → R late ts rest a → R' late ts rest a)
    (from : (late : Late) (ts rest : List Token) (a : A) → R' late ts rest a → R late ts rest a ⊎ (IsFree late (length ts) × R None ts rest a)) (ends : (rest : List Token) → E' rest → E rest) where
  answered_by : (ts : List Token) (o : Outcome A) → Answered p R E ts o → Answered p' R' E' ts o
  answered_by ts (Ok y) x = record { front = x.front; cut = x.cut; again = λ more h. same (x.front ++ more) ∙ x.again more h; derives = λ late s. to late (x.front ++ s) s y.0 (x.derives late s) }
  answered_by ts (Err e) x = fell_map x (λ more h. same (x.front ++ more) ∙ x.again more h) (begins_as to x.begins) (λ is end. same x.front ∙ end) keeps
    where
      keeps : (t : Token) (tail : List Token) → x.rest ≡ t ∷ tail → KeepsNone R E x.front t → KeepsNone R' E' x.front t
      keeps t tail cut none more late rest a h e = elim (from (Some late) (x.front ++ t ∷ more) rest a h) [
        | inl h ↦ none more late rest a h (ends rest e)
        | inr h ↦ omega (arith, h.0, length_behind x.front (t ∷ more))
      ]

  pub answered_as : (ts : List Token) → Answered p R E ts (p ts) → Answered p' R' E' ts (p' ts)
  answered_as ts x = subst (λ o. Answered p' R' E' ts o) (sym (same ts)) (answered_by ts (p ts) x)

  pub rule_within : Rule p R E → Rule p' R' E'
  rule_within x = record { answered = λ ts. answered_as ts (x.answered ts); reaches = reaches; some = begins_as to x.some }
    where
      reaches : Reaches p' R' E'
      reaches late ts rest a h e = subst (λ o. Reached o a rest) (sym (same ts)) (elim (from late ts rest a h) [ inl h ↦ x.reaches late ts rest a h (ends rest e) | inr h ↦ x.reaches None ts rest a h.1 (ends rest e) ])
