-- Each syntax that one token decides has all the laws of its parts: its parser reads what it derives, and stops exactly where nothing goes on.
use Rattle.std.proofs.Common.{◌≡◌, ◌⊎◌, ◌<◌, Bool, true, false, not, if◌then◌else◌, List, [], ◌∷◌, ◌++◌, length, length-append, append-nil, None, refl, subst, ap, sym, inl, inr, arith}
use Rattle.std.proofs.lemmas.Bool.{and_parts, not-true}
use Rattle.lil_text.specs.declared.token.Token.{Token}
use Rattle.lil_grammar.specs.{Steps.{Parser, ◌>>=◌, pure, either, many}, Phrases.{Nothing, nothing, After, ◌▸◌}, Rules.{Late, Relation, Rule, Took, took, Then, rule_then, rule_within}, RulesTokens.{Same, rule_pure, rule_token}, RulesLists.{Opens, rule_either, rule_map}, RulesMany.{Turns, rule_many}}
use Rattle.lil_syntax.specs.{Terminals.{Kinds, among, apart, taken_as}, Syntax.{Syntax, give, one, part, both, ◌or◌, repeat, Derives, nullable, begins, goes_on, decided, reads, before}, KindLaws.{never, At, NotAt, at_apart, not_left, not_right, not_at_end, terminal_some}, SyntaxLaws.{Starts, Opened, Something, star_starts, starts, opens, before_is}}

-- what follows a part that may be no token
if_true : (b : Bool) (cs : Kinds) (ts : List Token) → b ≡ true → NotAt (if b then cs else []) ts → NotAt cs ts
if_true true cs ts e h = h
if_true false cs ts e h = absurd (cc)

-- behind `g` stands a part, and then what does not go on with both
inner_by : (b : Bool) (cs ds es : Kinds) → apart cs es ≡ true → {ts rest : List Token} → At cs ts ⊎ ((b ≡ true) × (ts ≡ rest)) → NotAt (ds ++ (if b then es else [])) rest → NotAt es ts
inner_by b cs ds es away {ts} (inl h) f = at_apart cs es away ts h
inner_by b cs ds es away {ts} {rest} (inr h) f = subst (λ ts. NotAt es ts) (sym h.1) (if_true b es rest h.0 (not_right ds (if b then es else []) rest f))

-- the second of two ways begins with no token of the first
second_by : (b : Bool) (cs ds gs hs : Kinds) → apart ds cs ≡ true → {ts rest : List Token} → At ds ts ⊎ ((b ≡ true) × (ts ≡ rest)) → NotAt (gs ++ (hs ++ (if b then cs else []))) rest → NotAt cs ts
second_by b cs ds gs hs away {ts} (inl h) f = at_apart ds cs away ts h
second_by b cs ds gs hs away {ts} {rest} (inr h) f = subst (λ ts. NotAt cs ts) (sym h.1) (if_true b cs rest h.0 (not_right hs (if b then cs else []) rest (not_right gs (hs ++ (if b then cs else [])) rest f)))

-- what is not nullable begins with a token
begins_by : (cs : Kinds) (b : Bool) {ts rest : List Token} → not b ≡ true → At cs ts ⊎ ((b ≡ true) × (ts ≡ rest)) → At cs ts
begins_by cs b h (inl k) = k
begins_by cs b h (inr k) = absurd (never k.0 (not-true b h))

opened_opens : {A : Type 0} (R : Relation A) (u : Token) → Opened (R None) u → Opens R u
opened_opens R u y = (y.0, y.1, subst (λ ts. R None (u ∷ ts) [] y.1) (append-nil y.0) (y.2 []))

no_token : (cs : Kinds) → At cs [] → ⊥
no_token cs h = never h (not_at_end cs)

-- what begins with a token takes one
pub shrinks_by : {A : Type 0} {p : Parser A} {R : Relation A} (cs : Kinds) → ((late : Late) (ts rest : List Token) (a : A) → R late ts rest a → At cs ts)
    → (ts : List Token) (a : A) (mid : List Token) → Took p R ts a mid → length mid < length ts
shrinks_by {A} {p} {R} cs begins ts a mid y = by y.front y.cut (begins None (y.front ++ []) [] a (y.derives None []))
  where
    by : (front : List Token) → ts ≡ front ++ mid → At cs (front ++ []) → length mid < length ts
    by [] cut h = absurd (no_token cs h)
    by (t ∷ front) cut h = omega (arith, ap length cut, length-append front mid)

module _ {N : Type 0} {Tree : N → Type 0} (first goes : N → Kinds) (at_part : (n : N) → Parser (Tree n)) (D : Late → (n : N) → List Token → List Token → Tree n → Type 0)
    (rules : (n : N) → Rule (at_part n) (λ late. D late n) (NotAt (goes n)))
    (part_starts : (late : Late) (n : N) (ts rest : List Token) (x : Tree n) → D late n ts rest x → At (first n) ts)
    (part_some : (n : N) → Something (D None n))
    (part_opens : (u : Token) (n : N) → among (first n) u.what ≡ true → Opened (D None n) u) where
  abbrev pub Of : {A : Type 0} → Syntax Tree A → Relation A
  Of s late = Derives (D late) s

  abbrev pub Ends : {A : Type 0} → Syntax Tree A → List Token → Type 0
  Ends s = NotAt (goes_on first goes s)

  start : {A : Type 0} (s : Syntax Tree A) (late : Late) (ts rest : List Token) (x : A) → Of s late ts rest x → Starts first goes s ts rest
  start s late ts rest x h = starts first goes (D late) (part_starts late) s ts rest x h

  open_by : {A : Type 0} (s : Syntax Tree A) (u : Token) → among (begins first goes s) u.what ≡ true → Opens (Of s) u
  open_by s u h = opened_opens (Of s) u (opens first goes (D None) part_some u s (inl (part_opens u)) h)

  rule_both : {X A B : Type 0} (f : X → A → B) (p : Syntax Tree X) (q : Syntax Tree A) → apart (begins first goes q) (goes_on first goes p) ≡ true → Rule (reads first goes at_part p) (Of p) (Ends p) → Rule (reads first goes at_part q) (Of q) (Ends q)
      → Rule (reads first goes at_part p >>= (λ a. reads first goes at_part q >>= (λ b. pure (f a b)))) (Of (both f p q)) (Ends (both f p q))
  rule_both {X} {A} {B} f p q away x y = rule_then x (λ a. rule_map y (f a)) (Ends (both f p q)) inner (λ a rest e. not_left (goes_on first goes q) (if nullable first goes q then goes_on first goes p else []) rest e)
    where
      inner : (late : Late) (ts rest : List Token) (a : X) (b : B) → Then (Of q) (λ b. Same (f a b)) late ts rest b → Ends (both f p q) rest → Ends p ts
      inner late ts rest a b (◌▸◌ {mid = mid} {a = b'} h (nothing e)) e' = inner_by (nullable first goes q) (begins first goes q) (goes_on first goes q) (goes_on first goes p) away (start q late ts mid b' h) e'

  rule_or : {A : Type 0} (p q : Syntax Tree A) → not (nullable first goes p) ≡ true → apart (begins first goes q) (begins first goes p) ≡ true
      → Rule (reads first goes at_part p) (Of p) (Ends p) → Rule (reads first goes at_part q) (Of q) (Ends q)
      → Rule (either (among (begins first goes p)) (reads first goes at_part p) (reads first goes at_part q)) (Of (p or q)) (Ends (p or q))
  rule_or {A} p q some away x y = rule_either (among (begins first goes p)) (Ends (p or q))
      (λ late ts rest a h. begins_by (begins first goes p) (nullable first goes p) some (start p late ts rest a h))
      (λ late ts rest a h e. second_by (nullable first goes q) (begins first goes p) (begins first goes q) (goes_on first goes p) (goes_on first goes q) away (start q late ts rest a h) e)
      (λ rest e. not_left (goes_on first goes p) (goes_on first goes q ++ (if nullable first goes q then begins first goes p else [])) rest e)
      (λ rest e. not_left (goes_on first goes q) (if nullable first goes q then begins first goes p else []) rest (not_right (goes_on first goes p) (goes_on first goes q ++ (if nullable first goes q then begins first goes p else [])) rest e))
      (not_at_end (goes_on first goes p ++ (goes_on first goes q ++ (if nullable first goes q then begins first goes p else []))))
      (open_by p) x.reaches y.reaches x y

  -- ---- repetition
  abbrev Turn : {S B : Type 0} → Syntax Tree B → (S → B → S) → S → Relation S
  Turn turn add s late ts rest x = After (Of turn late) (λ b. Nothing (add s b)) ts rest x

  abbrev turned : {S B : Type 0} → Syntax Tree B → (S → B → S) → S → Parser S
  turned turn add s = before first goes at_part turn (λ b. pure (add s b))

  module _ {S B : Type 0} (turn : Syntax Tree B) (add : S → B → S) (some : not (nullable first goes turn) ≡ true) (away : apart (begins first goes turn) (goes_on first goes turn) ≡ true)
      (y : Rule (reads first goes at_part turn) (Of turn) (Ends turn)) (more : Kinds) where
    abbrev Over : List Token → Type 0
    Over = NotAt (begins first goes turn ++ (goes_on first goes turn ++ more))

    rule_turn : (s : S) → Rule (turned turn add s) (Turn turn add s) (Ends turn)
    rule_turn s = rule_within (before_is first goes at_part turn (λ b. pure (add s b))) (λ late ts rest x h. h) (λ late ts rest x h. inl h) (λ rest e. e) (rule_map y (add s))

    turn_begins : (late : Late) (s : S) (ts rest : List Token) (x : S) → Turn turn add s late ts rest x → At (begins first goes turn) ts
    turn_begins late s ts rest x (◌▸◌ {mid = mid} {a = b} h k) = begins_by (begins first goes turn) (nullable first goes turn) some (start turn late ts mid b h)

    turn_opens : (s : S) (u : Token) → among (begins first goes turn) u.what ≡ true → Opens (Turn turn add s) u
    turn_opens s u h = let o = open_by turn u h in (o.0, add s o.1, o.2 ▸ nothing refl)

    rule_turns : (s : S) → Rule (many (among (begins first goes turn)) (turned turn add) s) (Turns (Turn turn add) s) Over
    rule_turns = rule_many (among (begins first goes turn)) (turned turn add) (λ s ts s' mid is. shrinks_by (begins first goes turn) (λ late ts rest a h. turn_begins late s ts rest a h) ts s' mid (took (rule_turn s) is))
        (Turn turn add) (Ends turn) Over rule_turn turn_begins
        (λ ts e. not_left (begins first goes turn) (goes_on first goes turn ++ more) ts e)
        (λ ts h. at_apart (begins first goes turn) (goes_on first goes turn) away ts h)
        (λ ts e. not_left (goes_on first goes turn) more ts (not_right (begins first goes turn) (goes_on first goes turn ++ more) ts e))
        (not_at_end (begins first goes turn ++ (goes_on first goes turn ++ more)))
        turn_opens

  rule_repeat : {A B S : Type 0} (from : A → S) (p : Syntax Tree A) (add : S → B → S) (turn : Syntax Tree B) → not (nullable first goes turn) ≡ true → apart (begins first goes turn) (goes_on first goes turn) ≡ true
      → apart (begins first goes turn) (goes_on first goes p) ≡ true → Rule (reads first goes at_part p) (Of p) (Ends p) → Rule (reads first goes at_part turn) (Of turn) (Ends turn)
      → Rule (reads first goes at_part p >>= (λ a. many (among (begins first goes turn)) (turned turn add) (from a))) (Of (repeat from p add turn)) (Ends (repeat from p add turn))
  rule_repeat {A} {B} {S} from p add turn some away away' x y = rule_then x (λ a. rule_turns turn add some away y (goes_on first goes p) (from a)) (Ends (repeat from p add turn)) inner (λ a rest e. e)
    where
      by : {ts rest : List Token} → At (begins first goes turn) ts ⊎ (ts ≡ rest) → Ends (repeat from p add turn) rest → Ends p ts
      by {ts} (inl h) e = at_apart (begins first goes turn) (goes_on first goes p) away' ts h
      by {ts} {rest} (inr h) e = subst (λ ts. Ends p ts) (sym h) (not_right (goes_on first goes turn) (goes_on first goes p) rest (not_right (begins first goes turn) (goes_on first goes turn ++ goes_on first goes p) rest e))

      inner : (late : Late) (ts rest : List Token) (a : A) (b : S) → Turns (Turn turn add) (from a) late ts rest b → Ends (repeat from p add turn) rest → Ends p ts
      inner late ts rest a b h e = by (star_starts first goes (D late) (part_starts late) turn add (start turn late) h) e

  pub rule : {A : Type 0} (s : Syntax Tree A) → decided first goes s ≡ true → Rule (reads first goes at_part s) (Of s) (Ends s)
  unfolding reads
  rule (give a) h = rule_within (λ ts. refl) (λ late ts rest x k. k) (λ late ts rest x k. inl k) (λ rest e. tt) (rule_pure a)
  rule (one t) h = let y = terminal_some t in rule_within (λ ts. refl) (λ late ts rest x k. k) (λ late ts rest x k. inl k) (λ rest e. tt) (rule_token (taken_as t) y.0 y.1 y.2)
  rule (part n) h = rules n
  rule (both f p q) h =
      let h₁ = and_parts _ _ h in
      let h₂ = and_parts _ _ h₁.1 in
      rule_within (before_is first goes at_part p (λ a. reads first goes at_part q >>= (λ b. pure (f a b)))) (λ late ts rest x k. k) (λ late ts rest x k. inl k) (λ rest e. e) (rule_both f p q h₂.1 (rule p h₁.0) (rule q h₂.0))
  rule (p or q) h =
      let h₁ = and_parts _ _ h in
      let h₂ = and_parts _ _ h₁.1 in
      let h₃ = and_parts _ _ h₂.1 in
      rule_or p q h₃.0 h₃.1 (rule p h₁.0) (rule q h₂.0)
  rule (repeat from p add turn) h =
      let h₁ = and_parts _ _ h in
      let h₂ = and_parts _ _ h₁.1 in
      let h₃ = and_parts _ _ h₂.1 in
      let h₄ = and_parts _ _ h₃.1 in
      rule_repeat from p add turn h₃.0 h₄.0 h₄.1 (rule p h₁.0) (rule turn h₂.0)
