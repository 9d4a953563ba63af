-- Grammars as data. What a syntax derives, how it is read, and the test that one token decides each step.
use Rattle.std.specs.Prelude.{ℕ, zero, suc, Bool, true, false, ◌||◌, ◌&&◌, not, if◌then◌else◌, List, [], ◌++◌}
use Rattle.lil_text.specs.{declared.token.Token.Token, Nesting.{Limit, Inside}}
use Rattle.lil_grammar.specs.{Steps.{Parser, ◌>>=◌, pure, token, either, many, shallow}, Phrases.{Nothing, One, After, Either, Star}}
use Rattle.lil_syntax.specs.Terminals.{Kinds, among, apart, part_of, Terminal, Value, taken_as, kinds_of}

-- N: the parts that count as nested, and their trees
pub data Syntax {N : Type 0} (Tree : N → Type 0) : Type 0 → Type 1 where
  give : {A : Type 0} → A → Syntax Tree A
  one : (t : Terminal) → Syntax Tree (Value t)
  part : (n : N) → Syntax Tree (Tree n)
  both : {X A B : Type 0} → (X → A → B) → Syntax Tree X → Syntax Tree A → Syntax Tree B
  ◌or◌ : {A : Type 0} → Syntax Tree A → Syntax Tree A → Syntax Tree A
  repeat : {A B S : Type 0} → (A → S) → Syntax Tree A → (S → B → S) → Syntax Tree B → Syntax Tree S

infixr 10 ◌or◌
module _ {N : Type 0} {Tree : N → Type 0} where
  infixl 20 ◌◃◌
  abbrev pub ◌◃◌ : {A B : Type 0} → Syntax Tree (A → B) → Syntax Tree A → Syntax Tree B
  g ◃ p = both (λ f a. f a) g p

  infixl 20 ◌◂◌
  abbrev pub ◌◂◌ : {A B : Type 0} → Syntax Tree B → Syntax Tree A → Syntax Tree B
  g ◂ p = both (λ b a. b) g p

  -- ---- what it derives, by what its parts derive
  abbrev pub Derives : ((n : N) → List Token → List Token → Tree n → Type 0) → {A : Type 0} → Syntax Tree A → List Token → List Token → A → Type 0
  Derives D (give a) ts rest x = Nothing a ts rest x
  Derives D (one t) ts rest x = One (taken_as t) ts rest x
  Derives D (part n) ts rest x = D n ts rest x
  Derives D (both f p q) ts rest x = After (Derives D p) (λ a. After (Derives D q) (λ b. Nothing (f a b))) ts rest x
  Derives D (p or q) ts rest x = Either (Derives D p) (Derives D q) ts rest x
  Derives D (repeat start p add turn) ts rest x = After (Derives D p) (λ a. Star (λ s. After (Derives D turn) (λ b. Nothing (add s b))) (start a)) ts rest x

  -- ---- which tokens begin it, which go on with it, and whether it may be no token
  module _ (first goes : N → Kinds) where
    abbrev pub nullable : {A : Type 0} → Syntax Tree A → Bool
    nullable (give a) = true
    nullable (one t) = false
    nullable (part n) = false
    nullable (both f p q) = nullable p && nullable q
    nullable (p or q) = nullable p || nullable q
    nullable (repeat start p add turn) = nullable p

    abbrev pub begins : {A : Type 0} → Syntax Tree A → Kinds
    begins (give a) = []
    begins (one t) = kinds_of t
    begins (part n) = first n
    begins (both f p q) = begins p ++ (if nullable p then begins q else [])
    begins (p or q) = begins p ++ begins q
    begins (repeat start p add turn) = begins p ++ (if nullable p then begins turn else [])

    abbrev pub goes_on : {A : Type 0} → Syntax Tree A → Kinds
    goes_on (give a) = []
    goes_on (one t) = []
    goes_on (part n) = goes n
    goes_on (both f p q) = goes_on q ++ (if nullable q then goes_on p else [])
    goes_on (p or q) = goes_on p ++ (goes_on q ++ (if nullable q then begins p else []))
    goes_on (repeat start p add turn) = begins turn ++ (goes_on turn ++ goes_on p)

    -- one token decides each step
    abbrev pub decided : {A : Type 0} → Syntax Tree A → Bool
    decided (give a) = true
    decided (one t) = true
    decided (part n) = true
    decided (both f p q) = decided p && (decided q && apart (begins q) (goes_on p))
    decided (p or q) = decided p && (decided q && (not (nullable p) && apart (begins q) (begins p)))
    decided (repeat start p add turn) = decided p && (decided turn && (not (nullable turn) && (apart (begins turn) (goes_on turn) && apart (begins turn) (goes_on p))))

    -- each part in it stands behind a token
    abbrev pub guarded : {A : Type 0} → Syntax Tree A → Bool
    guarded (give a) = true
    guarded (one t) = true
    guarded (part n) = false
    guarded (both f p q) = guarded p && (if nullable p then guarded q else true)
    guarded (p or q) = guarded p && guarded q
    guarded (repeat start p add turn) = guarded p && (if nullable p then guarded turn else true)

    -- it derives something without a part
    abbrev pub productive : {A : Type 0} → Syntax Tree A → Bool
    productive (give a) = true
    productive (one t) = true
    productive (part n) = false
    productive (both f p q) = productive p && productive q
    productive (p or q) = productive p || productive q
    productive (repeat start p add turn) = productive p

  -- ---- how it is read, by how its parts are
  module _ (first : N → Kinds) (goes : N → Kinds) (at_part : (n : N) → Parser (Tree n)) where
    unfoldable mutual
      pub reads : {A : Type 0} → Syntax Tree A → Parser A
      reads (give a) = pure a
      reads (one t) = token (taken_as t)
      reads (part n) = at_part n
      reads (both f p q) = before p (λ a. reads q >>= (λ b. pure (f a b)))
      reads (p or q) = either (among (begins first goes p)) (reads p) (reads q)
      reads (repeat start p add turn) = reads p >>= (λ a. many (among (begins first goes turn)) (λ s. before turn (λ b. pure (add s b))) (start a))

      pub before : {A : Type 0} → Syntax Tree A → {B : Type 0} → (A → Parser B) → Parser B
      before (give a) k = k a
      before (one t) k = token (taken_as t) >>= k
      before (part n) k = at_part n >>= k
      before (both f p q) k = before p (λ a. reads q >>= (λ b. k (f a b)))
      before (p or q) k = either (among (begins first goes p)) (reads p) (reads q) >>= k
      before (repeat start p add turn) k = reads p >>= (λ a. many (among (begins first goes turn)) (λ s. before turn (λ b. pure (add s b))) (start a)) >>= k

-- ---- a grammar: the production of each part, and the kinds of token that begin it and that go on with it
pub record Grammar {N : Type 0} (Tree : N → Type 0) : Type 1 where
  pub production : (n : N) → Syntax Tree (Tree n)
  pub first : N → Kinds
  pub goes : N → Kinds

module _ {N : Type 0} {Tree : N → Type 0} (G : Grammar Tree) where
  -- a part, in which at most h parts lie in one another, under a limit of nesting
  abbrev pub DerivesIn : ℕ → Limit → (n : N) → List Token → List Token → Tree n → Type 0
  DerivesIn zero l n ts rest x = ⊥
  DerivesIn (suc h) l n ts rest x = (inner : Limit) × Inside l ts inner × Derives (DerivesIn h inner) (G.production n) ts rest x

  abbrev pub Is : Limit → (n : N) → List Token → List Token → Tree n → Type 0
  Is l n ts rest x = (h : ℕ) × DerivesIn h l n ts rest x

  -- a syntax of the grammar
  abbrev pub Derived : {A : Type 0} → Syntax Tree A → Limit → List Token → List Token → A → Type 0
  Derived s l ts rest x = Derives (Is l) s ts rest x

  -- the parser of a part, with at most d parts in one another
  unfoldable pub read : ℕ → (n : N) → Parser (Tree n)
  read zero n = shallow (among (G.first n))
  read (suc d) n = reads G.first G.goes (read d) (G.production n)

  unfoldable pub parse : {A : Type 0} → ℕ → Syntax Tree A → Parser A
  parse d s = reads G.first G.goes (read d) s

  -- what is tested of each production
  abbrev pub sound_at : N → Bool
  sound_at n =
      let s = G.production n in
      not (nullable G.first G.goes s) && (decided G.first G.goes s && (guarded G.first G.goes s && (productive G.first G.goes s
      && (part_of (begins G.first G.goes s) (G.first n) && (part_of (G.first n) (begins G.first G.goes s) && part_of (goes_on G.first G.goes s) (G.goes n))))))
