-- Where a phrase of a grammar stops, and where it does not go on: the exact places of the faults.
use Rattle.std.specs.Prelude.{◌≡◌, ◌⊎◌, ℕ, suc, length, List, [], ◌∷◌, ◌++◌, Some, None, Ok, Err}
use Rattle.lil_base.specs.declared.fault.Place.{Place}
use Rattle.lil_text.specs.{declared.{token.Token.Token, stop.ReadStop.{ReadStop, TheVariants.{Fault, Memory}}}, Nesting.{Limit, within}}
use Rattle.lil_grammar.specs.Steps.{Outcome, first, place_of, syntax, nested}

abbrev pub Grammar : Type 0 → Type 1
Grammar A = Limit → List Token → List Token → A → Type 0

-- No phrase begins with the tokens up to rest and one more.
pub record Longest {A : Type 0} (G : Grammar A) (ts rest : List Token) : Type 0 where
  pub front : List Token
  pub cut : ts ≡ front ++ rest
  pub none : (t : Token) (more : List Token) (tree : A) → first rest ≡ Some t → G None (front ++ t ∷ more) [] tree → ⊥

-- The longest run that begins a phrase is one itself, with at most n parts in one another.
pub record IsRun {A : Type 0} (G : Grammar A) (n : ℕ) (ts rest : List Token) (tree : A) : Type 0 where
  pub run : Longest G ts rest
  pub is : G (within n) run.front [] tree

-- The tokens before the place begin a phrase, in which the parts that begin there are at most n in one another.
-- They are none themselves, and none begins with them and the token at the place.
pub record RefusedAt {A : Type 0} (G : Grammar A) (n : ℕ) (ts : List Token) (p : Place) : Type 0 where
  pub front : List Token
  pub rest : List Token
  pub cut : ts ≡ front ++ rest
  pub at : p ≡ place_of rest
  pub more : List Token
  pub tree : A
  pub begins : G (Some (n, length more)) (front ++ more) [] tree
  pub not_itself : (tree : A) → G None front [] tree → ⊥
  pub none : (more : List Token) (tree : A) → first more ≡ first rest → G None (front ++ more) [] tree → ⊥

-- The tokens up to the one at the place begin a phrase, in which the parts that begin before it are at most n in one another.
-- There is none in which a part that begins with it is so too.
pub record TooDeepAt {A : Type 0} (G : Grammar A) (n : ℕ) (ts : List Token) (p : Place) : Type 0 where
  pub front : List Token
  pub token : Token
  pub tail : List Token
  pub cut : ts ≡ front ++ token ∷ tail
  pub at : p ≡ token.place
  pub more : List Token
  pub tree : A
  pub begins : G (Some (n, suc (length more))) (front ++ token ∷ more) [] tree
  pub none : (more : List Token) (tree : A) → G (Some (n, length more)) (front ++ token ∷ more) [] tree → ⊥

-- A fault is 10 or 12, each at its exact place.
abbrev pub StopsAt : {A : Type 0} → Grammar A → ℕ → List Token → ReadStop → Type 0
StopsAt G n ts (Fault f) = ((Fault f ≡ syntax f.place) × RefusedAt G n ts f.place) ⊎ ((Fault f ≡ nested f.place) × TooDeepAt G n ts f.place)
StopsAt G n ts Memory = Unit {0}

-- What a parser answers: the tree of the longest run and what stands behind it, or the fault.
abbrev pub AnswersAt : {A : Type 0} → Grammar A → ℕ → List Token → Outcome A → Type 0
AnswersAt G n ts (Ok y) = IsRun G n ts y.1 y.0
AnswersAt G n ts (Err (Fault f)) = StopsAt G n ts (Fault f)
AnswersAt G n ts (Err Memory) = ⊥
