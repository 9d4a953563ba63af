-- What tokens derive: from the first list up to the second, a value. The forms of which every phrase is made.
use Rattle.std.specs.Prelude.{◌≡◌, List, ◌∷◌, Option, Some}
use Rattle.lil_text.specs.declared.token.Token.{Token}

-- no tokens, which are x
pub data Nothing {A : Type 0} (x : A) : List Token → List Token → A → Type 0 where
  nothing : {ts : List Token} {a : A} → a ≡ x → Nothing x ts ts a

-- one token, of which f makes the value
pub data One {A : Type 0} (f : Token → Option A) : List Token → List Token → A → Type 0 where
  takes : {t : Token} {rest : List Token} {a : A} → f t ≡ Some a → One f (t ∷ rest) rest a

-- one phrase after another
infixr 5 ◌▸◌
pub data After {A B : Type 0} (P : List Token → List Token → A → Type 0) (Q : A → List Token → List Token → B → Type 0) : List Token → List Token → B → Type 0 where
  ◌▸◌ : {ts mid rest : List Token} {a : A} {b : B} → P ts mid a → Q a mid rest b → After P Q ts rest b

-- one of two phrases
pub data Either {A : Type 0} (P Q : List Token → List Token → A → Type 0) (ts rest : List Token) (a : A) : Type 0 where
  left : P ts rest a → Either P Q ts rest a
  right : Q ts rest a → Either P Q ts rest a

-- phrases one after another, as many as there are, behind s
pub data Star {S : Type 0} (D : S → List Token → List Token → S → Type 0) : S → List Token → List Token → S → Type 0 where
  stop : {s : S} {ts : List Token} → Star D s ts ts s
  go_on : {s s' s'' : S} {ts mid rest : List Token} → D s ts mid s' → Star D s' mid rest s'' → Star D s ts rest s''
