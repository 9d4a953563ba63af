-- Sets of kinds of token, and the tokens that a terminal takes.
use Rattle.std.proofs.Common.{◌≡◌, Bool, true, false, ◌||◌, cond, List, [], ◌∷◌, ◌++◌, Option, Some, None, refl, ap, sym, ◌∙◌, inl, inr, true≢false, rules}
use Rattle.std.proofs.lemmas.Bool.{and_parts, or_cases, or_parts, or_left, or_right, not-true, false_from_ne_true}
use denote.Enum.Bare.{same_true, true_same}
use Rattle.lil_base.specs.declared.fault.Place.{Place}
use Rattle.lil_text.specs.declared.token.{Token.Token, TokenKind.TokenKind, Mark.Mark, Word.Word}
use Rattle.lil_text.specs.declared.token.TokenKind.TheVariants as k
use Rattle.lil_text.specs.declared.token.Mark.TheVariants as m
use Rattle.lil_text.specs.contracts.token.Mark as mark
use Rattle.lil_text.specs.declared.token.Word.TheVariants as w
use Rattle.lil_text.specs.contracts.token.Word as word
use Rattle.lil_grammar.specs.Steps.{at, same_mark, is_mark, same_word, is_word, Not}
use Rattle.lil_syntax.specs.Terminals.{Kinds, is_of, sample, among, apart, part_of, Value, value_by, taken_as, kinds_of, Kind as c, Terminal as t}

pub never : {a : Bool} → a ≡ true → a ≡ false → ⊥
never h k = true≢false (sym h ∙ k)

-- ---- sets
among_cons : (d : c) (ds : Kinds) (u : TokenKind) → among (d ∷ ds) u ≡ is_of d u || among ds u
among_cons d [] u = by (is_of d u)
  where
    by : (a : Bool) → a ≡ a || false
    by true = refl
    by false = refl
among_cons d (e ∷ es) u = refl

pub among_append : (cs ds : Kinds) (u : TokenKind) → among (cs ++ ds) u ≡ among cs u || among ds u
among_append [] ds u = refl
among_append (d ∷ cs) ds u = among_cons d (cs ++ ds) u ∙ ap (λ b. is_of d u || b) (among_append cs ds u) ∙ by (is_of d u) ∙ ap (λ b. b || among ds u) (sym (among_cons d cs u))
  where
    by : (a : Bool) → a || (among cs u || among ds u) ≡ (a || among cs u) || among ds u
    by true = refl
    by false = refl

-- ---- tokens of one kind are in the same sets
pub mark_is : (m : Mark) (u : TokenKind) → is_mark m u ≡ true → u ≡ k.Mark m
unfolding same_mark
mark_is m (k.Mark x) e = ap k.Mark (same_true mark.the_type (search rules) x m e)
mark_is m _ e = absurd (cc)

pub word_is : (w : Word) (u : TokenKind) → is_word w u ≡ true → u ≡ k.Word w
unfolding same_word
word_is w (k.Word x) e = ap k.Word (same_true word.the_type (search rules) x w e)
word_is w _ e = absurd (cc)

alike : (e d : c) (u : TokenKind) → is_of e u ≡ true → is_of d u ≡ is_of d (sample e)
alike (c.mark m) d u h = ap (is_of d) (mark_is m u h)
alike (c.word w) d u h = ap (is_of d) (word_is w u h)
alike c.name c.name (k.Ident text) h = refl
alike c.name _ (k.Ident text) h = refl
alike c.number c.number (k.Number v) h = refl
alike c.number _ (k.Number v) h = refl
alike c.code c.code (k.CharCode v) h = refl
alike c.code _ (k.CharCode v) h = refl
alike c.chars c.chars (k.Chars text) h = refl
alike c.chars _ (k.Chars text) h = refl
alike c.finish d k.Finish h = refl
alike _ d _ h = absurd (true≢false (sym h))

among_alike : (e : c) (ds : Kinds) (u : TokenKind) → is_of e u ≡ true → among ds u ≡ among ds (sample e)
among_alike e [] u h = refl
among_alike e (d ∷ ds) u h = among_cons d ds u ∙ ap (λ a. a || among ds u) (alike e d u h) ∙ ap (λ b. is_of d (sample e) || b) (among_alike e ds u h) ∙ sym (among_cons d ds (sample e))

pub apart_is : (cs ds : Kinds) → apart cs ds ≡ true → (u : TokenKind) → among cs u ≡ true → among ds u ≡ false
apart_is [] ds h u is = absurd (true≢false (sym is))
apart_is (d ∷ cs) ds h u is = let y = and_parts _ _ h in elim (or_cases (is_of d u) (among cs u) (sym (among_cons d cs u) ∙ is)) [
  | inl is ↦ among_alike d ds u is ∙ not-true _ y.0
  | inr is ↦ apart_is cs ds y.1 u is
]

pub part_of_is : (cs ds : Kinds) → part_of cs ds ≡ true → (u : TokenKind) → among cs u ≡ true → among ds u ≡ true
part_of_is [] ds h u is = absurd (true≢false (sym is))
part_of_is (d ∷ cs) ds h u is = let y = and_parts _ _ h in elim (or_cases (is_of d u) (among cs u) (sym (among_cons d cs u) ∙ is)) [
  | inl is ↦ among_alike d ds u is ∙ y.0
  | inr is ↦ part_of_is cs ds y.1 u is
]

-- ---- the first token
abbrev pub At : Kinds → List Token → Type 0
At cs ts = at (among cs) ts ≡ true

abbrev pub NotAt : Kinds → List Token → Type 0
NotAt cs ts = Not (among cs) ts

at_append : (cs ds : Kinds) (ts : List Token) → at (among (cs ++ ds)) ts ≡ at (among cs) ts || at (among ds) ts
unfolding at
at_append cs ds [] = refl
at_append cs ds (u ∷ ts) = among_append cs ds u.what

pub at_left : (cs ds : Kinds) (ts : List Token) → At cs ts → At (cs ++ ds) ts
at_left cs ds ts h = at_append cs ds ts ∙ or_left _ _ h

pub at_right : (cs ds : Kinds) (ts : List Token) → At ds ts → At (cs ++ ds) ts
at_right cs ds ts h = at_append cs ds ts ∙ or_right _ _ h

pub not_left : (cs ds : Kinds) (ts : List Token) → NotAt (cs ++ ds) ts → NotAt cs ts
not_left cs ds ts h = (or_parts _ _ (sym (at_append cs ds ts) ∙ h)).0

pub not_right : (cs ds : Kinds) (ts : List Token) → NotAt (cs ++ ds) ts → NotAt ds ts
not_right cs ds ts h = (or_parts _ _ (sym (at_append cs ds ts) ∙ h)).1

pub at_apart : (cs ds : Kinds) → apart cs ds ≡ true → (ts : List Token) → At cs ts → NotAt ds ts
unfolding at
at_apart cs ds h [] is = refl
at_apart cs ds h (u ∷ ts) is = apart_is cs ds h u.what is

pub at_part_of : (cs ds : Kinds) → part_of cs ds ≡ true → (ts : List Token) → At cs ts → At ds ts
unfolding at
at_part_of cs ds h [] is = is
at_part_of cs ds h (u ∷ ts) is = part_of_is cs ds h u.what is

pub not_part_of : (cs ds : Kinds) → part_of cs ds ≡ true → (ts : List Token) → NotAt ds ts → NotAt cs ts
not_part_of cs ds h ts none = false_from_ne_true (at (among cs) ts) (λ is. never (at_part_of cs ds h ts is) none)

pub not_at_end : (cs : Kinds) → NotAt cs []
unfolding at
not_at_end cs = refl

-- ---- terminals
found : {A : Type 0} → Option A → Bool
found None = false
found (Some a) = true

found_is : {A : Type 0} (o : Option A) → found o ≡ true → (a : A) × (o ≡ Some a)
unfolding found
found_is None h = absurd (true≢false (sym h))
found_is (Some a) h = (a, refl)

found_cond : {A : Type 0} (b : Bool) (a : A) → found (cond b (Some a) None) ≡ b
unfolding found
found_cond true a = refl
found_cond false a = refl

terminal_found : (x : t) (p : Place) (u : TokenKind) → found (value_by x p u) ≡ among (kinds_of x) u
unfolding found same_mark same_word
terminal_found (t.mark m) p u = found_cond (is_mark m u) p
terminal_found (t.word w) p u = found_cond (is_word w u) p
terminal_found t.name p (k.Ident text) = refl
terminal_found t.number p (k.Number v) = refl
terminal_found t.code p (k.CharCode v) = refl
terminal_found t.chars p (k.Chars text) = refl
terminal_found t.finish p k.Finish = refl
terminal_found t.relation p (k.Mark m.Equal) = refl
terminal_found t.relation p (k.Word w.In) = refl
terminal_found t.addition p (k.Mark m.Plus) = refl
terminal_found t.addition p (k.Word w.Or) = refl
terminal_found t.multiplication p (k.Mark m.Times) = refl
terminal_found t.multiplication p (k.Word w.And) = refl
terminal_found t.sign p (k.Mark m.Plus) = refl
terminal_found _ p _ = refl

pub taken_kind : (x : t) (u : Token) (a : Value x) → taken_as x u ≡ Some a → among (kinds_of x) u.what ≡ true
unfolding found
taken_kind x u a h = sym (terminal_found x u.place u.what) ∙ ap found h

pub kind_taken : (x : t) (u : Token) → among (kinds_of x) u.what ≡ true → (a : Value x) × (taken_as x u ≡ Some a)
kind_taken x u h = found_is (taken_as x u) (terminal_found x u.place u.what ∙ h)

taken_of : (x : t) (u : TokenKind) → among (kinds_of x) u ≡ true → (u : Token) × (a : Value x) × (taken_as x u ≡ Some a)
taken_of x u h =
    let v : Token = record { what = u; place = record { line = 0; column = 0; offset = 0 } } in
    let y = kind_taken x v h in
    (v, y.0, y.1)

pub terminal_some : (x : t) → (u : Token) × (a : Value x) × (taken_as x u ≡ Some a)
unfolding same_mark same_word
terminal_some (t.mark m) = taken_of (t.mark m) (k.Mark m) (true_same mark.the_type m m refl)
terminal_some (t.word w) = taken_of (t.word w) (k.Word w) (true_same word.the_type w w refl)
terminal_some t.name = taken_of t.name (k.Ident []) refl
terminal_some t.number = taken_of t.number (k.Number 0) refl
terminal_some t.code = taken_of t.code (k.CharCode 0) refl
terminal_some t.chars = taken_of t.chars (k.Chars []) refl
terminal_some t.finish = taken_of t.finish k.Finish refl
terminal_some t.relation = taken_of t.relation (k.Mark m.Equal) refl
terminal_some t.addition = taken_of t.addition (k.Mark m.Plus) refl
terminal_some t.multiplication = taken_of t.multiplication (k.Mark m.Times) refl
terminal_some t.sign = taken_of t.sign (k.Mark m.Plus) refl
