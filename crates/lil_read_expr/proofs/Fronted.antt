-- A repetition that adds at the end gives the same behind one more item in front.
use Rattle.std.proofs.Common.{◌≡◌, ℕ, zero, suc, length, Bool, true, false, List, [], ◌∷◌, ◌++◌, Option, Result, Ok, Err, refl, ap, sym, subst, ◌∙◌}
use Rattle.lil_base.specs.declared.fault.Place.{Place}
use Rattle.lil_text.specs.declared.{token.{Token.Token, TokenKind.TokenKind}, tree.Ident.Ident, stop.ReadStop.ReadStop}
use Rattle.lil_grammar.specs.Steps.{Outcome, Parser, and_then, ◌>>=◌, pure, at, either_by, loop, many, Reads}
use Rattle.lil_syntax.specs.Syntax.{give, ◌◃◌, reads, before}
use Rattle.lil_language.specs.{declared.tree.{Expr.Expr, Selector.Selector}, Grammar.{reading, applied, put_to, field_selected, turns, selector, selectors, call, field_path}}
use Rattle.lil_language.specs.declared.tree.Selector.TheVariants as sel
use Rattle.lil_language.specs.Trees as tree
use Rattle.lil_read_expr.specs.Selected.{more_selectors, selected_on}

module _ {A : Type 0} (test : TokenKind → Bool) (p : Parser A) (x : A) where
  abbrev on : ℕ → List A → Parser (List A)
  on n s = loop test (λ s. p >>= (λ a. pure (s ++ a ∷ []))) n s

  abbrev fronted_at : Outcome (List A) → Outcome (List A)
  fronted_at o = and_then o (λ s. pure (x ∷ s))

  -- n more turns give the same behind x
  abbrev Same : ℕ → Type 0
  Same n = (s : List A) (ts : List Token) → on n (x ∷ s) ts ≡ fronted_at (on n s ts)

  by_turn : (n : ℕ) → Same n → (s : List A) (o : Outcome A) → and_then (and_then o (λ a. pure (x ∷ s ++ a ∷ []))) (on n) ≡ fronted_at (and_then (and_then o (λ a. pure (s ++ a ∷ []))) (on n))
  by_turn n same s (Ok y) = same (s ++ y.0 ∷ []) y.1
  by_turn n same s (Err e) = refl

  by_test : (n : ℕ) → Same n → (s : List A) (ts : List Token) (b : Bool) → either_by ((p >>= (λ a. pure (x ∷ s ++ a ∷ []))) >>= on n) (pure (x ∷ s)) b ts ≡ fronted_at (either_by ((p >>= (λ a. pure (s ++ a ∷ []))) >>= on n) (pure s) b ts)
  by_test n same s ts true = by_turn n same s (p ts)
  by_test n same s ts false = refl

  fronted : (n : ℕ) → Same n
  unfolding loop
  fronted zero s ts = refl
  fronted (suc n) s ts = by_test n (fronted n) s ts (at test ts)

-- selectors behind a field, called or not: the field is read first, or it is put before them in the end
module _ (call_read : Parser (Option (List Expr))) (x : Ident) (p : Place) (y : Ident) where
  abbrev put_last : Outcome (List Selector) → Outcome Expr
  put_last o = and_then (and_then (and_then o (λ ss. call_read >>= (λ xs. pure (field_selected ss xs)))) (λ f. pure (put_to (p, y) f))) (λ f. pure (put_to x f))

  abbrev put_first : Outcome (List Selector) → Outcome Expr
  put_first o = and_then o (λ ss. call_read >>= (λ xs. pure (tree.named x ss xs)))

  called : (ss : List Selector) (o : Outcome (Option (List Expr))) → and_then (and_then (and_then o (λ xs. pure (field_selected ss xs))) (λ f. pure (put_to (p, y) f))) (λ f. pure (put_to x f)) ≡ and_then o (λ xs. pure (tree.named x (sel.Field p y ∷ ss) xs))
  called ss (Ok xs) = refl
  called ss (Err e) = refl

  one_path : (o : Outcome (List Selector)) → put_last o ≡ put_first (and_then o (λ ss. pure (sel.Field p y ∷ ss)))
  one_path (Ok s) = called s.0 (call_read s.1)
  one_path (Err e) = refl

module _ (d : ℕ) (x : Ident) (p : Place) (y : Ident) (ts new : List Token) (r : Result Expr ReadStop) where
  behind : more_selectors d (sel.Field p y ∷ []) ts ≡ and_then (more_selectors d [] ts) (λ ss. pure (sel.Field p y ∷ ss))
  unfolding more_selectors many reading reads before
  behind = fronted (turns (give (λ s. s) ◃ selector)) (reading d selector) (sel.Field p y) (length ts) [] ts

  is_path : reading d (applied x (applied (p, y) field_path)) ts ≡ selected_on d x (sel.Field p y ∷ []) ts
  unfolding more_selectors selected_on many reading reads before field_path selectors
  is_path = one_path (reading d call) x p y (more_selectors d [] ts) ∙ ap (put_first (reading d call) x p y) (sym behind)

  pub field_path_read : Reads (selected_on d x (sel.Field p y ∷ []) ts) r new → Reads (reading d (applied x (applied (p, y) field_path)) ts) r new
  field_path_read k = subst (λ o. Reads o r new) (sym is_path) k
