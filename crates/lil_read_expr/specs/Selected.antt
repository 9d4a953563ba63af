-- A name with selectors that go on behind some that were read, called where arguments follow.
use Rattle.std.specs.Prelude.{ℕ, List}
use Rattle.lil_text.specs.declared.tree.Ident.{Ident}
use Rattle.lil_grammar.specs.Steps.{Parser, ◌>>=◌, pure, many}
use Rattle.lil_syntax.specs.Syntax.{give, ◌◃◌}
use Rattle.lil_language.specs.{declared.tree.{Expr.Expr, Selector.Selector}, Grammar.{reading, turns, turned, with_last, selector, call}}
use Rattle.lil_language.specs.Trees as tree

unfoldable pub more_selectors : ℕ → List Selector → Parser (List Selector)
more_selectors d ss = many (turns (give (λ s. s) ◃ selector)) (turned d (give (λ s. s) ◃ selector) with_last) ss

unfoldable pub selected_on : ℕ → Ident → List Selector → Parser Expr
selected_on d x ss = more_selectors d ss >>= (λ ss. reading d call >>= (λ xs. pure (tree.named x ss xs)))
