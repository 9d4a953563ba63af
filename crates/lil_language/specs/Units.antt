-- Which unit the tokens of a text are, and which fault they have where they are none.
use Rattle.std.specs.Prelude.{◌≡◌, ◌⊎◌, ℕ, ◌+◌, ◌-◌, ◌≤◌, nat_lt, List, [], ◌∷◌, ◌++◌, length, Option, Some, None, if◌then◌else◌, ⊤}
use Rattle.std.specs.Str.{bytes_eq}
use Rattle.lil_base.specs.{declared.fault.{Place.Place, SourceFault.SourceFault}, Faults.fault}
use Rattle.lil_text.specs.{declared.{token.Token.Token, tree.Ident.Ident}, Nesting.within, Lexical.{HasTokens, HasLexicalFault}}
use Rattle.lil_text.specs.declared.stop.ReadStop.TheVariants as why
use Rattle.lil_grammar.specs.Places.{StopsAt}
use Rattle.lil_language.specs.{declared.unit.{Decl.{Decl, TheOpen.{Decl-F, Block-F}, TheFolds.{fold-Decl, fold-Block}}, Block.Block, Unit.Unit}, Grammar.{Derives, text}}
use Rattle.lil_language.specs.declared.unit.Decl.TheOpen as o

-- so many parts may lie in one another
abbrev pub deepest : ℕ
deepest = 48

-- The tokens up to the end of their text derive the unit. Finish stands only there, so all others are counted.
abbrev pub token_count : List Token → ℕ
token_count ts = length ts - 1

abbrev pub IsUnit : List Token → Unit → Type 0
IsUnit ts u = (rest : List Token) × Derives (text (token_count ts)) (within deepest) ts rest u

-- ---- names behind END
-- the place of a name behind END that is not the name of what ends there
abbrev pub wrong_end : Ident → Ident → List Place
wrong_end x y = if bytes_eq y.name x.name then [] else y.place ∷ []

abbrev pub joined : List (List Place) → List Place
joined [] = []
joined (xs ∷ xss) = xs ++ joined xss

-- those of a procedure that may have a block, and of a declaration; those of a block go by the name of its procedure
abbrev pub ends_in : Option (Ident → List Place) → Ident → List Place
ends_in None x = []
ends_in (Some block) x = block x

abbrev pub decl_layer : Decl-F (List Place) (Ident → List Place) → List Place
decl_layer (o.ConstIs p xs) = []
decl_layer (o.TypeIs p xs) = []
decl_layer (o.VarsAre p xs) = []
decl_layer (o.ProcIs h block) = ends_in block h.name

abbrev pub block_layer : Block-F (List Place) (Ident → List Place) → Ident → List Place
block_layer b x = joined b.decls ++ wrong_end x b.end

abbrev pub decl_ends : Decl → List Place
decl_ends = fold-Decl (List Place) (Ident → List Place) decl_layer block_layer

abbrev pub block_ends : Block → Ident → List Place
block_ends = fold-Block (List Place) (Ident → List Place) decl_layer block_layer

abbrev pub all_ends : List Decl → List Place
all_ends [] = []
all_ends (d ∷ ds) = decl_ends d ++ all_ends ds

abbrev pub wrong_ends : Unit → List Place
wrong_ends u = all_ends u.decls ++ wrong_end u.head.name u.end

-- ---- the least of some places: it stands before those behind it in the list, and before none of the others stand
abbrev pub AllFrom : ℕ → List Place → Type 0
AllFrom n [] = ⊤
AllFrom n (p ∷ ps) = (n ≤ p.offset) × AllFrom n ps

pub record IsLeast (ps : List Place) (p : Place) : Type 0 where
  pub before : List Place
  pub after : List Place
  pub cut : ps ≡ before ++ p ∷ after
  pub earlier : AllFrom (p.offset + 1) before
  pub later : AllFrom p.offset after

-- the least of these and one that was found before
abbrev pub sooner : Option Place → Place → Place
sooner None p = p
sooner (Some q) p = if nat_lt p.offset q.offset then p else q

unfoldable pub least : Option Place → List Place → Option Place
least found [] = found
least found (p ∷ ps) = least (Some (sooner found p)) ps

-- ---- faults
-- Fault 10 or 12 at its exact place, or fault 11 at the least name behind END that is wrong.
abbrev pub HasUnitFault : List Token → SourceFault → Type 0
HasUnitFault ts f =
    StopsAt (Derives (text (token_count ts))) deepest ts (why.Fault f)
    ⊎ ((u : Unit) × IsUnit ts u × ((p : Place) × IsLeast (wrong_ends u) p × (f ≡ fault 11 p)))

-- a unit without such a fault
abbrev pub IsRightUnit : List Token → Unit → Type 0
IsRightUnit ts u = IsUnit ts u × (wrong_ends u ≡ [])

-- ---- texts
abbrev pub Reads : List ℕ → Unit → Type 0
Reads bytes u = (ts : List Token) × HasTokens bytes ts × IsRightUnit ts u

-- The first class of a text's faults that is there: those of its bytes, those of its tokens, those of its names behind END.
abbrev pub HasReadFault : List ℕ → SourceFault → Type 0
HasReadFault bytes f = HasLexicalFault bytes f ⊎ ((ts : List Token) × HasTokens bytes ts × HasUnitFault ts f)
