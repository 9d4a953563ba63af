-- The wrong names behind END of a declaration come from those of its parts, and the least of two lists is found one list after the other.
use Rattle.std.proofs.Common.{◌≡◌, ℕ, ◌+◌, ◌<◌, ◌≤◌, length, List, [], ◌∷◌, ◌++◌, map, Option, Some, drop, get_or, refl, sym, ap, ◌∙◌}
use Rattle.std.proofs.lemmas.List.{drop_more, drop_all}
use Rattle.lil_base.specs.declared.fault.Place.{Place}
use Rattle.lil_text.specs.declared.tree.Ident.{Ident}
use Rattle.lil_language.specs.{declared.unit.{Heading.Heading, Constant.Constant, TypeName.TypeName, Variables.Variables, Decl.{Decl, TheOpen.Decl-F, TheFolds.{map-Decl, fold-roll-Decl, fold_out-Block}, TheViews.roll-Decl}, Block.{Block, out-Block}}, Units.{wrong_end, joined, decl_layer, block_layer, decl_ends, block_ends, all_ends, least, sooner}}
use Rattle.lil_language.specs.declared.unit.Decl.TheVariants as d
use Rattle.lil_language.specs.declared.unit.Decl.TheOpen as o

pub least_append : (found : Option Place) (ps qs : List Place) → least found (ps ++ qs) ≡ least (least found ps) qs
unfolding least
least_append found [] qs = refl
least_append found (p ∷ ps) qs = least_append (Some (sooner found p)) ps qs

joined_ends : (ds : List Decl) → joined (map decl_ends ds) ≡ all_ends ds
joined_ends [] = refl
joined_ends (x ∷ ds) = ap (λ ps. decl_ends x ++ ps) (joined_ends ds)

rolled : (x : Decl-F Decl Block) → decl_ends (roll-Decl x) ≡ decl_layer (map-Decl Decl Block (List Place) (Ident → List Place) decl_ends block_ends x)
rolled = fold-roll-Decl (List Place) (Ident → List Place) decl_layer block_layer

pub block_is : (b : Block) (x : Ident) → block_ends b x ≡ all_ends (out-Block b).decls ++ wrong_end x (out-Block b).end
block_is b x = ap (λ f. f x) (fold_out-Block (List Place) (Ident → List Place) decl_layer block_layer b) ∙ ap (λ ps. ps ++ wrong_end x (out-Block b).end) (joined_ends (out-Block b).decls)

pub constant_ends : (p : Place) (xs : List Constant) → decl_ends (d.ConstIs p xs) ≡ []
constant_ends p xs = ap decl_ends (sym (d.rolls-ConstIs p xs)) ∙ rolled (o.ConstIs p xs)

pub type_ends : (p : Place) (xs : List TypeName) → decl_ends (d.TypeIs p xs) ≡ []
type_ends p xs = ap decl_ends (sym (d.rolls-TypeIs p xs)) ∙ rolled (o.TypeIs p xs)

pub variable_ends : (p : Place) (xs : List Variables) → decl_ends (d.VarsAre p xs) ≡ []
variable_ends p xs = ap decl_ends (sym (d.rolls-VarsAre p xs)) ∙ rolled (o.VarsAre p xs)

pub procedure_ends : (h : Heading) (b : Block) → decl_ends (d.ProcIs h (Some b)) ≡ block_ends b h.name
procedure_ends h b = ap decl_ends (sym (d.rolls-ProcIs h (Some b))) ∙ rolled (o.ProcIs h (Some b))

left_from : {X : Type 0} (xs : List X) (i : ℕ) (x : X) → i < length xs → x ≡ get_or xs i x → drop i xs ≡ x ∷ drop (i + 1) xs
left_from xs i x inside is = drop_more xs i x inside ∙ ap (λ y. y ∷ drop (i + 1) xs) (sym is)

-- the first of the declarations that are left, and those behind it
pub ends_left : (ds : List Decl) (i : ℕ) (x : Decl) (found : Option Place) → i < length ds → x ≡ get_or ds i x → least found (all_ends (drop i ds)) ≡ least (least found (decl_ends x)) (all_ends (drop (i + 1) ds))
ends_left ds i x found inside is = ap (λ ds. least found (all_ends ds)) (left_from ds i x inside is) ∙ least_append found (decl_ends x) (all_ends (drop (i + 1) ds))

pub ends_done : (ds : List Decl) (i : ℕ) (found : Option Place) → length ds ≤ i → least found (all_ends (drop i ds)) ≡ found
unfolding least
ends_done ds i found done = ap (λ ds. least found (all_ends ds)) (drop_all i ds done)
