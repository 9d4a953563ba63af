-- The statements of the procedures of a text, in the order of their headings.
use Rattle.std.proofs.Common.{◌≡◌, List, [], ◌∷◌, ◌++◌, map, Option, Some, None, sym, ap, ◌∙◌, refl}
use Rattle.lil_base.specs.declared.fault.Place.{Place}
use Rattle.lil_language.specs.declared.{tree.Stmt.Stmt, unit.{Block.Block, Constant.Constant, Heading.Heading, TypeName.TypeName, Variables.Variables, Decl.{Decl, TheOpen.{Decl-F, Block-F}, TheFolds.{map-Decl, fold-Decl, fold-Block, fold-roll-Decl, fold-roll-Block}, TheViews.roll-Decl}}}
use Rattle.lil_language.specs.declared.unit.Decl.TheVariants as d
use Rattle.lil_language.specs.declared.unit.Decl.TheOpen as layer

-- none where a heading has no block
abbrev pub Texts : Type 0
Texts = List (Option (List Stmt))

abbrev pub joined : List Texts → Texts
joined [] = []
joined (ts ∷ tss) = ts ++ joined tss

abbrev pub decl_layer : Decl-F Texts Texts → Texts
decl_layer (layer.ConstIs p xs) = []
decl_layer (layer.TypeIs p xs) = []
decl_layer (layer.VarsAre p xs) = []
decl_layer (layer.ProcIs h None) = None ∷ []
decl_layer (layer.ProcIs h (Some block)) = block

abbrev pub block_layer : Block-F Texts Texts → Texts
block_layer b = Some b.body ∷ joined b.decls

unfoldable pub texts_in : Decl → Texts
texts_in = fold-Decl Texts Texts decl_layer block_layer

-- the same over trees
abbrev pub texts : List Decl → Texts
texts [] = []
texts (x ∷ xs) = texts_in x ++ texts xs

abbrev pub block_texts : List Stmt → List Decl → Texts
block_texts ss ds = Some ss ∷ texts ds

-- ---- those of each form of declaration
block_in : Block → Texts
block_in = fold-Block Texts Texts decl_layer block_layer

rolled : (x : Decl-F Decl Block) → texts_in (roll-Decl x) ≡ decl_layer (map-Decl Decl Block Texts Texts texts_in block_in x)
unfolding texts_in block_in
rolled = fold-roll-Decl Texts Texts decl_layer block_layer

all_joined : (ds : List Decl) → joined (map texts_in ds) ≡ texts ds
all_joined [] = refl
all_joined (x ∷ xs) = ap (λ (ts : Texts). texts_in x ++ ts) (all_joined xs)

block_is : (b : Block) → block_in b ≡ block_texts b.body b.decls
unfolding texts_in block_in
block_is b = fold-roll-Block Texts Texts decl_layer block_layer (record { decls = b.decls; body = b.body; end = b.end }) ∙ ap (λ (ts : Texts). Some b.body ∷ ts) (all_joined b.decls)

pub no_constant : (p : Place) (xs : List Constant) → texts_in (d.ConstIs p xs) ≡ []
no_constant p xs = ap texts_in (sym (d.rolls-ConstIs p xs)) ∙ rolled (layer.ConstIs p xs)

pub no_type : (p : Place) (xs : List TypeName) → texts_in (d.TypeIs p xs) ≡ []
no_type p xs = ap texts_in (sym (d.rolls-TypeIs p xs)) ∙ rolled (layer.TypeIs p xs)

pub no_variables : (p : Place) (xs : List Variables) → texts_in (d.VarsAre p xs) ≡ []
no_variables p xs = ap texts_in (sym (d.rolls-VarsAre p xs)) ∙ rolled (layer.VarsAre p xs)

pub no_block : (h : Heading) → texts_in (d.ProcIs h None) ≡ None ∷ []
no_block h = ap texts_in (sym (d.rolls-ProcIs h None)) ∙ rolled (layer.ProcIs h None)

pub with_block : (h : Heading) (b : Block) → texts_in (d.ProcIs h (Some b)) ≡ block_texts b.body b.decls
with_block h b = ap texts_in (sym (d.rolls-ProcIs h (Some b))) ∙ rolled (layer.ProcIs h (Some b)) ∙ block_is b
