-- What a text imports and declares without a fault is told.
use Rattle.std.proofs.Common.{◌≡◌, ℕ, Bool, true, false, if◌then◌else◌, List, [], ◌∷◌, length, slice_get, map, take, drop, Option, Some, None, refl, sym, ap, subst, ◌∙◌, arith, true≢false}
use Rattle.lil_text.specs.declared.tree.Ident.{Ident}
use Rattle.lil_language.specs.declared.unit.{Import.Import, Block.{Block, roll-Block}, Decl.{Decl, TheFolds.{map-Decl, map-Block, fold-Block, fold-roll-Decl, fold-roll-Block, ind-Decl}, TheOpen.{Decl-F, Block-F}, TheViews.roll-Decl}, Sort.Sort, TypeName.TypeName, Variables.Variables}
use Rattle.lil_language.specs.declared.unit.Decl.TheOpen as d
use Rattle.lil_language.specs.declared.unit.Decl.TheVariants as v
use Rattle.lil_report.specs.{Told.{Row, after, walk}, Laws.walk_map}
use Rattle.lil_types.specs.Types.{Table, is_untold_type, is_pointer_type, revealed}
use Rattle.lil_declared.specs.declared.declared.RProc.{RProc}
use Rattle.lil_scope.specs.{Names.{bind, rebind, type_awaited, entry_here, awaited_type}, declared.env.{Env.Env, Wait.Wait}}
use Rattle.lil_scope.specs.declared.thing.Thing.TheVariants as thing
use Rattle.lil_shapes.specs.ListLaws.{AllFine}
use Rattle.lil_check_value.specs.Looks.{not_built, type_named}
use Rattle.lil_check_type.specs.{Made.{Made, with_types}, Sorts.sort_means}
use Rattle.lil_check_decl.specs.{Constants.constant_step, Decls.{type_thing, form_means, revealing, bound_by, bound_type, type_step, variables_step, bare, pointing, wait_step, settled, block_end, Means, Sense, expecting, decl_layer, block_layer, decl_sense, decl_step, procedure_means, decls_inside, decls_mean}, Headings.{variable_step, here, heading_means}}
use Rattle.lil_check_stmt.specs.Texts.{Texts, texts_in, texts, no_constant, no_type, no_variables, with_block}
use Rattle.lil_interfaces.specs.{Interfaces.residents, Sources.Sources, Imports.{imports_mean, nothing_imported, export_step, exports_mean}}
use Rattle.lil_right_type.specs.Right.{Right, IsAny, after_right}
use Rattle.lil_right_sort.specs.{Growth.{Few, few_before, IsThing, Declared, declared_waits}, Simple.{Begun, later_same, SortTold, sort_later, walk_keeps, named_right}, Sorts.sort_right}
use Rattle.lil_right_value.specs.Names.{Lies}
use Rattle.lil_right_decl.specs.{Aimed.{few_aimed, aimed_declared}, Revealed.{few_revealed, never_untold, untold_awaited}, Constants.{Behind, IsMeant, bind_behind, constant_behind}, Headings.{IsText, After, after_more, after_same, after_none, procedure_right}, Imported.{IsImported, imports_told}, Variables.{HasHome, variable_behind}}

-- ---- the end of a block
wait_told : (ts : Texts) (e f : Env) (w : Wait) → After e ts f → Right (After e ts) (wait_step f w)
wait_told ts e f w h = after_right (λ o. Few f.types → Lies f.types o) (After e ts) (type_named f (bare w)) (λ o. (pointing f w.pointer o, [])) (named_right f h.told (bare w)) by
  where
    by : (o : Option ℕ) → (Few f.types → Lies f.types o) → Right (After e ts) (pointing f w.pointer o, [])
    by None there clear = record { longer = h.longer; count = h.count; whole = h.whole; procedure = h.procedure; few = h.few; told = h.told }
    by (Some n) there clear = record {
      longer = h.longer;
      count = h.count;
      whole = h.whole;
      procedure = h.procedure;
      few = λ few. h.few (few_aimed f.types w.pointer n few);
      told = λ few. let before : Few f.types = few_aimed f.types w.pointer n few in aimed_declared f (h.told before) w.pointer n (there before);
    }

-- at the end of a block fewer pointers wait, and no names of types come
ended : (ts : Texts) (n : ℕ) (e f : Env) → After e ts f → Right (After e ts) (block_end n f)
ended ts n e f h = walk_keeps (After e ts) wait_step (λ g w. wait_told ts e g w) (settled n f) (drop n f.waits) (record {
  longer = h.longer;
  count = h.count;
  whole = h.whole;
  procedure = h.procedure;
  few = h.few;
  told = λ few. declared_waits f (h.told few) (take n f.waits) [];
})

-- before the declarations of a block
expected : (e : Env) (ss : List Sense) (ts : Texts) (f : Env) → After (expecting e ss) ts f → After e ts f
expected e ss ts f h = record { longer = h.longer; count = h.count; whole = h.whole; procedure = h.procedure; few = h.few; told = h.told }

begun_expecting : (e : Env) (ss : List Sense) → Begun e → Begun (expecting e ss)
begun_expecting e ss h few = declared_waits e (h few) e.waits (expecting e ss).coming

block_means : Block → Means
block_means = fold-Block Sense Means decl_layer block_layer

decl_is : (x : Decl-F Decl Block) → decl_sense (roll-Decl x) ≡ decl_layer (map-Decl Decl Block Sense Means decl_sense block_means x)
unfolding decl_sense block_means
decl_is = fold-roll-Decl Sense Means decl_layer block_layer

block_is : (x : Block-F Decl Block) → block_means (roll-Block x) ≡ block_layer (map-Block Decl Block Sense Means decl_sense block_means x)
unfolding decl_sense block_means
block_is = fold-roll-Block Sense Means decl_layer block_layer

-- ---- types
type_meant : (e : Env) (m : Made) → SortTold e m → IsMeant e m.0 (type_thing m.1)
type_meant e m made = (made.0, λ few. let j = made.1 few in (j.0, by m.1 j.1))
  where
    by : (o : Option ℕ) → Lies m.0.types o → IsThing m.0 m.0.scopes.inner (type_thing o)
    by None there = absurd there
    by (Some n) there = (λ so. there, (tt, tt))

sort_made : (e f : Env) (x : Sort) → Behind e f → Right (SortTold e) (sort_means f x)
sort_made e f x b clear = sort_later e f (sort_means f x).0 b.0 (sort_right f b.1 x clear)

form_made : (e f : Env) (i : Ident) (o : Option Sort) → Behind e f → Right (SortTold e) (form_means f i o)
unfolding not_built
form_made e f i (Some x) b clear = sort_made e f x b clear
form_made e f i None b clear = absurd (true≢false clear.0)

-- an opaque type of the definition, which no table that is told has
module _ (f : Env) (m : Made) (i : Ident) (k : ℕ) (untold : is_untold_type m.0.types k ≡ true) (made : SortTold f m) where
  abbrev again : Env
  again = rebind m.0 i (thing.Type k)

  behind_again : (u : Table) → (Few u → Few m.0.types) → After f [] (with_types again u)
  behind_again u few = record {
    longer = λ n q is. ap (λ (ps : List RProc). slice_get ps n) made.0.1.0 ∙ is;
    count = omega (arith, ap length made.0.1.0);
    whole = tt;
    procedure = made.0.1.1;
    few = λ now. few_before f.types m.0.types made.0.0 (few now);
    told = λ now. absurd (never_untold m.0.types (made.1 (few now)).0.told.types k untold);
  }

  again_by : (n : ℕ) (c : Bool) → After f [] (if c then with_types again (revealed m.0.types k n) else again)
  again_by n true = behind_again (revealed m.0.types k n) (few_revealed m.0.types k n)
  again_by n false = behind_again m.0.types (λ few. few)

  again_after : (o : Option ℕ) → After f [] (revealing again k o)
  again_after None = behind_again m.0.types (λ few. few)
  again_after (Some n) = again_by n (is_pointer_type m.0.types n)

bound_after : (f : Env) (m : Made) (i : Ident) → SortTold f m → (o : Option ℕ) → type_awaited m.0.types (entry_here m.0 i.name) ≡ o → Right (After f []) (bound_by o i m)
bound_after f m i made None is clear = after_none f (bind m.0 i (type_thing m.1)).0 (bind_behind f m.0 i (type_thing m.1) (type_meant f m made) clear)
bound_after f m i made (Some k) is clear = again_after f m i k (untold_awaited m.0.types (entry_here m.0 i.name) k is) made m.1

type_after : (f : Env) (x : TypeName) → Begun f → Right (After f []) (type_step f x)
unfolding awaited_type
type_after f x begun = after_right (SortTold f) (After f []) (form_means f x.name x.sort) (bound_type x.name) (form_made f f x.name x.sort (later_same f, begun)) (λ m made. bound_after f m x.name made (awaited_type m.0 x.name.name) refl)

-- ---- variables
variables_behind : (e f : Env) (x : Variables) → Behind e f → Right (Behind e) (variables_step f x)
variables_behind e f x b = after_right (SortTold e) (Behind e) (sort_means f x.sort) (λ m. walk (variable_step (here m.0) m.1) m.0 x.names)
    (sort_made e f x.sort b)
    (λ m made clear.
    let home : HasHome (here m.0) m.1 e m.0 = (made.0, λ few. let j = made.1 few in (j.0, (refl, j.1))) in
    let last = walk_keeps (HasHome (here m.0) m.1 e) (variable_step (here m.0) m.1) (λ g i. variable_behind (here m.0) m.1 e g i) m.0 x.names home clear in
    (last.0, λ few. (last.1 few).0))

-- ---- declarations
-- what declares procedures with these texts
abbrev Declares : Means → Texts → Type 0
Declares m ts = (f : Env) → Begun f → Right (After f ts) (m f)

abbrev IsDecl : Decl → Type 0
IsDecl x = Declares (decl_sense x).means (texts_in x)

abbrev IsBlock : Block → Type 0
IsBlock b = Declares (block_means b) (texts b.decls)

-- declarations one behind another
decls_right : (ds : List Decl) → AllFine IsDecl ds → (f : Env) → Begun f → Right (After f (texts ds)) (walk decl_step f ds)
decls_right [] all f begun = λ clear. after_same f begun
decls_right (x ∷ xs) all f begun =
    after_right (After f (texts_in x)) (After f (texts (x ∷ xs))) (decl_step f x) (λ g. walk decl_step g xs) (all.0 f begun)
    (λ g h clear. after_more f g _ (texts_in x) (texts xs) h (decls_right xs all.1 g h.told clear))

-- trees, each with its proof
abbrev DeclTree : Type 0
DeclTree = (x : Decl) × IsDecl x

abbrev BlockTree : Type 0
BlockTree = (b : Block) × IsBlock b

abbrev bare_decl : Decl-F DeclTree BlockTree → Decl-F Decl Block
bare_decl = map-Decl DeclTree BlockTree Decl Block (λ x. x.0) (λ b. b.0)

abbrev bare_block : Block-F DeclTree BlockTree → Block-F Decl Block
bare_block = map-Block DeclTree BlockTree Decl Block (λ x. x.0) (λ b. b.0)

each_decl : (xs : List DeclTree) → AllFine IsDecl (map (λ x. x.0) xs)
each_decl [] = tt
each_decl (x ∷ xs) = (x.1, each_decl xs)

-- a list of declarations of one kind declares no procedures
plain : {X : Type 0} (step : Env → X → Env × List Row) (keeps : (e f : Env) (x : X) → Behind e f → Right (Behind e) (step f x)) (xs : List X) (ts : Texts) → ts ≡ [] → Declares (λ e. walk step e xs) ts
plain step keeps xs ts none f begun clear =
    let behind = walk_keeps (Behind f) step (λ g x. keeps f g x) f xs (later_same f, begun) clear in
    subst (λ (ts : Texts). After f ts (walk step f xs).0) (sym none) (after_none f (walk step f xs).0 behind)

types_after : (f : Env) → Begun f → (xs : List TypeName) → Right (After f []) (walk type_step f xs)
types_after f begun xs = walk_keeps (After f []) type_step (λ g x h clear. after_more f g _ [] [] h (type_after g x h.told clear)) f xs (after_same f begun)

decl_layer_right : (y : Decl-F DeclTree BlockTree) → Declares (decl_layer (map-Decl Decl Block Sense Means decl_sense block_means (bare_decl y))).means (texts_in (roll-Decl (bare_decl y)))
unfolding not_built
decl_layer_right (d.ConstIs p xs) f begun = plain constant_step (λ e f c. constant_behind e f c) xs _ (ap texts_in (v.rolls-ConstIs p xs) ∙ no_constant p xs) f begun
decl_layer_right (d.TypeIs p xs) f begun = λ clear. subst (λ (ts : Texts). After f ts (walk type_step f xs).0) (sym (ap texts_in (v.rolls-TypeIs p xs) ∙ no_type p xs)) (types_after f begun xs clear)
decl_layer_right (d.VarsAre p xs) f begun = plain variables_step (λ e f x. variables_behind e f x) xs _ (ap texts_in (v.rolls-VarsAre p xs) ∙ no_variables p xs) f begun
decl_layer_right (d.ProcIs h None) f begun = after_right IsAny (After f _) (heading_means f h) _ (λ clear. tt) (λ g any clear. absurd (true≢false clear.0))
decl_layer_right (d.ProcIs h (Some b)) f begun =
    subst (λ (ts : Texts). Right (After f ts) (procedure_means f h (block_means b.0))) (sym (ap texts_in (v.rolls-ProcIs h (Some b.0)) ∙ with_block h b.0)) (procedure_right f begun h b.0.body (texts b.0.decls) (block_means b.0) b.1)

block_layer_right : (y : Block-F DeclTree BlockTree) → Declares (block_layer (map-Block Decl Block Sense Means decl_sense block_means (bare_block y))) (texts (map (λ x. x.0) y.decls))
block_layer_right y f begun =
    let ds : List Decl = map (λ x. x.0) y.decls in
    after_right (After f (texts ds)) (After f (texts ds)) (walk (λ (e : Env) (s : Sense). s.means e) (expecting f (map decl_sense ds)) (map decl_sense ds)) (block_end (length f.waits))
    (subst (Right (After f (texts ds))) (sym (walk_map (λ (e : Env) (s : Sense). s.means e) decl_sense (expecting f (map decl_sense ds)) ds))
    (λ clear. expected f (map decl_sense ds) (texts ds) _ (decls_right ds (each_decl y.decls) (expecting f (map decl_sense ds)) (begun_expecting f (map decl_sense ds) begun) clear)))
    (λ g h. ended (texts ds) (length f.waits) f g h)

decl_right : (x : Decl) → IsDecl x
decl_right = ind-Decl IsDecl IsBlock
    (λ x y is. subst (λ z. IsDecl (roll-Decl z)) is (subst (λ (s : Sense). Declares s.means (texts_in (roll-Decl (bare_decl y)))) (sym (decl_is (bare_decl y))) (decl_layer_right y)))
    (λ b y is. subst (λ z. IsBlock (roll-Block z)) is (subst (λ (m : Means). Declares m (texts (map (λ x. x.0) y.decls))) (sym (block_is (bare_block y))) (block_layer_right y)))

all_right : (ds : List Decl) → AllFine IsDecl ds
all_right [] = tt
all_right (x ∷ xs) = (decl_right x, all_right xs)

decls_told : (e : Env) (ds : List Decl) → Begun e → Right (After e (texts ds)) (decls_mean e ds)
unfolding decls_mean decls_inside
decls_told e ds h = after_right (After e (texts ds)) (After e (texts ds)) (walk decl_step (expecting e (map decl_sense ds)) ds) (block_end 0)
    (λ clear. expected e (map decl_sense ds) (texts ds) _ (decls_right ds (all_right ds) (expecting e (map decl_sense ds)) (begun_expecting e (map decl_sense ds) h) clear))
    (λ f j. ended (texts ds) 0 e f j)

-- behind them no pointer waits
wait_settled : (e : Env) (w : Wait) → (wait_step e w).0.waits ≡ e.waits
unfolding after
wait_settled e w = by (type_named e (bare w)).0
  where
    by : (o : Option ℕ) → (pointing e w.pointer o).waits ≡ e.waits
    by None = refl
    by (Some n) = refl

waits_settled : (e : Env) (ws : List Wait) → (walk wait_step e ws).0.waits ≡ e.waits
unfolding after
waits_settled e [] = refl
waits_settled e (w ∷ ws) = waits_settled (wait_step e w).0 ws ∙ wait_settled e w

decls_settled : (e : Env) (ds : List Decl) → (decls_mean e ds).0.waits ≡ []
unfolding decls_mean decls_inside after
decls_settled e ds = let f = (walk decl_step (expecting e (map decl_sense ds)) ds).0 in waits_settled (settled 0 f) f.waits

-- ---- a text
exports_told : (P : Env → Type 0) (ts : Sources) (e : Env) (xs : Option (List Ident)) → P e → Right P (exports_mean ts e xs)
unfolding export_step
exports_told P ts e None h = λ clear. h
exports_told P ts e (Some xs) h = walk_keeps P (export_step ts) (λ f x j clear. j) e xs h

exports_settled : (ts : Sources) (e : Env) (xs : Option (List Ident)) → e.waits ≡ [] → (exports_mean ts e xs).0.waits ≡ []
unfolding export_step after
exports_settled ts e None h = h
exports_settled ts e (Some xs) h = each e xs h
  where
    each : (f : Env) (is : List Ident) → f.waits ≡ [] → (walk (export_step ts) f is).0.waits ≡ []
    each f [] j = j
    each f (i ∷ is) j = each f is j

-- what is declared in a module, with the procedures of these texts
pub record IsModule (ts : Texts) (e : Env) : Type 0 where
  pub told : Few e.types → Declared e
  pub count : length e.procedures ≡ length ts
  pub whole : AllFine IsText ts
  pub procedure : e.procedure ≡ None

pub declared_told : (xs : List Import) (ds : List Decl) (exports : Option (List Ident))
    → Right (IsModule (texts ds)) (after (imports_mean residents nothing_imported xs) (λ s. after (decls_mean s.env ds) (λ e. exports_mean s.taken e exports)))
declared_told xs ds exports = after_right IsImported (IsModule (texts ds)) (imports_mean residents nothing_imported xs) (λ s. after (decls_mean s.env ds) (λ e. exports_mean s.taken e exports))
    (imports_told xs)
    (λ s h. after_right (IsModule (texts ds)) (IsModule (texts ds)) (decls_mean s.env ds) (λ e. exports_mean s.taken e exports)
    (λ clear. let a = decls_told s.env ds h.told clear in record { told = a.told; count = omega (arith, a.count, ap length h.procedures); whole = a.whole; procedure = a.procedure ∙ h.procedure })
    (λ e j. exports_told (IsModule (texts ds)) s.taken e exports j))

pub declared_settled : (xs : List Import) (ds : List Decl) (exports : Option (List Ident)) → (after (imports_mean residents nothing_imported xs) (λ s. after (decls_mean s.env ds) (λ e. exports_mean s.taken e exports))).0.waits ≡ []
unfolding after
declared_settled xs ds exports =
    let s = (imports_mean residents nothing_imported xs).0 in
    exports_settled s.taken (decls_mean s.env ds).0 exports (decls_settled s.env ds)
