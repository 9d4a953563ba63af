-- What declarations mean: what is declared behind them, and the tests of their nodes.
use Rattle.std.specs.Prelude.{ℕ, length, take, drop, true, List, [], ◌∷◌, map, Option, Some, None, if◌then◌else◌}
use Rattle.lil_base.specs.declared.fault.FaultKind.TheVariants.{NotBuilt}
use Rattle.lil_text.specs.declared.tree.{Ident.Ident, Qualident.Qualident}
use Rattle.lil_language.specs.declared.unit.{Sort.Sort, TypeName.TypeName, Variables.Variables, Heading.Heading, Decl.{Decl, TheOpen.{Decl-F, Block-F}, TheFolds.fold-Decl}}
use Rattle.lil_language.specs.declared.unit.Decl.TheOpen as d
use Rattle.lil_types.specs.declared.table.TypeForm.TheVariants as form
use Rattle.lil_types.specs.Types.{aimed, revealed, is_pointer_type}
use Rattle.lil_report.specs.Told.{Row, row, after, walk}
use Rattle.lil_scope.specs.{declared.{thing.Thing.Thing, env.{Env.Env, Wait.Wait}}, Names.{bind, rebind, awaited_type, and_name, entered, outside}}
use Rattle.lil_scope.specs.declared.thing.Thing.TheVariants as t
use Rattle.lil_check_value.specs.Looks.{type_named, not_built}
use Rattle.lil_check_type.specs.{Made.{Made, with_types, type_node}, Sorts.sort_means}
use Rattle.lil_check_decl.specs.{Constants.constant_step, Headings.{here, variable_step, heading_means}}

-- ---- types. 90 NotBuilt, at the name of one without a form: it is opaque
abbrev pub type_thing : Option ℕ → Thing
type_thing (Some n) = t.Type n
type_thing None = t.Broken

abbrev pub form_means : Env → Ident → Option Sort → Made × List Row
form_means e i (Some x) = sort_means e x
form_means e i None = not_built true i.place (type_node e i.place (form.Opaque None))

abbrev pub new_type : Ident → Made → Env × List Row
new_type i m = bind m.0 i (type_thing m.1)

-- an opaque type of the definition, at its declaration in the implementation: where that is a pointer type, it is known from now on
abbrev pub revealing : Env → ℕ → Option ℕ → Env
revealing e k (Some n) = if is_pointer_type e.types n then with_types e (revealed e.types k n) else e
revealing e k None = e

abbrev pub again_type : ℕ → Ident → Made → Env × List Row
again_type k i m = (revealing (rebind m.0 i (t.Type k)) k m.1, [])

abbrev pub bound_by : Option ℕ → Ident → Made → Env × List Row
bound_by None i m = new_type i m
bound_by (Some k) i m = again_type k i m

abbrev pub bound_type : Ident → Made → Env × List Row
bound_type i m = bound_by (awaited_type m.0 i.name) i m

-- a type, whose name is bound behind it
abbrev pub type_step : Env → TypeName → Env × List Row
type_step e x = after (form_means e x.name x.sort) (bound_type x.name)

-- ---- variables, bound behind their type
abbrev pub variables_step : Env → Variables → Env × List Row
variables_step e x = after (sort_means e x.sort) (λ m. walk (variable_step (here m.0) m.1) m.0 x.names)

-- ---- the end of a block: the bare names behind POINTER TO
abbrev pub bare : Wait → Qualident
bare w = record { owner = None; name = record { place = w.place; name = w.name } }

abbrev pub pointing : Env → ℕ → Option ℕ → Env
pointing e p (Some n) = with_types e (aimed e.types p n)
pointing e p None = e

abbrev pub wait_step : Env → Wait → Env × List Row
wait_step e w = after (type_named e (bare w)) (λ o. (pointing e w.pointer o, []))

-- so many pointers wait for the ends of the blocks around it
abbrev pub settled : ℕ → Env → Env
settled n e = record e { waits = take n e.waits; coming = [] }

abbrev pub block_end : ℕ → Env → Env × List Row
block_end n e = walk wait_step (settled n e) (drop n e.waits)

-- ---- procedures: what is declared inside is seen there
abbrev pub procedure_means : Env → Heading → (Env → Env × List Row) → Env × List Row
procedure_means e h body = after (heading_means e h) (λ g. after (body (entered (length e.procedures) g)) (λ w. (outside g w, [])))

-- 90 NotBuilt: a heading alone
abbrev pub alone_means : Env → Heading → Env × List Row
alone_means e h = after (heading_means e h) (λ f. (f, row true h.place NotBuilt ∷ []))

abbrev pub routine_means : Env → Heading → Option (Env → Env × List Row) → Env × List Row
routine_means e h (Some body) = procedure_means e h body
routine_means e h None = alone_means e h

-- ---- declarations: what one means, and the types that it declares
abbrev pub Means : Type 0
Means = Env → Env × List Row

pub record Sense : Type 0 where
  pub types : List TypeName
  pub means : Means

abbrev pub with_no_types : Means → Sense
with_no_types m = record { types = []; means = m }

abbrev pub decl_layer : Decl-F Sense Means → Sense
decl_layer (d.ConstIs p xs) = with_no_types (λ e. walk constant_step e xs)
decl_layer (d.TypeIs p xs) = record { types = xs; means = λ e. walk type_step e xs }
decl_layer (d.VarsAre p xs) = with_no_types (λ e. walk variables_step e xs)
decl_layer (d.ProcIs h body) = with_no_types (λ e. routine_means e h body)

-- the names of the types of a block, which are known before its declarations
abbrev pub with_types_of : List (List ℕ) → List TypeName → List (List ℕ)
with_types_of ns [] = ns
with_types_of ns (x ∷ xs) = with_types_of (and_name ns x.name.name) xs

abbrev pub with_types_in : List (List ℕ) → List Sense → List (List ℕ)
with_types_in ns [] = ns
with_types_in ns (s ∷ ss) = with_types_in (with_types_of ns s.types) ss

abbrev pub expecting : Env → List Sense → Env
expecting e ss = record e { coming = with_types_in [] ss }

abbrev pub block_layer : Block-F Sense Means → Means
block_layer b e = after (walk (λ (e : Env) (s : Sense). s.means e) (expecting e b.decls) b.decls) (block_end (length e.waits))

unfoldable pub decl_sense : Decl → Sense
decl_sense = fold-Decl Sense Means decl_layer block_layer

-- the same over trees
abbrev pub decl_step : Env → Decl → Env × List Row
decl_step e x = (decl_sense x).means e

unfoldable pub decls_inside : ℕ → Env → List Decl → Env × List Row
decls_inside n e ds = after (walk decl_step (expecting e (map decl_sense ds)) ds) (block_end n)

-- a module has no block with types of its own around it
unfoldable pub decls_mean : Env → List Decl → Env × List Row
decls_mean e ds = decls_inside 0 e ds
