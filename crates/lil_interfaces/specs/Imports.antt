-- What the imports of a unit mean: the names that they bind, and the tests of these names.
use Rattle.std.specs.Prelude.{ℕ, ◌+◌, ◌==◌, min, length, slice_get, Bool, true, false, not, ◌&&◌, ◌||◌, is_none, List, [], ◌∷◌, ◌++◌, Option, Some, None, if◌then◌else◌, codes}
use Rattle.lil_base.specs.declared.fault.{FaultKind.TheVariants.{Unknown, Twice, NotExported, NotBuilt}, Place.Place}
use Rattle.lil_text.specs.declared.tree.Ident.{Ident}
use Rattle.lil_language.specs.declared.unit.Import.{Import}
use Rattle.lil_format.specs.declared.name.Wanted.{Wanted}
use Rattle.lil_types.specs.{declared.table.{Origin.Origin, TypeEntry.TypeEntry}, Types.{Table, entry as type_entry}}
use Rattle.lil_report.specs.Told.{Row, row, after, walk}
use Rattle.lil_scope.specs.{declared.{env.Env.Env, thing.{Kind.Kind, Thing.Thing}}, Built.built, Names.{same, entry, member, bound_at, with_block, with_blocks}}
use Rattle.lil_scope.specs.declared.thing.Kind.TheVariants as k
use Rattle.lil_scope.specs.declared.thing.Thing.TheVariants as t
use Rattle.lil_interfaces.specs.{declared.{surface.Interface.Interface, sources.Source.Source, modules.{Entered.Entered, Imported.Imported}}, Interfaces.named, Moving.with_names, Sources.{Sources, source_of, and_source}}
use Rattle.lil_interfaces.specs.{Entering.{and_rests, with_itself, places, and_origins, numbers_in, with_types, has_number, and_number, constants_by}, Standard.start}
use Rattle.lil_interfaces.specs.declared.sources.Source.TheVariants as from

-- ---- modules. Each has one block for the names of its interface, begun where the unit imports it first
abbrev pub block_of : List Entered → List ℕ → Option ℕ
block_of [] n = None
block_of (m ∷ ms) n = if same n m.name then Some m.block else block_of ms n

-- an interface, the names of which get block b
module _ (b : ℕ) (s : Imported) (i : Interface) where
  abbrev pub rests_with : List Wanted
  rests_with = and_rests s.rests (with_itself i)

  abbrev pub places_in : List ℕ
  places_in = places rests_with (with_itself i)

  abbrev pub origins_with : List Origin
  origins_with = and_origins places_in s.origins i.types

  abbrev pub numbers_with : List ℕ
  numbers_with = numbers_in places_in origins_with i.types

  unfoldable pub filled_by : Imported
  filled_by = record s {
    env = record s.env {
      scopes = record s.env.scopes { blocks = with_names numbers_with (length s.env.texts) b s.env.scopes.blocks i.names };
      types = with_types places_in origins_with numbers_with s.env.types i.types;
      texts = s.env.texts ++ i.texts;
    };
    rests = rests_with;
    origins = origins_with;
  }

abbrev pub filled : ℕ → Imported → Option Interface → Imported
filled b s None = s
filled b s (Some i) = filled_by b s i

abbrev pub begun : Imported → Imported
begun s = record s { env = with_block s.env }

abbrev pub and_module : List ℕ → ℕ → Imported → Imported
and_module n b s = record s { modules = s.modules ++ record { name = n; block = b } ∷ [] }

abbrev pub opened : List Interface → Imported → List ℕ → Imported
opened is s n = and_module n (length s.env.scopes.blocks) (filled (length s.env.scopes.blocks) (begun s) (named is n))

abbrev pub entered_by : Option ℕ → List Interface → Imported → List ℕ → Imported × ℕ
entered_by (Some b) is s n = (s, b)
entered_by None is s n = (opened is s n, length s.env.scopes.blocks)

-- the module of this name with its block
unfoldable pub entered : List Interface → Imported → List ℕ → Imported × ℕ
entered is s n = entered_by (block_of s.modules n) is s n

-- ---- names. They are the same thing where they come from one module under one name, are one type, or the constant of this name
-- of one enumeration
abbrev pub comes_from : Option Source → Source → Bool
comes_from (Some from.Itself) from.Itself = true
comes_from (Some (from.Block a)) (from.Block b) = a == b
comes_from _ _ = false

-- the constants of the type of a number, none where it is no enumeration
abbrev pub constants_in : Option TypeEntry → List (List ℕ)
constants_in None = []
constants_in (Some e) = constants_by e.form

abbrev pub constants_of : Table → ℕ → List (List ℕ)
constants_of t n = constants_in (type_entry t n)

abbrev pub is_at : List ℕ → Option (List ℕ) → Bool
is_at n None = false
is_at n (Some m) = same n m

abbrev pub same_constant : Table → List ℕ → Kind → Kind → Bool
same_constant types n (k.Scalar a v) (k.Scalar b w) = a == b && (v == w && is_at n (slice_get (constants_of types a) v))
same_constant types n _ _ = false

abbrev pub same_thing : Table → List ℕ → Thing → Thing → Bool
same_thing types n (t.Type a) (t.Type b) = a == b
same_thing types n (t.Constant a) (t.Constant b) = same_constant types n a b
same_thing types n _ _ = false

-- whether a name stands for another thing: there is what it stands for, and where that comes from
abbrev pub stands_for_another : Table → List ℕ → Option Thing → Option Source → Source → Thing → Bool
stands_for_another types n None before q x = false
stands_for_another types n (Some y) before q x = not (comes_from before q || same_thing types n y x)

-- what a name of the unit's block stands for
abbrev pub there : Imported → List ℕ → Option Thing
there s n = member s.env.scopes s.env.scopes.inner n

abbrev pub with_taken : Imported → Source → Ident → Thing → Imported
with_taken s q i x = record s {
  env = with_blocks s.env (bound_at s.env.scopes.blocks s.env.scopes.inner i.name (entry x i.place));
  taken = and_source s.taken i.name q;
}

-- ---- 21 Twice: a name that stands for another thing before
unfoldable pub take_node : Source → Ident → Imported → Thing → Imported × List Row
take_node q i s x = (
  with_taken s q i x,
  row (stands_for_another s.env.types i.name (there s i.name) (source_of s.taken i.name) q x) i.place Twice ∷ [],
)

-- ---- the constants of an enumeration, which come with the name of its type, at the place of that, from a number on
abbrev pub constant : ℕ → ℕ → Thing
constant n j = t.Constant (k.Scalar n (min j 65535))

abbrev pub ident : Place → List ℕ → Ident
ident p n = record { name = n; place = p }

abbrev pub constants_step : Source → Place → ℕ → ℕ → Imported → List (List ℕ) → Imported × List Row
constants_step q p n j s [] = (s, [])
constants_step q p n j s (c ∷ cs) = after (take_node q (ident p c) s (constant n j)) (λ u. constants_step q p n (j + 1) u cs)

-- they are bound once
abbrev pub brought : Imported → ℕ → Imported
brought s n = record s { enumerations = and_number s.enumerations n }

abbrev pub bring : Source → Place → Imported → ℕ → Imported × List Row
bring q p s n = if has_number s.enumerations n then (s, []) else constants_step q p n 0 (brought s n) (constants_of s.env.types n)

unfoldable pub with_constants : Source → Place → Thing → Imported → Imported × List Row
with_constants q p (t.Type n) s = bring q p s n
with_constants q p _ s = (s, [])

abbrev pub taken_node : Source → Ident → Imported → Thing → Imported × List Row
taken_node q i s x = after (take_node q i s x) (with_constants q i.place x)

abbrev pub is_hidden : Option Thing → Bool
is_hidden (Some t.Hidden) = true
is_hidden _ = false

abbrev pub thing_or_broken : Option Thing → Thing
thing_or_broken (Some t.Hidden) = t.Broken
thing_or_broken (Some x) = x
thing_or_broken None = t.Broken

-- ---- 20 Unknown: the module has no such name. 22 NotExported: it has the name and doesn't export it. 90 NotBuilt: what it
-- stands for isn't built
unfoldable pub found_node : Ident → Option Thing → Thing × List Row
found_node i o = (
  thing_or_broken o,
  row (is_none o) i.place Unknown
      ∷ row (is_hidden o) i.place NotExported
      ∷ row (not (built (thing_or_broken o))) i.place NotBuilt
      ∷ [],
)

-- a name of the module with block b
abbrev pub name_step : ℕ → Imported → Ident → Imported × List Row
name_step b s i = after (found_node i (member s.env.scopes b i.name)) (taken_node (from.Block b) i s)

-- ---- 90 NotBuilt: a module is imported of which programs can't use anything yet
abbrev pub is_unbuilt : List ℕ → Bool
is_unbuilt n = same n (codes "FileSystem") || (same n (codes "Program") || same n (codes "Channels"))

unfoldable pub late_node : Ident → Imported → Imported × List Row
late_node i s = (s, row (is_unbuilt i.name) i.place NotBuilt ∷ [])

-- a module's own name
abbrev pub own_node : List Interface → Ident → Imported → Imported × List Row
own_node is i s = take_node from.Itself i (entered is s i.name).0 (t.Module (entered is s i.name).1)

abbrev pub module_step : List Interface → Imported → Ident → Imported × List Row
module_step is s i = after (late_node i s) (own_node is i)

abbrev pub names_of : List Interface → Ident → List Ident → Imported → Imported × List Row
names_of is m names s = walk (name_step (entered is s m.name).1) (entered is s m.name).0 names

abbrev pub names_from : List Interface → Ident → List Ident → Imported → Imported × List Row
names_from is m names s = after (late_node m s) (names_of is m names)

abbrev pub import_by : List Interface → Imported → Option Ident → List Ident → Imported × List Row
import_by is s None names = walk (module_step is) s names
import_by is s (Some m) names = names_from is m names s

abbrev pub import_step : List Interface → Imported → Import → Imported × List Row
import_step is s x = import_by is s x.from x.names

unfoldable pub imports_mean : List Interface → Imported → List Import → Imported × List Row
imports_mean is s xs = walk (import_step is) s xs

-- before the first import
abbrev pub nothing_imported : Imported
nothing_imported = record { env = start; modules = []; taken = []; rests = []; origins = []; enumerations = [] }

-- ---- 20 Unknown: EXPORT lists a name that the definition doesn't declare itself
abbrev pub declared_here : Option Thing → Option Source → Bool
declared_here (Some x) None = true
declared_here _ _ = false

unfoldable pub export_step : Sources → Env → Ident → Env × List Row
export_step ts e i = (e, row (not (declared_here (member e.scopes e.scopes.inner i.name) (source_of ts i.name))) i.place Unknown ∷ [])

abbrev pub exports_mean : Sources → Env → Option (List Ident) → Env × List Row
exports_mean ts e None = (e, [])
exports_mean ts e (Some is) = walk (export_step ts) e is
