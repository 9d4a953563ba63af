-- What is declared behind imports in which no test finds a fault is told.
use Rattle.std.proofs.Common.{◌≡◌, ℕ, zero, suc, ◌+◌, ◌<◌, ◌≤◌, inl, inr, Bool, true, false, List, [], ◌∷◌, ◌++◌, length, slice_get, Option, Some, None, IfSome, if◌then◌else◌, refl, sym, ap, subst, ◌∙◌, arith, true≢false}
use Rattle.std.proofs.lemmas.{List.length_push, Option.{none-some, same_Some}}
use Rattle.std.specs.Prelude.{is_none, not, pos, min}
use Rattle.std.specs.Cmp.Lexicographic.{bytes_decides}
use Rattle.lil_base.specs.declared.fault.Place.{Place}
use Rattle.lil_text.specs.declared.tree.Ident.{Ident}
use Rattle.lil_language.specs.declared.unit.Import.{Import}
use Rattle.lil_types.specs.{Types.{Table, entry, boolean}, declared.table.{Origin.Origin, TypeEntry.TypeEntry, TypeForm.{TypeForm, TheVariants.Enumeration}}}
use Rattle.lil_scope.specs.{Built.built, Names.{Names, same, entry_in, thing_of, look_in, block_at, bound_at, member, with_block}, declared.env.Env.Env, declared.thing.{Entry.Entry, Thing.Thing, Variable.Variable}}
use Rattle.lil_scope.specs.Names as names
use Rattle.lil_scope.specs.declared.thing.Thing.TheVariants as thing
use Rattle.lil_resolved.specs.declared.resolved.RBase.TheVariants as b
use Rattle.lil_shapes.specs.{ListLaws.AllFine, Operators.has_number}
use Rattle.lil_interfaces.specs.{declared.{modules.{Entered.Entered, Imported.Imported}, sources.Source.Source, surface.Interface.Interface}, Interfaces.{named, residents, with_shown, with_declared, with_procedure}}
use Rattle.lil_interfaces.specs.{Entering.{has_rest, has_number as has_enumeration, constants_by}, Standard.{standard_names, start}}
use Rattle.lil_interfaces.specs.Imports.{block_of, begun, and_module, filled, entered_by, entered, constants_in, constants_of, take_node, constant, ident, constants_step, brought, bring, with_constants, taken_node, found_node, is_hidden, thing_or_broken}
use Rattle.lil_interfaces.specs.Imports.{name_step, late_node, own_node, module_step, names_of, import_by, import_step, imports_mean, nothing_imported}
use Rattle.lil_interfaces.specs.declared.sources.Source.TheVariants as from
use Rattle.lil_forms.specs.Scopes.{fine_more}
use Rattle.lil_right_type.specs.{Right.{Right, after_right}, Types.IsTold, Found.{HasWord, ThingTold}, Homes.{Allowed, IsHome, IsOwn, own_of, bound_many}}
use Rattle.lil_right_sort.specs.{Growth.{all_then, Few, IsIn, IsThing, Declared, bound_declared, begun_declared}, Simple.walk_keeps}
use Rattle.lil_right_value.specs.Names.{member_is}
use Rattle.lil_right_decl.specs.{Filled.{enumeration_word, rest_more, filled_so, filled_is, filled_count, filled_blocks, filled_told}, Origins.{news_many, news_below}, Room.{types_left, named_fine, named_same, not_before, none_more, entered_once}, Shown.{Shown, all_shown}}

-- ---- before the imports
no_types : (n : ℕ) (e : TypeEntry) → entry [] n ≡ Some e → ⊥
no_types n e is = grind arith

abbrev StandardTold : List ℕ × Entry → Type 0
StandardTold x = ThingTold [] [] x.1.thing

abbrev StandardIn : List ℕ × Entry → Type 0
StandardIn x = IsIn [] x.1.thing

truth_told : (w : ℕ) → has_number b.Truth (pos w) ≡ true → HasWord [] boolean w
truth_told w h = (b.Truth, refl, refl, h)

standard_told : AllFine (λ x. StandardTold x × StandardIn x) standard_names
standard_told = search (truth_told) parts 40 fits 4000

-- none of them is a procedure or a variable of a text, or a module
abbrev IsPlain : Thing → Type 0
IsPlain (thing.Procedure r) = ⊥
IsPlain (thing.Variable v) = ⊥
IsPlain (thing.Module b) = ⊥
IsPlain _ = Unit {0}

abbrev IsOther : Thing → Type 0
IsOther (thing.Procedure r) = Unit {0}
IsOther (thing.Variable v) = Unit {0}
IsOther (thing.Module b) = Unit {0}
IsOther _ = ⊥

standard_plain : AllFine (λ (x : List ℕ × Entry). IsPlain x.1.thing) standard_names
standard_plain = search parts 40 fits 4000

plain_standard : (xs : Names) (m : List ℕ) → AllFine (λ (x : List ℕ × Entry). IsPlain x.1.thing) xs → IfSome (look_in xs m) IsPlain
plain_standard [] m h = tt
plain_standard (x ∷ xs) m h = by (same m x.0) (plain_standard xs m h.1)
  where
    by : (c : Bool) → IfSome (look_in xs m) IsPlain → IfSome (thing_of (if c then Some x.1 else entry_in xs m)) IsPlain
    by true rest = h.0
    by false rest = rest

none_standard : (x : Thing) (b : ℕ) (m : List ℕ) → IsOther x → look_in (block_at start.scopes.blocks b) m ≡ Some x → ⊥
unfolding start
none_standard x zero m other is = by x other (subst (λ (o : Option Thing). IfSome o IsPlain) is (plain_standard standard_names m standard_plain))
  where
    by : (x : Thing) → IsOther x → IsPlain x → ⊥
    by (thing.Procedure r) other h = h
    by (thing.Variable v) other h = h
    by (thing.Module k) other h = h
    by _ other h = other
none_standard x (suc zero) m other is = none-some x is
none_standard x (suc (suc b)) m other is = none-some x is

start_told : Declared start
unfolding start
start_told = record {
  told = record {
    types = λ n e is. absurd (no_types n e is);
    words = λ n e is. absurd (no_types n e is);
    names = (all_then (λ x. StandardTold x × StandardIn x) StandardTold (λ x h. h.0) standard_names standard_told, (tt, tt));
    homed = record {
      two = omega arith;
      names = λ b m r is. absurd (none_standard (thing.Procedure r) b m tt is);
      variables = λ b m v is. absurd (none_standard (thing.Variable v) b m tt is);
      modules = λ b m k is. absurd (none_standard (thing.Module k) b m tt is);
      blocks = λ n q is. absurd (none-some q is);
      apart = λ n m q p is. absurd (none-some q is);
      few = omega arith;
      each = refl;
    };
    stands = record {
      path = record { level_is = refl; blocks = (inl refl, tt); own = inl (refl, refl); low = tt };
      few = omega arith;
      there = tt;
    };
  };
  residents = (all_then (λ x. StandardTold x × StandardIn x) StandardIn (λ x h. h.1) standard_names standard_told, (tt, tt));
  variables = (tt, tt);
  headings = tt;
  headed = λ n q is. absurd (none-some q is);
}

-- ---- the steps of imports
-- what is told, and there is room for the types of the interfaces that aren't entered yet. Each module on which others rest is one of those that are entered, and each type is of one of them
pub record IsImported (s : Imported) : Type 0 where
  pub told : Few s.env.types → Declared s.env
  pub room : length s.env.types + types_left residents s.modules ≤ 32
  pub procedures : s.env.procedures ≡ []
  pub variables : s.env.variables ≡ []
  pub procedure : s.env.procedure ≡ None
  pub blocks : AllFine (λ (m : Entered). m.block < length s.env.scopes.blocks) s.modules
  pub rests : (n : List ℕ) → block_of s.modules n ≡ None → has_rest s.rests n ≡ false
  pub below : AllFine (λ (o : Origin). o.«module» < length s.rests + 1) s.origins
  pub count : length s.origins ≡ length s.env.types

nothing : IsImported nothing_imported
unfolding start with_shown with_declared with_procedure
nothing = record { told = λ few. start_told; room = omega arith; procedures = refl; variables = refl; procedure = refl; blocks = tt; rests = λ n none. refl; below = tt; count = refl }

-- a thing that may be bound where this is declared
abbrev IsTaken : Imported → Thing → Type 0
IsTaken s x = Few s.env.types → IsThing s.env s.env.scopes.inner x

-- a module more with an interface o, whose block is the next
abbrev with_module : Imported → List ℕ → Option Interface → Imported
with_module s n o = and_module n (length s.env.scopes.blocks) (filled (length s.env.scopes.blocks) (begun s) o)

module _ (s : Imported) (n : List ℕ) (new : block_of s.modules n ≡ None) (h : IsImported s) where
  m : Entered
  m = record { name = n; block = length s.env.scopes.blocks }

  told : Few s.env.types → Declared (with_block s.env)
  told few = begun_declared s.env (h.told few)

  -- all blocks of modules are among the blocks
  blocks_more : (count : ℕ) → count ≡ length s.env.scopes.blocks + 1 → AllFine (λ (x : Entered). x.block < count) (s.modules ++ m ∷ [])
  unfolding m
  blocks_more count is = fine_more (λ (x : Entered). x.block < count) s.modules m (all_then (λ (x : Entered). x.block < length s.env.scopes.blocks) (λ (x : Entered). x.block < count) (λ x less. omega (arith, less, is)) s.modules h.blocks) (omega (arith, is))

  one_block : length (with_block s.env).scopes.blocks ≡ length s.env.scopes.blocks + 1
  one_block = length_push s.env.scopes.blocks []

  -- with an interface
  module _ (i : Interface) (is : named residents n ≡ Some i) where
    shown : Shown i
    shown = named_fine Shown residents n i all_shown is

    name_is : n ≡ i.name
    name_is = (bytes_decides n i.name).0 (named_same residents n i is)

    new_rest : has_rest s.rests i.name ≡ false
    new_rest = subst (λ n. has_rest s.rests n ≡ false) name_is (h.rests n new)

    once : length i.types + types_left residents (s.modules ++ m ∷ []) ≤ types_left residents s.modules
    unfolding m
    once = entered_once m residents s.modules i is new

    room : length (begun s).env.types + length i.types < 4294967279
    room = omega (arith, once, h.room)

    abbrev so : Imported
    so = filled_so (length s.env.scopes.blocks) (begun s) i shown new_rest h.below h.count room

    so_is : filled (length s.env.scopes.blocks) (begun s) (Some i) ≡ so
    so_is = filled_is (length s.env.scopes.blocks) (begun s) i shown new_rest h.below h.count room

    so_blocks : length so.env.scopes.blocks ≡ length s.env.scopes.blocks + 1
    so_blocks = filled_blocks (length s.env.scopes.blocks) (begun s) i shown new_rest h.below h.count room ∙ one_block

    so_count : length so.env.types ≡ length s.env.types + length i.types
    so_count = filled_count (length s.env.scopes.blocks) (begun s) i shown new_rest h.below h.count room

    so_rests : (k : List ℕ) → block_of (s.modules ++ m ∷ []) k ≡ None → has_rest so.rests k ≡ false
    unfolding m
    so_rests k none =
        let before = not_before m s.modules k none in
        rest_more s.rests _ k (h.rests k before.0) (subst (λ n. same k n ≡ false) name_is before.1)

    so_told : IsImported (and_module n (length s.env.scopes.blocks) so)
    unfolding m
    so_told = record {
      told = filled_told (length s.env.scopes.blocks) (begun s) i shown new_rest h.below h.count room told;
      room = omega (arith, once, h.room, so_count);
      procedures = h.procedures;
      variables = h.variables;
      procedure = h.procedure;
      blocks = blocks_more _ so_blocks;
      rests = so_rests;
      below =
          let more : length so.rests ≡ length s.rests + 1 = length_push s.rests _ in
          news_below (length s.rests + 1) 16 (length s.rests + 1) (length so.rests + 1) s.origins i.types (omega arith) (omega arith) h.below;
      count = news_many (length s.rests + 1) 16 s.origins i.types ∙ omega (arith, h.count, so_count);
    }

  module_told : (o : Option Interface) → named residents n ≡ o → IsImported (with_module s n o) × (length s.env.scopes.blocks < length (with_module s n o).env.scopes.blocks)
  unfolding m
  module_told None is = (
    record {
      told = told;
      room = omega (arith, none_more m residents s.modules, h.room);
      procedures = h.procedures;
      variables = h.variables;
      procedure = h.procedure;
      blocks = blocks_more _ one_block;
      rests = λ k none. h.rests k (not_before m s.modules k none).0;
      below = h.below;
      count = h.count;
    },
    omega (arith, one_block),
  )
  module_told (Some i) is = subst (λ (u : Imported). IsImported (and_module n (length s.env.scopes.blocks) u) × (length s.env.scopes.blocks < length u.env.scopes.blocks)) (sym (so_is i is)) (so_told i is, omega (arith, so_blocks i is))

-- and its block is among them
abbrev IsEntered : Imported × ℕ → Type 0
IsEntered q = IsImported q.0 × (q.1 < length q.0.env.scopes.blocks)

known_block : (count : ℕ) (ms : List Entered) (n : List ℕ) (b : ℕ) → AllFine (λ (x : Entered). x.block < count) ms → block_of ms n ≡ Some b → b < count
known_block count [] n b all is = absurd (none-some b is)
known_block count (m ∷ ms) n b all is = by (same n m.name) is (known_block count ms n b all.1)
  where
    by : (c : Bool) → (if c then Some m.block else block_of ms n) ≡ Some b → (block_of ms n ≡ Some b → b < count) → b < count
    by true is rest = subst (λ (k : ℕ). k < count) (same_Some m.block b is) all.0
    by false is rest = rest is

entered_told : (s : Imported) (n : List ℕ) → IsImported s → IsEntered (entered residents s n)
unfolding entered
entered_told s n h = by (block_of s.modules n) refl
  where
    by : (o : Option ℕ) → block_of s.modules n ≡ o → IsEntered (entered_by o residents s n)
    by None is = module_told s n is h (named residents n) refl
    by (Some b) is = (h, known_block (length s.env.scopes.blocks) s.modules n b h.blocks is)

take_told : (q : Source) (i : Ident) (s : Imported) (x : Thing) → IsImported s → IsTaken s x → Right IsImported (take_node q i s x)
unfolding take_node
take_told q i s x h j clear = record {
  told = λ few. bound_declared s.env (h.told few) s.env.scopes.inner i.name (names.entry x i.place) (j few);
  room = h.room;
  procedures = h.procedures;
  variables = h.variables;
  procedure = h.procedure;
  blocks = subst (λ (count : ℕ). AllFine (λ (m : Entered). m.block < count) s.modules) (sym (bound_many s.env.scopes.blocks s.env.scopes.inner i.name (names.entry x i.place))) h.blocks;
  rests = h.rests;
  below = h.below;
  count = h.count;
}

-- ---- the constants that come with the name of an enumeration
abbrev AreWords : Table → ℕ → ℕ → List (List ℕ) → Type 0
AreWords t n j [] = Unit {0}
AreWords t n j (c ∷ cs) = HasWord t n (min j 65535) × AreWords t n (j + 1) cs

module _ (t : Table) (told : IsTold t) (n : ℕ) where
  words_from : (e : TypeEntry) (names : List (List ℕ)) → entry t n ≡ Some e → e.form ≡ Enumeration names → (j : ℕ) (cs : List (List ℕ)) → j + length cs ≤ length names → AreWords t n j cs
  words_from e names there form j [] within = tt
  words_from e names there form j (c ∷ cs) within = (enumeration_word t told n e names there form (min j 65535) (omega arith), words_from e names there form (j + 1) cs (omega arith))

  are_words : AreWords t n 0 (constants_of t n)
  are_words = by (entry t n) refl
    where
      by_form : (e : TypeEntry) → entry t n ≡ Some e → (form : TypeForm) → e.form ≡ form → AreWords t n 0 (constants_by form)
      by_form e there (Enumeration names) form = words_from e names there form 0 names (omega arith)
      by_form e there _ form = tt

      by : (o : Option TypeEntry) → entry t n ≡ o → AreWords t n 0 (constants_in o)
      by None is = tt
      by (Some e) is = by_form e is e.form refl

module _ (q : Source) (p : Place) where
  constants_told : (n j : ℕ) (s : Imported) (cs : List (List ℕ)) → IsImported s → (Few s.env.types → AreWords s.env.types n j cs) → Right IsImported (constants_step q p n j s cs)
  unfolding take_node
  constants_told n j s [] h words = λ clear. h
  constants_told n j s (c ∷ cs) h words =
      after_right (λ (u : Imported). IsImported u × (Few u.env.types → AreWords u.env.types n (j + 1) cs)) IsImported (take_node q (ident p c) s (constant n j)) (λ u. constants_step q p n (j + 1) u cs)
      (λ clear. (take_told q (ident p c) s (constant n j) h (λ few. (((words few).0, tt), (tt, tt))) clear, λ few. (words few).1))
      (λ u both. constants_told n (j + 1) u cs both.0 both.1)

  brought_told : (n : ℕ) (s : Imported) → IsImported s → IsImported (brought s n)
  brought_told n s h = record { told = h.told; room = h.room; procedures = h.procedures; variables = h.variables; procedure = h.procedure; blocks = h.blocks; rests = h.rests; below = h.below; count = h.count }

  bring_told : (n : ℕ) (s : Imported) → IsImported s → Right IsImported (bring q p s n)
  bring_told n s h = by (has_enumeration s.enumerations n)
    where
      by : (c : Bool) → Right IsImported (if c then (s, []) else constants_step q p n 0 (brought s n) (constants_of s.env.types n))
      by true = λ clear. h
      by false = constants_told n 0 (brought s n) (constants_of s.env.types n) (brought_told n s h) (λ few. are_words s.env.types (h.told few).told.types n)

  with_told : (x : Thing) (s : Imported) → IsImported s → Right IsImported (with_constants q p x s)
  unfolding with_constants
  with_told (thing.Type n) s h = bring_told n s h
  with_told _ s h = λ clear. h

taken_told : (q : Source) (i : Ident) (s : Imported) (x : Thing) → IsImported s → IsTaken s x → Right IsImported (taken_node q i s x)
taken_told q i s x h j = after_right IsImported IsImported (take_node q i s x) (with_constants q i.place x) (take_told q i s x h j) (λ u k. with_told q i.place x u k)

-- before the declarations there are no procedures and no variables
none_there : {A X : Type 0} (xs : List A) → xs ≡ [] → (n : ℕ) (x : A) → slice_get xs n ≡ Some x → X
none_there xs none n x is = absurd (none-some x (ap (λ xs. slice_get xs n) (sym none) ∙ is))

module _ (s : Imported) (h : IsImported s) (d : Declared s.env) where
  abbrev e : Env
  e = s.env

  no_variable : {X : Type 0} (b : ℕ) (v : Variable) (o : IsOwn e.procedures e.variables e.locals b v) → IsHome e.procedures b o.chain → X
  no_variable b v o (inl home) = none_there e.variables h.variables v.number o.its (ap (λ (c : List ℕ). slice_get (own_of e.variables e.locals c) v.number) (sym home.1) ∙ o.there)
  no_variable b v o (inr p) = none_there e.procedures h.procedures p.number p.its p.there

  member_is_thing : (k : ℕ) (n : List ℕ) (x : Thing) → member e.scopes k n ≡ Some x → IsThing e e.scopes.inner x
  member_is_thing k n x is = (
    subst (λ o. IfSome o (ThingTold e.types e.texts)) is (member_is (ThingTold e.types e.texts) e.scopes k n d.told.names),
    (subst (λ o. IfSome o (IsIn e.types)) is (member_is (IsIn e.types) e.scopes k n d.residents), allowed x is),
  )
    where
      allowed : (x : Thing) → member e.scopes k n ≡ Some x → Allowed (length e.scopes.blocks) e.procedures e.variables e.locals e.scopes.inner x
      allowed (thing.Procedure r) is = let p = d.told.homed.names k n r is in none_there e.procedures h.procedures r.number p.its p.there
      allowed (thing.Variable v) is = let o = d.told.homed.variables k n v is in no_variable k v o o.home
      allowed (thing.Module b) is = d.told.homed.modules k n b is
      allowed _ is = tt

found_told : (s : Imported) (i : Ident) (k : ℕ) → IsImported s → Right (IsTaken s) (found_node i (member s.env.scopes k i.name))
unfolding found_node
found_told s i k h clear few = by (member s.env.scopes k i.name) refl clear
  where
    shown : (x : Thing) → is_hidden (Some x) ≡ false → IsThing s.env s.env.scopes.inner x → IsThing s.env s.env.scopes.inner (thing_or_broken (Some x))
    shown thing.Hidden is told = absurd (true≢false is)
    shown _ is told = told

    by : (o : Option Thing) → member s.env.scopes k i.name ≡ o → (is_none o ≡ false) × ((is_hidden o ≡ false) × ((not (built (thing_or_broken o)) ≡ false) × Unit {0})) → IsThing s.env s.env.scopes.inner (thing_or_broken o)
    by None is clear = absurd (true≢false clear.0)
    by (Some x) is clear = shown x clear.1.0 (member_is_thing s h (h.told few) k i.name x is)

name_told : (k : ℕ) (s : Imported) (i : Ident) → IsImported s → Right IsImported (name_step k s i)
name_told k s i h = after_right (IsTaken s) IsImported (found_node i (member s.env.scopes k i.name)) (taken_node (from.Block k) i s) (found_told s i k h) (λ x told. taken_told (from.Block k) i s x h told)

own_told : (i : Ident) (s : Imported) → IsImported s → Right IsImported (own_node residents i s)
own_told i s h =
    let e = entered_told s i.name h in
    take_told from.Itself i (entered residents s i.name).0 (thing.Module (entered residents s i.name).1) e.0 (λ few. (tt, (tt, record { low = e.1; below = λ n q is. none_there (entered residents s i.name).0.env.procedures e.0.procedures n q is })))

late_told : (i : Ident) (s : Imported) → IsImported s → Right IsImported (late_node i s)
unfolding late_node
late_told i s h clear = h

module_right : (s : Imported) (i : Ident) → IsImported s → Right IsImported (module_step residents s i)
module_right s i h = after_right IsImported IsImported (late_node i s) (own_node residents i) (late_told i s h) (own_told i)

names_right : (m : Ident) (names : List Ident) (s : Imported) → IsImported s → Right IsImported (names_of residents m names s)
names_right m names s h = walk_keeps IsImported (name_step (entered residents s m.name).1) (name_told (entered residents s m.name).1) (entered residents s m.name).0 names (entered_told s m.name h).0

import_told : (s : Imported) (x : Import) → IsImported s → Right IsImported (import_step residents s x)
import_told s x h = by x.from
  where
    by : (o : Option Ident) → Right IsImported (import_by residents s o x.names)
    by None = walk_keeps IsImported (module_step residents) module_right s x.names h
    by (Some m) = after_right IsImported IsImported (late_node m s) (names_of residents m x.names) (late_told m s h) (names_right m x.names)

pub imports_told : (xs : List Import) → Right IsImported (imports_mean residents nothing_imported xs)
unfolding imports_mean
imports_told xs clear = walk_keeps IsImported (import_step residents) import_told nothing_imported xs nothing clear
