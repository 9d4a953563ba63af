-- The modules on which a unit rests, and the types of an interface by where they belong: a type that comes by two modules is one.
use Rattle.std.specs.Prelude.{ℕ, ◌+◌, ◌==◌, nat_lt, min, Bool, ◌&&◌, map, List, [], ◌∷◌, ◌++◌, position, Option, Some, None, slice_get, if◌then◌else◌}
use Rattle.std.specs.List.{list_any}
use Rattle.lil_format.specs.declared.name.Wanted.{Wanted}
use Rattle.lil_types.specs.{declared.table.{Origin.Origin, TypeEntry.TypeEntry, TypeForm.{TypeForm, TheVariants.Enumeration}}, Types.Table, Adding.{next, appended}}
use Rattle.lil_scope.specs.Names.{same}
use Rattle.lil_interfaces.specs.{declared.surface.Interface.Interface, Moving.{number_at, moved_form}}

-- ---- the modules on which a unit rests, each once: what it imports, and behind each of those what that rests on
abbrev pub has_rest : List Wanted → List ℕ → Bool
has_rest ws n = list_any (λ w. same n w.name) ws

abbrev pub and_rest : List Wanted → Wanted → List Wanted
and_rest ws w = if has_rest ws w.name then ws else ws ++ w ∷ []

abbrev pub and_rests : List Wanted → List Wanted → List Wanted
and_rests ws [] = ws
and_rests ws (v ∷ vs) = and_rests (and_rest ws v) vs

-- the module of an interface, and those on which it rests
abbrev pub with_itself : Interface → List Wanted
with_itself i = record { name = i.name; key = i.key } ∷ i.rests

-- the place of a module among them, from a number on; behind all of them where it isn't there
abbrev pub place_from : ℕ → List Wanted → List ℕ → ℕ
place_from k [] n = k
place_from k (w ∷ ws) n = if same n w.name then k else place_from (k + 1) ws n

abbrev pub places : List Wanted → List Wanted → List ℕ
places ws vs = map (λ v. place_from 1 ws v.name) vs

-- ---- origins, each once
abbrev pub same_origin : Origin → Origin → Bool
same_origin a b = (a.«module» == b.«module») && (a.number == b.number)

abbrev pub and_origin : List Origin → Origin → List Origin
and_origin os o = if list_any (same_origin o) os then os else os ++ o ∷ []

-- the number of the type with an origin: the first one has 16
abbrev pub number_by : Option ℕ → ℕ
number_by None = 4294967295
number_by (Some k) = min k 4294967279 + 16

abbrev pub number_of : List Origin → Origin → ℕ
number_of os o = number_by (position (same_origin o) os)

-- ---- the types of an interface, where its module and those on which it rests have the places ps
module _ (ps : List ℕ) where
  abbrev pub origin_in : TypeEntry → Origin
  origin_in e = record { «module» = number_at (slice_get ps e.origin.«module»); number = e.origin.number }

  abbrev pub and_origins : List Origin → List TypeEntry → List Origin
  and_origins os [] = os
  and_origins os (e ∷ es) = and_origins (and_origin os (origin_in e)) es

  -- the numbers that they have, where these are all origins
  abbrev pub numbers_in : List Origin → List TypeEntry → List ℕ
  numbers_in os es = map (λ e. number_of os (origin_in e)) es

  -- a type that isn't there yet has the next number
  module _ (os : List Origin) (ns : List ℕ) where
    unfoldable pub with_type : Table → TypeEntry → Table
    with_type t e = if number_of os (origin_in e) == next t then appended t (origin_in e) (moved_form ns e.form) else t

    abbrev pub with_types : Table → List TypeEntry → Table
    with_types t [] = t
    with_types t (e ∷ es) = with_types (with_type t e) es

-- ---- numbers of types
abbrev pub has_number : List ℕ → ℕ → Bool
has_number ns n = list_any (λ m. n == m) ns

abbrev pub and_number : List ℕ → ℕ → List ℕ
and_number ns n = if has_number ns n then ns else ns ++ n ∷ []

-- the names of an enumeration's constants, none of another form
abbrev pub constants_by : TypeForm → List (List ℕ)
constants_by (Enumeration names) = names
constants_by _ = []
