-- What procedures of procedure types have: the parameters and the result of each such type.
use Rattle.std.specs.Prelude.{◌≡◌, true, ℕ, zero, suc, List, [], ◌∷◌, ◌++◌, length, map, Option, Some, None, option_and_then}
use Rattle.std.specs.Option.{option_map}
use Rattle.lil_types.specs.{Types.{Table, entry}, declared.table.{Parameter.Parameter, TypeForm.TypeForm, TypeEntry.TypeEntry}}
use Rattle.lil_types.specs.declared.table.TypeForm.TheVariants as form
use Rattle.lil_declared.specs.{Modes.mode_of, declared.declared.Mode.Mode}
use Rattle.lil_resolved.specs.{Kinds.{Shape, Signature, shape_at}, Views.{kind_view, held_by}, declared.resolved.{RKind.RKind, RPassed.RPassed, RSignature.RSignature}}
use Rattle.lil_shapes.specs.{Bases.kind_at, Pointers.lies_at, Shaping.{passing_of, held_in}}

-- ---- parameters
-- how the variable for a parameter is declared
abbrev pub passing_by : Parameter → Mode
passing_by p = mode_of p.by_place p.open_array

-- what that holds, by the shapes of types
abbrev pub parameter_shape : List Shape → Parameter → Option Shape
parameter_shape ts p = held_in ts (passing_by p) p.sort

-- something lies there, or in each element of an open array
abbrev pub ParameterLies : Table → Parameter → Type 0
ParameterLies t p = lies_at t p.sort ≡ true

-- a parameter by the number of its shape
abbrev pub passed : Parameter → RPassed
passed p = record { shape = p.sort; passing = passing_of (passing_by p) }

-- ---- the signature of each type
-- the kind of what is returned, by the type of the result
abbrev pub kind_returned : Table → Option ℕ → Option RKind
kind_returned t r = option_and_then (kind_at t) r

abbrev pub no_signature : RSignature
no_signature = record { parameters = []; result = None }

abbrev pub signature_in : Table → TypeForm → RSignature
signature_in t (form.Procedure ps r) = record { parameters = map passed ps; result = kind_returned t r }
signature_in t _ = no_signature

abbrev pub signature_by : Table → Option TypeEntry → RSignature
signature_by t None = no_signature
signature_by t (Some e) = signature_in t e.form

-- that of a procedure type; PROC has no parameters and no result, and neither has any other type
abbrev pub signature : Table → ℕ → RSignature
signature t n = signature_by t (entry t n)

-- by the numbers of types, below one
unfoldable pub signatures_below : Table → ℕ → List RSignature
signatures_below t zero = []
signatures_below t (suc n) = signatures_below t n ++ signature t n ∷ []

-- ---- what they are, by the shapes of all types
abbrev pub passed_shape : List Shape → RPassed → Shape
passed_shape ts p = held_by p.passing (shape_at ts p.shape)

abbrev pub signature_with : List Shape → RSignature → Signature
signature_with ts s = record { parameters = map (passed_shape ts) s.parameters; result = option_map kind_view s.result }

abbrev pub signatures : Table → List Shape → List Signature
signatures t ts = map (signature_with ts) (signatures_below t (length ts))
