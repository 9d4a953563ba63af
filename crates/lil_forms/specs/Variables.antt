-- Which variable a name means to the procedure at hand, and what is known of it.
use Rattle.std.specs.Prelude.{ℕ, ◌==◌, nat_lt, List, [], slice_get, Option, Some, None, if◌then◌else◌}
use Rattle.lil_declared.specs.declared.declared.{Mode.Mode, RVar.RVar}
use Rattle.lil_declared.specs.declared.declared.Mode.TheVariants as mode
use Rattle.lil_resolved.specs.declared.resolved.RNamed.{RNamed}
use Rattle.lil_resolved.specs.declared.resolved.RNamed.TheVariants as n
use Rattle.lil_scope.specs.{declared.{env.Env.Env, thing.Variable.Variable}, Names.{chain, locals_in, variable_levels}}
pub use Rattle.lil_shapes.specs.Signatures.{passing_by}

-- one that holds an address
abbrev pub HoldsAddress : Mode → Type 0
HoldsAddress mode.Plain = ⊥
HoldsAddress mode.Value = ⊥
HoldsAddress mode.Place = Unit {0}
HoldsAddress mode.OpenValue = Unit {0}
HoldsAddress mode.OpenPlace = Unit {0}

-- levels are bytes in the code
abbrev pub level_named : ℕ → ℕ → Option RNamed
level_named l x = if nat_lt l 256 then Some (n.Level l x) else None

-- a variable by its level and its number: those of the module have level 1
abbrev pub named_at : Env → Variable → Option RNamed
named_at e v = if v.level == 1 then Some (n.Module v.number) else level_named (variable_levels e v.level) v.number

-- the variables of a procedure, where there is one
abbrev pub locals_out : List (List RVar) → Option ℕ → List RVar
locals_out ls None = []
locals_out ls (Some p) = locals_in ls p

-- those that are seen: of the module, and of a chain of procedures, the innermost first
abbrev pub seen_in : List RVar → List (List RVar) → List ℕ → RNamed → Option RVar
seen_in vs ls ps (n.Module x) = slice_get vs x
seen_in vs ls ps (n.Level l x) = slice_get (locals_out ls (slice_get ps l)) x

abbrev pub seen : Env → RNamed → Option RVar
seen e = seen_in e.variables e.locals (chain e)
