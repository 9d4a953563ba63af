-- Variables and parameters, and the headings of procedures.
use Rattle.std.specs.Prelude.{ℕ, ◌+◌, ◌-◌, nat_le, nat_lt, length, List, [], ◌∷◌, ◌++◌, Option, Some, None}
use Rattle.lil_base.specs.declared.fault.FaultKind.TheVariants.{TooManyProcs}
use Rattle.lil_text.specs.declared.tree.{Ident.Ident, Qualident.Qualident}
use Rattle.lil_language.specs.declared.unit.{Section.Section, Heading.Heading}
use Rattle.lil_types.specs.{Types.Table, declared.table.Parameter.Parameter}
use Rattle.lil_declared.specs.{Modes.mode_of, declared.declared.Mode.TheVariants.Plain}
use Rattle.lil_declared.specs.declared.declared.{RProc.RProc, RVar.RVar}
use Rattle.lil_report.specs.Told.{Row, row, after, walk}
use Rattle.lil_scope.specs.{declared.{thing.{ExternalProcedure.ExternalProcedure, Thing.Thing}, env.Env.Env}, Names.{bind, bind_at, rebind, awaited_procedure, begun, with_local, variables_of, level, visible, chain}}
use Rattle.lil_scope.specs.declared.thing.Thing.TheVariants as t
use Rattle.lil_check_value.specs.Looks.{type_named}
use Rattle.lil_check_type.specs.{declared.routines.Parameters.Parameters, Made.{Made, form_node}, Records.{is_structure, sort_or, no_parameters, with_parameter, result_means, procedure_form}}
use Rattle.lil_check_decl.specs.declared.home.Home.{Home}

-- ---- variables, by their number among those of their owner
abbrev pub variable_thing : Home → Option ℕ → Env → Thing
variable_thing h (Some n) e = t.Variable (record { number = length (variables_of e h.owner); level = h.level; sort = n; mode = h.mode })
variable_thing h None e = t.Broken

abbrev pub and_variable : Option ℕ → RVar → Env → Env
and_variable None v e = record e { variables = e.variables ++ v ∷ [] }
and_variable (Some p) v e = record e { locals = with_local e.locals p v }

-- one whose type has a fault has a number too
abbrev pub with_variable : Home → Option ℕ → List ℕ → Env → Env
with_variable h o name e = and_variable h.owner (record { name = name; sort = sort_or o; mode = h.mode }) e

abbrev pub variable_step : Home → Option ℕ → Env → Ident → Env × List Row
variable_step h o e i = after (bind_at h.block e i (variable_thing h o e)) (λ f. (with_variable h o i.name f, []))

-- the block at hand as home of its variables
abbrev pub here : Env → Home
here e = record { block = e.scopes.inner; level = level e; owner = e.procedure; mode = Plain }

-- ---- parameters: names of one section have one type, which is looked for around the procedure
abbrev pub section_home : Home → Section → Home
section_home h s = record { block = h.block; level = h.level; owner = h.owner; mode = mode_of s.by_place s.open_array }

abbrev pub Headed : Type 0
Headed = Env × Parameters

abbrev pub parameter_step : Home → Section → Option ℕ → Headed → Ident → Headed × List Row
parameter_step h s o q i = after (variable_step (section_home h s) o q.0 i) (λ f. ((f, with_parameter q.1 s.by_place s.open_array o), []))

abbrev pub section_step : Home → Headed → Section → Headed × List Row
section_step h q s = after (type_named q.0 s.sort) (λ o. walk (parameter_step h s o) q s.names)

-- the block of the next procedure as home of its parameters
abbrev pub home_at : Env → ℕ → Home
home_at e block = record { block = block; level = level e + 1; owner = Some (length e.procedures); mode = Plain }

-- ---- procedures, by their number
abbrev pub procedure_thing : ℕ → Option ℕ → Env → Thing
procedure_thing block (Some n) e = t.Procedure (record { number = length e.procedures; block = block; level = level e; sort = n })
procedure_thing block None e = t.Broken

-- PROC stands for the type of a heading that has a fault
abbrev pub procedure_sort : Option ℕ → ℕ
procedure_sort (Some n) = n
procedure_sort None = 5

abbrev pub procedure_at : List ℕ → ℕ → Option ℕ → Env → RProc
procedure_at name block o e = record { name = name; block = block; outer = visible e; around = chain e; sort = procedure_sort o }

abbrev pub with_procedure : List ℕ → ℕ → Option ℕ → Env → Env
with_procedure name block o e = record e { procedures = e.procedures ++ procedure_at name block o e ∷ [] }

-- 62 TooManyProcs, at the name of a procedure before which 250 have headings, or await them in the definition
unfoldable pub numbered_node : Ident → ℕ → Option ℕ → Env → Env × List Row
numbered_node i block o e = (with_procedure i.name block o e, row (nat_le 250 (length e.procedures + e.awaited)) i.place TooManyProcs ∷ [])

abbrev pub new_means : ℕ → Ident → Made → Env × List Row
new_means block i m = after (bind m.0 i (procedure_thing block m.1 m.0)) (numbered_node i block m.1)

-- ---- a procedure of the definition, at its heading in the implementation: the name stands for the unit's own procedure now, and
-- one less is awaited
abbrev pub one_less : Env → Env
one_less e = record e { awaited = e.awaited - 1 }

abbrev pub declared_again : ℕ → Ident → Made → Env
declared_again block i m = with_procedure i.name block m.1 (one_less (rebind m.0 i (procedure_thing block m.1 m.0)))

-- 62 TooManyProcs, where its number in the definition is above 250
unfoldable pub again_means : ExternalProcedure → ℕ → Ident → Made → Env × List Row
again_means p block i m = (declared_again block i m, row (nat_lt 250 p.number) i.place TooManyProcs ∷ [])

abbrev pub named_by : Option ExternalProcedure → ℕ → Ident → Made → Env × List Row
named_by None block i m = new_means block i m
named_by (Some p) block i m = again_means p block i m

abbrev pub named_means : ℕ → Ident → Made → Env × List Row
named_means block i m = named_by (awaited_procedure m.0 i.name) block i m

-- a heading stands in the block around its procedure, and its name is bound there behind it
abbrev pub sections_mean : Env → Heading → Headed × List Row
sections_mean e h = walk (section_step (home_at e (length e.scopes.blocks))) (begun e, no_parameters) h.sections

abbrev pub heading_type : Headed → Heading → Made × List Row
heading_type q h = after (result_means q.0 h.result) (λ n. form_node q.0 h.place (procedure_form q.1 n))

abbrev pub heading_means : Env → Heading → Env × List Row
heading_means e h = after (sections_mean e h) (λ q. after (heading_type q h) (named_means (length e.scopes.blocks) h.name))
