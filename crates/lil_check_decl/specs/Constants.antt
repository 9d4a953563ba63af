-- What names of constants stand for.
use Rattle.std.specs.Prelude.{ℕ, length, not, List, [], ◌∷◌, ◌++◌, Option, Some, None, if◌then◌else◌}
use Rattle.lil_base.specs.declared.fault.FaultKind.TheVariants.{NotConst}
use Rattle.lil_language.specs.declared.unit.Constant.{Constant}
use Rattle.lil_report.specs.Told.{Row, row, after}
use Rattle.lil_scope.specs.{declared.{thing.{Chars.Chars, Kind.Kind, Thing.Thing}, env.Env.Env}, Names.bind}
use Rattle.lil_scope.specs.declared.thing.Kind.TheVariants as k
use Rattle.lil_scope.specs.declared.thing.Thing.TheVariants as t
use Rattle.lil_kinds.specs.{Kinds.is_constant, declared.found.{Form.Form, Found.Found}}
use Rattle.lil_kinds.specs.declared.found.Form.TheVariants as form
use Rattle.lil_check_value.specs.Values.{asked_means}

-- what is declared behind a name, and the name's thing
abbrev pub Meant : Type 0
Meant = Env × Thing

abbrev pub with_text : Env → List ℕ → Env
with_text e text = record e { texts = e.texts ++ text ∷ [] }

-- the text of a constant is kept
abbrev pub text_of : Env → Chars → Form → Meant
text_of e c (form.Text text) = (with_text e text, t.Named (length e.texts) c)
text_of e c _ = (e, t.Broken)

abbrev pub constant_thing : Env → Form → Kind → Meant
constant_thing e f (k.Whole v) = (e, t.Constant (k.Whole v))
constant_thing e f (k.Scalar n w) = (e, t.Constant (k.Scalar n w))
constant_thing e f (k.Chars c) = text_of e c f
constant_thing e f _ = (e, t.Broken)

abbrev pub if_constant : Env → Form → Kind → Meant
if_constant e f kind = if is_constant kind then constant_thing e f kind else (e, t.Broken)

-- 51 NotConst, at the first token of what is no constant: its name is broken
unfoldable pub constant_node : Env → Option Found → Meant × List Row
constant_node e (Some a) = (if_constant e a.form a.kind, row (not (is_constant a.kind)) a.first NotConst ∷ [])
constant_node e None = ((e, t.Broken), [])

-- a constant, whose name is bound behind its expression
abbrev pub constant_step : Env → Constant → Env × List Row
constant_step e c = after (asked_means e c.value) (λ o. after (constant_node e o) (λ m. bind m.0 c.name m.1))
