-- Which form an expression has.
use Rattle.std.specs.Prelude.{Bool, true, false}
use Rattle.lil_resolved.specs.declared.resolved.{RArgument.{RArgument, TheOpen.RExpr-F}, RExpr.{RExpr, out-RExpr}, RMember.RMember, RRoot.RRoot, RSelector.RSelector, ROperation.ROperation, RPlace.RPlace}
use Rattle.lil_resolved.specs.declared.resolved.RArgument.TheOpen as o

-- a call of a function, or of one that is a value
abbrev call_layer : RExpr-F RArgument RExpr RMember RRoot RSelector ROperation RPlace → Bool
call_layer (o.Invoke p n k given) = true
call_layer (o.InvokeValue e k given) = true
call_layer e = false

abbrev pub is_call : RExpr → Bool
is_call e = call_layer (out-RExpr e)
