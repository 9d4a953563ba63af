-- Calls of procedures that are values.
use Rattle.std.proofs.Common.{ℕ, List, ◌++◌, refl, arith}
use Rattle.std.specs.Prelude.{length}
use Rattle.lil_resolved.specs.Resolved.{Expression, Arguments}
use Rattle.lil_labels.specs.{Drafts.{Draft, Adds}, Emitting.{emits_then, emits_as}}
use Rattle.lil_expr.specs.{Generating.Value, Calling.{ValueCalled, Valued}}

-- the value, and the call behind it
pub valued_emitted : {us vs : List ℕ} (e : Expression) (given : Arguments) (a b c : Draft) → Adds us a b (Value e) → Adds vs b c (ValueCalled given)
    → Adds (us ++ vs) a c (Valued e given)
valued_emitted e given a b c value call =
    emits_as a c _ (Valued e given)
    (λ x t result callee sound those. record {
      start = length b.bytes;
      value = record { typed = refl; shallow = omega (arith, callee.shallow); value = t.0 sound };
      call = t.1 e result callee those;
    })
    (emits_then a b c _ _ value call)
