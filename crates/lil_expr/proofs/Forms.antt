-- The code of expressions, form by form.
use Rattle.std.proofs.Common.{◌≡◌, ℕ, ◌<◌, Bool, true, false, not, ◌&&◌, length, List, refl, subst}
use Rattle.lil_base.specs.declared.operator.OneOp.{OneOp}
use Rattle.lil_resolved.specs.{Kinds.{Kind, Scalar, scalar_word, within, is_literal, is_reference}, Resolved.{Function, Expression, Constant, One, Apply, Routine, kind_of}}
use Rattle.lil_asm.specs.declared.instr.Instr.TheVariants.{Liw}
use Rattle.lil_table.specs.Rows.{IsAt, one_code, function_code}
use Rattle.lil_labels.specs.{Drafts.{Draft, Adds, Emits, Doing, Naming, DoingAll}, Emitting.{emits_as}}
use Rattle.lil_expr.specs.{Strings.emits_end, Generating.{Value}}
use Rattle.lil_expr.proofs.Operators.{one_same}

-- a literal is a value of its kind
literal_within : (k : Kind) (v : Scalar) → is_literal k v ≡ true → within k v ≡ true
literal_within k v h = by (within k v) (not (is_reference v)) h
  where
    by : (a b : Bool) → (a && b) ≡ true → a ≡ true
    by true b h = refl
    by false b h = h

pub constant_emitted : (k : Kind) (v : Scalar) (w : ℕ) (a b : Draft) → (within k v ≡ true → w ≡ scalar_word v) → Emits a b (Doing (λ word. Liw w)) → Emits a b (Value (Constant k v))
constant_emitted k v w a b is =
    emits_as a b _ (Value (Constant k v)) (λ x load sound. record { fits = sound; load = subst (λ (w : ℕ). IsAt x.code (length a.bytes) (Liw w) (length b.bytes)) (is (literal_within k v sound)) load })

pub one_emitted : {us : List ℕ} (o : OneOp) (k : Kind) (e : Expression) (a b c : Draft) → Adds us a b (Value e) → Emits b c (DoingAll (one_code o k)) → Adds us a c (Value (One o (kind_of e) e))
one_emitted o k e a b c value by =
    emits_as a c _ (Value (One o (kind_of e) e))
    (λ x t sound. search (sound, t.0 sound.2, rw (one_same o k (kind_of e)) at t.1))
    (emits_end a b c _ _ value by)

pub apply_emitted : {us : List ℕ} (f : Function) (e : Expression) (a b c : Draft) → Adds us a b (Value e) → Emits b c (DoingAll (function_code f (kind_of e))) → Adds us a c (Value (Apply f e))
apply_emitted f e a b c value by =
    emits_as a c _ (Value (Apply f e)) (λ x t sound. record { middle = length b.bytes; takes = sound.0; first = t.0 sound.1; by = t.1 }) (emits_end a b c _ _ value by)

pub routine_emitted : (p n : ℕ) (a b : Draft) → p < 256 → Emits a b (Naming p) → Emits a b (Value (Routine p n))
routine_emitted p n a b small = emits_as a b _ (Value (Routine p n)) (λ x load sound. record { may = sound; low = small; load = load })
