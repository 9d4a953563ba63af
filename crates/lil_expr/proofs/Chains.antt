-- The code of a chain, operation by operation.
use Rattle.std.proofs.Common.{◌≡◌, ℕ, Bool, true, false, Some, None, List, [], ◌∷◌, ◌++◌, map, length, refl, sym, ap, ◌∙◌, subst, append-nil, append_assoc}
use Rattle.std.specs.List.{flat_map}
use Rattle.lil_base.specs.declared.operator.TwoOp.{TwoOp, TheVariants.{Or, And}}
use Rattle.lil_resolved.specs.{declared.resolved.ROperation.{ROperation, out-ROperation}, Kinds.Kind, Resolved.{Expression, Two, Short, kind_of}, Sizes.expression_strings, Views.{operation_is, two_of, chained, expression_of, operation_of}}
use Rattle.lil_asm.specs.declared.instr.Instr.{Instr}
use Rattle.lil_table.specs.Rows.{IsAt, InstrsAt, two_code, short_code}
use Rattle.lil_labels.specs.{declared.buffer.Aim.Aim, Drafts.{Draft, Final, Adds, Emits, Nothing, Doing, DoingAll, Each, Makes, Ends, aimed}, Emitting.{emits_then, emits_as, adds_as, emits_here, emits_fresh}}
use Rattle.lil_labels.specs.declared.buffer.Aim.TheVariants as aim
use Rattle.lil_expr.specs.{Strings.emits_end, Generating.{Value, Operating, aim_of, operation_part}}
use Rattle.lil_expr.proofs.Operators.{two_right}

operations_chain : (os : List ROperation) (x : Final) (p q start : ℕ) (a : Expression) → Each Operating os x p q → Value a x start p → Value (chained a (map operation_of os)) x start q
operations_chain [] x p q start a h value = subst (Value a x start) h value
operations_chain (o ∷ os) x p q start a h value = operations_chain os x h.0 q start (operation_of o a) h.2 (h.1 start a value)

-- ---- the words of strings
two_strings : (o : TwoOp) (a b : Expression) → expression_strings (two_of o a b) ≡ expression_strings a ++ expression_strings b
two_strings Or a b = refl
two_strings And a b = refl
two_strings _ a b = refl

operation_strings : (o : ROperation) (a : Expression) → expression_strings a ++ operation_part o ≡ expression_strings (operation_of o a)
operation_strings o a = sym (ap expression_strings (operation_is o a) ∙ two_strings (out-ROperation o).operator a (expression_of (out-ROperation o).operand))

chain_strings : (e : Expression) (os : List ROperation) → expression_strings e ++ flat_map operation_part os ≡ expression_strings (chained e (map operation_of os))
chain_strings e [] = append-nil (expression_strings e)
chain_strings e (o ∷ os) =
    let rest = flat_map operation_part os in
    sym (append_assoc (expression_strings e) (operation_part o) rest) ∙ ap (λ (ws : List ℕ). ws ++ rest) (operation_strings o e) ∙ chain_strings (operation_of o e) os

pub chain_emitted : (e : Expression) (os : List ROperation) (a b c : Draft) → Adds (expression_strings e) a b (Value e) → Adds (flat_map operation_part os) b c (Each Operating os)
    → Adds (expression_strings (chained e (map operation_of os))) a c (Value (chained e (map operation_of os)))
chain_emitted e os a b c first rest =
    adds_as a c _ (chain_strings e os)
    (emits_as a c _ (Value (chained e (map operation_of os))) (λ x t. operations_chain os x _ _ (length a.bytes) e t.1 t.0) (emits_then a b c _ _ first rest))

-- ---- an operation: its operand behind a jump, or its operand and an instruction
-- an operator whose left operand may decide
record IsShort (o : TwoOp) (i : Aim) (a b : Expression) : Type 0 where
  decides : Bool
  code : (w : ℕ) → aimed i w ≡ short_code decides w
  is : two_of o a b ≡ Short decides a b

short_is : (o : TwoOp) (i : Aim) (a b : Expression) → aim_of o ≡ Some i → IsShort o i a b
short_is And i a b h = let is : i ≡ aim.And = cc in record { decides = false; code = λ w. ap (λ (i : Aim). aimed i w) is; is = refl }
short_is Or i a b h = let is : i ≡ aim.Or = cc in record { decides = true; code = λ w. ap (λ (i : Aim). aimed i w) is; is = refl }
short_is _ i a b h = absurd (cc)

-- an operator that needs both its operands
two_is : (o : TwoOp) (a b : Expression) → aim_of o ≡ None → two_of o a b ≡ Two o (kind_of a) a b
two_is Or a b h = absurd (cc)
two_is And a b h = absurd (cc)
two_is _ a b h = refl

pub short_operation : {us : List ℕ} (o : ROperation) (i : Aim) (end : ℕ) (c0 c1 c2 c3 c4 : Draft) → aim_of (out-ROperation o).operator ≡ Some i → Emits c0 c1 Nothing → Makes c0 c1 end → Emits c1 c2 (Doing (λ word. aimed i (word end)))
    → Adds us c2 c3 (Value (expression_of (out-ROperation o).operand)) → Ends c3 c4 end → Adds us c0 c4 (Operating o)
short_operation o i end c0 c1 c2 c3 c4 known new makes jump right put =
    let b = expression_of (out-ROperation o).operand in
    emits_as c0 c4 _ (Operating o)
    (λ x t start a value.
    let short = short_is (out-ROperation o).operator i a b known in
    subst (λ (e : Expression). Value e x start (length c4.bytes)) (sym (operation_is o a ∙ short.is))
    (λ sound.
    let aims = subst (λ (i : Instr). IsAt x.code (length c0.bytes) i (length c2.bytes)) (short.code (x.word end)) t.0.0 in
    let test = subst (λ (w : ℕ). IsAt x.code (length c0.bytes) (short_code short.decides w) (length c2.bytes)) t.1 aims in
    search (sound, value sound.2, test, t.0.1 sound.3)))
    (emits_here c0 c3 c4 _ end (emits_fresh c0 c1 c3 _ new (emits_then c1 c2 c3 _ _ jump right)) makes.apart put)

pub two_operation : {us : List ℕ} (o : ROperation) (k : Kind) (c0 c1 c2 : Draft) → aim_of (out-ROperation o).operator ≡ None → k ≡ kind_of (expression_of (out-ROperation o).operand)
    → Adds us c0 c1 (Value (expression_of (out-ROperation o).operand)) → Emits c1 c2 (DoingAll (two_code (out-ROperation o).operator k)) → Adds us c0 c2 (Operating o)
two_operation o k c0 c1 c2 known typed right by =
    let b = expression_of (out-ROperation o).operand in
    let operator = (out-ROperation o).operator in
    emits_as c0 c2 _ (Operating o)
    (λ x t start a value. subst (λ (e : Expression). Value e x start (length c2.bytes)) (sym (operation_is o a ∙ two_is operator a b known))
    (λ sound.
    let by = subst (λ (is : List Instr). InstrsAt x.code is (length c1.bytes) (length c2.bytes)) (ap (two_code operator) (typed ∙ sound.2) ∙ two_right operator (kind_of a)) t.1 in
    search (sound, value sound.3, t.0 sound.4, by)))
    (emits_end c0 c1 c2 _ _ right by)
