-- The code of places that are stored to, of assignments, and of INC and DEC.
use Rattle.std.proofs.Common.{◌≡◌, ℕ, ◌≤◌, Bool, List, [], ◌∷◌, ◌++◌, length, Option, refl, sym, ap, ◌∙◌, subst, arith}
use Rattle.lil_resolved.specs.{Kinds.{Kind, OfWhole, is_there}, Resolved.{Designator, Expression, Assign, Change, counted_as}}
use Rattle.lil_asm.specs.declared.instr.Instr.{Instr}
use Rattle.lil_table.specs.Rows.{InstrsAt, Access, access_of, ready_code, readied, held, held_twice, store_code, again_code, under_code, whole_code, change_operator, change_code, test_code}
use Rattle.lil_labels.specs.{Drafts.{Draft, Adds, Emits, Doing, DoingAll}, Emitting.{emits_then, emits_as}}
use Rattle.lil_expr.specs.{Strings.emits_end, Generating.{Value, Stored, Found}}
use Rattle.lil_stmt.specs.Generating.{Readied, Targeted, Stated}
use Rattle.lil_stmt.proofs.Storing.{whole}

-- ---- places that are made ready
pub target_emitted : {us : List ℕ} (d : Designator) (a b : Access) (m : ℕ) (c0 c1 c2 : Draft) → Adds us c0 c1 (Found d a m) → Emits c1 c2 (Readied a b) → Adds us c0 c2 (Targeted d b)
target_emitted d a b m c0 c1 c2 place ready =
    emits_as c0 c2 _ (Targeted d b)
    (λ x t k sound.
    let at = t.0 sound.place (ap is_there sound.scalar.shape) in
    record {
      row = record {
        found = length c1.bytes;
        scalar = sound.scalar;
        shallow = omega (arith, sound.shallow);
        here = at.place;
        ready = subst (λ (a : Access). InstrsAt x.code (ready_code a) (length c1.bytes) (length c2.bytes)) at.access t.1.0;
      };
      access = t.1.1 ∙ ap readied at.access;
    })
    (emits_end c0 c1 c2 _ _ place ready)

-- ---- assignments
-- the words that a place takes
held_low : (a : Access) → held a ≤ 3
held_low a = grind arith

held_twice_low : (a : Access) → held_twice a ≤ 3
held_twice_low a = grind arith

pub assign_emitted : {us vs : List ℕ} (d : Designator) (k : Kind) (e : Expression) (target : Access) (n : ℕ) (exit : Option ℕ) (c0 c1 c2 c3 : Draft) → Adds us c0 c1 (Targeted d target) → Adds vs c1 c2 (Stored e k) → Emits c2 c3 (Doing (λ w. store_code target))
    → Adds (us ++ vs) c0 c3 (Stated n exit (Assign d k e))
assign_emitted d k e target n exit c0 c1 c2 c3 place value store =
    emits_as c0 c3 _ (Stated n exit (Assign d k e))
    (λ x t many taken sound room.
    let at = t.0 k sound.0 in
    let ready = readied (access_of x.layout d) in
    search (at, t.1.0 (held ready) sound.1 (held_low ready), rw at.access at t.1.1))
    (emits_then c0 c1 c3 _ _ place (emits_end c1 c2 c3 _ _ value store))

-- ---- INC and DEC
-- instructions behind others
instrs_join : (is js : List Instr) (code : List ℕ) (p q r : ℕ) → InstrsAt code is p q → InstrsAt code js q r → InstrsAt code (is ++ js) p r
instrs_join [] js code p q r here rest = subst (λ (p : ℕ). InstrsAt code js p r) (sym here) rest
instrs_join (i ∷ is) js code p q r here rest = (here.0, here.1, instrs_join is js code here.0 q r here.2 rest)

pub change_emitted : {us vs : List ℕ} (down : Bool) (d : Designator) (k j : Kind) (e : Expression) (i : Instr) (target : Access) (n : ℕ) (exit : Option ℕ) (c0 c1 c2 c3 c4 c5 c6 c7 : Draft) → whole_code (change_operator down) (counted_as k) ≡ i ∷ [] → j ≡ OfWhole (counted_as k)
    → Adds us c0 c1 (Targeted d target) → Emits c1 c2 (DoingAll (again_code target)) → Adds vs c2 c3 (Value e) → Emits c3 c4 (DoingAll (under_code target)) → Emits c4 c5 (Doing (λ w. i))
    → Emits c5 c6 (DoingAll (test_code k j)) → Emits c6 c7 (Doing (λ w. store_code target)) → Adds (us ++ vs) c0 c7 (Stated n exit (Change down d k e))
change_emitted down d k j e i target n exit c0 c1 c2 c3 c4 c5 c6 c7 computes typed place again value under compute test store =
    emits_as c0 c7 _ (Stated n exit (Change down d k e))
    (λ x t many taken sound room.
    let at = t.0 k sound.0 in
    let ready = readied (access_of x.layout d) in
    let whole_is = whole_code (change_operator down) (counted_as k) in
    let test_is = test_code k (OfWhole (counted_as k)) in
    let behind = t.1.1.1.1 in
    let computed : InstrsAt x.code whole_is (length c4.bytes) (length c5.bytes) = subst (λ (is : List Instr). InstrsAt x.code is (length c4.bytes) (length c5.bytes)) (sym computes) (length c5.bytes, behind.0, refl) in
    let tested : InstrsAt x.code test_is (length c5.bytes) (length c6.bytes) = subst (λ (j : Kind). InstrsAt x.code (test_code k j) (length c5.bytes) (length c6.bytes)) typed behind.1.0 in
    let stored : InstrsAt x.code (store_code target ∷ []) (length c6.bytes) (length c7.bytes) = (length c7.bytes, behind.1.1, refl) in
    let first = instrs_join (under_code target) whole_is x.code (length c3.bytes) (length c4.bytes) (length c5.bytes) t.1.1.1.0 computed in
    let second = instrs_join (under_code target ++ whole_is) test_is x.code (length c3.bytes) (length c5.bytes) (length c6.bytes) first tested in
    let by = subst (λ (a : Access). InstrsAt x.code (change_code down k a) (length c3.bytes) (length c7.bytes)) at.access
    (instrs_join (under_code target ++ whole_is ++ test_is) (store_code target ∷ []) x.code (length c3.bytes) (length c6.bytes) (length c7.bytes) second stored) in
    let value = whole x (held_twice ready) e (OfWhole (counted_as k)) _ _ (held_twice_low ready) sound.2 t.1.1.0 in
    search (sound, at, rw at.access at t.1.0, value, by))
    (emits_then c0 c1 c7 _ _ place (emits_then c1 c2 c7 _ _ again (emits_end c2 c3 c7 _ _ value (emits_then c3 c4 c7 _ _ under (emits_then c4 c5 c7 _ _ compute (emits_then c5 c6 c7 _ _ test store))))))
