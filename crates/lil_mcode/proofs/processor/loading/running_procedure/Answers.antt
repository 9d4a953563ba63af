use Rattle.std.proofs.Common.{◌≡◌, ℕ, true, false, Some, slice_get, length, refl, sym, ◌∙◌, subst, arith}
use Rattle.std.proofs.lemmas.Option.{slice_get_read}
use Rattle.lil_mcode.specs.Kept.{is_better}
use Rattle.lil_mcode.proofs.{Running.{Best, best_taken, best_kept, best_runs}, processor.loading.running_procedure.Goals.{then-is_nearer, else-is_nearer}}
use Rattle.lil_mcode.proofs.processor.loading.running_procedure.Goals as goal

pub loop-k-preserved : goal.loop-k-preserved
loop-k-preserved c =
    let procedures = c.args.procedures.now in
    let place = c.args.place in
    let k = c.loop-k.k in
    let x = c.index-procedures-k.result in
    let here : slice_get procedures k ≡ Some (x.0, x.1) = slice_get_read procedures (length procedures) k x refl (omega arith) c.index-procedures-k.is in
    elim c.if-is_nearer.branch [
      | then-is_nearer w ↦
          let better : is_better place c.loop-k.found x.0 ≡ true = sym c.is_nearer.ensures ∙ w.if-is_nearer.true in
          rw (w.number-is, w.found-is) (best_taken procedures place k c.loop-k.number c.loop-k.found x.0 x.1 c.loop-k.invariant here better)
      | else-is_nearer w ↦
          let worse : is_better place c.loop-k.found x.0 ≡ false = sym c.is_nearer.ensures ∙ w.if-is_nearer.false in
          rw (w.number-is, w.found-is) (best_kept procedures place k c.loop-k.number c.loop-k.found x.0 x.1 c.loop-k.invariant here worse)
    ]

pub returns : goal.returns
returns c =
    let procedures = c.args.procedures.now in
    let all : c.loop-k.k ≡ length procedures = omega arith in
    let P : ℕ → Type 0 = λ n. Best procedures c.args.place n c.loop-k.number c.loop-k.found in
    best_runs procedures c.args.place c.loop-k.number c.loop-k.found (subst P all c.loop-k.invariant)
