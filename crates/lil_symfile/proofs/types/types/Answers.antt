use Rattle.std.proofs.Common.{◌∷◌, [], ◌++◌, ap, sym, ◌∙◌}
use Rattle.lil_format.specs.Turns.{many_on}
use Rattle.lil_symfile.specs.Kinds.{kind_of}
use Rattle.lil_symfile.proofs.KindLaws.{kinds_more}
use Rattle.lil_symfile.proofs.types.types.Goals as goal

pub loop-turn-preserved : goal.loop-turn-preserved
loop-turn-preserved c =
    let all = c.loop-turn.all in
    let next = c.in_ok-next.next in
    let so_far = c.loop-turn.invariant.kinds in
    let read = rw so_far at c.in_ok-next.ensures.read in
    record {
      read = rw c.in_ok-push.ensures.ok (many_on _ all c.loop-turn.source c.loop-turn.invariant.read c.loop-turn-test.true next _ read);
      kinds = rw c.in_ok-push.ensures.ok (c.in_ok-next.ensures.kinds ∙ ap (λ ks. ks ++ kind_of ks next.form ∷ []) so_far ∙ sym (kinds_more all next));
    }
