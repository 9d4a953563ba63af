use Rattle.lil_format.specs.Turns.{many_on}
use Rattle.lil_symfile.specs.declared.tree.Field.{Field}
use Rattle.lil_symfile.proofs.NameLaws.{names_more}
use Rattle.lil_symfile.proofs.types.fields.Goals as goal

pub loop-turn-preserved : goal.loop-turn-preserved
loop-turn-preserved c =
    let all = c.loop-turn.all in
    let next = c.in_ok-next.next in
    let read = rw c.loop-turn.invariant.seen at c.in_ok-next.ensures.read in
    record {
      read = rw c.in_ok-push.ensures.ok (many_on _ all c.loop-turn.source c.loop-turn.invariant.read c.loop-turn-test.true next _ read);
      seen = rw c.in_ok-push.ensures.ok (names_more (λ (f : Field). f.name) all next _ _ c.in_ok-next.ensures.seen c.loop-turn.invariant.seen);
    }
