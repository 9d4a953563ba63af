use Rattle.std.proofs.Common.{◌+◌}
use Rattle.lil_types.specs.Types.{facts_of}
use Rattle.lil_types.proofs.Sums.{fitting_some, sound_added}
use Rattle.lil_types.proofs.adding.add.Goals as goal

pub returns-in_ok-push-in-Some-clause-sound : goal.returns-in_ok-push-in-Some-clause-sound
returns-in_ok-push-in-Some-clause-sound c = λ s.
    let number = c.len-2.ensures.number in
    let facts = fitting_some (facts_of c.args.t.now (c.len-2.result + 16) c.args.form) c.in-Some.facts cc in
    rw c.in_ok-push-in-Some.ensures.ok (sound_added c.args.t.now _ s (rw number at facts))
