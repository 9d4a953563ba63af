use Rattle.std.proofs.Common.{arith}
use Rattle.lil_labels.proofs.Growing.{label_emits, label_made}
use Rattle.lil_labels.proofs.buffer.CodeBuffer.fresh.Goals as goal

pub returns-clause-emits : goal.returns-clause-emits
returns-clause-emits c = label_emits _ _ _ _ _ _ _ _ c.self.view_is c.in_ok-push.ensures.items

pub returns-clause-makes : goal.returns-clause-makes
returns-clause-makes c = label_made _ _ _ _ _ _ _ _ c.self.view_is c.in_ok-push.ensures.items _ (omega (arith, c.len-label.ensures, c.self.inside.places.ok))
