use Rattle.lil_labels.specs.{Settling.sound_more, Emitting.with_ok}
use Rattle.lil_labels.proofs.Adding.{put_emits}
use Rattle.lil_labels.proofs.buffer.CodeBuffer.put.Goals as goal

pub invariant_of-self : goal.invariant_of-self
invariant_of-self c = sound_more _ _ _ _ _ c.encode.ensures.grows c.self.invariant

pub returns : goal.returns
returns c = with_ok c.encode.result (put_emits _ _ _ _ _ _ _ _ c.self.view_is c.self.invariant c.args.instr c.requires) c.encode.ensures.bytes
