use Rattle.std.proofs.Common.{◌≡◌, take}
use Rattle.lil_labels.proofs.buffer.text_words.Given as goal

abbrev pub invariant-loop-character : goal.invariant-loop-character
invariant-loop-character l = l.words.items ≡ take l.character-index l.text
