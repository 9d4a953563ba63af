use Rattle.lil_mcode.proofs.Running.{Best}
use Rattle.lil_mcode.proofs.processor.loading.running_procedure.Given as goal

abbrev pub invariant-loop-k : goal.invariant-loop-k
invariant-loop-k l = Best l.procedures l.place l.k l.number l.found
