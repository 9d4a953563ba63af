use Rattle.std.proofs.Common.{◌≡◌, length, take}
use Rattle.std.specs.List.{flat_map}
use Rattle.lil_labels.specs.Drafts.{Each, Adds}
use Rattle.lil_stmt.specs.Generating.{StatementPart, statement_part, GuardPart, guard_part, ArmBody, arm_part, paired}
use Rattle.lil_stmt.proofs.statements.+emitting.Given as goal

-- the code so far is that of the items so far
abbrev pub invariant-emit_body-loop-statement : goal.invariant-emit_body-loop-statement
invariant-emit_body-loop-statement l = Adds (flat_map statement_part (take l.statement-index l.body)) l.initial.code l.code (Each (StatementPart l.around.words l.around.exit) (take l.statement-index l.body))

abbrev pub invariant-emit_guards-loop-guard : goal.invariant-emit_guards-loop-guard
invariant-emit_guards-loop-guard l = Adds (flat_map guard_part (take l.guard-index l.guards)) l.initial.code l.code (Each (GuardPart l.around.words l.around.exit l.end) (take l.guard-index l.guards))

-- the arms so far, and their labels
abbrev pub invariant-emit_arms-loop-arm : goal.invariant-emit_arms-loop-arm
invariant-emit_arms-loop-arm l = record {
  many : length l.labels.items ≡ l.arm-index;
  emits : Adds (flat_map arm_part (take l.arm-index l.arms)) l.fn.code l.code (Each (ArmBody l.around.words l.around.exit l.leave) (paired (take l.arm-index l.arms) l.labels.items));
}
