use Rattle.std.proofs.Common.{map, take}
use Rattle.std.specs.List.{flat_map}
use Rattle.lil_resolved.specs.{declared.resolved.RPlace.out-RPlace, Sizes.{arguments_strings, place_strings}, Views.{arguments_of, kind_view, root_of, selected, selector_of}}
use Rattle.lil_labels.specs.Drafts.{Each, Adds}
use Rattle.lil_expr.specs.{Accesses.access_view, Calling.Given, Generating.{Found, Joining, Operating, member_part, operation_part}}
use Rattle.lil_expr.proofs.+emitting.Given as goal

-- the code so far is that of the operations so far
abbrev pub invariant-expressions::emit_operations-loop-operation : goal.invariant-expressions::emit_operations-loop-operation
invariant-expressions::emit_operations-loop-operation l = Adds (flat_map operation_part (take l.operation-index l.operations)) l.initial.code l.code (Each Operating (take l.operation-index l.operations))

-- the code so far is that of the members so far
abbrev pub invariant-expressions::emit_members-loop-member : goal.invariant-expressions::emit_members-loop-member
invariant-expressions::emit_members-loop-member l = Adds (flat_map member_part (take l.member-index l.members)) l.initial.code l.code (Each (Joining (kind_view l.kind)) (take l.member-index l.members))

-- the code so far is that of the root with the selectors so far
abbrev pub invariant-expressions::emit_place-loop-selector : goal.invariant-expressions::emit_place-loop-selector
invariant-expressions::emit_place-loop-selector l = Adds (place_strings (selected (root_of (out-RPlace l.of).root) (map selector_of (take l.selector-index l.selectors)))) l.fn.code l.code (Found (selected (root_of (out-RPlace l.of).root) (map selector_of (take l.selector-index l.selectors))) (access_view l.at.access) l.at.shape)

-- the code so far is that of the arguments so far, and so are the words
abbrev pub invariant-calls::emit_given-loop-argument : goal.invariant-calls::emit_given-loop-argument
invariant-calls::emit_given-loop-argument l = Adds (arguments_strings (arguments_of (take l.argument-index l.given))) l.initial.code l.code (Given l.words (arguments_of (take l.argument-index l.given)))
