use Rattle.std.proofs.Common.{rules}
use Rattle.lil_check_type.proofs.Lists.{is_array, last_array, no_array}
use Rattle.lil_check_type.proofs.sorts.arrays.Goals as goal

pub loop-index-init : goal.loop-index-init
loop-index-init c = λ b t h. h

pub loop-index-preserved : goal.loop-index-preserved
loop-index-preserved c = λ b t h. c.loop-index.invariant b t (last_array c.args.place (c.loop-index.env, c.loop-index.sort) c.pop.new.self.items c.in-Some.index {all = c.loop-index.left.items} (search rules)
    (is_array c.args.place c.loop-index.env c.loop-index.sort c.in-Some.index c.array_form.ensures c.in_ok-sort.ensures) h)

pub returns : goal.returns
returns c = c.loop-index.invariant _ _ (no_array c.args.place (c.loop-index.env, c.loop-index.sort) {left = c.loop-index.left.items} (search rules))
