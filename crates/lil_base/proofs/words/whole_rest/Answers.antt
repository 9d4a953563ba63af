use Rattle.std.specs.Int.{w64}
use Rattle.std.proofs.lemmas.Int.{rem_is}
use Rattle.lil_base.proofs.Products.{rest_is, same_width, wide}
use Rattle.lil_base.proofs.words.whole_rest.Goals as goal

pub returns : goal.returns
returns c =
    let a = same_width c.args.a c.from.result c.ranges.a c.from.ensures in
    let b = same_width c.args.b c.from-2.result c.ranges.b c.from-2.ensures in
    rw (a, b, rem_is w64 c.args.a c.args.b (wide c.args.a c.ranges.a) (wide c.args.b c.ranges.b)) (rest_is c.args.a c.args.b)
