use Rattle.std.proofs.Common.{rules, ◌+◌, ◌∷◌, List, drop, map, sym, ap, subst, ◌∙◌}
use Rattle.std.specs.Option.{option_map}
use Rattle.lil_resolved.specs.{declared.resolved.RProcedure.RProcedure, Views.procedure_of}
use Rattle.lil_shapes.specs.{Measured.shapes_in, Shaping.{all_some, lying}}
use Rattle.lil_check_stmt.specs.Stmts.{Bodies}
use Rattle.lil_check_unit.specs.Modules.{made_of, locals_laid}
use Rattle.lil_check_unit.proofs.Making.{IsSoFar, one_made, next_left}
use Rattle.lil_check_unit.proofs.assembling.procedures.Goals as goal

pub loop-number-preserved : goal.loop-number-preserved
loop-number-preserved c =
    let t = c.args.table.now in
    let ts = c.args.types.now.shapes in
    let locals = locals_laid (shapes_in c.args.types.now) c.args.locals.now in
    let of = c.args.of.now in
    let made = c.loop-number.made in
    let n = c.loop-number.number in
    let q = c.index-of-number.result in
    let p = c.in-Some-2.procedure in
    let b = c.in-Some.body in
    let left = c.take_first.new.self in
    subst (λ (new : List RProcedure). IsSoFar t ts locals of c.args.bodies new (n + 1) (drop (n + 1) of) left) (sym c.in_ok-push.ensures.ok)
    (one_made t ts locals of c.args.bodies made n q (drop (n + 1) of) b left p
    (ap (option_map (procedure_of ts)) (sym c.in-Some-2.is) ∙ c.in_ok-procedure.ensures.means ∙ ap (λ vs. made_of t q (all_some (map (lying (shapes_in c.args.types.now)) vs)) b) c.of.ensures)
    (search rules) (search rules)
    (next_left t ts locals of c.args.bodies made n q (b ∷ left) c.loop-number-test.true (search rules) (subst (λ (old : Bodies). IsSoFar t ts locals of c.args.bodies made n (drop n of) old) c.in-Some.ensures c.loop-number.invariant)))
