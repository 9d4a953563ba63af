use Rattle.lil_shapes.proofs.shapes.shape.Goals as goal

pub returns-in-None-clause-made : goal.returns-in-None-clause-made
returns-in-None-clause-made c = c.scalar.ensures.made c.args.before.now

pub returns-in-Some-kind-clause-made : goal.returns-in-Some-kind-clause-made
returns-in-Some-kind-clause-made c = c.scalar-in-Some-kind.ensures.made c.args.before.now
