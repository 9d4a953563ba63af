use Rattle.std.proofs.Common.{Err, subst}
use Rattle.lil_volume.specs.Causes.{VolumeCause}
use Rattle.lil_compile.proofs.Parts.{part_failed, first_cut, second_cut}
use Rattle.lil_compile.proofs.command.store.Goals as goal

pub returns-in_err-write : goal.returns-in_err-write
returns-in_err-write g c =
    part_failed _ _ (g.V.Volume.files c.args.volume.now) (g.V.Volume.faults c.args.volume.now) (g.V.Volume.files c.write.new.self) (g.V.Volume.faults c.write.new.self) (Unit {0})
    c.from_residual-in_err-write.result c.in_err-write.field-0.0 c.from_residual-in_err-write.ensures.1
    (first_cut c.args.x.now c.args.made.now (g.V.Volume.files c.args.volume.now) (g.V.Volume.files c.write.new.self) c.in_ok-book.book c.in_ok-book.ensures c.in_err-write.ensures.err)
    c.in_err-write.ensures.cause

pub returns-in_err-write-2 : goal.returns-in_err-write-2
returns-in_err-write-2 g c =
    part_failed _ _ (g.V.Volume.files c.args.volume.now) (g.V.Volume.faults c.args.volume.now) (g.V.Volume.files c.write-2.new.self) (g.V.Volume.faults c.write-2.new.self) (Unit {0})
    c.from_residual-in_err-write-2.result c.in_err-write-2.field-0.0 c.from_residual-in_err-write-2.ensures.1
    (second_cut c.args.x.now c.args.made.now (g.V.Volume.files c.args.volume.now) (g.V.Volume.files c.write-2.new.self)
    (g.V.Volume.files c.write.new.self) c.in_ok-book.book c.in_ok-symbols.symbols c.in_ok-book.ensures c.in_ok-symbols.ensures c.in_ok-write.ensures.ok c.in_err-write-2.ensures.err)
    (subst (λ n. VolumeCause {T = Unit {0}} n (g.V.Volume.faults c.write-2.new.self) (Err c.in_err-write-2.field-0.0)) c.in_ok-write.ensures.cause.quiet c.in_err-write-2.ensures.cause)
