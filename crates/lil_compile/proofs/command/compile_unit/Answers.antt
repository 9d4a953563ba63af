use Rattle.std.proofs.Common.{refl, sym, ◌∙◌, inl}
use Rattle.lil_base.specs.Names.{book_file}
use Rattle.lil_compile.proofs.Parts.{ran_wrong, some_found}
use Rattle.lil_compile.proofs.command.compile_unit.Goals as goal

pub returns-in-Some : goal.returns-in-Some
returns-in-Some g c =
    let found = some_found (g.V.Volume.files c.args.volume.now) book_file in
    ran_wrong _ _ (g.V.Volume.files c.args.volume.now) (g.V.Volume.faults c.args.volume.now) (g.V.Volume.files c.args.volume.now) (g.V.Volume.faults c.args.volume.now)
    c.told.result (found.0, found.1, inl (c.in-Some.fault, sym c.naming_fault.ensures ∙ c.in-Some.is, c.told.ensures)) refl refl
