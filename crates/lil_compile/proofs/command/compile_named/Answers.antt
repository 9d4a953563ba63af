use Rattle.std.proofs.Common.{Option, inl, inr, refl, subst}
use Rattle.lil_volume.specs.Told.{Files}
use Rattle.lil_imports.specs.Ran.{Found}
use Rattle.lil_compile.specs.{Compiled.OfBook, Layers.IsOverImports}
use Rattle.lil_compile.proofs.{Fitting.found_fits, Parts.{book_there, book_damaged, ran_wrong, ran_behind}, Wholes.file_here}
use Rattle.lil_compile.proofs.command.compile_named.Goals as goal

pub returns-in_ok-damaged-in-None : goal.returns-in_ok-damaged-in-None
returns-in_ok-damaged-in-None g c =
    ran_wrong _ _ (g.V.Volume.files c.args.volume.now) (g.V.Volume.faults c.args.volume.now) (g.V.Volume.files c.read.new.self) (g.V.Volume.faults c.read.new.self) _
    (c.in_ok-found.found, file_here (g.V.Volume.files c.args.volume.now) c.in_ok-book.ensures refl c.in_ok-found.ensures.found, inr (inl (c.requires.named, book_damaged c.in_ok-found.found c.in_ok-book_of.ensures c.in-None.is, c.in_ok-damaged-in-None.ensures)))
    c.read.ensures.same c.in_ok-found.ensures.cause.quiet

pub compile_over-requires-clause-fits : goal.compile_over-requires-clause-fits
compile_over-requires-clause-fits g c = found_fits c.in_ok-found.found c.in-Some.of (book_there c.in_ok-found.found c.in_ok-book_of.ensures c.in-Some.is)

pub returns-in-Some : goal.returns-in-Some
returns-in-Some g c =
    let book = book_there c.in_ok-found.found c.in_ok-book_of.ensures c.in-Some.is in
    let there = file_here (g.V.Volume.files c.args.volume.now) c.in_ok-book.ensures refl c.in_ok-found.ensures.found in
    ran_behind c.read.ensures.same c.in_ok-found.ensures.cause.quiet
    (λ d h. (c.in_ok-found.found, there, (c.in-Some.of, book, subst (λ (files : Option Files). IsOverImports (Found files) c.args.x.now c.args.text c.args.u.now c.in-Some.of d) c.read.ensures.same h)))
    (λ f h. (c.in_ok-found.found, there, inr (inr (c.in-Some.of, book, subst (λ (files : Option Files). OfBook (Found files) c.args.x.now c.args.u.now c.in-Some.of f) c.read.ensures.same h))))
    c.compile_over.ensures
