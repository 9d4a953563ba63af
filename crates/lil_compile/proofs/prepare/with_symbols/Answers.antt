use Rattle.std.proofs.Common.{sym, ◌∙◌, ap, subst, List, ℕ, ◌++◌, ◌∷◌, []}
use Rattle.std.proofs.Math.Nat.{lt_of_not-le}
use Rattle.lil_format.specs.Format.{Fits}
use Rattle.lil_book.specs.{declared.book.Entry.Entry, Book.book}
use Rattle.lil_compile.proofs.Fitting.{more_fits, never_full}
use Rattle.lil_compile.proofs.prepare.with_symbols.Goals as goal

pub write_book-requires : goal.write_book-requires
write_book-requires c =
    let full = c.append.ensures.full.1 in
    let named = λ (n : List ℕ). c.args.of.entries ++ record { name = n; text = c.args.text; rests = c.args.symbols.rests } ∷ [] in
    subst (λ (es : List Entry). Fits book (record { entries = es })) (ap named (sym c.in_ok-copy.ensures) ∙ sym c.in-Ok.ensures.ok.0)
    (more_fits c.args.of c.args.x.now c.args.text c.args.symbols c.requires.fits c.as_slice.ensures.form c.requires.short c.requires.interface.spelled
    (lt_of_not-le (λ le. never_full c.in-Ok.is (full le))))
