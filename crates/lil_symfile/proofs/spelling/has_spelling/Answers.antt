use Rattle.std.proofs.Common.{◌≡◌, ℕ, Ok, Err, sym, ◌∙◌, subst}
use Rattle.std.proofs.lemmas.Bool.{false≢true}
use Rattle.lil_base.specs.declared.fault.FormatStop.{FormatStop, TheVariants.{Fault, Memory}}
use Rattle.lil_format.specs.Reading.{ReadsFile}
use Rattle.lil_format.specs.Format.{Fits, spelling}
use Rattle.lil_symfile.specs.declared.tree.SymbolFile.{SymbolFile}
use Rattle.lil_symfile.specs.Symbol.{symbol_file}
use Rattle.lil_symfile.proofs.Spelled.{file_is, file_short}
use Rattle.lil_symfile.proofs.spelling.has_spelling.Goals as goal

no_fault : (f : SymbolFile) (at : ℕ) (stop : FormatStop) → stop ≡ Fault at → ReadsFile (Ok f) (Err stop) → ⊥
no_fault f at (Fault n) s e = absurd cc
no_fault f at Memory s e = absurd cc

same_read : (f g : SymbolFile) → ReadsFile (Ok f) (Ok g) → g ≡ f
same_read f g e = cc

pub returns-then-not-is_short : goal.returns-then-not-is_short
returns-then-not-is_short c =
    (λ e. absurd (false≢true e), λ fits. let short = c.is_short.ensures.1 (file_short c.args.file.now fits) in absurd cc)

pub returns-in-Err-Fault : goal.returns-in-Err-Fault
returns-in-Err-Fault c =
    let file = c.args.file.now in
    let written : c.in_ok-bytes.bytes ≡ spelling symbol_file file = c.in_ok-bytes.ensures ∙ sym (file_is file) in
    (λ e. absurd (false≢true e), λ fits. absurd (no_fault file _ _ c.in-Err-Fault.field-0-is (c.in-Err-Fault.ensures.only file (fits, written))))

pub returns : goal.returns
returns c =
    let file = c.args.file.now in
    let written : c.in_ok-bytes.bytes ≡ spelling symbol_file file = c.in_ok-bytes.ensures ∙ sym (file_is file) in (
      λ e. subst (Fits symbol_file) (c.same_file.ensures.0 e) c.in-Ok.ensures.found.0,
      λ fits. c.same_file.ensures.1 (same_read file _ (c.in-Ok.ensures.only file (fits, written))),
    )
