use Rattle.std.proofs.Common.{◌≡◌, List, length, ap, sym, ◌∙◌, subst, ℕ}
use Rattle.lil_resolved.specs.{Views.module_of, Sizes.module_strings}
use Rattle.lil_table.specs.{Rows.{alone, Translates}, Patching.{patched, patched_long}}
use Rattle.lil_unit.proofs.code.generate_alone.Goals as goal

pub returns-clause-translates : goal.returns-clause-translates
returns-clause-translates c =
    let m = module_of c.args.m.now in
    let made = c.in_ok-made.made in
    let same : c.link.new.code ≡ patched alone made.code made.fixups = c.in_ok-link.ensures.ok ∙ ap (patched alone made.code) c.as_slice.ensures in
    subst (λ (code : List ℕ). Translates m (module_strings m) made.entries code) (sym same) (c.in_ok-made.ensures.translates alone)

pub returns-clause-long : goal.returns-clause-long
returns-clause-long c =
    let made = c.in_ok-made.made in
    let same : c.link.new.code ≡ patched alone made.code made.fixups = c.in_ok-link.ensures.ok ∙ ap (patched alone made.code) c.as_slice.ensures in
    ap length same ∙ patched_long alone made.code made.fixups ∙ c.in_ok-made.ensures.long
