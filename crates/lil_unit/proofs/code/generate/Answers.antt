use Rattle.std.proofs.Common.{◌≡◌, ℕ, List, length, min, ap, sym, ◌∙◌, subst, arith}
use Rattle.lil_resolved.specs.{Views.module_of, Sizes.module_strings}
use Rattle.lil_table.specs.{Rows.TranslatesAs, Patching.patched}
use Rattle.lil_labels.specs.Fixing.{as_said}
use Rattle.lil_unit.proofs.Modules.{settled_long, draft_long, strings_are, exact, patched_code, places_rise, names_itself_there}
use Rattle.lil_unit.proofs.code.generate.Goals as goal

pub returns-then-bytes-gt-LONGEST-clause-too_long : goal.returns-then-bytes-gt-LONGEST-clause-too_long
returns-then-bytes-gt-LONGEST-clause-too_long c bytes told =
    let long = draft_long c.args.m.now c.in_ok-code.field-0.entries c.in_ok-code.field-0.code c.requires.sound c.requires.measured c.requires.fits c.in_ok-code.ensures in
    let same : c.counted.result ≡ bytes = cc in
    (omega (arith, long, c.len-bytes.ensures.bytes, c.if-bytes-gt-LONGEST.true), sym same ∙ c.counted.ensures ∙ ap (λ (n : ℕ). min n 4294967295) (c.len-bytes.ensures.bytes ∙ long))

pub returns-clause-strings : goal.returns-clause-strings
returns-clause-strings c =
    c.in_ok-strings.ensures ∙ strings_are c.args.m.now c.in_ok-code.field-0.entries c.in_ok-code.field-0.code c.requires.sound c.requires.measured c.requires.fits c.in_ok-code.ensures

pub returns-clause-translates : goal.returns-clause-translates
returns-clause-translates c = λ numbers.
    let m = module_of c.args.m.now in
    let made = c.in_ok-code.field-0 in
    let same = patched_code c.args.m.now made.entries made.code c.requires.sound c.requires.measured c.requires.fits c.in_ok-code.ensures c.in_ok-settle.field-0 c.in_ok-fixups.field-0 c.in_ok-fixups.ensures.fixed c.in_ok-settle.ensures c.in_ok-fixups.ensures.places numbers in
    subst (λ (entries : List ℕ). TranslatesAs numbers m (module_strings m) entries (patched numbers c.in_ok-settle.field-0 c.in_ok-fixups.field-0)) (sym c.entries.view_is)
    (subst (λ (code : List ℕ). TranslatesAs numbers m (module_strings m) made.entries code) (sym same)
    (exact c.args.m.now made.entries made.code c.requires.sound c.requires.measured c.requires.fits c.in_ok-code.ensures (omega (arith, c.len-bytes.ensures.bytes, c.if-bytes-gt-LONGEST.false))
    (λ l q h. omega (arith, c.len-bytes.ensures.behind l q h, c.len-bytes.ensures.bytes)) numbers))

pub returns-clause-rising : goal.returns-clause-rising
returns-clause-rising c =
    places_rise c.args.m.now c.in_ok-code.field-0.entries c.in_ok-code.field-0.code c.requires.sound c.requires.measured c.requires.fits c.in_ok-code.ensures c.in_ok-settle.field-0 c.in_ok-fixups.field-0 c.in_ok-fixups.ensures.fixed c.in_ok-settle.ensures c.in_ok-fixups.ensures.places

pub returns-clause-named : goal.returns-clause-named
returns-clause-named c =
    names_itself_there c.args.m.now c.in_ok-code.field-0.entries c.in_ok-code.field-0.code c.requires.sound c.requires.measured c.requires.fits c.in_ok-code.ensures c.in_ok-settle.field-0 c.in_ok-fixups.field-0 c.in_ok-fixups.ensures.fixed c.in_ok-settle.ensures c.in_ok-fixups.ensures.places

pub returns-clause-long : goal.returns-clause-long
returns-clause-long c = ap length c.in_ok-settle.ensures ∙ settled_long c.args.m.now c.in_ok-code.field-0.entries c.in_ok-code.field-0.code c.requires.sound c.requires.measured c.requires.fits c.in_ok-code.ensures as_said

pub returns-clause-short : goal.returns-clause-short
returns-clause-short c =
    omega (arith, draft_long c.args.m.now c.in_ok-code.field-0.entries c.in_ok-code.field-0.code c.requires.sound c.requires.measured c.requires.fits c.in_ok-code.ensures, c.len-bytes.ensures.bytes, c.if-bytes-gt-LONGEST.false)
