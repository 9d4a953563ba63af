use Rattle.std.proofs.Common.{ℕ, ◌<◌, List, length, map, sym, ap, subst, arith}
use Rattle.std.proofs.lemmas.List.{length-map}
use Rattle.std.specs.List.{All}
use Rattle.lil_resolved.specs.Views.{procedure_of}
use Rattle.lil_session.proofs.Tables.{named_few, all_low}
use Rattle.lil_session.proofs.run.load.Goals as goal

pub add_module-requires-clause-few : goal.add_module-requires-clause-few
add_module-requires-clause-few c =
    let ps = c.as_slice.result.now in
    let shapes = c.args.m.now.shapes in
    omega (arith, ap length (c.in_ok-table.ensures shapes), named_few (map (procedure_of shapes) ps) c.as_slice-2.result.now, length-map ps (procedure_of shapes), ap length c.as_slice.ensures, c.requires.few)

pub add_module-requires-clause-entries : goal.add_module-requires-clause-entries
add_module-requires-clause-entries c =
    let es = c.as_slice-2.result.now in
    all_low c.in_ok-table.table.items (map (procedure_of c.args.m.now.shapes) c.as_slice.result.now) es (length c.args.made.now.code) (c.in_ok-table.ensures c.args.m.now.shapes) (omega (arith, c.requires.long))
    (subst (λ (es : List ℕ). All (λ e. e < length c.args.made.now.code) es) (sym c.as_slice-2.ensures) c.requires.entries)
