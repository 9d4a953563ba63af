use Rattle.std.proofs.Common.{List, [], refl, map, ap, ◌∙◌, subst}
use Rattle.lil_resolved.specs.{declared.shapes.RShape.RShape, Sizes.procedures_strings, Views.{heading_of, procedure_of, module_of}}
use Rattle.lil_labels.specs.{Tables.Tables, Drafts.{Draft, empty, in_procedure, Adds}}
use Rattle.lil_unit.specs.Framing.{EachFramed}
use Rattle.lil_unit.proofs.Modules.{all_framed}
use Rattle.lil_unit.proofs.code.emit_module.Goals as goal

pub emit_procedures-requires : goal.emit_procedures-requires
emit_procedures-requires c =
    let body = c.in_ok-emit_framed.ensures [] [] (record { words = refl; copies = refl }) in
    let shapes = ap (λ (t : Tables). t.shapes) body.same ∙ ap (λ (d : Draft). d.tables.shapes) c.new-code.ensures ∙ c.as_slice.ensures in
    rw (shapes, c.as_slice-6.ensures) c.requires.procedures

pub returns : goal.returns
returns c =
    let m = c.args.m.now in
    let b = c.emit_framed.new.code in
    let d = c.emit_procedures.new.code in
    let new = empty m.shapes m.targets m.variables m.words (map heading_of m.procedures) in
    let body = rw (c.new-code.ensures, c.as_slice.ensures, c.as_slice-2.ensures, c.as_slice-3.ensures, c.as_slice-4.ensures, c.as_slice-5.ensures) at (c.in_ok-emit_framed.ensures [] [] (record { words = refl; copies = refl })) in
    let procedures = subst (λ (ts : List RShape). Adds (procedures_strings (map (procedure_of ts) m.procedures)) b (in_procedure b.tables.own d) (EachFramed 0 (map (procedure_of ts) m.procedures) c.in_ok-entries.entries)) (ap (λ (t : Tables). t.shapes) body.same)
    (rw c.as_slice-6.ensures at c.in_ok-entries.ensures) in
    all_framed (module_of m) c.in_ok-entries.entries new b d body procedures
