use Rattle.std.proofs.Common.{◌≡◌, List, length, ap, subst, arith}
use Rattle.std.proofs.lemmas.List.{length-map}
use Rattle.lil_mcode.specs.{declared.processor.LoadedModule.LoadedModule, Table.State, Loaded.{IsPartOf, loaded_at}}
use Rattle.lil_mcode.proofs.processor.Processor.run_in.Goals as goal

pub invariant_of-self : goal.invariant_of-self
invariant_of-self c =
    let long = ap (λ (s : State). length s.modules) c.self.view_is in
    let count : length c.self.inside.modules.items ≡ length c.args.self.now.modules = simp length-map at long in
    let P : List LoadedModule → Type 0 = λ ls. IsPartOf (loaded_at ls c.args.number) c.kept_part-start.result.0 c.kept_part-start.result.1 c.kept_part-start.result.2 in
    let i = c.self.invariant in
    (i.0, i.1, i.2, i.3, i.4, (omega (arith, c.requires), subst P c.as_slice.ensures.value c.kept_part-start.ensures))
