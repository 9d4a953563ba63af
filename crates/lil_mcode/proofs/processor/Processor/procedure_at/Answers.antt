use Rattle.std.proofs.Common.{◌≡◌, ℕ, List, Option, Some, sym, ap, ◌∙◌, subst}
use Rattle.lil_mcode.specs.{declared.processor.LoadedModule.LoadedModule, Table.{Module, State, module_at}, Loaded.{loaded_at}, Calls.IsRunning}
use Rattle.lil_mcode.proofs.Steps.{loaded_is}
use Rattle.lil_mcode.proofs.processor.Processor.procedure_at.Goals as goal

pub returns-in-Some : goal.returns-in-Some
returns-in-Some c = λ m h.
    let code = c.self.inside.code.items in
    let loaded = c.self.inside.modules.items in
    let n = c.args.number in
    let some : loaded_at loaded n ≡ Some c.in-Some.entry.now = ap (λ (ls : List LoadedModule). loaded_at ls n) (sym c.as_slice.ensures.value) ∙ sym c.in-Some.ensures.value in
    let is = loaded_is code loaded n c.in-Some.entry.now m some (ap (λ (s : State). module_at s.modules n) c.self.view_is ∙ h) in
    let P : List (ℕ × Option (List ℕ)) → Type 0 = λ procedures. IsRunning procedures c.args.place c.running_procedure.result in
    subst P (c.as_slice-in-Some.ensures.value ∙ ap (λ (x : Module). x.procedures) is) c.running_procedure.ensures
