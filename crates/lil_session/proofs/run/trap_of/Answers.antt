use Rattle.std.proofs.Common.{◌≡◌, ℕ, Option, Some, None, sym, ap, ◌∙◌, List}
use Rattle.std.specs.Prelude.{slice_get, option_and_then}
use Rattle.lil_mcode.specs.{Table.Module, Calls.names_of}
use Rattle.lil_session.proofs.Declared.{runs_there}
use Rattle.lil_session.proofs.run.trap_of.Goals as goal

pub unreachable-requires : goal.unreachable-requires
unreachable-requires c =
    let m = c.requires.0 in
    let here = c.requires.1 in
    let q = c.place.result.procedure in
    let modules = c.args.machine.now.state.modules in
    let found = runs_there m.procedures c.args.machine.now.at_place q here.entry here.name here.first (c.place.ensures.procedure m here.known) in
    let there : names_of modules c.args.machine.now.at_module q ≡ Some (m.name, found.0.1) =
    ap (λ (o : Option Module). option_and_then (λ (x : Module). option_and_then (λ (e : ℕ × Option (List ℕ)). Some (x.name, e.1)) (slice_get x.procedures q)) o) here.known
    ∙ ap (λ (o : Option (ℕ × Option (List ℕ))). option_and_then (λ (e : ℕ × Option (List ℕ)). Some (m.name, e.1)) o) found.1 in
    let at : c.place.result.«module» ≡ c.args.machine.now.at_module = c.place.ensures.«module» in
    let none : names_of modules c.args.machine.now.at_module q ≡ None = ap (λ (n : ℕ). names_of modules n q) (sym at) ∙ c.in-None.ensures.none in
    let clash : None ≡ Some (m.name, found.0.1) = sym none ∙ there in
    cc
