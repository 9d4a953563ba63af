use Rattle.std.proofs.Common.{◌≡◌, inl, ℕ, List, Option, [], refl, ap, ◌∙◌, subst}
use Rattle.lil_resolved.specs.{Views.{module_of, procedure_of}, Resolved.Resolved, Sizes.{IsSmall, module_strings}}
use Rattle.lil_meaning.specs.World.{World}
use Rattle.lil_table.specs.Rows.{Translates}
use Rattle.lil_match.specs.Running.{Finish}
use Rattle.lil_mcode.specs.{Table.State, Calls.Machine}
use Rattle.lil_session.specs.{declared.status.Status.TheVariants.Memory, Running.{IsCut, HasRun, finish_of}}
use Rattle.std.proofs.lemmas.List.{length-map}
use Rattle.lil_laws.specs.{Entries.{entries_many, entries_low}, Loading.loaded, Alone.{begins, loaded_state}}
use Rattle.lil_session.proofs.{Doing.shows_none, Endings.{possible, shows_end, means_end, kind_end, blames_end, shows_cut}}
use Rattle.lil_session.proofs.run.run_program.Goals as goal

-- the machine that was loaded stands where the program begins
from_begin : (p : Resolved) (strings entries code : List ℕ) (small : IsSmall p strings) (t : Translates p strings entries code) (m : Machine) → m ≡ loaded p strings entries code → m.state ≡ begins p strings entries code small t
from_begin p strings entries code small t m is = ap (λ (x : Machine). x.state) is ∙ loaded_state p strings entries code small t

-- what is known of a run from the machine that was loaded
abbrev Ran : State → State → ℕ → Finish → Option (List ℕ) → Option (List ℕ) → Type 0
Ran start end steps f old new = (w : World) → w.screen ≡ [] → HasRun start end steps f old new w

ran_from : (p : Resolved) (strings entries code : List ℕ) (small : IsSmall p strings) (t : Translates p strings entries code) (m : Machine) → m ≡ loaded p strings entries code → (end : State) (steps : ℕ) (f : Finish) (old new : Option (List ℕ)) → Ran m.state end steps f old new → Ran (begins p strings entries code small t) end steps f old new
ran_from p strings entries code small t m is end steps f old new ran = subst (λ (s : State). Ran s end steps f old new) (from_begin p strings entries code small t m is) ran

pub load-requires-clause-many : goal.load-requires-clause-many
load-requires-clause-many g c =
    let m = c.args.m.now in
    entries_many (module_of m) (module_strings (module_of m)) c.args.made.now.entries c.args.made.now.code c.requires.translates ∙ length-map m.procedures (procedure_of m.shapes)

pub load-requires-clause-entries : goal.load-requires-clause-entries
load-requires-clause-entries g c =
    let m = module_of c.args.m.now in
    entries_low m (module_strings m) c.args.made.now.entries c.args.made.now.code c.requires.translates

pub returns-in_default-clause-shows : goal.returns-in_default-clause-shows
returns-in_default-clause-shows g c = λ w e. shows_none (module_of c.args.m.now) w c.args.steps (g.S.Sink.written c.args.screen.now) Memory e (λ f. cc) (λ f. cc) tt (inl refl)

pub returns-in-Err-clause-shows : goal.returns-in-Err-clause-shows
returns-in-Err-clause-shows g c =
    let p = module_of c.args.m.now in
    let is = from_begin p (module_strings p) c.args.made.now.entries c.args.made.now.code c.requires.small c.requires.translates c.in-Ok.machine (c.in-Ok.ensures ∙ ap (λ (strings : List ℕ). loaded p strings c.args.made.now.entries c.args.made.now.code) c.requires.strings) in
    λ w e. shows_cut p c.args.made.now.entries c.args.made.now.code c.requires.small c.requires.translates c.args.steps (g.S.Sink.written c.args.screen.now) (g.S.Sink.written c.run_machine.new.screen) w
    (subst (λ (s : State). IsCut s c.args.steps (g.S.Sink.written c.args.screen.now) (g.S.Sink.written c.run_machine.new.screen) w) is (c.in-Err.ensures.cut w e))

pub answer-requires : goal.answer-requires
answer-requires g c =
    let p = module_of c.args.m.now in
    let entries = c.args.made.now.entries in
    let code = c.args.made.now.code in
    let old = g.S.Sink.written c.args.screen.now in
    let new = g.S.Sink.written c.run_machine.new.screen in
    let ran = ran_from p (module_strings p) c.args.made.now.entries c.args.made.now.code c.requires.small c.requires.translates c.in-Ok.machine (c.in-Ok.ensures ∙ ap (λ (strings : List ℕ). loaded p strings c.args.made.now.entries c.args.made.now.code) c.requires.strings) c.run_machine.new.machine.state c.args.steps (finish_of c.in-Ok-run_machine.end) old new c.in-Ok-run_machine.ensures.ran in
    possible p entries code c.requires.small c.requires.translates c.args.steps old new c.run_machine.new.machine c.in-Ok-run_machine.end ran c.in-Ok-run_machine.ensures.at

pub returns-clause-shows : goal.returns-clause-shows
returns-clause-shows g c =
    let p = module_of c.args.m.now in
    let entries = c.args.made.now.entries in
    let code = c.args.made.now.code in
    let old = g.S.Sink.written c.args.screen.now in
    let new = g.S.Sink.written c.run_machine.new.screen in
    let ran = ran_from p (module_strings p) c.args.made.now.entries c.args.made.now.code c.requires.small c.requires.translates c.in-Ok.machine (c.in-Ok.ensures ∙ ap (λ (strings : List ℕ). loaded p strings c.args.made.now.entries c.args.made.now.code) c.requires.strings) c.run_machine.new.machine.state c.args.steps (finish_of c.in-Ok-run_machine.end) old new c.in-Ok-run_machine.ensures.ran in
    λ w e. shows_end p entries code c.requires.small c.requires.translates c.args.steps old new c.run_machine.new.machine c.in-Ok-run_machine.end c.answer.result w (ran w e) c.answer.ensures c.in-Ok-run_machine.ensures.at

pub returns-clause-answer : goal.returns-clause-answer
returns-clause-answer g c =
    let p = module_of c.args.m.now in
    let entries = c.args.made.now.entries in
    let code = c.args.made.now.code in
    let old = g.S.Sink.written c.args.screen.now in
    let new = g.S.Sink.written c.run_machine.new.screen in
    let ran = ran_from p (module_strings p) c.args.made.now.entries c.args.made.now.code c.requires.small c.requires.translates c.in-Ok.machine (c.in-Ok.ensures ∙ ap (λ (strings : List ℕ). loaded p strings c.args.made.now.entries c.args.made.now.code) c.requires.strings) c.run_machine.new.machine.state c.args.steps (finish_of c.in-Ok-run_machine.end) old new c.in-Ok-run_machine.ensures.ran in
    λ w e ok. means_end p entries code c.requires.small c.requires.translates c.args.steps old new c.run_machine.new.machine c.in-Ok-run_machine.end c.answer.result w (ran w e) c.answer.ensures c.in-Ok-run_machine.ensures.at ok

pub returns-clause-kinds : goal.returns-clause-kinds
returns-clause-kinds g c =
    let p = module_of c.args.m.now in
    let entries = c.args.made.now.entries in
    let code = c.args.made.now.code in
    let old = g.S.Sink.written c.args.screen.now in
    let new = g.S.Sink.written c.run_machine.new.screen in
    let ran = ran_from p (module_strings p) c.args.made.now.entries c.args.made.now.code c.requires.small c.requires.translates c.in-Ok.machine (c.in-Ok.ensures ∙ ap (λ (strings : List ℕ). loaded p strings c.args.made.now.entries c.args.made.now.code) c.requires.strings) c.run_machine.new.machine.state c.args.steps (finish_of c.in-Ok-run_machine.end) old new c.in-Ok-run_machine.ensures.ran in
    let can = possible p entries code c.requires.small c.requires.translates c.args.steps old new c.run_machine.new.machine c.in-Ok-run_machine.end ran c.in-Ok-run_machine.ensures.at in
    kind_end p entries code c.requires.small c.requires.translates c.args.steps old new c.run_machine.new.machine c.in-Ok-run_machine.end c.answer.result can c.answer.ensures

pub returns-clause-cause : goal.returns-clause-cause
returns-clause-cause g c =
    blames_end (module_of c.args.m.now) c.args.made.now.entries c.args.made.now.code c.requires.small c.requires.translates c.args.steps (g.S.Sink.written c.args.screen.now) (g.S.Sink.written c.run_machine.new.screen) c.run_machine.new.machine c.in-Ok-run_machine.end c.answer.result (g.S.Sink.faults c.args.screen.now) (g.S.Sink.faults c.run_machine.new.screen) c.answer.ensures c.in-Ok-run_machine.ensures.cause.quiet
