use Rattle.std.proofs.Common.{◌≡◌, ℕ, ◌+◌, List, [], ◌∷◌, ◌++◌, length, map, sym, ap, ◌∙◌, subst, refl, arith}
use Rattle.std.proofs.lemmas.List.{length-map, length-append}
use Rattle.lil_mcode.specs.{declared.processor.LoadedModule.LoadedModule, Table.State, Loaded.{module_of, Lies, Runs}, Calls.code_used}
use Rattle.lil_frames.specs.{Words.spliced, WordLaws.length_spliced}
use Rattle.lil_mcode.proofs.{Steps.runs_more, Loading.{used, loaded_more, lies_more}}
use Rattle.lil_mcode.proofs.processor.Processor.load_module.Goals as goal

pub put_code-requires : goal.put_code-requires
put_code-requires c =
    let end = used c.self.inside.code.items c.self.inside.modules.items 0 c.self.inside.code_end c.self.invariant.4 (omega arith) in
    let same = ap (λ (s : State). code_used s.modules) c.self.view_is in
    omega arith

pub invariant_of-self : goal.invariant_of-self
invariant_of-self c =
    let store = c.self.inside.code.items in
    let loaded = c.self.inside.modules.items in
    let code = c.args.code.now in
    let end = used store loaded 0 c.self.inside.code_end c.self.invariant.4 (omega arith) in
    let same = ap (λ (s : State). code_used s.modules) c.self.view_is in
    let a = ap length c.put_code.ensures ∙ length_spliced store code c.self.inside.code_end (omega arith) in
    let entry : LoadedModule = record { name = c.args.name; procedures = c.args.procedures; start = c.self.inside.code_end; size = length code; base = c.args.base; words = c.args.words } in
    let few = ap (λ (s : State). length s.modules) c.self.view_is in
    let count : length loaded ≡ length c.args.self.now.modules = simp length-map at few in
    let more : length c.put_entry.new.modules.items ≡ length loaded + 1 = ap length c.put_entry.ensures.items ∙ length-append loaded (entry ∷ []) in
    let lain = lies_more loaded 0 entry c.self.invariant.4 c.requires.few in
    let Lain : List LoadedModule → Type 0 = λ ls. Lies 0 ls (c.self.inside.code_end + length code) in
    let Ends : ℕ → Type 0 = λ n. Lies 0 c.put_entry.new.modules.items (c.self.inside.code_end + n) in
    let all = subst Ends (sym c.from.ensures) (subst Lain (sym c.put_entry.ensures.items) lain) in
    let Runs_on : List LoadedModule → Type 0 = λ ls. Runs ls c.self.inside.running c.self.inside.code_start c.self.inside.code_size c.self.inside.code_base in
    let runs = subst Runs_on (sym c.put_entry.ensures.items) (runs_more loaded (entry ∷ []) c.self.inside.running c.self.inside.code_start c.self.inside.code_size c.self.inside.code_base c.self.invariant.5) in
    (omega arith, omega arith, omega (arith, c.put_entry.ensures.capacity), omega arith, all, runs)

pub returns-clause-new : goal.returns-clause-new
returns-clause-new c =
    let store = c.self.inside.code.items in
    let loaded = c.self.inside.modules.items in
    let code = c.args.code.now in
    let entry : LoadedModule = record { name = c.args.name; procedures = c.args.procedures; start = c.self.inside.code_end; size = length code; base = c.args.base; words = c.args.words } in
    let put : c.put_code.new.store.items ≡ spliced store c.self.inside.code_end code = c.put_code.ensures in
    let modules : map (module_of c.put_code.new.store.items) c.put_entry.new.modules.items ≡ map (module_of store) loaded ++ record { name = c.args.name; procedures = c.args.procedures.items; code = code; base = c.args.base; words = c.args.words } ∷ []
    = ap (λ (bytes : List ℕ). map (module_of bytes) c.put_entry.new.modules.items) put
    ∙ (ap (map (module_of (spliced store c.self.inside.code_end code))) c.put_entry.ensures.items
    ∙ loaded_more store code loaded entry c.self.invariant.4 (omega arith) refl) in
    rw (← c.self.view_is, modules, c.clear_words.ensures, c.from-2.ensures, c.from-3.ensures) refl
