-- One more module behind those that are loaded.
use Rattle.std.proofs.Common.{◌≡◌, ℕ, ◌+◌, ◌-◌, ◌≤◌, List, [], ◌∷◌, ◌++◌, length, map, drop, refl, sym, ap, ◌∙◌, arith}
use Rattle.std.proofs.lemmas.List.{map-append, length-drop, length-take-le}
use Rattle.lil_mcode.specs.{declared.processor.LoadedModule.LoadedModule, Table.Module, Loaded.{part_of, module_of, Lies}, Calls.code_used}
use Rattle.lil_frames.specs.{Words.spliced, WordLaws.{before_spliced, at_spliced}}
use Rattle.lil_mcode.proofs.Steps.{lies_up}

-- the same module with another code
abbrev coded : LoadedModule → List ℕ → Module
coded l code = record { name = l.name; procedures = l.procedures.items; code = code; base = l.base; words = l.words }

pub loaded_kept : (store words : List ℕ) (loaded : List LoadedModule) (from end at : ℕ) → Lies from loaded end → end ≤ at → at ≤ length store
    → map (module_of (spliced store at words)) loaded ≡ map (module_of store) loaded
loaded_kept store words [] from end at h e room = refl
loaded_kept store words (l ∷ loaded) from end at h e room =
    let u : from + l.size ≤ end = lies_up loaded (from + l.size) end h.2 in
    let s : l.start ≡ from = h.0 in
    let p : part_of (spliced store at words) l ≡ part_of store l = before_spliced store words at l.start l.size (omega arith) room in
    let first : module_of (spliced store at words) l ≡ module_of store l = ap (coded l) p in
    let rest = loaded_kept store words loaded (from + l.size) end at h.2 e room in
    ap (λ (m : Module). m ∷ map (module_of (spliced store at words)) loaded) first ∙ ap (λ (ms : List Module). module_of store l ∷ ms) rest

pub loaded_more : (store words : List ℕ) (loaded : List LoadedModule) (l : LoadedModule) → Lies 0 loaded l.start → l.start ≤ length store → length words ≡ l.size
    → map (module_of (spliced store l.start words)) (loaded ++ l ∷ []) ≡ map (module_of store) loaded ++ coded l words ∷ []
loaded_more store words loaded l h room size =
    let store' = spliced store l.start words in
    let own : part_of store' l ≡ words = at_spliced store words l.start l.size room size in
    map-append (module_of store') loaded (l ∷ [])
    ∙ (ap (λ (ms : List Module). ms ++ module_of store' l ∷ []) (loaded_kept store words loaded 0 l.start l.start h (omega arith) room)
    ∙ ap (λ (code : List ℕ). map (module_of store) loaded ++ coded l code ∷ []) own)

pub lies_more : (loaded : List LoadedModule) (from : ℕ) (l : LoadedModule) → Lies from loaded l.start → length l.procedures.items ≤ 251 → Lies from (loaded ++ l ∷ []) (l.start + l.size)
lies_more [] from l h few = (sym h, few, ap (λ (k : ℕ). k + l.size) h)
lies_more (x ∷ loaded) from l h few = (h.0, h.1, lies_more loaded (from + x.size) l h.2 few)

pub used : (code : List ℕ) (loaded : List LoadedModule) (from end : ℕ) → Lies from loaded end → end ≤ length code → from + code_used (map (module_of code) loaded) ≡ end
used code [] from end h room = let e : from ≡ end = h in omega arith
used code (l ∷ loaded) from end h room =
    let u : from + l.size ≤ end = lies_up loaded (from + l.size) end h.2 in
    let s : l.start ≡ from = h.0 in
    let d : length (drop l.start code) ≡ length code - l.start = length-drop l.start code in
    let long : length (part_of code l) ≡ l.size = length-take-le l.size (drop l.start code) (omega arith) in
    let rest = used code loaded (from + l.size) end h.2 room in
    omega arith
