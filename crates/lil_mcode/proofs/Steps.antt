-- A step is the row of the instruction that was fetched.
use Rattle.std.proofs.Common.{◌≡◌, ℕ, zero, suc, ◌+◌, ◌≤◌, ◌&&◌, nat_lt, nat_le, List, [], ◌∷◌, ◌++◌, ◌<◌, length, map, Option, None, Some, slice_get, take, drop, option_map, is_some, refl, sym, ap, ◌∙◌, subst, arith, ◌-◌}
use Rattle.std.proofs.lemmas.{Bool.Decides.nat_tests, List.{length-map, length-append}, Option.slice_get-map}
use Rattle.lil_asm.specs.{declared.instr.Instr.{Instr, TheVariants.Liw}, Bytes.decoded}
use Rattle.lil_mcode.specs.{declared.processor.LoadedModule.LoadedModule, Table.{Module, State, module_at, act, performed, fetched, frame_out, link_word}, Loaded.{module_of, loaded_at, Lies, IsPartOf, Runs}, Fetch.{code_in, base_in, running_code, based, current}}

based_acts : (i : Instr) (q : ℕ) (m : Module) (s : State) → act i q m s ≡ act i q (based m.base m.code) s
based_acts (Liw w) q m s = refl
based_acts _ q m s = refl

performed_based : (s : State) (m : Module) (d : Option (Instr × ℕ)) → performed s m d ≡ performed s (based m.base m.code) d
performed_based s m None = refl
performed_based s m (Some d) = based_acts d.0 d.1 m s

fetched_in : (s : State) (m : Option Module) → fetched s m ≡ performed s (based (base_in m) (code_in m)) (decoded (code_in m) s.place)
unfolding decoded
fetched_in s None = refl
fetched_in s (Some m) = performed_based s m (decoded m.code s.place)

pub fetched_current : (s : State) → fetched s (module_at s.modules s.running) ≡ performed s (current s) (decoded (running_code s) s.place)
fetched_current s = fetched_in s (module_at s.modules s.running)

pub module_at_loaded : (code : List ℕ) (loaded : List LoadedModule) (n : ℕ) → module_at (map (module_of code) loaded) n ≡ option_map (module_of code) (loaded_at loaded n)
module_at_loaded code loaded zero = refl
module_at_loaded code loaded (suc k) = slice_get-map (module_of code) loaded k

some_within : (ms : List Module) (k : ℕ) → is_some (slice_get ms k) ≡ nat_lt k (length ms)
some_within (m ∷ ms) (suc k) = grind (arith, nat_tests, some_within ms k)
some_within _ _ = grind (arith, nat_tests)

some_at : (ms : List Module) (n : ℕ) → is_some (module_at ms n) ≡ nat_lt 0 n && nat_le n (length ms)
some_at ms zero = refl
some_at ms (suc k) = some_within ms k ∙ grind (arith, nat_tests)

pub is_loaded : (code : List ℕ) (loaded : List LoadedModule) (n : ℕ) → is_some (module_at (map (module_of code) loaded) n) ≡ nat_lt 0 n && nat_le n (length loaded)
is_loaded code loaded n = some_at (map (module_of code) loaded) n ∙ ap (λ (k : ℕ). nat_lt 0 n && nat_le n k) (length-map loaded (module_of code))

-- a part of the code store lies within it, and few procedures are in a module
pub record Fits_in (l : LoadedModule) (end : ℕ) : Type 0 where
  pub within : l.start + l.size ≤ end
  pub few : length l.procedures.items ≤ 251

pub lies_up : (loaded : List LoadedModule) (from end : ℕ) → Lies from loaded end → from ≤ end
lies_up [] from end h = omega arith
lies_up (l ∷ loaded) from end h = let u : from + l.size ≤ end = lies_up loaded (from + l.size) end h.2 in omega arith

lies_at : (loaded : List LoadedModule) (from end k : ℕ) (l : LoadedModule) → Lies from loaded end → slice_get loaded k ≡ Some l → Fits_in l end
lies_at [] from end k l h e = cc
lies_at (x ∷ loaded) from end zero l h e =
    let u : from + x.size ≤ end = lies_up loaded (from + x.size) end h.2 in
    let P : LoadedModule → Type 0 = λ y. Fits_in y end in
    let same : x ≡ l = cc in
    subst P same (record { within = omega arith; few = h.1 })
lies_at (x ∷ loaded) from end (suc k) l h e = lies_at loaded (from + x.size) end k l h.2 e

pub lies_loaded : (loaded : List LoadedModule) (end n : ℕ) (l : LoadedModule) → Lies 0 loaded end → loaded_at loaded n ≡ Some l → Fits_in l end
lies_loaded loaded end zero l h e = cc
lies_loaded loaded end (suc k) l h e = lies_at loaded 0 end k l h e

pub loaded_is : (code : List ℕ) (loaded : List LoadedModule) (n : ℕ) (l : LoadedModule) (m : Module) → loaded_at loaded n ≡ Some l → module_at (map (module_of code) loaded) n ≡ Some m → module_of code l ≡ m
loaded_is code loaded n l m h e =
    let s : Some (module_of code l) ≡ Some m = sym (ap (option_map (module_of code)) h) ∙ (sym (module_at_loaded code loaded n) ∙ e) in
    cc

pub not_loaded : (code : List ℕ) (loaded : List LoadedModule) (n : ℕ) (m : Module) → loaded_at loaded n ≡ None → module_at (map (module_of code) loaded) n ≡ Some m → ⊥
not_loaded code loaded n m h e =
    let n' : None ≡ Some m = sym (ap (option_map (module_of code)) h) ∙ (sym (module_at_loaded code loaded n) ∙ e) in
    cc

-- the part that is kept of the running module lies within the code store, and is its code
pub part_within : (loaded : List LoadedModule) (end n start size base : ℕ) (o : Option LoadedModule) → Lies 0 loaded end → loaded_at loaded n ≡ o → IsPartOf o start size base → start + size ≤ end
part_within loaded end n start size base None h e part = omega arith
part_within loaded end n start size base (Some l) h e part = let f = lies_loaded loaded end n l h e in let w : l.start + l.size ≤ end = f.within in omega arith

part_code : (code : List ℕ) (start size base : ℕ) (o : Option LoadedModule) → IsPartOf o start size base → code_in (option_map (module_of code) o) ≡ take size (drop start code)
part_code code start size base None (a, b, c) = grind (arith)
part_code code start size base (Some l) (a, b, c) = grind (arith)

part_base : (code : List ℕ) (start size base : ℕ) (o : Option LoadedModule) → IsPartOf o start size base → base_in (option_map (module_of code) o) ≡ base
part_base code start size base None (a, b, c) = sym c
part_base code start size base (Some l) (a, b, c) = sym c

pub kept_code : (code : List ℕ) (loaded : List LoadedModule) (n start size base : ℕ) → Runs loaded n start size base → code_in (module_at (map (module_of code) loaded) n) ≡ take size (drop start code)
kept_code code loaded n start size base h = ap code_in (module_at_loaded code loaded n) ∙ part_code code start size base (loaded_at loaded n) h.1

pub kept_base : (code : List ℕ) (loaded : List LoadedModule) (n start size base : ℕ) → Runs loaded n start size base → base_in (module_at (map (module_of code) loaded) n) ≡ base
kept_base code loaded n start size base h = ap base_in (module_at_loaded code loaded n) ∙ part_base code start size base (loaded_at loaded n) h.1

pub kept_within : (loaded : List LoadedModule) (end n start size base : ℕ) → Lies 0 loaded end → Runs loaded n start size base → start + size ≤ end
kept_within loaded end n start size base h r = part_within loaded end n start size base (loaded_at loaded n) h refl r.1

-- one more module is none of those before it
get_front : (xs ys : List LoadedModule) (k : ℕ) → k < length xs → slice_get (xs ++ ys) k ≡ slice_get xs k
get_front [] ys k h = absurd (omega arith)
get_front (x ∷ xs) ys zero h = refl
get_front (x ∷ xs) ys (suc k) h = get_front xs ys k (omega arith)

loaded_front : (loaded more : List LoadedModule) (n : ℕ) → n ≤ length loaded → loaded_at (loaded ++ more) n ≡ loaded_at loaded n
loaded_front loaded more zero h = refl
loaded_front loaded more (suc k) h = get_front loaded more k (omega arith)

pub runs_more : (loaded more : List LoadedModule) (n start size base : ℕ) → Runs loaded n start size base → Runs (loaded ++ more) n start size base
runs_more loaded more n start size base h =
    let known = h.0 in
    let long = length-append loaded more in
    let P : Option LoadedModule → Type 0 = λ o. IsPartOf o start size base in
    (omega arith, subst P (sym (loaded_front loaded more n known)) h.1)

-- a link of a procedure that isn't the module's
pub link_more : (n : ℕ) (s : State) → 0 < n → link_word n s ≡ frame_out s.store s.frame (n - 1)
link_more zero s some = absurd (omega arith)
link_more (suc n) s some = ap (frame_out s.store s.frame) (let e : n ≡ suc n - 1 = omega arith in e)
