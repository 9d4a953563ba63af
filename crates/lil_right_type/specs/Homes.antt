-- Where procedures and variables are declared, and from where names reach them.
use Rattle.std.proofs.Common.{◌≡◌, ℕ, zero, suc, ◌+◌, ◌-◌, ◌<◌, ◌≤◌, ◌⊎◌, inl, inr, Bool, true, false, List, [], ◌∷◌, ◌++◌, length, drop, slice_get, Option, Some, None, IfSome, if◌then◌else◌, refl, sym, ap, subst, ◌∙◌, ⊎_elim, arith, length-drop}
use Rattle.std.specs.Prelude.{◌==◌, nat_lt, slice_set}
use Rattle.std.proofs.lemmas.{Option.{none-some, same_Some, slice_get_within}, Bool.{Decides.nat_tests}}
use Rattle.lil_declared.specs.declared.declared.{Mode.Mode, RProc.RProc, RVar.RVar}
use Rattle.lil_declared.specs.declared.declared.Mode.TheVariants as mode
use Rattle.lil_resolved.specs.Kinds as kinds
use Rattle.lil_resolved.specs.{Sizes.place_depth, Views.{place_of, root_of, variable_is, handed_is}, declared.resolved.{RNamed.RNamed, RRoot.RRoot}}
use Rattle.lil_resolved.specs.declared.resolved.RRoot.TheVariants as root
use Rattle.lil_resolved.specs.declared.resolved.RNamed.TheVariants as named
use Rattle.std.proofs.lemmas.List.{length_push}
use Rattle.lil_shapes.specs.{ListLaws.AllFine, ShapeSound.{at_end, earlier}}
use Rattle.lil_kinds.specs.declared.found.{Form.Form, Located.Located, OpenArray.OpenArray}
use Rattle.lil_kinds.specs.declared.found.Form.TheVariants as form
use Rattle.lil_forms.specs.{Parts.placed_is, Places.{at_root, variable_form}, Scopes.fine_more, Variables.{level_named, named_at, locals_out, seen_in}}
use Rattle.lil_right_type.specs.Right.{all_then}
use Rattle.lil_scope.specs.{declared.{env.Env.Env, scope.Scopes.Scopes, thing.{Entry.Entry, Routine.Routine, Thing.Thing, Variable.Variable}}, Names.{Names, same, entry_in, thing_of, look_in, inner_or, block_at, find_in, find, is_new, bound, bound_at, around_of, chain_by, chain, levels_out, locals_in}}
use Rattle.lil_scope.specs.declared.thing.Thing.TheVariants as thing

-- ---- what is found by a name stands in one of the blocks that are looked at
pub record Stood (bs : List Names) (P : ℕ → Type 0) (n : List ℕ) (x : Thing) : Type 0 where
  pub block : ℕ
  pub here : P block
  pub there : look_in (block_at bs block) n ≡ Some x

module _ (bs : List Names) (P : ℕ → Type 0) (n : List ℕ) (x : Thing) where
  of_two : (a o : Option Thing) → inner_or a o ≡ Some x → (a ≡ Some x) ⊎ (o ≡ Some x)
  of_two None o is = inr is
  of_two (Some y) o is = inl is

  outer_stood : (ks : List ℕ) → AllFine P ks → find_in bs ks n ≡ Some x → Stood bs P n x
  outer_stood [] all is = absurd (none-some x is)
  outer_stood (k ∷ ks) all is = ⊎_elim (λ in_rest. outer_stood ks all.1 in_rest) (λ in_first. record { block = k; here = all.0; there = in_first }) (of_two (find_in bs ks n) (look_in (block_at bs k) n) is)

  pub stood : (s : Scopes) → s.blocks ≡ bs → AllFine P s.outer → P s.inner → find s n ≡ Some x → Stood bs P n x
  stood s same outer inner is =
      let here : inner_or (look_in (block_at bs s.inner) n) (find_in bs s.outer n) ≡ Some x = (λ i. inner_or (look_in (block_at (sym same i) s.inner) n) (find_in (sym same i) s.outer n)) ∙ is in
      ⊎_elim (λ own. record { block = s.inner; here = inner; there = own }) (λ rest. outer_stood s.outer outer rest) (of_two (look_in (block_at bs s.inner) n) (find_in bs s.outer n) here)

-- ---- blocks in which a name more is bound
one_bound : (c : Bool) (e : Entry) (x : Thing) → thing_of (if c then Some e else None) ≡ Some x → x ≡ e.thing
one_bound true e x is = sym (same_Some e.thing x is)
one_bound false e x is = absurd (none-some x is)

last_bound : (b : Names) (n m : List ℕ) (e : Entry) (x : Thing) → look_in (b ++ (n, e) ∷ []) m ≡ Some x → (look_in b m ≡ Some x) ⊎ (x ≡ e.thing)
last_bound [] n m e x is = inr (one_bound (same m n) e x is)
last_bound (y ∷ ys) n m e x is = which (same m y.0) is (λ later. last_bound ys n m e x later)
  where
    which : (c : Bool) → thing_of (if c then Some y.1 else entry_in (ys ++ (n, e) ∷ []) m) ≡ Some x → (look_in (ys ++ (n, e) ∷ []) m ≡ Some x → (look_in ys m ≡ Some x) ⊎ (x ≡ e.thing))
        → (thing_of (if c then Some y.1 else entry_in ys m) ≡ Some x) ⊎ (x ≡ e.thing)
    which true is later = inl is
    which false is later = later is

look_bound : (b : Names) (n m : List ℕ) (e : Entry) (x : Thing) → look_in (bound b n e) m ≡ Some x → (look_in b m ≡ Some x) ⊎ (x ≡ e.thing)
look_bound b n m e x is = by (is_new b n) is
  where
    by : (c : Bool) → look_in (if c then b ++ (n, e) ∷ [] else b) m ≡ Some x → (look_in b m ≡ Some x) ⊎ (x ≡ e.thing)
    by true is = last_bound b n m e x is
    by false is = inl is

look_set : (bs : List Names) (k j : ℕ) (b : Names) (m : List ℕ) (x : Thing) → look_in (block_at (slice_set bs k b) j) m ≡ Some x → (look_in (block_at bs j) m ≡ Some x) ⊎ ((j ≡ k) × (look_in b m ≡ Some x))
look_set [] k j b m x is = inl is
look_set (a ∷ bs) zero zero b m x is = inr (refl, is)
look_set (a ∷ bs) zero (suc j) b m x is = inl is
look_set (a ∷ bs) (suc k) zero b m x is = inl is
look_set (a ∷ bs) (suc k) (suc j) b m x is = ⊎_elim (λ before. inl before) (λ new. inr (ap suc new.0, new.1)) (look_set bs k j b m x is)

pub look_more : (bs : List Names) (k : ℕ) (n : List ℕ) (e : Entry) (j : ℕ) (m : List ℕ) (x : Thing) → look_in (block_at (bound_at bs k n e) j) m ≡ Some x → (look_in (block_at bs j) m ≡ Some x) ⊎ ((j ≡ k) × (x ≡ e.thing))
look_more bs k n e j m x = by (nat_lt k (length bs))
  where
    by : (c : Bool) → look_in (block_at (if c then slice_set bs k (bound (block_at bs k) n e) else bs) j) m ≡ Some x → (look_in (block_at bs j) m ≡ Some x) ⊎ ((j ≡ k) × (x ≡ e.thing))
    by true is = ⊎_elim (λ before. inl before)
        (λ new. ⊎_elim (λ before. inl (ap (λ (i : ℕ). look_in (block_at bs i) m) new.0 ∙ before)) (λ same. inr (new.0, same)) (look_bound (block_at bs k) n m e x new.1))
        (look_set bs k j (bound (block_at bs k) n e) m x is)
    by false is = inl is

set_many : (bs : List Names) (k : ℕ) (b : Names) → length (slice_set bs k b) ≡ length bs
set_many [] k b = refl
set_many (a ∷ bs) zero b = refl
set_many (a ∷ bs) (suc k) b = ap suc (set_many bs k b)

pub bound_many : (bs : List Names) (k : ℕ) (n : List ℕ) (e : Entry) → length (bound_at bs k n e) ≡ length bs
bound_many bs k n e = by (nat_lt k (length bs))
  where
    by : (c : Bool) → length (if c then slice_set bs k (bound (block_at bs k) n e) else bs) ≡ length bs
    by true = set_many bs k (bound (block_at bs k) n e)
    by false = refl

look_last : (bs : List Names) (b : Names) (j : ℕ) (m : List ℕ) (x : Thing) → look_in (block_at (bs ++ b ∷ []) j) m ≡ Some x → (look_in (block_at bs j) m ≡ Some x) ⊎ ((j ≡ length bs) × (look_in b m ≡ Some x))
look_last [] b zero m x is = inr (refl, is)
look_last [] b (suc j) m x is = inl is
look_last (a ∷ bs) b zero m x is = inl is
look_last (a ∷ bs) b (suc j) m x is = ⊎_elim (λ before. inl before) (λ new. inr (ap suc new.0, new.1)) (look_last bs b j m x is)

pub look_begun : (bs : List Names) (j : ℕ) (m : List ℕ) (x : Thing) → look_in (block_at (bs ++ [] ∷ []) j) m ≡ Some x → look_in (block_at bs j) m ≡ Some x
look_begun bs j m x is = ⊎_elim (λ before. before) (λ new. absurd (none-some x new.1)) (look_last bs [] j m x is)

-- ---- homes
-- what is left of a list behind its first elements
abbrev pub IsRest : List ℕ → List ℕ → Type 0
IsRest chain rest = (n : ℕ) × (n ≤ length chain) × (rest ≡ drop n chain)

-- the block of the procedure with which a chain begins
pub record Owns (ps : List RProc) (b : ℕ) (chain : List ℕ) : Type 0 where
  pub number : ℕ
  pub its : RProc
  pub there : slice_get ps number ≡ Some its
  pub block : its.block ≡ b
  pub chain_is : chain ≡ number ∷ its.around

-- a block of declarations: that of the module, which stands in no procedure, or that of a procedure
abbrev pub IsHome : List RProc → ℕ → List ℕ → Type 0
IsHome ps b chain = ((b ≡ 1) × (chain ≡ [])) ⊎ Owns ps b chain

-- a procedure that is declared in a block
pub record IsDeclared (ps : List RProc) (b : ℕ) (r : Routine) : Type 0 where
  pub its : RProc
  pub there : slice_get ps r.number ≡ Some its
  pub home : IsHome ps b its.around
  pub level_is : r.level ≡ suc (length its.around)
  pub sort_is : its.sort ≡ r.sort

-- the variables of the procedure with which a chain begins, those of the module where there is none
abbrev pub own_of : List RVar → List (List RVar) → List ℕ → List RVar
own_of vs ls [] = vs
own_of vs ls (n ∷ ns) = locals_in ls n

-- no parameter
abbrev pub IsPlain : Mode → Type 0
IsPlain m = m ≡ mode.Plain

-- those of the module are no parameters
abbrev pub IsRooted : List ℕ → Mode → Type 0
IsRooted [] m = IsPlain m
IsRooted (n ∷ ns) m = Unit {0}

-- a variable that is declared in a block
pub record IsOwn (ps : List RProc) (vs : List RVar) (ls : List (List RVar)) (b : ℕ) (v : Variable) : Type 0 where
  pub chain : List ℕ
  pub home : IsHome ps b chain
  pub level_is : v.level ≡ suc (length chain)
  pub its : RVar
  pub there : slice_get (own_of vs ls chain) v.number ≡ Some its
  pub sort_is : its.sort ≡ v.sort
  pub mode_is : its.mode ≡ v.mode
  pub rooted : IsRooted chain v.mode

-- a block that names see from within a chain of procedures: that of the standard names, or one of the chain
abbrev pub OnPath : List RProc → List ℕ → ℕ → Type 0
OnPath ps chain b = (b ≡ 0) ⊎ ((rest : List ℕ) × IsRest chain rest × IsHome ps b rest)

pub record IsPath (ps : List RProc) (outer : List ℕ) (inner : ℕ) (chain : List ℕ) : Type 0 where
  pub level_is : length outer ≡ suc (length chain)
  pub blocks : AllFine (OnPath ps chain) outer
  pub own : IsHome ps inner chain
  pub low : AllFine (λ n. n < 250) chain

-- the procedure of this number: its block comes after those of the modules that are imported, and it lies in no more procedures than are
-- declared before it
pub record IsBlock (count : ℕ) (ps : List RProc) (n : ℕ) (q : RProc) : Type 0 where
  pub high : 2 ≤ q.block
  pub low : q.block < count
  pub few : length q.around ≤ n
  pub path : IsPath ps q.outer q.block (n ∷ q.around)

-- the block of a module that is imported comes before those of procedures
pub record IsModule (count : ℕ) (ps : List RProc) (b : ℕ) : Type 0 where
  pub low : b < count
  pub below : (n : ℕ) (q : RProc) → slice_get ps n ≡ Some q → b < q.block

-- the names of procedures, variables and modules are told by their blocks
pub record Homed (bs : List Names) (ps : List RProc) (vs : List RVar) (ls : List (List RVar)) : Type 0 where
  pub two : 2 ≤ length bs
  pub names : (b : ℕ) (m : List ℕ) (r : Routine) → look_in (block_at bs b) m ≡ Some (thing.Procedure r) → IsDeclared ps b r
  pub variables : (b : ℕ) (m : List ℕ) (v : Variable) → look_in (block_at bs b) m ≡ Some (thing.Variable v) → IsOwn ps vs ls b v
  pub modules : (b : ℕ) (m : List ℕ) (k : ℕ) → look_in (block_at bs b) m ≡ Some (thing.Module k) → IsModule (length bs) ps k
  pub blocks : (n : ℕ) (q : RProc) → slice_get ps n ≡ Some q → IsBlock (length bs) ps n q
  pub apart : (n m : ℕ) (q p : RProc) → slice_get ps n ≡ Some q → slice_get ps m ≡ Some p → q.block ≡ p.block → n ≡ m
  pub few : length ps ≤ 250
  pub each : length ls ≡ length ps

-- the block at hand is that of the procedure at hand, and sees those around it
pub record Stands (outer : List ℕ) (inner : ℕ) (ps : List RProc) (at : Option ℕ) : Type 0 where
  pub path : IsPath ps outer inner (chain_by ps at)
  pub few : length (chain_by ps at) ≤ length ps
  pub there : IfSome at (λ n. (q : RProc) × (slice_get ps n ≡ Some q))

-- ---- calls: a procedure of this procedure type by its number, so many procedures out of those at hand
pub record IsSeen (ps : List RProc) (chain : List ℕ) (sort number levels : ℕ) : Type 0 where
  pub its : RProc
  pub there : slice_get ps number ≡ Some its
  pub sort_is : its.sort ≡ sort
  pub declared : kinds.Declared chain levels its.around
  pub low : number < 250
  pub few : levels < 256

-- ---- variables
-- a place of a type whose address takes a word
pub record IsPlaceForm (s : ℕ) (f : Form) : Type 0 where
  pub at : Located
  pub is : f ≡ form.Located at
  pub sort : at.sort ≡ s
  pub deep : place_depth (place_of at.place) ≡ 1

-- an open array of elements of a type
pub record IsOpenForm (s : ℕ) (f : Form) : Type 0 where
  pub array : OpenArray
  pub is : f ≡ form.Open array
  pub sort : array.sort ≡ s

-- what a variable leads to
abbrev pub IsVariableForm : Mode → ℕ → Form → Type 0
IsVariableForm mode.Plain s f = IsPlaceForm s f
IsVariableForm mode.Value s f = IsPlaceForm s f
IsVariableForm mode.Place s f = IsPlaceForm s f
IsVariableForm mode.OpenValue s f = IsOpenForm s f
IsVariableForm mode.OpenPlace s f = IsOpenForm s f

-- one that is seen from within a chain of procedures, and leads somewhere
pub record IsShown (vs : List RVar) (ls : List (List RVar)) (chain : List ℕ) (o : Option RNamed) (v : Variable) : Type 0 where
  pub named : RNamed
  pub is : o ≡ Some named
  pub its : RVar
  pub there : seen_in vs ls chain named ≡ Some its
  pub sort_is : its.sort ≡ v.sort
  pub mode_is : its.mode ≡ v.mode
  pub leads : IsVariableForm v.mode v.sort (variable_form named its.mode its.sort)

-- what a thing is to the procedure at hand
abbrev pub Seen : List RProc → List ℕ → Env → Thing → Type 0
Seen ps chain e (thing.Procedure r) = IsSeen ps chain r.sort r.number (levels_out e r.level)
Seen ps chain e (thing.Variable v) = IsShown e.variables e.locals chain (named_at e v) v
Seen ps chain e (thing.Module b) = IsModule (length e.scopes.blocks) ps b
Seen ps chain e _ = Unit {0}

-- a thing that is bound in a block outside of headings
abbrev pub Allowed : ℕ → List RProc → List RVar → List (List RVar) → ℕ → Thing → Type 0
Allowed count ps vs ls b (thing.Procedure r) = ⊥
Allowed count ps vs ls b (thing.Variable v) = IsOwn ps vs ls b v
Allowed count ps vs ls b (thing.Module k) = IsModule count ps k
Allowed count ps vs ls b (thing.ExternalVariable v) = Unit {0}
Allowed count ps vs ls b (thing.ExternalProcedure x) = Unit {0}
Allowed count ps vs ls b _ = Unit {0}

-- ---- more procedures and variables
abbrev pub Longer : {A : Type 0} → List A → List A → Type 0
Longer {A} xs ys = (n : ℕ) (x : A) → slice_get xs n ≡ Some x → slice_get ys n ≡ Some x

abbrev pub AllLonger : List (List RVar) → List (List RVar) → Type 0
AllLonger ls ms = (p : ℕ) → Longer (locals_in ls p) (locals_in ms p)

module _ (ps qs : List RProc) (longer : Longer ps qs) where
  home_stays : (b : ℕ) (chain : List ℕ) → IsHome ps b chain → IsHome qs b chain
  home_stays b chain (inl h) = inl h
  home_stays b chain (inr h) = inr (record { number = h.number; its = h.its; there = longer h.number h.its h.there; block = h.block; chain_is = h.chain_is })

  declared_stays : (b : ℕ) (r : Routine) → IsDeclared ps b r → IsDeclared qs b r
  declared_stays b r h = record { its = h.its; there = longer r.number h.its h.there; home = home_stays b h.its.around h.home; level_is = h.level_is; sort_is = h.sort_is }

  own_stays : (vs ws : List RVar) (ls ms : List (List RVar)) → Longer vs ws → AllLonger ls ms → (b : ℕ) (v : Variable) → IsOwn ps vs ls b v → IsOwn qs ws ms b v
  own_stays vs ws ls ms more locals b v h = record { chain = h.chain; home = home_stays b h.chain h.home; level_is = h.level_is; its = h.its; there = by h.chain h.there; sort_is = h.sort_is; mode_is = h.mode_is; rooted = h.rooted }
    where
      by : (chain : List ℕ) → slice_get (own_of vs ls chain) v.number ≡ Some h.its → slice_get (own_of ws ms chain) v.number ≡ Some h.its
      by [] is = more v.number h.its is
      by (p ∷ ps) is = locals p v.number h.its is

  on_path_stays : (chain : List ℕ) (b : ℕ) → OnPath ps chain b → OnPath qs chain b
  on_path_stays chain b (inl h) = inl h
  on_path_stays chain b (inr h) = inr (h.0, h.1, home_stays b h.0 h.2)

  path_stays : (outer : List ℕ) (inner : ℕ) (chain : List ℕ) → IsPath ps outer inner chain → IsPath qs outer inner chain
  path_stays outer inner chain h = record { level_is = h.level_is; blocks = all_then (OnPath ps chain) (OnPath qs chain) (on_path_stays chain) outer h.blocks; own = home_stays inner chain h.own; low = h.low }

  chain_same : (at : Option ℕ) → IfSome at (λ n. (q : RProc) × (slice_get ps n ≡ Some q)) → chain_by qs at ≡ chain_by ps at
  chain_same None h = refl
  chain_same (Some n) h = ap (λ (o : Option RProc). n ∷ around_of o) (longer n h.0 h.1 ∙ sym h.1)

  still_there : (at : Option ℕ) → IfSome at (λ n. (q : RProc) × (slice_get ps n ≡ Some q)) → IfSome at (λ n. (q : RProc) × (slice_get qs n ≡ Some q))
  still_there None h = tt
  still_there (Some n) h = (h.0, longer n h.0 h.1)

  -- the same procedure at hand
  pub stands_stays : (outer : List ℕ) (inner : ℕ) (at : Option ℕ) → length ps ≤ length qs → Stands outer inner ps at → Stands outer inner qs at
  stands_stays outer inner at more h =
      let same : chain_by qs at ≡ chain_by ps at = chain_same at h.there in
      record {
        path = subst (IsPath qs outer inner) (sym same) (path_stays outer inner (chain_by ps at) h.path);
        few = omega (arith, ap length same, h.few, more);
        there = still_there at h.there;
      }

-- ---- what names reach
declared_out : (chain around : List ℕ) (at count : ℕ) → IsRest chain around → at ≡ suc (length around) → count ≡ suc (length chain)
    → kinds.Declared chain (if nat_lt 1 at then count + 1 - at else 0) around × ((if nat_lt 1 at then count + 1 - at else 0) ≤ suc (length chain))
declared_out chain around at count rest at_is count_is = by (nat_lt 1 at) refl
  where
    long : length around ≡ length chain - rest.0
    long = ap length rest.2 ∙ length-drop rest.0 chain

    none : (around : List ℕ) → length around ≤ 0 → around ≡ []
    none [] h = refl
    none (n ∷ ns) h = absurd (omega (arith, h))

    by : (c : Bool) → nat_lt 1 at ≡ c → kinds.Declared chain (if c then count + 1 - at else 0) around × ((if c then count + 1 - at else 0) ≤ suc (length chain))
    by true is =
        let more : 1 < at = grind (arith, nat_tests, is) in
        let out : count + 1 - at ≡ suc rest.0 = omega (arith, more, at_is, count_is, long) in
        (subst (λ (n : ℕ). kinds.Declared chain n around) (sym out) (omega (arith, more, at_is, long), rest.2), omega (arith, out, more, at_is, long))
    by false is =
        let less : at ≤ 1 = grind (arith, nat_tests, is) in
        (none around (omega (arith, less, at_is)), omega arith)

none_left : (xs : List ℕ) → [] ≡ drop (length xs) xs
none_left [] = refl
none_left (x ∷ xs) = none_left xs

first_left : (n : ℕ) (xs : List ℕ) (y : ℕ) (ys : List ℕ) → y ∷ ys ≡ drop n xs → slice_get xs n ≡ Some y
first_left zero [] y ys is = cc
first_left (suc n) [] y ys is = cc
first_left zero (x ∷ xs) y ys is = cc
first_left (suc n) (x ∷ xs) y ys is = first_left n xs y ys is

-- a variable of a procedure is so many levels out as its procedure
abbrev named_from : ℕ → Variable → Option RNamed
named_from count v = if v.level == 1 then Some (named.Module v.number) else level_named (count - v.level) v.number

-- with what the place of a variable begins, and that of what was handed in
place_form : (r : RRoot) (s : ℕ) → place_depth (root_of r) ≡ 1 → IsPlaceForm s (form.Located (at_root r s))
place_form r s deep = record { at = at_root r s; is = refl; sort = refl; deep = ap place_depth (placed_is r []) ∙ deep }

variable_leads : (n : RNamed) (s : ℕ) → IsPlaceForm s (form.Located (at_root (root.Variable n) s))
variable_leads n s = place_form (root.Variable n) s (ap place_depth (variable_is n))

plain_leads : (n : RNamed) (m : Mode) (s : ℕ) → IsPlain m → IsVariableForm m s (variable_form n m s)
plain_leads n m s is = subst (λ (m : Mode). IsVariableForm m s (variable_form n m s)) (sym is) (variable_leads n s)

level_leads : (m : Mode) (l x s : ℕ) → IsVariableForm m s (variable_form (named.Level l x) m s)
level_leads mode.Plain l x s = variable_leads (named.Level l x) s
level_leads mode.Value l x s = variable_leads (named.Level l x) s
level_leads mode.Place l x s = place_form (root.Handed l x) s (ap place_depth (handed_is l x))
level_leads mode.OpenValue l x s = record { array = _; is = refl; sort = refl }
level_leads mode.OpenPlace l x s = record { array = _; is = refl; sort = refl }

shown_form : (n : RNamed) (v : Variable) (x : RVar) → x.sort ≡ v.sort → x.mode ≡ v.mode → IsVariableForm v.mode v.sort (variable_form n v.mode v.sort) → IsVariableForm v.mode v.sort (variable_form n x.mode x.sort)
shown_form n v x sort mode h = subst (IsVariableForm v.mode v.sort) (λ i. variable_form n (sym mode i) (sym sort i)) h

shown_out : (vs : List RVar) (ls : List (List RVar)) (chain own : List ℕ) (v : Variable) (x : RVar) → IsRest chain own → length chain ≤ 250 → v.level ≡ suc (length own) → slice_get (own_of vs ls own) v.number ≡ Some x → x.sort ≡ v.sort → x.mode ≡ v.mode → IsRooted own v.mode
    → IsShown vs ls chain (named_from (suc (length chain)) v) v
shown_out vs ls chain [] v x rest few at there sort mode rooted = record {
  named = named.Module v.number;
  is = ap (λ (n : ℕ). if n == 1 then Some (named.Module v.number) else level_named (suc (length chain) - v.level) v.number) at;
  its = x;
  there = there;
  sort_is = sort;
  mode_is = mode;
  leads = shown_form (named.Module v.number) v x sort mode (plain_leads (named.Module v.number) v.mode v.sort rooted);
}
shown_out vs ls chain (p ∷ own) v x rest few at there sort mode rooted =
    let long : suc (length own) ≡ length chain - rest.0 = ap length rest.2 ∙ length-drop rest.0 chain in
    let inner : (v.level == 1) ≡ false = grind (arith, nat_tests, at) in
    let out : suc (length chain) - v.level ≡ rest.0 = omega (arith, at, long) in
    let low : nat_lt rest.0 256 ≡ true = grind (arith, nat_tests, rest.1, few) in
    record {
      named = named.Level rest.0 v.number;
      is = (λ i. if inner i then Some (named.Module v.number) else level_named (out i) v.number) ∙ ap (λ c. if c then Some (named.Level rest.0 v.number) else None) low;
      its = x;
      there = ap (λ (o : Option ℕ). slice_get (locals_out ls o) v.number) (first_left rest.0 chain p own rest.2) ∙ there;
      sort_is = sort;
      mode_is = mode;
      leads = shown_form (named.Level rest.0 v.number) v x sort mode (level_leads v.mode rest.0 v.number v.sort);
    }

module _ (bs : List Names) (ps : List RProc) (vs : List RVar) (ls : List (List RVar)) (h : Homed bs ps vs ls) where
  -- a block belongs to one procedure
  home_one : (b : ℕ) (c d : List ℕ) → IsHome ps b c → IsHome ps b d → c ≡ d
  home_one b c d (inl x) (inl y) = x.1 ∙ sym y.1
  home_one b c d (inl x) (inr o) = absurd (omega (arith, (h.blocks o.number o.its o.there).high, o.block, x.0))
  home_one b c d (inr o) (inl y) = absurd (omega (arith, (h.blocks o.number o.its o.there).high, o.block, y.0))
  home_one b c d (inr o) (inr p) =
      let number : o.number ≡ p.number = h.apart o.number p.number o.its p.its o.there p.there (o.block ∙ sym p.block) in
      let its : o.its ≡ p.its = same_Some o.its p.its (sym o.there ∙ ap (slice_get ps) number ∙ p.there) in
      o.chain_is ∙ (λ i. number i ∷ (its i).around) ∙ sym p.chain_is

  rest_of : (chain : List ℕ) (b : ℕ) (around : List ℕ) → OnPath ps chain b → IsHome ps b around → IsRest chain around
  rest_of chain b around (inl none) (inl x) = absurd (omega (arith, none, x.0))
  rest_of chain b around (inl none) (inr o) = absurd (omega (arith, (h.blocks o.number o.its o.there).high, o.block, none))
  rest_of chain b around (inr on) home = (on.1.0, on.1.1, home_one b around on.0 home on.2 ∙ on.1.2)

  module _ (s : Scopes) (same : s.blocks ≡ bs) (at : Option ℕ) (stands : Stands s.outer s.inner ps at) where
    declared_seen : (b : ℕ) (r : Routine) → OnPath ps (chain_by ps at) b → IsDeclared ps b r → IsSeen ps (chain_by ps at) r.sort r.number (if nat_lt 1 r.level then length s.outer + 1 - r.level else 0)
    declared_seen b r on d =
        let out = declared_out (chain_by ps at) d.its.around r.level (length s.outer) (rest_of (chain_by ps at) b d.its.around on d.home) d.level_is stands.path.level_is in
        record {
          its = d.its;
          there = d.there;
          sort_is = d.sort_is;
          declared = out.0;
          low = omega (arith, slice_get_within ps r.number d.its d.there, h.few);
          few = omega (arith, out.1, stands.few, h.few);
        }

    own_seen : (b : ℕ) (v : Variable) → OnPath ps (chain_by ps at) b → IsOwn ps vs ls b v → IsShown vs ls (chain_by ps at) (named_from (length s.outer) v) v
    own_seen b v on o = subst (λ (n : ℕ). IsShown vs ls (chain_by ps at) (named_from n v) v) (sym stands.path.level_is)
        (shown_out vs ls (chain_by ps at) o.chain v o.its (rest_of (chain_by ps at) b o.chain on o.home) (omega (arith, stands.few, h.few)) o.level_is o.there o.sort_is o.mode_is o.rooted)

    abbrev Found : List ℕ → Thing → Type 0
    Found n x = Stood bs (OnPath ps (chain_by ps at)) n x

    found_there : (n : List ℕ) (x : Thing) → find s n ≡ Some x → Found n x
    found_there n x is = stood bs (OnPath ps (chain_by ps at)) n x s same stands.path.blocks (inr (chain_by ps at, (0, omega arith, refl), stands.path.own)) is

    pub found_procedure : (n : List ℕ) (r : Routine) → find s n ≡ Some (thing.Procedure r) → IsSeen ps (chain_by ps at) r.sort r.number (if nat_lt 1 r.level then length s.outer + 1 - r.level else 0)
    found_procedure n r is = let f = found_there n (thing.Procedure r) is in declared_seen f.block r f.here (h.names f.block n r f.there)

    pub found_variable : (n : List ℕ) (v : Variable) → find s n ≡ Some (thing.Variable v) → IsShown vs ls (chain_by ps at) (named_from (length s.outer) v) v
    found_variable n v is = let f = found_there n (thing.Variable v) is in own_seen f.block v f.here (h.variables f.block n v f.there)

    pub found_module : (n : List ℕ) (b : ℕ) → find s n ≡ Some (thing.Module b) → IsModule (length bs) ps b
    found_module n b is = let f = found_there n (thing.Module b) is in h.modules f.block n b f.there

    module_path : (b : ℕ) → b ≡ 1 → OnPath ps (chain_by ps at) b
    module_path b is = inr ([], (length (chain_by ps at), omega arith, none_left (chain_by ps at)), inl (is, refl))

    -- a module that is imported has no procedures and variables of the text but those of the module
    pub member_procedure : (b : ℕ) (n : List ℕ) (r : Routine) → IsModule (length bs) ps b → look_in (block_at bs b) n ≡ Some (thing.Procedure r) → IsSeen ps (chain_by ps at) r.sort r.number (if nat_lt 1 r.level then length s.outer + 1 - r.level else 0)
    member_procedure b n r m is = by (h.names b n r is) (h.names b n r is).home
      where
        by : (d : IsDeclared ps b r) → IsHome ps b d.its.around → IsSeen ps (chain_by ps at) r.sort r.number (if nat_lt 1 r.level then length s.outer + 1 - r.level else 0)
        by d (inl x) = declared_seen b r (module_path b x.0) d
        by d (inr o) = absurd (omega (arith, m.below o.number o.its o.there, o.block))

    pub member_variable : (b : ℕ) (n : List ℕ) (v : Variable) → IsModule (length bs) ps b → look_in (block_at bs b) n ≡ Some (thing.Variable v) → IsShown vs ls (chain_by ps at) (named_from (length s.outer) v) v
    member_variable b n v m is = by (h.variables b n v is) (h.variables b n v is).home
      where
        by : (o : IsOwn ps vs ls b v) → IsHome ps b o.chain → IsShown vs ls (chain_by ps at) (named_from (length s.outer) v) v
        by o (inl x) = own_seen b v (module_path b x.0) o
        by o (inr x) = absurd (omega (arith, m.below x.number x.its x.there, x.block))

-- ---- names and blocks more
pub homed_bound : (bs : List Names) (ps : List RProc) (vs : List RVar) (ls : List (List RVar)) (k : ℕ) (n : List ℕ) (e : Entry) → Homed bs ps vs ls → Allowed (length bs) ps vs ls k e.thing → Homed (bound_at bs k n e) ps vs ls
homed_bound bs ps vs ls k n e h allowed = record {
  two = omega (arith, many, h.two);
  names = λ b m r is. ⊎_elim (h.names b m r) (λ (new : (b ≡ k) × (thing.Procedure r ≡ e.thing)). absurd (subst (Allowed (length bs) ps vs ls k) (sym new.1) allowed)) (look_more bs k n e b m (thing.Procedure r) is);
  variables = λ b m v is. ⊎_elim (h.variables b m v) (λ (new : (b ≡ k) × (thing.Variable v ≡ e.thing)). subst (λ (c : ℕ). IsOwn ps vs ls c v) (sym new.0) (subst (Allowed (length bs) ps vs ls k) (sym new.1) allowed)) (look_more bs k n e b m (thing.Variable v) is);
  modules = λ b m j is. subst (λ (c : ℕ). IsModule c ps j) (sym many)
      (⊎_elim (h.modules b m j) (λ (new : (b ≡ k) × (thing.Module j ≡ e.thing)). subst (Allowed (length bs) ps vs ls k) (sym new.1) allowed) (look_more bs k n e b m (thing.Module j) is));
  blocks = λ i q is. subst (λ (c : ℕ). IsBlock c ps i q) (sym many) (h.blocks i q is);
  apart = h.apart;
  few = h.few;
  each = h.each;
}
  where
    many : length (bound_at bs k n e) ≡ length bs
    many = bound_many bs k n e

module_later : (c d : ℕ) (ps : List RProc) (b : ℕ) → c ≤ d → IsModule c ps b → IsModule d ps b
module_later c d ps b le h = record { low = omega (arith, le, h.low); below = h.below }

block_later : (c d : ℕ) (ps qs : List RProc) (n : ℕ) (q : RProc) → c ≤ d → Longer ps qs → IsBlock c ps n q → IsBlock d qs n q
block_later c d ps qs n q le longer h = record { high = h.high; low = omega (arith, le, h.low); few = h.few; path = path_stays ps qs longer q.outer q.block (n ∷ q.around) h.path }

pub homed_begun : (bs : List Names) (ps : List RProc) (vs : List RVar) (ls : List (List RVar)) → Homed bs ps vs ls → Homed (bs ++ [] ∷ []) ps vs ls
homed_begun bs ps vs ls h =
    let more : length bs ≤ length (bs ++ [] ∷ []) = omega (arith, length_push bs []) in
    record {
      two = omega (arith, more, h.two);
      names = λ b m r is. h.names b m r (look_begun bs b m (thing.Procedure r) is);
      variables = λ b m v is. h.variables b m v (look_begun bs b m (thing.Variable v) is);
      modules = λ b m j is. module_later (length bs) (length (bs ++ [] ∷ [])) ps j more (h.modules b m j (look_begun bs b m (thing.Module j) is));
      blocks = λ i q is. block_later (length bs) (length (bs ++ [] ∷ [])) ps ps i q more (λ n q is. is) (h.blocks i q is);
      apart = h.apart;
      few = h.few;
      each = h.each;
    }

-- variables more
pub homed_more : (bs : List Names) (ps : List RProc) (vs ws : List RVar) (ls ms : List (List RVar)) → Homed bs ps vs ls → Longer vs ws → AllLonger ls ms → length ms ≡ length ls → Homed bs ps ws ms
homed_more bs ps vs ws ls ms h more locals many = record {
  two = h.two;
  names = h.names;
  variables = λ b m v is. own_stays ps ps (λ n q is. is) vs ws ls ms more locals b v (h.variables b m v is);
  modules = h.modules;
  blocks = h.blocks;
  apart = h.apart;
  few = h.few;
  each = many ∙ h.each;
}

-- ---- a procedure more, whose block is the next
pub last_there : {A : Type 0} (xs : List A) (x : A) → slice_get (xs ++ x ∷ []) (length xs) ≡ Some x
last_there [] x = refl
last_there (y ∷ xs) x = last_there xs x

module _ (ws : List RVar) where
  locals_more : (ls : List (List RVar)) → AllLonger ls (ls ++ ws ∷ [])
  locals_more [] p n v is = absurd (none-some v is)
  locals_more (vs ∷ ls) zero n v is = is
  locals_more (vs ∷ ls) (suc p) n v is = locals_more ls p n v is

  pub last_locals : (ls : List (List RVar)) → locals_in (ls ++ ws ∷ []) (length ls) ≡ ws
  last_locals [] = refl
  last_locals (vs ∷ ls) = last_locals ls

-- what names of the block of a procedure mean that is declared at a level, as long as it has but parameters: these, by their numbers
abbrev pub IsParameter : List RVar → ℕ → Thing → Type 0
IsParameter ws at (thing.Variable v) = (v.level ≡ at) × ((its : RVar) × (slice_get ws v.number ≡ Some its) × (its.sort ≡ v.sort) × (its.mode ≡ v.mode))
IsParameter ws at _ = ⊥

module _ (bs : List Names) (ps : List RProc) (vs : List RVar) (ls : List (List RVar)) (outer : List ℕ) (inner : ℕ) (at : Option ℕ) (h : Homed bs ps vs ls) (stands : Stands outer inner ps at) (room : length ps < 250) (name : List ℕ) (sort : ℕ)
    (block : Names) (ws : List RVar) (given : (m : List ℕ) (x : Thing) → look_in block m ≡ Some x → IsParameter ws (length outer + 1) x) where
  abbrev pub own : RProc
  own = record { name = name; block = length bs; outer = outer ++ inner ∷ []; around = chain_by ps at; sort = sort }

  abbrev pub routine : Routine
  routine = record { number = length ps; block = length bs; level = length outer; sort = sort }

  abbrev more : List RProc
  more = ps ++ own ∷ []

  pub longer : Longer ps more
  longer n q is = earlier ps (own ∷ []) n q is

  pub longer_by : length more ≡ length ps + 1
  longer_by = length_push ps own

  its_declared : IsDeclared more inner routine
  its_declared = record { its = own; there = last_there ps own; home = home_stays ps more longer inner (chain_by ps at) stands.path.own; level_is = stands.path.level_is; sort_is = refl }

  deeper : (b : ℕ) → OnPath more (chain_by ps at) b → OnPath more (length ps ∷ chain_by ps at) b
  deeper b (inl none) = inl none
  deeper b (inr on) = inr (on.0, (suc on.1.0, omega (arith, on.1.1), on.1.2), on.2)

  its_path : IsPath more (outer ++ inner ∷ []) (length bs) (length ps ∷ chain_by ps at)
  its_path = record {
    level_is = length_push outer inner ∙ ap (λ (n : ℕ). n + 1) stands.path.level_is ∙ omega arith;
    blocks = fine_more (OnPath more (length ps ∷ chain_by ps at)) outer inner
        (all_then (OnPath ps (chain_by ps at)) (OnPath more (length ps ∷ chain_by ps at)) (λ b on. deeper b (on_path_stays ps more longer (chain_by ps at) b on)) outer stands.path.blocks)
        (inr (chain_by ps at, (1, omega arith, refl), home_stays ps more longer inner (chain_by ps at) stands.path.own));
    own = inr (record { number = length ps; its = own; there = last_there ps own; block = refl; chain_is = refl });
    low = (room, stands.path.low);
  }

  parameter_own : (b : ℕ) (v : Variable) → b ≡ length bs → IsParameter ws (length outer + 1) (thing.Variable v) → IsOwn more vs (ls ++ ws ∷ []) b v
  parameter_own b v here p = record {
    chain = length ps ∷ chain_by ps at;
    home = inr (record { number = length ps; its = own; there = last_there ps own; block = sym here; chain_is = refl });
    level_is = omega (arith, p.0, stands.path.level_is);
    its = p.1.0;
    there = ap (λ (n : ℕ). slice_get (locals_in (ls ++ ws ∷ []) n) v.number) (sym h.each) ∙ ap (λ (xs : List RVar). slice_get xs v.number) (last_locals ws ls) ∙ p.1.1;
    sort_is = p.1.2;
    mode_is = p.1.3;
    rooted = tt;
  }

  pub homed_procedure : (n : List ℕ) (e : Entry) → e.thing ≡ thing.Procedure routine → Homed (bound_at (bs ++ block ∷ []) inner n e) more vs (ls ++ ws ∷ [])
  homed_procedure n e is_routine = record {
    two = omega (arith, count, h.two);
    names = λ b m r is. ⊎_elim
        (λ (before : look_in (block_at (bs ++ block ∷ []) b) m ≡ Some (thing.Procedure r)). ⊎_elim (λ old. declared_stays ps more longer b r (h.names b m r old)) (λ mine. absurd (given m (thing.Procedure r) mine.1)) (look_last bs block b m (thing.Procedure r) before))
        (λ (new : (b ≡ inner) × (thing.Procedure r ≡ e.thing)). subst (λ (c : ℕ). IsDeclared more c r) (sym new.0) (subst (IsDeclared more inner) (sym (same_routine r (new.1 ∙ is_routine))) its_declared))
        (look_more (bs ++ block ∷ []) inner n e b m (thing.Procedure r) is);
    variables = λ b m v is. ⊎_elim
        (λ (before : look_in (block_at (bs ++ block ∷ []) b) m ≡ Some (thing.Variable v)). ⊎_elim
        (λ old. own_stays ps more longer vs vs ls (ls ++ ws ∷ []) (λ n x is. is) (locals_more ws ls) b v (h.variables b m v old))
        (λ mine. parameter_own b v mine.0 (given m (thing.Variable v) mine.1)) (look_last bs block b m (thing.Variable v) before))
        (λ (new : (b ≡ inner) × (thing.Variable v ≡ e.thing)). absurd (let clash : thing.Variable v ≡ thing.Procedure routine = new.1 ∙ is_routine in cc))
        (look_more (bs ++ block ∷ []) inner n e b m (thing.Variable v) is);
    modules = λ b m j is. ⊎_elim
        (λ (before : look_in (block_at (bs ++ block ∷ []) b) m ≡ Some (thing.Module j)). ⊎_elim (λ old. module_more j (h.modules b m j old)) (λ mine. absurd (given m (thing.Module j) mine.1)) (look_last bs block b m (thing.Module j) before))
        (λ (new : (b ≡ inner) × (thing.Module j ≡ e.thing)). absurd (let clash : thing.Module j ≡ thing.Procedure routine = new.1 ∙ is_routine in cc))
        (look_more (bs ++ block ∷ []) inner n e b m (thing.Module j) is);
    blocks = λ i q is. ⊎_elim (λ (before : slice_get ps i ≡ Some q). block_later (length bs) (length all) ps more i q (omega (arith, count)) longer (h.blocks i q before))
        (λ (new : (i ≡ length ps) × (own ≡ q)). subst (λ (k : ℕ). IsBlock (length all) more k q) (sym new.0) (subst (IsBlock (length all) more (length ps)) new.1 its_block)) (at_end ps own q i is);
    apart = λ i j q p there also same. by i j q p same (at_end ps own q i there) (at_end ps own p j also);
    few = omega (arith, longer_by, room);
    each = omega (arith, longer_by, length_push ls ws, h.each);
  }
    where
      all : List Names
      all = bound_at (bs ++ block ∷ []) inner n e

      count : length all ≡ length bs + 1
      count = bound_many (bs ++ block ∷ []) inner n e ∙ length_push bs block

      same_routine : (r : Routine) → thing.Procedure r ≡ thing.Procedure routine → r ≡ routine
      same_routine r is = cc

      module_more : (j : ℕ) → IsModule (length bs) ps j → IsModule (length all) more j
      module_more j m = record {
        low = omega (arith, m.low, count);
        below = λ i q is. ⊎_elim (m.below i q) (λ (new : (i ≡ length ps) × (own ≡ q)). omega (arith, m.low, ap (λ (x : RProc). x.block) new.1)) (at_end ps own q i is);
      }

      its_block : IsBlock (length all) more (length ps) own
      its_block = record { high = h.two; low = omega (arith, count); few = stands.few; path = its_path }

      by : (i j : ℕ) (q p : RProc) → q.block ≡ p.block → (slice_get ps i ≡ Some q) ⊎ ((i ≡ length ps) × (own ≡ q)) → (slice_get ps j ≡ Some p) ⊎ ((j ≡ length ps) × (own ≡ p)) → i ≡ j
      by i j q p same (inl x) (inl y) = h.apart i j q p x y same
      by i j q p same (inl x) (inr y) = absurd (omega (arith, (h.blocks i q x).low, same, ap (λ (x : RProc). x.block) y.1))
      by i j q p same (inr x) (inl y) = absurd (omega (arith, (h.blocks j p y).low, same, ap (λ (x : RProc). x.block) x.1))
      by i j q p same (inr x) (inr y) = x.0 ∙ sym y.0

-- ---- inside of a procedure
pub stands_inside : (bs : List Names) (ps : List RProc) (vs : List RVar) (ls : List (List RVar)) → Homed bs ps vs ls → (n : ℕ) (q : RProc) → slice_get ps n ≡ Some q → Stands q.outer q.block ps (Some n)
stands_inside bs ps vs ls h n q there =
    let same : n ∷ q.around ≡ n ∷ around_of (slice_get ps n) = ap (λ (o : Option RProc). n ∷ around_of o) (sym there) in
    record {
      path = subst (IsPath ps q.outer q.block) same (h.blocks n q there).path;
      few = omega (arith, ap length (sym same), (h.blocks n q there).few, slice_get_within ps n q there);
      there = (q, there);
    }
