-- A variable more of the block at hand, which stands among those of its owner.
use Rattle.std.proofs.Common.{◌≡◌, ℕ, zero, suc, ◌<◌, true, List, [], ◌∷◌, ◌++◌, length, slice_get, Option, Some, None, IfSome, if◌then◌else◌, refl, sym, ap, subst, ◌∙◌, arith}
use Rattle.std.specs.Prelude.{nat_lt, slice_set}
use Rattle.std.proofs.lemmas.{Bool.Decides.nat_tests, List.length-set, Option.{none-some, same_Some, slice_get_within}}
use Rattle.lil_text.specs.declared.tree.Ident.{Ident}
use Rattle.lil_types.specs.declared.table.Parameter.{Parameter}
use Rattle.lil_kinds.specs.Forms.{parameters}
use Rattle.lil_declared.specs.declared.declared.{Mode.TheVariants.Plain, RProc.RProc, RVar.RVar}
use Rattle.lil_report.specs.Told.{after}
use Rattle.lil_scope.specs.{Names.{bind_at, bound_at, entry, chain_by, chain, level, locals_in, locals_at, with_blocks, variables_of}, declared.{env.Env.Env}}
use Rattle.lil_scope.specs.declared.thing.Thing.TheVariants as t
use Rattle.lil_shapes.specs.{ListLaws.AllFine, Pointers.lies_at, ShapeSound.earlier}
use Rattle.lil_forms.specs.Scopes.{fine_more}
use Rattle.lil_check_type.specs.Records.{sort_or}
use Rattle.lil_check_decl.specs.{Headings.{and_variable, variable_thing, with_variable, variable_step, here}, declared.home.Home.Home}
use Rattle.lil_right_type.specs.{Right.Right, Found.AreHeaded, Homes.{Longer, AllLonger, IsRooted, own_of}}
use Rattle.lil_right_value.specs.Names.{Lies}
use Rattle.lil_right_sort.specs.{Growth.{Few, last_there, AllLie, Declared, variables_declared, bound_declared}, Simple.Follows}

-- ---- the variables of all procedures, where others stand for those of one
module _ (vs : List RVar) where
  set_there : (ls : List (List RVar)) (p : ℕ) → p < length ls → locals_in (slice_set ls p vs) p ≡ vs
  set_there [] p less = absurd (omega (arith, less))
  set_there (w ∷ ls) zero less = refl
  set_there (w ∷ ls) (suc p) less = set_there ls p (omega (arith, less))

  set_longer : (ls : List (List RVar)) (p : ℕ) → Longer (locals_in ls p) vs → AllLonger ls (slice_set ls p vs)
  set_longer [] p more q n v is = is
  set_longer (w ∷ ls) zero more zero n v is = more n v is
  set_longer (w ∷ ls) zero more (suc q) n v is = is
  set_longer (w ∷ ls) (suc p) more zero n v is = is
  set_longer (w ∷ ls) (suc p) more (suc q) n v is = set_longer ls p more q n v is

set_each : (P : ℕ → List RVar → Type 0) (ls : List (List RVar)) (p : ℕ) (vs : List RVar) → ((n : ℕ) → P n (locals_in ls n)) → P p vs → (n : ℕ) → P n (locals_in (slice_set ls p vs) n)
set_each P [] p vs h j n = h n
set_each P (w ∷ ls) zero vs h j zero = j
set_each P (w ∷ ls) zero vs h j (suc n) = h (suc n)
set_each P (w ∷ ls) (suc p) vs h j zero = h 0
set_each P (w ∷ ls) (suc p) vs h j (suc n) = set_each (λ n. P (suc n)) ls p vs (λ n. h (suc n)) j n

headed_more : (ps : List Parameter) (vs : List RVar) (v : RVar) → AreHeaded ps vs → v.mode ≡ Plain → AreHeaded ps (vs ++ v ∷ [])
headed_more [] vs v h plain = fine_more _ vs v h plain
headed_more (p ∷ ps) [] v h plain = absurd h
headed_more (p ∷ ps) (w ∷ vs) v h plain = (h.0, h.1, headed_more ps vs v h.2 plain)

module _ (P : List RVar → Type 0) where
  set_fine : (ls : List (List RVar)) (p : ℕ) (vs : List RVar) → AllFine P ls → P vs → AllFine P (slice_set ls p vs)
  set_fine [] p vs all h = tt
  set_fine (w ∷ ls) zero vs all h = (h, all.1)
  set_fine (w ∷ ls) (suc p) vs all h = (all.0, set_fine ls p vs all.1 h)

  pub fine_in : (ls : List (List RVar)) (p : ℕ) → AllFine P ls → P [] → P (locals_in ls p)
  fine_in [] p all none = none
  fine_in (w ∷ ls) zero all none = all.0
  fine_in (w ∷ ls) (suc p) all none = fine_in ls p all.1 none

rooted : (chain : List ℕ) → IsRooted chain Plain
rooted [] = refl
rooted (n ∷ ns) = tt

-- ---- a variable of a type in which something lies
module _ (f : Env) (d : Declared f) (i : Ident) (n : ℕ) (lies : lies_at f.types n ≡ true) where
  abbrev its : RVar
  its = record { name = i.name; sort = n; mode = Plain }

  abbrev named : ℕ → Env
  named x = with_blocks f (bound_at f.scopes.blocks f.scopes.inner i.name (entry (t.Variable (record { number = x; level = level f; sort = n; mode = Plain })) i.place))

  -- among all variables then, of which it is this one of its owner
  among : (vs : List RVar) (ls : List (List RVar)) (x : ℕ) → Declared (record f { variables = vs; locals = ls }) → slice_get (own_of vs ls (chain f)) x ≡ Some its → Declared (record (named x) { variables = vs; locals = ls })
  among vs ls x more there =
      bound_declared (record f { variables = vs; locals = ls }) more f.scopes.inner i.name _
      (lies, (tt, record { chain = chain f; home = d.told.stands.path.own; level_is = d.told.stands.path.level_is; its = its; there = there; sort_is = refl; mode_is = refl; rooted = rooted (chain f) }))

  own_declared : (at : Option ℕ) → f.procedure ≡ at → Declared (and_variable at its (named (length (variables_of f at))))
  own_declared None is =
      let vs = f.variables ++ its ∷ [] in
      among vs f.locals (length f.variables)
      (variables_declared f d vs f.locals (λ j v there. earlier f.variables (its ∷ []) j v there) (λ p j v there. there) refl (fine_more _ f.variables its d.variables.0 (lies, refl), d.variables.1) d.headed)
      (ap (λ (o : Option ℕ). slice_get (own_of vs f.locals (chain_by f.procedures o)) (length f.variables)) is ∙ last_there f.variables its)
  own_declared (Some p) is =
      let own = locals_at f p in
      let vs = own ++ its ∷ [] in
      let ls = slice_set f.locals p vs in
      let less : p < length f.locals = omega (arith, known f.procedure is d.told.stands.there, d.told.homed.each) in
      let within : nat_lt p (length f.locals) ≡ true = grind (arith, nat_tests, less) in
      subst (λ (ls : List (List RVar)). Declared (record (named (length own)) { locals = ls })) (ap (λ c. if c then ls else f.locals) (sym within))
      (among f.variables ls (length own)
      (variables_declared f d f.variables ls (λ j v there. there) (set_longer vs f.locals p (λ j v there. earlier own (its ∷ []) j v there)) (length-set f.locals p vs)
      (d.variables.0, set_fine (AllLie f.types) f.locals p vs d.variables.1 (fine_more _ own its (fine_in (AllLie f.types) f.locals p d.variables.1 tt) lies))
      (set_each (λ n vs. (q : RProc) → slice_get f.procedures n ≡ Some q → AreHeaded (parameters f.types q.sort) vs) f.locals p vs d.headed (λ q is. headed_more (parameters f.types q.sort) own its (d.headed p q is) refl)))
      (ap (λ (o : Option ℕ). slice_get (own_of f.variables ls (chain_by f.procedures o)) (length own)) is ∙ ap (λ (vs : List RVar). slice_get vs (length own)) (set_there vs f.locals p less) ∙ last_there own its))
    where
      known : (o : Option ℕ) → o ≡ Some p → IfSome o (λ n. (q : RProc) × (slice_get f.procedures n ≡ Some q)) → p < length f.procedures
      known None none there = absurd (none-some p none)
      known (Some m) same there = subst (λ (k : ℕ). k < length f.procedures) (same_Some m p same) (slice_get_within f.procedures m there.0 there.1)

-- ---- variables of a type, in the block at hand
module _ (h : Home) (o : Option ℕ) where
  abbrev IsAt : Env → Type 0
  IsAt f = (h ≡ here f) × Lies f.types o

  abbrev pub HasHome : Env → Env → Type 0
  HasHome e f = Follows e f (IsAt f)

variable_declared : (h : Home) (o : Option ℕ) (f : Env) (i : Ident) → Declared f → IsAt h o f → Declared (with_variable h o i.name (bind_at h.block f i (variable_thing h o f)).0)
unfolding bind_at
variable_declared h None f i d at = absurd at.1
variable_declared h (Some n) f i d at = subst (λ (h : Home). Declared (with_variable h (Some n) i.name (bind_at h.block f i (variable_thing h (Some n) f)).0)) (sym at.0) (own_declared f d i n at.1 f.procedure refl)

pub variable_behind : (h : Home) (o : Option ℕ) (e f : Env) (i : Ident) → HasHome h o e f → Right (HasHome h o e) (variable_step h o f i)
unfolding after bind_at
variable_behind h o e f i b clear = by h.owner (λ few. let j = b.1 few in (variable_declared h o f i j.0 j.1, j.1))
  where
    v : RVar
    v = record { name = i.name; sort = sort_or o; mode = h.mode }

    bound : Env
    bound = (bind_at h.block f i (variable_thing h o f)).0

    by : (owner : Option ℕ) → (Few f.types → Declared (and_variable owner v bound) × IsAt h o f) → HasHome h o e (and_variable owner v bound)
    by None told = (b.0, told)
    by (Some p) told = (b.0, told)
