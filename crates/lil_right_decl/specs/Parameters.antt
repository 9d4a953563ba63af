-- The parameters of a heading, in the block and among the variables of the next procedure.
use Rattle.std.proofs.Common.{◌≡◌, ℕ, zero, suc, ◌+◌, ◌<◌, inl, inr, true, List, [], ◌∷◌, ◌++◌, length, slice_get, Option, Some, None, IfSome, if◌then◌else◌, refl, sym, ap, subst, ◌∙◌, arith}
use Rattle.std.specs.Prelude.{nat_lt, slice_set}
use Rattle.std.proofs.lemmas.{Bool.Decides.nat_tests, List.length_push}
use Rattle.lil_base.specs.declared.fault.Place.{Place}
use Rattle.lil_text.specs.declared.tree.{Ident.Ident, Qualident.Qualident}
use Rattle.lil_language.specs.declared.{unit.{Section.Section}}
use Rattle.lil_types.specs.{Types.{Table}, Adding.{own}, declared.table.{Parameter.Parameter}}
use Rattle.lil_declared.specs.{Modes.mode_of, declared.declared.RVar.RVar}
use Rattle.lil_report.specs.Told.{Row, after, walk}
use Rattle.lil_shapes.specs.{ListLaws.AllFine, Pointers.lies_at, ShapeSound.{earlier}}
use Rattle.lil_forms.specs.Scopes.{fine_more}
use Rattle.lil_forms.specs.Variables.{passing_by}
use Rattle.lil_scope.specs.{Names.{Names, look_in, inner_or, block_by, block_at, find_in, bound, bound_at, bind_at, with_local, locals_in, inside, entered, outside, level, chain}, declared.{env.Env.Env, thing.{Entry.Entry, Thing.Thing}}}
use Rattle.lil_scope.specs.declared.thing.Thing.TheVariants as thing
use Rattle.lil_scope.specs.Names as names
use Rattle.lil_check_value.specs.{declared.names.Looked.{Looked, TheVariants.{Thing as Declared_as}}, Looks.{nearest, looked_as, or_declared, look, module_of, module_node, member_type, type_by, type_named}}
use Rattle.lil_check_value.specs.Looks.{type_node as type_of_name}
use Rattle.lil_check_type.specs.{declared.routines.Parameters.Parameters, Records.{sort_or, no_parameters, with_parameter}}
use Rattle.lil_check_decl.specs.{declared.home.Home.Home, Headings.{variable_thing, with_variable, section_home, Headed, parameter_step, section_step, home_at}}
use Rattle.lil_right_type.specs.{Right.{Right, after_right}, Found.{ParameterTold, AreHeaded, EnvTold}, Homes.{IsHome, OnPath, last_locals}}
use Rattle.lil_right_value.specs.Names.{Lies, LookTold, look_told, named_lies, bound_is}
use Rattle.lil_right_sort.specs.{Growth.{all_then, Few, last_there, AllLie}, Simple.{Begun, walk_keeps}}

-- ---- blocks and variables, where those of one owner are the last
set_last : {A : Type 0} (xs : List A) (x y : A) → slice_set (xs ++ x ∷ []) (length xs) y ≡ xs ++ y ∷ []
set_last [] x y = refl
set_last (z ∷ xs) x y = ap (λ ys. z ∷ ys) (set_last xs x y)

in_last : {A : Type 0} (xs : List A) (x : A) → nat_lt (length xs) (length (xs ++ x ∷ [])) ≡ true
in_last xs x = grind (arith, nat_tests, length_push xs x)

bound_last : (bs : List Names) (b : Names) (n : List ℕ) (e : Entry) → bound_at (bs ++ b ∷ []) (length bs) n e ≡ bs ++ bound b n e ∷ []
bound_last bs b n e =
    ap (λ c. if c then slice_set (bs ++ b ∷ []) (length bs) (bound (block_at (bs ++ b ∷ []) (length bs)) n e) else bs ++ b ∷ []) (in_last bs b)
    ∙ ap (λ (x : Names). slice_set (bs ++ b ∷ []) (length bs) (bound x n e)) (ap block_by (last_there bs b))
    ∙ set_last bs b (bound b n e)

local_last : (ls : List (List RVar)) (vs : List RVar) (v : RVar) → with_local (ls ++ vs ∷ []) (length ls) v ≡ ls ++ (vs ++ v ∷ []) ∷ []
local_last ls vs v =
    ap (λ c. if c then slice_set (ls ++ vs ∷ []) (length ls) (locals_in (ls ++ vs ∷ []) (length ls) ++ v ∷ []) else ls ++ vs ∷ []) (in_last ls vs)
    ∙ ap (λ (x : List RVar). slice_set (ls ++ vs ∷ []) (length ls) (x ++ v ∷ [])) (last_locals vs ls)
    ∙ set_last ls vs (vs ++ v ∷ [])

pub local_same : (ls : List (List RVar)) (vs : List RVar) (j : ℕ) → j < length ls → locals_in (ls ++ vs ∷ []) j ≡ locals_in ls j
local_same [] vs j less = absurd (omega (arith, less))
local_same (w ∷ ls) vs zero less = refl
local_same (w ∷ ls) vs (suc j) less = local_same ls vs j (omega (arith, less))

block_same : (bs : List Names) (b : Names) (j : ℕ) → j < length bs → block_at (bs ++ b ∷ []) j ≡ block_at bs j
block_same [] b j less = absurd (omega (arith, less))
block_same (a ∷ bs) b zero less = refl
block_same (a ∷ bs) b (suc j) less = block_same bs b j (omega (arith, less))

find_same : (bs : List Names) (b : Names) (ks : List ℕ) (n : List ℕ) → AllFine (λ k. k < length bs) ks → find_in (bs ++ b ∷ []) ks n ≡ find_in bs ks n
find_same bs b [] n low = refl
find_same bs b (k ∷ ks) n low = λ i. inner_or (find_same bs b ks n low.1 i) (look_in (block_same bs b k low.0 i) n)

-- ---- parameters and their variables, one for each
abbrev pub ArePaired : List Parameter → List RVar → Type 0
ArePaired [] [] = Unit {0}
ArePaired (p ∷ ps) (v ∷ vs) = (v.sort ≡ p.sort) × (v.mode ≡ passing_by p) × ArePaired ps vs
ArePaired _ _ = ⊥

paired_more : (ps : List Parameter) (vs : List RVar) (p : Parameter) (v : RVar) → ArePaired ps vs → v.sort ≡ p.sort → v.mode ≡ passing_by p → ArePaired (ps ++ p ∷ []) (vs ++ v ∷ [])
paired_more [] [] p v h sort mode = (sort, mode, tt)
paired_more (q ∷ ps) (w ∷ vs) p v h sort mode = (h.0, h.1, paired_more ps vs p v h.2 sort mode)
paired_more _ _ p v h sort mode = absurd h

pub paired_lie : (t : Table) (ps : List Parameter) (vs : List RVar) → ArePaired ps vs → AllFine (ParameterTold t) ps → AllLie t vs
paired_lie t [] [] h all = tt
paired_lie t (p ∷ ps) (v ∷ vs) h all = (ap (lies_at t) h.0 ∙ all.0, paired_lie t ps vs h.2 all.1)
paired_lie t _ _ h all = absurd h

pub paired_headed : (ps : List Parameter) (vs : List RVar) → ArePaired ps vs → AreHeaded ps vs
paired_headed [] [] h = tt
paired_headed (p ∷ ps) (v ∷ vs) h = (h.0, h.1, paired_headed ps vs h.2)
paired_headed _ _ h = absurd h

-- ---- the parameters of a heading, around which is e
module _ (e : Env) where
  abbrev pub k : ℕ
  k = length e.scopes.blocks

  -- with the blocks and the variables so far
  abbrev pub with_parts : List Names → List (List RVar) → Env
  with_parts bs ls = record e { scopes = record e.scopes { blocks = bs }; locals = ls }

  -- a name of the next procedure's block: one of its parameters
  abbrev pub IsNamed : List RVar → Thing → Type 0
  IsNamed own (thing.Variable v) = (v.level ≡ level e + 1) × ((its : RVar) × (slice_get own v.number ≡ Some its) × (its.sort ≡ v.sort) × (its.mode ≡ v.mode))
  IsNamed own _ = ⊥

  abbrev pub AreNamed : List RVar → Names → Type 0
  AreNamed own b = AllFine (λ (x : List ℕ × Entry). IsNamed own x.1.thing) b

  pub record ArePassed (bs : List Names) (ls : List (List RVar)) (ps : Parameters) : Type 0 where
    pub block : Names
    pub own : List RVar
    pub blocks_are : bs ≡ e.scopes.blocks ++ block ∷ []
    pub locals_are : ls ≡ e.locals ++ own ∷ []
    pub named : AreNamed own block
    pub paired : ArePaired ps.list own
    pub lie : AllFine (ParameterTold e.types) ps.list
    pub right : ps.right ≡ true

  pub record IsHeading (q : Headed) : Type 0 where
    pub blocks : List Names
    pub locals : List (List RVar)
    pub is : q.0 ≡ with_parts blocks locals
    pub told : Few e.types → ArePassed blocks locals q.1

  pub none_yet : IsHeading (names.begun e, no_parameters)
  none_yet = record { blocks = _; locals = _; is = refl; told = λ few. record { block = []; own = []; blocks_are = refl; locals_are = refl; named = tt; paired = tt; lie = tt; right = refl } }

  -- ---- their types, which are looked for around the procedure
  module _ (told : EnvTold e) (b : Names) (ls : List (List RVar)) where
    abbrev inside_too : Env
    inside_too = with_parts (e.scopes.blocks ++ b ∷ []) ls

    home_low : (j : ℕ) (chain : List ℕ) → IsHome e.procedures j chain → j < k
    home_low j chain (inl h) = omega (arith, h.0, told.homed.two)
    home_low j chain (inr o) = omega (arith, (told.homed.blocks o.number o.its o.there).low, o.block)

    path_low : (chain : List ℕ) (j : ℕ) → OnPath e.procedures chain j → j < k
    path_low chain j (inl none) = omega (arith, none, told.homed.two)
    path_low chain j (inr on) = home_low j on.0 on.2

    look_same : (n : List ℕ) → look inside_too n ≡ look e n
    unfolding look
    look_same n = ap (or_declared (nearest e.types n e.withs)) (λ i. inner_or
        (look_in (block_same e.scopes.blocks b e.scopes.inner (home_low e.scopes.inner (chain e) told.stands.path.own) i) n)
        (find_same e.scopes.blocks b e.scopes.outer n (all_then _ _ (path_low (chain e)) e.scopes.outer told.stands.path.blocks) i))

    type_same : (q : Qualident) → type_named inside_too q ≡ type_named e q
    unfolding type_named after module_node
    type_same q = by q.owner
      where
        its_module : (l : Looked) → LookTold e told l → IfSome (module_of l) (λ j. j < k)
        its_module (Declared_as (thing.Module j)) h = h.1.low
        its_module _ h = tt

        member_same : (p : Place) (o : Option ℕ) → IfSome o (λ j. j < k) → member_type inside_too p q.name o ≡ member_type e p q.name o
        member_same p None h = refl
        member_same p (Some j) h = ap (λ (x : Names). type_of_name p q.name.place (looked_as (look_in x q.name.name))) (block_same e.scopes.blocks b j h)

        by : (o : Option Ident) → type_by inside_too o q.name ≡ type_by e o q.name
        by None = ap (type_of_name q.name.place q.name.place) (look_same q.name.name)
        by (Some m) =
            ap (λ (l : Looked). after (module_node m.place l) (member_type inside_too m.place q.name)) (look_same m.name)
            ∙ ap (λ (x : Option ℕ × List Row). (x.0, (module_node m.place (look e m.name)).1 ++ x.1)) (member_same m.place (module_of (look e m.name)) (its_module (look e m.name) (look_told e told m.name)))

  module _ (begun : Begun e) where
    pub type_there : (q : Headed) → IsHeading q → (x : Qualident) → Right (λ o. Few e.types → Lies e.types o) (type_named q.0 x)
    type_there q h x clear few =
        let p = h.told few in
        let told = (begun few).told in
        let same : type_named q.0 x ≡ type_named e x = ap (λ (f : Env). type_named f x) (h.is ∙ (λ i. with_parts (p.blocks_are i) h.locals)) ∙ type_same told p.block h.locals x in
        let there : Right (Lies e.types) (type_named q.0 x) = subst (λ m. Right (Lies e.types) m) (sym same) (named_lies e told x) in
        there clear

    -- ---- one more
    module _ (s : Section) (i : Ident) where
      abbrev home : Home
      home = section_home (home_at e k) s

      abbrev number : List (List RVar) → ℕ
      number ls = length (locals_in ls (length e.procedures))

      abbrev variable : ℕ → ℕ → Thing
      variable x n = thing.Variable (record { number = x; level = level e + 1; sort = n; mode = mode_of s.by_place s.open_array })

      abbrev one : ℕ → RVar
      one n = record { name = i.name; sort = n; mode = mode_of s.by_place s.open_array }

      parameter_passed : (bs : List Names) (ls : List (List RVar)) (ps : Parameters) (n : ℕ) → EnvTold e → lies_at e.types n ≡ true → ArePassed bs ls ps
          → ArePassed (bound_at bs k i.name (names.entry (variable (number ls) n) i.place)) (with_local ls (length e.procedures) (one n)) (with_parameter ps s.by_place s.open_array (Some n))
      parameter_passed bs ls ps n told lies p = record {
        block = bound p.block i.name new;
        own = p.own ++ one n ∷ [];
        blocks_are = ap (λ (x : List Names). bound_at x k i.name new) p.blocks_are ∙ bound_last e.scopes.blocks p.block i.name new;
        locals_are = (λ j. with_local (p.locals_are j) (sym told.homed.each j) (one n)) ∙ local_last e.locals p.own (one n);
        named = bound_is (IsNamed (p.own ++ one n ∷ [])) p.block i.name new (all_then _ _ (λ (x : List ℕ × Entry). still x.1.thing) p.block p.named) (refl, (one n, ap (slice_get (p.own ++ one n ∷ [])) many ∙ last_there p.own (one n), refl, refl));
        paired = paired_more ps.list p.own _ (one n) p.paired refl refl;
        lie = fine_more _ ps.list _ p.lie lies;
        right = p.right;
      }
        where
          new : Entry
          new = names.entry (variable (number ls) n) i.place

          many : number ls ≡ length p.own
          many = (λ j. length (locals_in (p.locals_are j) (sym told.homed.each j))) ∙ ap length (last_locals p.own e.locals)

          still : (x : Thing) → IsNamed p.own x → IsNamed (p.own ++ one n ∷ []) x
          still (thing.Variable v) h = (h.0, (h.1.0, earlier p.own (one n ∷ []) v.number h.1.0 h.1.1, h.1.2, h.1.3))
          still _ h = absurd h

      abbrev moved : Option ℕ → Env → Env
      moved o f = with_variable home o i.name (names.with_blocks f (bound_at f.scopes.blocks k i.name (names.entry (variable_thing home o f) i.place)))

      parameter_right : (o : Option ℕ) → (Few e.types → Lies e.types o) → (q : Headed) → IsHeading q → Right IsHeading (parameter_step (home_at e k) s o q i)
      unfolding after bind_at
      parameter_right o lies q h clear = record {
        blocks = _;
        locals = _;
        is = ap (moved o) h.is;
        told = λ few. by o (lies few) few;
      }
        where
          by : (o : Option ℕ) → Lies e.types o → Few e.types
              → ArePassed (bound_at h.blocks k i.name (names.entry (variable_thing home o (with_parts h.blocks h.locals)) i.place)) (with_local h.locals (length e.procedures) (record { name = i.name; sort = sort_or o; mode = mode_of s.by_place s.open_array }))
              (with_parameter q.1 s.by_place s.open_array o)
          by None lies few = absurd lies
          by (Some n) lies few = parameter_passed h.blocks h.locals q.1 n (begun few).told lies (h.told few)

    pub section_right : (q : Headed) (s : Section) → IsHeading q → Right IsHeading (section_step (home_at e k) q s)
    section_right q s h = after_right (λ o. Few e.types → Lies e.types o) IsHeading (type_named q.0 s.sort) (λ o. walk (parameter_step (home_at e k) s o) q s.names) (type_there q h s.sort)
        (λ o lies. walk_keeps IsHeading (parameter_step (home_at e k) s o) (λ q i h. parameter_right s i o lies q h) q s.names h)
