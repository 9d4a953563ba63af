-- What names stand for in told blocks, and what is named as a type.
use Rattle.std.proofs.Common.{◌≡◌, ℕ, zero, suc, ◌+◌, ◌∙◌, ap, sym, refl, arith, slice_get, Bool, true, false, List, [], ◌∷◌, ◌++◌, length, Option, Some, None, IfSome, if◌then◌else◌, true≢false}
use Rattle.std.specs.Prelude.{nat_lt, slice_set}
use Rattle.lil_base.specs.declared.fault.Place.{Place}
use Rattle.lil_text.specs.declared.tree.{Ident.Ident, Qualident.Qualident}
use Rattle.lil_types.specs.{Types.Table, declared.fields.FieldAt.FieldAt}
use Rattle.lil_scope.specs.{declared.{env.Env.Env, scope.Scopes.Scopes, thing.{Entry.Entry, Thing.Thing}}, Built.built, Names.{Names, same, entry_in, thing_of, look_in, inner_or, block_at, find_in, find, member, is_new, bound, bound_at, chain}}
use Rattle.lil_scope.specs.declared.thing.Thing.TheVariants as thing
use Rattle.lil_shapes.specs.{Bases.field_at, ListLaws.AllFine, Pointers.lies_at}
use Rattle.lil_forms.specs.Scopes.{fine_more}
use Rattle.lil_kinds.specs.Forms.{field}
use Rattle.lil_check_value.specs.{declared.names.Looked.{Looked, TheVariants.{Nothing, Field, Thing as Named}}, Looks.{nearer, in_withs, nearest, looked_as, or_declared, look, type_node, module_node, member_type, type_by, type_named}}
use Rattle.lil_right_type.specs.{Right.{Right, IsThere, after_right, is_so}, Found.{ThingTold, EnvTold}, Homes.{IsModule, Seen, found_procedure, found_variable, found_module, member_procedure, member_variable}, Parts.field_is}

-- ---- what is true of all things that names stand for
module _ (P : Thing → Type 0) where
  abbrev pub AreSo : Names → Type 0
  AreSo b = AllFine (λ (x : List ℕ × Entry). P x.1.thing) b

  pub look_is : (b : Names) (n : List ℕ) → AreSo b → IfSome (look_in b n) P
  look_is [] n h = tt
  look_is (x ∷ xs) n h = by (same n x.0) (look_is xs n h.1)
    where
      by : (c : Bool) → IfSome (look_in xs n) P → IfSome (thing_of (if c then Some x.1 else entry_in xs n)) P
      by true j = h.0
      by false j = j

  block_is : (bs : List Names) (k : ℕ) → AllFine AreSo bs → AreSo (block_at bs k)
  block_is [] k h = tt
  block_is (b ∷ bs) zero h = h.0
  block_is (b ∷ bs) (suc k) h = block_is bs k h.1

  either_is : (a o : Option Thing) → IfSome a P → IfSome o P → IfSome (inner_or a o) P
  either_is None o h j = j
  either_is (Some x) o h j = h

  find_in_is : (bs : List Names) (ks : List ℕ) (n : List ℕ) → AllFine AreSo bs → IfSome (find_in bs ks n) P
  find_in_is bs [] n h = tt
  find_in_is bs (k ∷ ks) n h = either_is (find_in bs ks n) (look_in (block_at bs k) n) (find_in_is bs ks n h) (look_is (block_at bs k) n (block_is bs k h))

  pub find_is : (s : Scopes) (n : List ℕ) → AllFine AreSo s.blocks → IfSome (find s n) P
  find_is s n h = either_is (look_in (block_at s.blocks s.inner) n) (find_in s.blocks s.outer n) (look_is (block_at s.blocks s.inner) n (block_is s.blocks s.inner h)) (find_in_is s.blocks s.outer n h)

  pub member_is : (s : Scopes) (k : ℕ) (n : List ℕ) → AllFine AreSo s.blocks → IfSome (member s k n) P
  member_is s k n h = look_is (block_at s.blocks k) n (block_is s.blocks k h)

  -- ---- a name bound in a block
  pub bound_is : (b : Names) (n : List ℕ) (e : Entry) → AreSo b → P e.thing → AreSo (bound b n e)
  bound_is b n e h j = by (is_new b n)
    where
      by : (c : Bool) → AreSo (if c then b ++ (n, e) ∷ [] else b)
      by true = fine_more (λ (x : List ℕ × Entry). P x.1.thing) b (n, e) h j
      by false = h

  set_is : (bs : List Names) (k : ℕ) (b : Names) → AllFine AreSo bs → AreSo b → AllFine AreSo (slice_set bs k b)
  set_is [] k b h j = tt
  set_is (a ∷ bs) zero b h j = (j, h.1)
  set_is (a ∷ bs) (suc k) b h j = (h.0, set_is bs k b h.1 j)

  pub bound_at_is : (bs : List Names) (k : ℕ) (n : List ℕ) (e : Entry) → AllFine AreSo bs → P e.thing → AllFine AreSo (bound_at bs k n e)
  bound_at_is bs k n e h j = by (nat_lt k (length bs))
    where
      by : (c : Bool) → AllFine AreSo (if c then slice_set bs k (bound (block_at bs k) n e) else bs)
      by true = set_is bs k (bound (block_at bs k) n e) h (bound_is (block_at bs k) n e (block_is bs k h) j)
      by false = h

none : (i : ℕ) → 0 + i ≡ i
none i = omega arith

next : (n i : ℕ) → n + 1 + i ≡ n + suc i
next n i = omega arith

first : (n : ℕ) → n + 0 ≡ n
first n = omega arith

-- a type in whose variables something lies
abbrev pub Lies : Table → Option ℕ → Type 0
Lies t o = IsThere (λ n. lies_at t n ≡ true) o

module _ (e : Env) where
  abbrev pub Told : Thing → Type 0
  Told x = ThingTold e.types e.texts x

  -- and what it is to the procedure at hand
  abbrev pub SeenTold : Thing → Type 0
  SeenTold x = Told x × Seen e.procedures (chain e) e x

  module _ (told : EnvTold e) where
    -- ---- what a name stands for
    pub find_told : (n : List ℕ) → IfSome (find e.scopes n) Told
    find_told n = find_is Told e.scopes n told.names

    pub find_seen : (n : List ℕ) → IfSome (find e.scopes n) SeenTold
    find_seen n = by (find e.scopes n) refl (find_told n)
      where
        by : (o : Option Thing) → find e.scopes n ≡ o → IfSome o Told → IfSome o SeenTold
        by None is h = tt
        by (Some (thing.Procedure r)) is h = (h, found_procedure e.scopes.blocks e.procedures e.variables e.locals told.homed e.scopes refl e.procedure told.stands n r is)
        by (Some (thing.Variable v)) is h = (h, found_variable e.scopes.blocks e.procedures e.variables e.locals told.homed e.scopes refl e.procedure told.stands n v is)
        by (Some (thing.Module b)) is h = (h, found_module e.scopes.blocks e.procedures e.variables e.locals told.homed e.scopes refl e.procedure told.stands n b is)
        by (Some _) is h = (h, tt)

    pub member_seen : (k : ℕ) → IsModule (length e.scopes.blocks) e.procedures k → (n : List ℕ) → IfSome (member e.scopes k n) SeenTold
    member_seen k m n = by (member e.scopes k n) refl (member_is Told e.scopes k n told.names)
      where
        by : (o : Option Thing) → member e.scopes k n ≡ o → IfSome o Told → IfSome o SeenTold
        by None is h = tt
        by (Some (thing.Procedure r)) is h = (h, member_procedure e.scopes.blocks e.procedures e.variables e.locals told.homed e.scopes refl e.procedure told.stands k n r m is)
        by (Some (thing.Variable v)) is h = (h, member_variable e.scopes.blocks e.procedures e.variables e.locals told.homed e.scopes refl e.procedure told.stands k n v m is)
        by (Some (thing.Module b)) is h = (h, told.homed.modules k n b is)
        by (Some _) is h = (h, tt)

    -- where it is looked for in the records of WITH too
    abbrev pub LookTold : Looked → Type 0
    LookTold Nothing = Unit {0}
    LookTold (Field w f s) = (r : ℕ) × (slice_get e.withs w ≡ Some r) × (field_at e.types r f ≡ Some s) × (lies_at e.types s ≡ true)
    LookTold (Named x) = SeenTold x

    pub looked_told : (o : Option Thing) → IfSome o SeenTold → LookTold (looked_as o)
    looked_told None h = tt
    looked_told (Some x) h = h

    pub look_told : (n : List ℕ) → LookTold (look e n)
    unfolding look
    look_told n = or_told (nearest e.types n e.withs) (withs_told Nothing 0 e.withs (λ i r h. ap (slice_get e.withs) (none i) ∙ h) tt)
      where
        nearer_told : (w r : ℕ) (o : Option FieldAt) (outer : Looked) → slice_get e.withs w ≡ Some r → field e.types r n ≡ o → LookTold outer → LookTold (nearer o w outer)
        nearer_told w r None outer at is h = h
        nearer_told w r (Some f) outer at is h = let g = field_is e.types told.types r n f is in (r, at, g.0, g.1)

        withs_told : (outer : Looked) (number : ℕ) (ws : List ℕ) → ((i r : ℕ) → slice_get ws i ≡ Some r → slice_get e.withs (number + i) ≡ Some r) → LookTold outer → LookTold (in_withs e.types n outer number ws)
        withs_told outer number [] behind h = h
        withs_told outer number (w ∷ ws) behind h =
            withs_told (nearer (field e.types w n) number outer) (number + 1) ws (λ i r j. ap (slice_get e.withs) (next number i) ∙ behind (suc i) r j)
            (nearer_told number w (field e.types w n) outer (ap (slice_get e.withs) (sym (first number)) ∙ behind 0 w refl) refl h)

        or_told : (l : Looked) → LookTold l → LookTold (or_declared l (find e.scopes n))
        or_told Nothing h = looked_told (find e.scopes n) (find_seen n)
        or_told (Field w f s) h = h
        or_told (Named x) h = h

    -- ---- the names of types: something lies in a variable of a type that is named
    node_lies : (at p : Place) (l : Looked) → LookTold l → Right (Lies e.types) (type_node at p l)
    unfolding type_node
    node_lies at p Nothing h clear = absurd (true≢false clear.0)
    node_lies at p (Field w f s) h clear = absurd (true≢false clear.1.1.0)
    node_lies at p (Named (thing.Type s)) h clear = h.0 (is_so (built (thing.Type s)) clear.1.1.1.0)
    node_lies at p (Named thing.Hidden) h clear = absurd (true≢false clear.1.0)
    node_lies at p (Named thing.Broken) h clear = absurd h.0
    node_lies at p (Named _) h clear = absurd (true≢false clear.1.1.0)

    abbrev IsThereModule : Option ℕ → Type 0
    IsThereModule o = IsThere (IsModule (length e.scopes.blocks) e.procedures) o

    module_there : (p : Place) (l : Looked) → LookTold l → Right IsThereModule (module_node p l)
    unfolding module_node
    module_there p Nothing h clear = absurd (true≢false clear.0)
    module_there p (Field w f s) h clear = absurd (true≢false clear.1.1.0)
    module_there p (Named (thing.Module k)) h clear = h.1
    module_there p (Named thing.Hidden) h clear = absurd (true≢false clear.1.0)
    module_there p (Named thing.Broken) h clear = absurd h.0
    module_there p (Named _) h clear = absurd (true≢false clear.1.1.0)

    pub named_lies : (q : Qualident) → Right (Lies e.types) (type_named e q)
    unfolding type_named
    named_lies q = by q.owner q.name
      where
        member_lies : (at : Place) (x : Ident) (o : Option ℕ) → IsThereModule o → Right (Lies e.types) (member_type e at x o)
        member_lies at x None h = absurd h
        member_lies at x (Some k) h = node_lies at x.place (looked_as (member e.scopes k x.name)) (looked_told (member e.scopes k x.name) (member_seen k h x.name))

        by : (o : Option Ident) (x : Ident) → Right (Lies e.types) (type_by e o x)
        by None x = node_lies x.place x.place (look e x.name) (look_told x.name)
        by (Some m) x = after_right IsThereModule (Lies e.types) (module_node m.place (look e m.name)) (member_type e m.place x) (module_there m.place (look e m.name) (look_told m.name)) (member_lies m.place x)
