-- What is told of values: their kinds, and the forms that go with them.
use Rattle.std.specs.Prelude.{◌≡◌, ℕ, ◌+◌, ◌<◌, ◌≤◌, pos, negsuc, Bool, true, false, List, [], ◌∷◌, length, slice_get, Option, Some, None}
use Rattle.lil_base.specs.Words.{between}
use Rattle.lil_types.specs.{Types.{Table, base, char, cardinal, integer, address, proc, process}, declared.table.Parameter.Parameter}
use Rattle.lil_declared.specs.declared.{declared.RVar.RVar, standard.Resident.Resident}
use Rattle.lil_declared.specs.declared.standard.Resident.TheVariants as r
use Rattle.lil_scope.specs.{Built.built, Names.chain, declared.{env.Env.Env, thing.{Chars.Chars, Entry.Entry, Kind.Kind, Thing.Thing}}}
use Rattle.lil_scope.specs.declared.thing.Kind.TheVariants as k
use Rattle.lil_scope.specs.declared.thing.Thing.TheVariants as t
use Rattle.lil_kinds.specs.{Forms.{parameters, result}, declared.found.{Form.Form, Found.Found, Located.Located, OpenArray.OpenArray, Standing.Standing}}
use Rattle.lil_kinds.specs.declared.found.Form.TheVariants as form
use Rattle.lil_kinds.specs.declared.found.Standing.TheVariants as standing
use Rattle.lil_resolved.specs.{Sizes.{place_depth, depth}, Sound.is_text, Views.{base_view, expression_of, place_of}, declared.resolved.{RBase.RBase, RExpr.RExpr, RKind.RKind, RNamed.RNamed}}
use Rattle.lil_resolved.specs.declared.resolved.RBase.TheVariants as b
use Rattle.lil_shapes.specs.{Bases.{base_at, kind_at}, ListLaws.AllFine, Operators.has_number, Pointers.lies_at}
use Rattle.lil_forms.specs.{Properties.{Property, Reach, nothing, value_kind}, Variables.{passing_by, seen}}
use Rattle.lil_right_type.specs.{Homes.{IsPlain, IsSeen, Homed, Stands}, Types.IsTold, Words.AreMeasured}
pub use Rattle.lil_right_type.specs.Types.{ResultTold}

-- ---- kinds
-- a base whose constants are told by their words
abbrev pub is_scalar : RBase → Bool
is_scalar b.Cardinal = false
is_scalar b.Integer = false
is_scalar b.Truth = true
is_scalar b.Character = true
is_scalar (b.Enumeration n) = true
is_scalar b.Set = true
is_scalar (b.Pointer n) = false
is_scalar b.Address = false
is_scalar (b.Procedure n) = false

-- a word is that of a value of a type
abbrev pub HasWord : Table → ℕ → ℕ → Type 0
HasWord t s w = (b : RBase) × (base_at t (base t s) ≡ Some b) × (is_scalar b ≡ true) × (has_number b (pos w) ≡ true)

-- constants are within their types, and something lies in a variable of a value's type, or in each element of an open array
abbrev pub KindTold : Table → Kind → Type 0
KindTold t (k.Whole z) = between (negsuc 32767) z (pos 65535) ≡ true
KindTold t (k.Scalar s w) = HasWord t s w
KindTold t (k.Chars c) = c.first ≤ 255
KindTold t k.Nil = Unit {0}
KindTold t (k.Of s) = lies_at t s ≡ true
KindTold t (k.Open s) = lies_at t s ≡ true
KindTold t (k.Routine s) = Unit {0}

-- ---- forms
abbrev pub TextTold : Chars → List ℕ → Type 0
TextTold c cs = (length cs ≡ c.length) × (is_text cs ≡ true)

-- a kind goes with no form: that of a number, a scalar or NIL
abbrev pub IsBare : Kind → Type 0
IsBare (k.Whole z) = Unit {0}
IsBare (k.Scalar s w) = Unit {0}
IsBare k.Nil = Unit {0}
IsBare _ = ⊥

module _ {t : Table} {vs : RNamed → Option RVar} {around : List ℕ} {R : Reach} (P : Property t vs around R) where
  -- a value of a type with the property, whose code takes at most a word more than so many
  pub record IsValue (s d : ℕ) (x : RExpr) : Type 0 where
    pub as_kind : RKind
    pub at : kind_at t s ≡ Some as_kind
    pub kind : value_kind x ≡ base_view as_kind.base
    pub deep : depth (expression_of x) ≤ d + 1
    pub good : P.value x

  -- a place of a type, likewise
  pub record LiesAt (s d : ℕ) (p : Located) : Type 0 where
    pub sort : p.sort ≡ s
    pub deep : place_depth (place_of p.place) ≤ d + 1
    pub good : P.place p

  -- an open array of elements of a type, likewise
  pub record OpensAt (s : ℕ) (a : OpenArray) : Type 0 where
    pub sort : a.sort ≡ s
    pub good : P.array a

  -- a procedure of a type that no other one declares, whose number from 1 is a byte
  pub record IsProcedure (s n : ℕ) : Type 0 where
    pub reached : R s n 0
    pub low : n < 255

  -- a form goes with a kind at a depth
  abbrev pub GoesWith : ℕ → Kind → Form → Type 0
  GoesWith d (k.Whole z) f = Unit {0}
  GoesWith d (k.Scalar s w) f = Unit {0}
  GoesWith d (k.Chars c) form.Nothing = ⊥
  GoesWith d (k.Chars c) (form.Text cs) = TextTold c cs
  GoesWith d (k.Chars c) (form.Located p) = ⊥
  GoesWith d (k.Chars c) (form.Open a) = ⊥
  GoesWith d (k.Chars c) (form.Value x) = ⊥
  GoesWith d (k.Chars c) (form.Routine n) = ⊥
  GoesWith d k.Nil f = Unit {0}
  GoesWith d (k.Of s) form.Nothing = ⊥
  GoesWith d (k.Of s) (form.Text cs) = ⊥
  GoesWith d (k.Of s) (form.Located p) = LiesAt s d p
  GoesWith d (k.Of s) (form.Open a) = ⊥
  GoesWith d (k.Of s) (form.Value x) = IsValue s d x
  GoesWith d (k.Of s) (form.Routine n) = ⊥
  GoesWith d (k.Open s) form.Nothing = ⊥
  GoesWith d (k.Open s) (form.Text cs) = ⊥
  GoesWith d (k.Open s) (form.Located p) = ⊥
  GoesWith d (k.Open s) (form.Open a) = OpensAt s a
  GoesWith d (k.Open s) (form.Value x) = ⊥
  GoesWith d (k.Open s) (form.Routine n) = ⊥
  GoesWith d (k.Routine s) form.Nothing = ⊥
  GoesWith d (k.Routine s) (form.Text cs) = ⊥
  GoesWith d (k.Routine s) (form.Located p) = ⊥
  GoesWith d (k.Routine s) (form.Open a) = ⊥
  GoesWith d (k.Routine s) (form.Value x) = ⊥
  GoesWith d (k.Routine s) (form.Routine n) = IsProcedure s n

  pub bare : (d : ℕ) (kind : Kind) (f : Form) → IsBare kind → GoesWith d kind f
  bare d (k.Whole z) f h = tt
  bare d (k.Scalar s w) f h = tt
  bare d k.Nil f h = tt
  bare d _ f h = absurd h

abbrev pub IsLocated : Form → Type 0
IsLocated form.Nothing = ⊥
IsLocated (form.Text cs) = ⊥
IsLocated (form.Located p) = Unit {0}
IsLocated (form.Open a) = ⊥
IsLocated (form.Value x) = ⊥
IsLocated (form.Routine n) = ⊥

-- a place, or an open array
abbrev pub IsPlaced : Kind → Form → Type 0
IsPlaced (k.Of s) f = IsLocated f
IsPlaced (k.Open s) f = Unit {0}
IsPlaced _ f = ⊥

-- a variable is one of these, and no constant
abbrev pub HasPlace : Standing → Kind → Form → Type 0
HasPlace standing.Value kind f = Unit {0}
HasPlace standing.Variable kind f = IsPlaced kind f
HasPlace standing.Character kind f = IsPlaced kind f

pub record IsFound {t : Table} {vs : RNamed → Option RVar} {around : List ℕ} {R : Reach} (P : Property t vs around R) (a : Found) : Type 0 where
  pub kind : KindTold t a.kind
  pub form : GoesWith P a.depth a.kind a.form
  pub place : HasPlace a.standing a.kind a.form
  pub some : 1 ≤ a.depth
  pub few : a.depth ≤ 12

-- calls of procedures that are seen here
abbrev pub reach : Env → Reach
reach e s n levels = IsSeen e.procedures (chain e) s n levels

-- a value that is told, whatever lies in the variables
abbrev pub IsKnown : Env → Found → Type 0
IsKnown e a = IsFound (nothing e.types (seen e) e.withs (reach e)) a

-- ---- parameters
-- something lies in what is handed over, or in each element of an open array
abbrev pub ParameterTold : Table → Parameter → Type 0
ParameterTold t p = lies_at t p.sort ≡ true

-- the type of a procedure with such parameters, and such a result if it is a function
abbrev pub HeadingTold : Table → ℕ → Type 0
HeadingTold t s = AllFine (ParameterTold t) (parameters t s) × ResultTold t (result t s)

-- the variables of a procedure: those for its parameters, and behind them its own
abbrev pub AreHeaded : List Parameter → List RVar → Type 0
AreHeaded [] vs = AllFine (λ (v : RVar). IsPlain v.mode) vs
AreHeaded (p ∷ ps) [] = ⊥
AreHeaded (p ∷ ps) (v ∷ vs) = (v.sort ≡ p.sort) × (v.mode ≡ passing_by p) × AreHeaded ps vs

-- ---- names
-- the parameters of each resident procedure, but for those in whose headings a type of their own module stands
abbrev pub value : ℕ → Parameter
value s = record { by_place = false; open_array = false; sort = s }

abbrev pub place : ℕ → Parameter
place s = record { by_place = true; open_array = false; sort = s }

abbrev pub signature : Resident → Option (List Parameter)
signature r.Read = Some (place char ∷ [])
signature r.Write = Some (value char ∷ [])
signature r.WriteString = Some (record { by_place = false; open_array = true; sort = char } ∷ [])
signature r.WriteLn = Some []
signature r.WriteCard = Some (value cardinal ∷ value cardinal ∷ [])
signature r.WriteInt = Some (value integer ∷ value cardinal ∷ [])
signature r.WriteOct = Some (value cardinal ∷ value cardinal ∷ [])
signature r.WriteHex = Some (value cardinal ∷ value cardinal ∷ [])
signature r.Allocate = Some (place address ∷ value cardinal ∷ [])
signature r.Deallocate = Some (place address ∷ value cardinal ∷ [])
signature r.NewProcess = Some (value proc ∷ value address ∷ value cardinal ∷ place process ∷ [])
signature r.Transfer = Some (place process ∷ place process ∷ [])
signature r.Lookup = None
signature r.CloseFile = None
signature r.Reset = None
signature r.ReadChar = None
signature r.WriteChar = None
signature r.Call = None
signature r.OpenChannel = None
signature r.PutWord = None
signature r.GetWord = None
signature r.CloseChannel = None

-- a type is that of a proper procedure with these parameters, where they are told
abbrev pub IsSigned : Table → ℕ → Option (List Parameter) → Type 0
IsSigned types s None = Unit {0}
IsSigned types s (Some ps) = (parameters types s ≡ ps) × (result types s ≡ None)

-- what a name stands for is told, by the types and the texts of constants. In a program that runs none stands for a procedure of a
-- module that isn't resident
abbrev pub ThingTold : Table → List (List ℕ) → Thing → Type 0
ThingTold types texts (t.Constant kind) = KindTold types kind × IsBare kind
ThingTold types texts (t.Named n c) = (c.first ≤ 255) × ((cs : List ℕ) × (slice_get texts n ≡ Some cs) × TextTold c cs)
ThingTold types texts t.Nil = Unit {0}
ThingTold types texts (t.Variable v) = lies_at types v.sort ≡ true
ThingTold types texts (t.Type s) = built (t.Type s) ≡ true → lies_at types s ≡ true
ThingTold types texts (t.Procedure x) = HeadingTold types x.sort
ThingTold types texts (t.ExternalVariable v) = Unit {0}
ThingTold types texts (t.ExternalProcedure x) = ⊥
ThingTold types texts (t.Resident x s) = IsSigned types s (signature x)
ThingTold types texts (t.Standard x) = Unit {0}
ThingTold types texts (t.Module b) = Unit {0}
ThingTold types texts t.Hidden = Unit {0}
ThingTold types texts t.Broken = ⊥

-- the names of all blocks and their types are told, and where procedures and variables are declared
pub record EnvTold (e : Env) : Type 0 where
  pub types : IsTold e.types
  pub words : AreMeasured e.types
  pub names : AllFine (AllFine (λ (x : List ℕ × Entry). ThingTold e.types e.texts x.1.thing)) e.scopes.blocks
  pub homed : Homed e.scopes.blocks e.procedures e.variables e.locals
  pub stands : Stands e.scopes.outer e.scopes.inner e.procedures e.procedure
