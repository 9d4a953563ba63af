-- Properties of places and of expressions that come from their parts.
use Rattle.std.proofs.Common.{◌≡◌, ◌⊎◌, ℕ, suc, ◌+◌, ◌≤◌, ℤ, true, false, List, [], ◌∷◌, ◌++◌, length, slice_get, Option, Some}
use Rattle.std.specs.Prelude.{◌-◌}
use Rattle.lil_base.specs.{Words.Cardinal, declared.operator.{OneOp.OneOp, TwoOp.TwoOp}}
use Rattle.lil_kinds.specs.declared.found.Form.TheVariants as form
use Rattle.lil_types.specs.{Types.{Table, char}, declared.table.Parameter.Parameter}
use Rattle.lil_declared.specs.declared.declared.RVar.{RVar}
use Rattle.lil_kinds.specs.{Forms.{parameters, result}, declared.found.{Located.Located, OpenArray.OpenArray}}
use Rattle.lil_resolved.specs.{Resolved.{kind_of, right_kind}, Kinds.{Kind, OfWhole}, Sizes.{place_depth, depth}, Sound.{takes_one, takes_value, stores_value, takes_function, is_element, is_text}, Views.{base_view, kind_view, function_of, expression_of, place_of}}
use Rattle.lil_resolved.specs.declared.resolved.{RArgument.RArgument, RBase.RBase, RExpr.RExpr, RFunction.RFunction, RKind.RKind, RMember.RMember, RNamed.RNamed, ROperation.ROperation}
use Rattle.lil_resolved.specs.declared.resolved.RArgument.TheVariants as given
use Rattle.lil_resolved.specs.declared.resolved.RBase.TheVariants as b
use Rattle.lil_resolved.specs.declared.resolved.RExpr.TheVariants as e
use Rattle.lil_resolved.specs.declared.resolved.RMember.TheVariants as m
use Rattle.lil_resolved.specs.declared.resolved.RRoot.TheVariants as root
use Rattle.lil_resolved.specs.declared.resolved.RSelector.TheVariants as part
use Rattle.lil_shapes.specs.{Bases.{base_at, kind_at, field_at, array_at, elements_at}, ListLaws.AllFine, Operators.{has_number, takes_two}, Pointers.target_at, Signatures.ParameterLies, declared.{composites.ArrayParts.ArrayParts, pointers.Target.Target}}
use Rattle.lil_forms.specs.{Places.{variable_form, at_root, part_of}, Statements.opening, Values.operation}

-- the kind of an expression's values
abbrev pub value_kind : RExpr → Kind
value_kind x = kind_of (expression_of x)

-- which procedures of a text names reach: by their procedure types, their numbers, and how many procedures out they are declared
abbrev pub Reach : Type 1
Reach = ℕ → ℕ → ℕ → Type 0

-- ---- what is handed over for a parameter. Its code takes up to 13 words of the expression stack
module _ (t : Table) (Lies : Located → Type 0) (Opens : OpenArray → Type 0) (Runs : RExpr → Type 0) where
  -- a value that may be stored where one of the parameter's kind is wanted
  pub record IsValueFor (p : Parameter) (a : RArgument) : Type 0 where
    pub kind : RKind
    pub value : RExpr
    pub is : a ≡ given.Value kind value
    pub by_value : p.by_place ≡ false
    pub closed : p.open_array ≡ false
    pub at : kind_at t p.sort ≡ Some kind
    pub stores : stores_value (kind_view kind) (value_kind value) ≡ true
    pub shallow : depth (expression_of value) ≤ 13
    pub good : Runs value

  -- a place of the parameter's type
  pub record IsPlaceFor (p : Parameter) (a : RArgument) : Type 0 where
    pub at : Located
    pub is : a ≡ given.Place at.place
    pub by_place : p.by_place ≡ true
    pub closed : p.open_array ≡ false
    pub sort : at.sort ≡ p.sort
    pub shallow : place_depth (place_of at.place) ≤ 13
    pub good : Lies at

  -- all that lies at one
  pub record IsWholeFor (p : Parameter) (a : RArgument) : Type 0 where
    pub at : Located
    pub is : a ≡ given.All at.place
    pub by_value : p.by_place ≡ false
    pub closed : p.open_array ≡ false
    pub sort : at.sort ≡ p.sort
    pub shallow : place_depth (place_of at.place) ≤ 13
    pub good : Lies at

  -- an array of elements of the parameter's type, with the number of the last one
  pub record IsArrayFor (p : Parameter) (a : RArgument) : Type 0 where
    pub at : Located
    pub high : ℕ
    pub is : a ≡ given.Array (opening p.by_place) at.place high
    pub opens : p.open_array ≡ true
    pub parts : ArrayParts
    pub array : array_at t at.sort ≡ Some parts
    pub element : parts.element ≡ p.sort
    pub count : elements_at t at.sort ≡ Some (suc high)
    pub few : high ≤ 65535
    pub shallow : place_depth (place_of at.place) ≤ 13
    pub good : Lies at

  -- a string
  pub record IsTextFor (p : Parameter) (a : RArgument) : Type 0 where
    pub text : List ℕ
    pub is : a ≡ given.Text text
    pub by_value : p.by_place ≡ false
    pub opens : p.open_array ≡ true
    pub sort : p.sort ≡ char
    pub told : is_text text ≡ true

  -- a string for an array of characters, with the number of these
  pub record IsSpelledFor (p : Parameter) (a : RArgument) : Type 0 where
    pub text : List ℕ
    pub count : ℕ
    pub is : a ≡ given.Spelled text count
    pub by_value : p.by_place ≡ false
    pub closed : p.open_array ≡ false
    pub parts : ArrayParts
    pub array : array_at t p.sort ≡ Some parts
    pub element : parts.element ≡ char
    pub many : elements_at t p.sort ≡ Some count
    pub holds : length text ≤ count
    pub few : count ≤ 65535
    pub told : is_text text ≡ true

  -- another open array of such elements
  pub record IsOpenFor (p : Parameter) (a : RArgument) : Type 0 where
    pub at : OpenArray
    pub is : a ≡ given.Opened (opening p.by_place) at.levels at.number
    pub opens : p.open_array ≡ true
    pub sort : at.sort ≡ p.sort
    pub good : Opens at

  abbrev pub IsHanded : Parameter → RArgument → Type 0
  IsHanded p a = IsValueFor p a ⊎ (IsPlaceFor p a ⊎ (IsWholeFor p a ⊎ (IsArrayFor p a ⊎ (IsTextFor p a ⊎ (IsOpenFor p a ⊎ IsSpelledFor p a)))))

  abbrev pub AreHanded : List Parameter → List RArgument → Type 0
  AreHanded [] [] = Unit {0}
  AreHanded [] (a ∷ xs) = ⊥
  AreHanded (p ∷ ps) [] = ⊥
  AreHanded (p ∷ ps) (a ∷ xs) = IsHanded p a × AreHanded ps xs

-- one of what designators reach, and one of expressions, over a table of types, the variables that are seen, the records of the WITHs around
-- and the procedures that names reach
pub record Property (t : Table) (vs : RNamed → Option RVar) (around : List ℕ) (R : Reach) : Type 1 where
  pub place : Located → Type 0
  pub array : OpenArray → Type 0
  pub value : RExpr → Type 0
  -- places
  pub variable : (n : RNamed) (v : RVar) (p : Located) → vs n ≡ Some v → variable_form n v.mode v.sort ≡ form.Located p → place p
  pub held : (w s : ℕ) → slice_get around w ≡ Some s → place (at_root (root.Held (length around - 1 - w)) s)
  pub field : (p : Located) (i s : ℕ) → field_at t p.sort i ≡ Some s → place p → place (part_of p (part.Field i) s)
  pub index : (p : Located) (parts : ArrayParts) (j : RKind) (x : RExpr) → array_at t p.sort ≡ Some parts → kind_at t parts.index ≡ Some j → takes_value (kind_view j) (value_kind x) ≡ true → place p → value x
      → place (part_of p (part.Index j x) parts.element)
  pub along : (a : OpenArray) (x : RExpr) → takes_value (OfWhole Cardinal) (value_kind x) ≡ true → array a → value x → place (at_root (root.Along a.levels a.number x) a.sort)
  pub follow : (p : Located) (x : Target) → target_at t p.sort ≡ Some x → place p → place (part_of p (part.Follow x.pointer) x.sort)
  -- open arrays
  pub opened : (n : RNamed) (v : RVar) (a : OpenArray) → vs n ≡ Some v → variable_form n v.mode v.sort ≡ form.Open a → array a
  pub high : (a : OpenArray) → array a → value (e.High a.levels a.number)
  -- constants, what lies at places, a sign or NOT, standard functions,
  pub constant : (k : RBase) (z : ℤ) → has_number k z ≡ true → value (e.Constant k z)
  pub taken : (p : Located) (j : RKind) → kind_at t p.sort ≡ Some j → place p → value (e.Taken p.place j)
  pub one : (op : OneOp) (x : RExpr) → takes_one op (value_kind x) ≡ true → value x → value (e.One op x)
  pub apply : (g : RFunction) (x : RExpr) → takes_function (function_of g (value_kind x)) (value_kind x) ≡ true → value x → value (e.Apply g x)
  -- and calls of functions, by their numbers from 1
  pub invoke : (s n levels r : ℕ) (j : RKind) (xs : List RArgument) → R s n levels → result t s ≡ Some r → kind_at t r ≡ Some j → AreHanded t place array value (parameters t s) xs → value (e.Invoke (n + 1) levels j xs)
  -- procedures that no other one declares, as values of a procedure type with their parameters and their result
  pub routine : (s n r : ℕ) → R s n 0 → base_at t r ≡ Some (b.Procedure r) → parameters t s ≡ parameters t r → result t s ≡ result t r → value (e.Routine (n + 1) r)
  -- and calls of functions that are values of one in whose parameters something lies
  pub invoke_value : (s r : ℕ) (j : RKind) (x : RExpr) (xs : List RArgument) → base_at t s ≡ Some (b.Procedure s) → AllFine (ParameterLies t) (parameters t s) → result t s ≡ Some r → kind_at t r ≡ Some j → value_kind x ≡ base_view (b.Procedure s)
      → depth (expression_of x) ≤ 13 → value x → AreHanded t place array value (parameters t s) xs → value (e.InvokeValue x j xs)
  -- chains, and one operation more
  pub begin : (x : RExpr) → value x → value (e.Chain x [])
  pub chain : (op : TwoOp) (a : RExpr) (os : List ROperation) (k : RBase) (x : RExpr) → value_kind (e.Chain a os) ≡ base_view k → takes_two op (base_view k) ≡ true → value_kind x ≡ right_kind op (base_view k)
      → value (e.Chain a os) → value x → value (e.Chain a (os ++ operation op x ∷ []))
  -- sets, and one member more
  pub empty : (k : RKind) → value (e.Set k [])
  pub single : (k : RKind) (ms : List RMember) (x : RExpr) → is_element (kind_view k) ≡ true → takes_value (kind_view k) (value_kind x) ≡ true → value (e.Set k ms) → value x → value (e.Set k (ms ++ m.Single x ∷ []))
  pub span : (k : RKind) (ms : List RMember) (x y : RExpr) → is_element (kind_view k) ≡ true → takes_value (kind_view k) (value_kind x) ≡ true → takes_value (kind_view k) (value_kind y) ≡ true
      → value (e.Set k ms) → value x → value y → value (e.Set k (ms ++ m.Span x y ∷ []))

-- none at all
abbrev pub nothing : (t : Table) (vs : RNamed → Option RVar) (around : List ℕ) (R : Reach) → Property t vs around R
nothing t vs around R = record {
  place = λ p. Unit {0};
  array = λ a. Unit {0};
  value = λ x. Unit {0};
  variable = λ n v p is leads. tt;
  held = λ w s is. tt;
  field = λ p i s is h. tt;
  index = λ p parts j x at kind takes h i. tt;
  along = λ a x takes h i. tt;
  follow = λ p x at h. tt;
  opened = λ n v a is leads. tt;
  high = λ a h. tt;
  constant = λ k z is. tt;
  taken = λ p j is h. tt;
  one = λ op x takes h. tt;
  apply = λ g x takes h. tt;
  invoke = λ s n levels r j xs reached returns at all. tt;
  routine = λ s n r reached is takes returns. tt;
  invoke_value = λ s r j x xs is lie returns at kind shallow h all. tt;
  begin = λ x h. tt;
  chain = λ op a os k x is takes right h i. tt;
  empty = λ k. tt;
  single = λ k ms x of takes h i. tt;
  span = λ k ms x y of takes last h i l. tt;
}
