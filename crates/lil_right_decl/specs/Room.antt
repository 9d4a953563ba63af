-- Each interface is entered once: how many types those that aren't entered yet may still bring.
use Rattle.std.proofs.Common.{◌≡◌, ℕ, ◌+◌, ◌≤◌, Bool, true, false, List, [], ◌∷◌, ◌++◌, length, Option, Some, None, if◌then◌else◌, refl, sym, ap, ◌∙◌, arith}
use Rattle.std.specs.Cmp.Lexicographic.{bytes_decides}
use Rattle.std.proofs.lemmas.Option.{none-some}
use Rattle.lil_scope.specs.Names.{same}
use Rattle.lil_shapes.specs.ListLaws.{AllFine}
use Rattle.lil_interfaces.specs.{declared.{modules.Entered.Entered, surface.Interface.Interface}, Interfaces.named, Imports.block_of}

abbrev types_if : Option ℕ → Interface → ℕ
types_if None i = length i.types
types_if (Some b) i = 0

abbrev pub types_left : List Interface → List Entered → ℕ
types_left [] ms = 0
types_left (i ∷ is) ms = types_if (block_of ms i.name) i + types_left is ms

-- the interface of a name is one of them
pub named_fine : (P : Interface → Type 0) (is : List Interface) (n : List ℕ) (i : Interface) → AllFine P is → named is n ≡ Some i → P i
named_fine P [] n i all h = absurd (none-some i h)
named_fine P (x ∷ is) n i all h = grind (arith, named_fine P is n i all.1)

pub named_same : (is : List Interface) (n : List ℕ) (i : Interface) → named is n ≡ Some i → same n i.name ≡ true
named_same [] n i h = absurd (none-some i h)
named_same (x ∷ is) n i h = grind (arith, named_same is n i)

abbrev first_or : Option ℕ → Option ℕ → Option ℕ
first_or None o = o
first_or (Some b) o = Some b

-- a module more
module _ (m : Entered) where
  entered_more : (ms : List Entered) (n : List ℕ) → block_of (ms ++ m ∷ []) n ≡ first_or (block_of ms n) (block_of (m ∷ []) n)
  entered_more [] n = refl
  entered_more (x ∷ ms) n = grind (arith, entered_more ms n)

  pub not_before : (ms : List Entered) (n : List ℕ) → block_of (ms ++ m ∷ []) n ≡ None → (block_of ms n ≡ None) × (same n m.name ≡ false)
  not_before ms n none = by (block_of ms n) refl (same n m.name) refl
    where
      by : (o : Option ℕ) → block_of ms n ≡ o → (c : Bool) → same n m.name ≡ c → (block_of ms n ≡ None) × (same n m.name ≡ false)
      by None old false is = (old, is)
      by None old true is = absurd (none-some m.block (sym none ∙ entered_more ms n ∙ (λ j. first_or (old j) (if is j then Some m.block else None))))
      by (Some b) old c is = absurd (none-some b (sym none ∙ entered_more ms n ∙ ap (λ o. first_or o (block_of (m ∷ []) n)) old))

  fewer : (i : Interface) (ms : List Entered) → types_if (block_of (ms ++ m ∷ []) i.name) i ≤ types_if (block_of ms i.name) i
  fewer i ms = grind (arith, entered_more ms i.name)

  its_own : (i : Interface) (ms : List Entered) → m.name ≡ i.name → types_if (block_of (ms ++ m ∷ []) i.name) i ≡ 0
  its_own i ms is = grind (arith, entered_more ms i.name, (bytes_decides i.name i.name).1 refl)

  pub none_more : (is : List Interface) (ms : List Entered) → types_left is (ms ++ m ∷ []) ≤ types_left is ms
  none_more [] ms = omega arith
  none_more (i ∷ is) ms = omega (arith, fewer i ms, none_more is ms)

  pub entered_once : (is : List Interface) (ms : List Entered) (i : Interface) → named is m.name ≡ Some i → block_of ms m.name ≡ None → length i.types + types_left is (ms ++ m ∷ []) ≤ types_left is ms
  entered_once [] ms i h none = absurd (none-some i h)
  entered_once (x ∷ is) ms i h none = grind (arith, entered_once is ms i, none_more is ms, fewer x ms, its_own x ms, (bytes_decides m.name x.name).0)
