-- The tests of a phrase, and the faults that stand in it.
use Rattle.std.specs.Prelude.{◌≡◌, ◌⊎◌, Bool, true, List, [], ◌∷◌, ◌++◌, Option, Some, None, is_none}
use Rattle.lil_base.specs.declared.fault.{Place.Place, FaultKind.FaultKind}
use Rattle.lil_report.specs.{declared.report.Fault.Fault, Least.{worse, when, now_of}}

-- a test of a node: what is wrong there is this fault
pub record Row : Type 0 where
  pub wrong : Bool
  pub place : Place
  pub kind : FaultKind

abbrev pub row : Bool → Place → FaultKind → Row
row b p k = record { wrong = b; place = p; kind = k }

-- the faults that stand: those of the tests that find something wrong
abbrev pub Stands : List Row → Fault → Type 0
Stands [] f = ⊥
Stands (r ∷ rs) f = ((r.wrong ≡ true) × (f ≡ record { place = r.place; kind = r.kind })) ⊎ Stands rs f

abbrev pub noted : Option Fault → Row → Option Fault
noted o r = worse o (when r.wrong r.place r.kind)

-- the least after these tests too
unfoldable pub tell : Option Fault → List Row → Option Fault
tell o [] = o
tell o (r ∷ rs) = tell (noted o r) rs

-- what other tests found, as one test
abbrev pub rows_of : Option Fault → List Row
rows_of None = []
rows_of (Some f) = row true f.place f.kind ∷ []

-- no test finds a fault, or none but a form that isn't built
abbrev pub has_no_fault : List Row → Bool
has_no_fault rs = is_none (now_of (tell None rs))

-- what a phrase means: a value, and the tests of its nodes
abbrev pub Told : Type 0 → Type 0
Told A = A × List Row

-- a phrase without tests of its own
abbrev pub pure : {A : Type 0} → A → A × List Row
pure a = (a, [])

-- a phrase after another that it builds on
unfoldable pub after : {A B : Type 0} → A × List Row → (A → B × List Row) → B × List Row
after m k = ((k m.0).0, m.1 ++ (k m.0).1)

-- what a call says of a phrase: its value, and the least fault after its tests
pub record Said {A : Type 0} (m : A × List Row) (r : Option Fault) (a : A) (s : Option Fault) : Type 0 where
  pub value : a ≡ m.0
  pub told : s ≡ tell r m.1

-- a walk through a list: each item builds on what stands before it
abbrev pub walk : {S X : Type 0} → (S → X → S × List Row) → S → List X → S × List Row
walk f s [] = (s, [])
walk f s (x ∷ xs) = after (f s x) (λ s. walk f s xs)
