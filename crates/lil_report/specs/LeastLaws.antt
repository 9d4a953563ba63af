-- The least of all faults.
use Rattle.std.proofs.Common.{◌≡◌, ◌⊎◌, Bool, true, false, cond, List, [], ◌∷◌, Option, Some, None, if◌then◌else◌, refl, subst, sym, inl, inr, arith}
use Rattle.std.proofs.lemmas.Bool.Decides.{nat_tests}
use Rattle.lil_base.specs.declared.fault.{Place.Place, FaultKind.FaultKind}
use Rattle.lil_report.specs.{declared.report.Fault.Fault, Least.{is_late, is_before, is_up_by, is_up_to, least, worse, when, now_of, late_of, IsLeast, Reports}, Told.{Row, Stands, noted, tell}}

-- ---- the order of faults
before_no : (f g : Fault) → is_before f g ≡ false → is_before g f ≡ true
before_no f g e = grind (arith, nat_tests)

before_trans : (f g h : Fault) → is_before f g ≡ true → is_before g h ≡ true → is_before f h ≡ true
before_trans f g h p q = grind (arith, nat_tests)

no_by : (a b x y : Bool) → (x ≡ false → y ≡ true) → is_up_by a b x ≡ false → is_up_by b a y ≡ true
no_by a b x y k e = grind arith

pub up_no : (f g : Fault) → is_up_to f g ≡ false → is_up_to g f ≡ true
up_no f g e = no_by (is_late f) (is_late g) (is_before f g) (is_before g f) (before_no f g) e

pub up_refl : (f : Fault) → is_up_to f f ≡ true
up_refl f = grind (arith, up_no f f)

trans_by : (a b c x y z : Bool) → (x ≡ true → y ≡ true → z ≡ true) → is_up_by a b x ≡ true → is_up_by b c y ≡ true → is_up_by a c z ≡ true
trans_by a b c x y z k p q = grind arith

pub up_trans : (f g h : Fault) → is_up_to f g ≡ true → is_up_to g h ≡ true → is_up_to f h ≡ true
up_trans f g h p q = trans_by (is_late f) (is_late g) (is_late h) (is_before f g) (is_before g h) (is_before f h) (before_trans f g h) p q

module _ (P : Fault → Type 0) (f g : Fault) where
  least_by : (b : Bool) → is_up_to f g ≡ b → (b ≡ true → P f) → (b ≡ false → P g) → P (cond b f g)
  least_by true e x y = x refl
  least_by false e x y = y refl

  pub least_is : (is_up_to f g ≡ true → P f) → (is_up_to f g ≡ false → P g) → P (least f g)
  unfolding least
  least_is x y = least_by (is_up_to f g) refl x y

pub least_left : (f g : Fault) → is_up_to (least f g) f ≡ true
least_left f g = least_is (λ h. is_up_to h f ≡ true) f g (λ e. up_refl f) (λ e. up_no f g e)

pub least_right : (f g : Fault) → is_up_to (least f g) g ≡ true
least_right f g = least_is (λ h. is_up_to h g ≡ true) f g (λ e. e) (λ e. up_refl g)

-- ---- reports of a node's own faults
module _ (F G : Fault → Type 0) where
  pub reports_worse : (a b : Option Fault) → Reports F a → Reports G b → Reports (λ f. F f ⊎ G f) (worse a b)
  unfolding worse
  reports_worse None None p q = λ g h. elim h [ inl x ↦ p g x | inr x ↦ q g x ]
  reports_worse None (Some g) p q = (inr q.0, λ h x. elim x [ inl y ↦ absurd (p h y) | inr y ↦ q.1 h y ])
  reports_worse (Some f) None p q = (inl p.0, λ h x. elim x [ inl y ↦ p.1 h y | inr y ↦ absurd (q h y) ])
  reports_worse (Some f) (Some g) p q = (
    least_is (λ f. F f ⊎ G f) f g (λ e. inl p.0) (λ e. inr q.0),
    λ h x. elim x [ inl y ↦ up_trans (least f g) f h (least_left f g) (p.1 h y) | inr y ↦ up_trans (least f g) g h (least_right f g) (q.1 h y) ],
  )

  pub reports_as : (o : Option Fault) → ((f : Fault) → F f → G f) → ((f : Fault) → G f → F f) → Reports F o → Reports G o
  reports_as None to from p = λ g h. p g (from g h)
  reports_as (Some f) to from p = (to f p.0, λ g h. p.1 g (from g h))

pub reports_when : (b : Bool) (p : Place) (n : FaultKind) → Reports (λ f. (b ≡ true) × (f ≡ record { place = p; kind = n })) (when b p n)
unfolding when
reports_when true p n = ((refl, refl), λ g h. subst (λ g. is_up_to (record { place = p; kind = n }) g ≡ true) (sym h.1) (up_refl (record { place = p; kind = n })))
reports_when false p n = λ g h. absurd (cc)

-- ---- what is told of tests is the least fault of those that stand
abbrev pub Told : Row → Fault → Type 0
Told r f = (r.wrong ≡ true) × (f ≡ record { place = r.place; kind = r.kind })

from_left : (F : Fault → Type 0) (r : Row) (rs : List Row) (f : Fault) → (F f ⊎ Told r f) ⊎ Stands rs f → F f ⊎ Stands (r ∷ rs) f
from_left F r rs f (inl (inl h)) = inl h
from_left F r rs f (inl (inr h)) = inr (inl h)
from_left F r rs f (inr h) = inr (inr h)

from_right : (F : Fault → Type 0) (r : Row) (rs : List Row) (f : Fault) → F f ⊎ Stands (r ∷ rs) f → (F f ⊎ Told r f) ⊎ Stands rs f
from_right F r rs f (inl h) = inl (inl h)
from_right F r rs f (inr (inl h)) = inl (inr h)
from_right F r rs f (inr (inr h)) = inr h

reports_from : (F : Fault → Type 0) (o : Option Fault) (rs : List Row) → Reports F o → Reports (λ f. F f ⊎ Stands rs f) (tell o rs)
unfolding tell
reports_from F o [] p = reports_as F (λ f. F f ⊎ ⊥) o (λ f h. inl h) (λ f h. elim h [ inl x ↦ x | inr x ↦ absurd x ]) p
reports_from F o (r ∷ rs) p = reports_as _ _ (tell (noted o r) rs) (from_left F r rs) (from_right F r rs)
    (reports_from (λ f. F f ⊎ Told r f) (noted o r) rs (reports_worse F (Told r) o (when r.wrong r.place r.kind) p (reports_when r.wrong r.place r.kind)))

pub reports_tell : (rs : List Row) → Reports (Stands rs) (tell None rs)
reports_tell rs = reports_as _ _ (tell None rs) (λ f h. elim h [ inl x ↦ absurd x | inr x ↦ x ]) (λ f h. inr h) (reports_from (λ f. ⊥) None rs (λ g h. h))

-- ---- the faults that aren't late, and those that are
late_last : (a b x : Bool) → a ≡ true → b ≡ false → is_up_by a b x ≡ true → ⊥
late_last a b x e k h = grind arith

module _ (F : Fault → Type 0) where
  -- of those that aren't late, the least is the least of all, unless that is late
  now_by : (f : Fault) (b : Bool) → is_late f ≡ b → IsLeast F f → Reports (λ g. F g × (is_late g ≡ false)) (if b then None else Some f)
  now_by f false e h = ((h.0, e), λ g k. h.1 g k.0)
  now_by f true e h = λ g k. late_last (is_late f) (is_late g) (is_before f g) e k.1 (h.1 g k.0)

  pub reports_now : (o : Option Fault) → Reports F o → Reports (λ g. F g × (is_late g ≡ false)) (now_of o)
  reports_now None h = λ g k. h g k.0
  reports_now (Some f) h = now_by f (is_late f) refl h

  late_by : (f : Fault) (b : Bool) → is_late f ≡ b → IsLeast F f → (if b then None else Some f) ≡ None → Reports (λ g. F g × (is_late g ≡ true)) (if b then Some f else None)
  late_by f false e h none = absurd (cc)
  late_by f true e h none = ((h.0, e), λ g k. h.1 g k.0)

  -- where all are late
  pub reports_late : (o : Option Fault) → Reports F o → now_of o ≡ None → Reports (λ g. F g × (is_late g ≡ true)) (late_of o)
  reports_late None h none = λ g k. h g k.0
  reports_late (Some f) h none = late_by f (is_late f) refl h none
