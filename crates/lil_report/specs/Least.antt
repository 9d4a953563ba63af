-- The order of faults.
use Rattle.std.specs.Prelude.{◌≡◌, ℕ, Bool, true, false, ◌||◌, ◌&&◌, nat_lt, nat_le, nat_eq, if◌then◌else◌, Option, Some, None}
use Rattle.lil_base.specs.{declared.fault.{Place.Place, FaultKind.FaultKind}, Faults.fault_number}
use Rattle.lil_report.specs.declared.report.Fault.{Fault}

abbrev pub number : Fault → ℕ
number f = fault_number f.kind

-- 90 NotBuilt: it comes behind all other faults
abbrev pub is_late : Fault → Bool
is_late f = nat_eq (number f) 90

-- the lesser place is before the greater, and at one place the lesser number
abbrev pub is_before : Fault → Fault → Bool
is_before f g = nat_lt f.place.offset g.place.offset || (nat_eq f.place.offset g.place.offset && nat_le (number f) (number g))

-- of a late fault and one that isn't, the one that isn't speaks, whatever their places
abbrev pub is_up_by : Bool → Bool → Bool → Bool
is_up_by false true b = true
is_up_by true false b = false
is_up_by false false b = b
is_up_by true true b = b

-- f speaks before g, or is as early
abbrev pub is_up_to : Fault → Fault → Bool
is_up_to f g = is_up_by (is_late f) (is_late g) (is_before f g)

unfoldable pub least : Fault → Fault → Fault
least f g = if is_up_to f g then f else g

unfoldable pub worse : Option Fault → Option Fault → Option Fault
worse None b = b
worse (Some f) None = Some f
worse (Some f) (Some g) = Some (least f g)

unfoldable pub when : Bool → Place → FaultKind → Option Fault
when true p k = Some (record { place = p; kind = k })
when false p k = None

-- the fault that speaks, where it isn't late
abbrev pub now_of : Option Fault → Option Fault
now_of None = None
now_of (Some f) = if is_late f then None else Some f

-- the fault that speaks, where it is late
abbrev pub late_of : Option Fault → Option Fault
late_of None = None
late_of (Some f) = if is_late f then Some f else None

-- f is the least of the faults that F tells
abbrev pub IsLeast : (Fault → Type 0) → Fault → Type 0
IsLeast F f = F f × ((g : Fault) → F g → is_up_to f g ≡ true)

-- the same where there may be none
abbrev pub Reports : (Fault → Type 0) → Option Fault → Type 0
Reports F None = (g : Fault) → F g → ⊥
Reports F (Some f) = IsLeast F f
