-- Counts of faults, and what an answer says of them.
use Rattle.std.specs.Prelude.{◌≡◌, ℕ, ◌+◌, ◌-◌, ◌^◌, ◌≤◌, min, Bool, true, false, Contains, Result, OnOk, OnErr, IsErrOf}
use Rattle.lil_volume.specs.declared.{schedule.Schedule.Schedule, outside.VolumeError.{VolumeError, TheVariants.Failed}}

-- the next value of a count that stops at the greatest u64
abbrev pub next_count : ℕ → ℕ
next_count n = min (n + 1) (2 ^ 64 - 1)

-- the count grew, or stands at the greatest u64
abbrev pub Rose : ℕ → ℕ → Type 0
Rose before now = min (before + 1) (2 ^ 64 - 1) ≤ now

-- the count never falls, rose where the call failed, and is the same where it did not
pub record HasCause {T E : Type 0} (before now : ℕ) (result : Result T E) : Type 0 where
  pub later : before ≤ now
  pub failed : OnErr result (Rose before now)
  pub quiet : OnOk result (now ≡ before)

-- the same for a call that may also want memory
pub record VolumeCause {T : Type 0} (before now : ℕ) (result : Result T VolumeError) : Type 0 where
  pub later : before ≤ now
  pub failed : IsErrOf result Failed → Rose before now
  pub quiet : OnOk result (now ≡ before)

-- the count rose exactly where a failure is to be counted
pub record Counted (before now : ℕ) (failed : Bool) : Type 0 where
  pub later : before ≤ now
  pub rose : failed ≡ true → Rose before now
  pub quiet : failed ≡ false → now ≡ before

-- the next call of an object in memory is one of those that are to fail
abbrev pub IsListed : Schedule → Type 0
IsListed s = Contains s.failing.items (next_count s.calls)

-- a call of an object in memory counts, and the list of the calls that are to fail stays
pub record Scheduled (before now : Schedule) : Type 0 where
  pub counted : now.calls ≡ next_count before.calls
  pub kept : now.failing.items ≡ before.failing.items
