-- When a modelled disk stops, and which call of it fails (own).
use Rattle.std.specs.Prelude.{◌≡◌, ℕ, ◌-◌, Bool, true, false, ◌||◌, nat_eq, Option, Some, None, Result, Ok, Err, List}
use Rattle.crashdisk.specs.declared.stops.Stops.{Stops}
use Rattle.crashdisk.specs.declared.error.DiskError.{DiskError}
use Rattle.crashdisk.specs.declared.error.DiskError.TheVariants.{Stopped, Failed, TooLong, NoMemory}

-- no call is left
abbrev pub is_over : Option ℕ → Bool
is_over None = false
is_over (Some n) = nat_eq n 0

-- how many calls are left after one more
abbrev pub one_less : Option ℕ → Option ℕ
one_less None = None
one_less (Some n) = Some (n - 1)

-- nothing is set
abbrev pub no_stops : Stops
no_stops = record { stopped = false; calls = None; syncs = 0; fails = 0 }

-- A call is stopped where an earlier one was, or none is left; a sync also where it is the one to stop at.
abbrev pub stops_call : Stops → Bool
stops_call stops = stops.stopped || is_over stops.calls

abbrev pub stops_sync : Stops → Bool
stops_sync stops = stops_call stops || nat_eq stops.syncs 1

-- the call is the one to fail
abbrev pub fails_call : Stops → Bool
fails_call stops = nat_eq stops.fails 1

-- what stands after a call, and after a sync
abbrev pub after_call : Stops → Stops
after_call stops = record { stopped = stops_call stops; calls = one_less stops.calls; syncs = stops.syncs; fails = stops.fails - 1 }

abbrev pub after_sync : Stops → Stops
after_sync stops = record { stopped = stops_sync stops; calls = one_less stops.calls; syncs = stops.syncs - 1; fails = stops.fails - 1 }

-- What is set of a disk for the calls to come: whether it is a modelled one, of which a call is Stopped or Failed only where
-- that is set; its stops, and what the call that fails leaves. Of a real disk nothing is set, and that stays so.
pub record Settings : Type 0 where
  pub scripted : Bool
  pub stops : Stops
  pub pick : List ℕ
  pub new_len : Bool

-- what is set after a call that isn't a sync, and after a sync
abbrev pub past_call : Settings → Settings
past_call settings = record settings { stops = after_call settings.stops }

abbrev pub past_sync : Settings → Settings
past_sync settings = record settings { stops = after_sync settings.stops }

-- A call that is to stop answers Stopped, and one that is to fail no Ok; of a modelled disk no other call is Stopped or Failed.
abbrev pub Heeds : {T : Type 0} → (scripted stopped fails : Bool) → Result T DiskError → Type 0
Heeds scripted stopped fails (Ok _) = (stopped ≡ false) × (fails ≡ false)
Heeds scripted stopped fails (Err Stopped) = scripted ≡ true → stopped ≡ true
Heeds scripted stopped fails (Err TooLong) = stopped ≡ false
Heeds scripted stopped fails (Err NoMemory) = stopped ≡ false
Heeds scripted stopped fails (Err Failed) = (stopped ≡ false) × (scripted ≡ true → fails ≡ true)

-- Stopped is answered exactly where a call is stopped; one that isn't fails exactly where it is the one to fail, unless it is
-- refused for its place, or for want of memory where it takes some.
abbrev pub Judged : {T : Type 0} → (stopped fails wants : Bool) → Result T DiskError → Type 0
Judged stopped fails wants (Ok _) = (stopped ≡ false) × (fails ≡ false)
Judged stopped fails wants (Err Stopped) = stopped ≡ true
Judged stopped fails wants (Err TooLong) = stopped ≡ false
Judged stopped fails wants (Err NoMemory) = (stopped ≡ false) × (wants ≡ true)
Judged stopped fails wants (Err Failed) = (stopped ≡ false) × (fails ≡ true)
