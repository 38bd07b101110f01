-- What is set of a modelled disk changes nothing of its files.
use Rattle.sqworld.proofs.Words.{FailsAt, ModelDisk, SameFiles, ap, arith, refl, state_of, stopping_after, stopping_at_sync, subst, sym, ℕ, ◌<◌, ◌≡◌}
use Rattle.crashdisk.specs.declared.held.Part.{Part}
use Rattle.crashdisk.specs.declared.stops.Stops.{Stops}

set_files : (disk : ModelDisk) (stops : Stops) (part : Part) → SameFiles (state_of disk) (state_of (record disk { stops = stops; part = part }))
set_files disk stops part = record { sector = refl; tears = refl; db = refl; log = refl; kept = refl; handed = refl; refused = omega arith; count = disk.counted }

module _ (old new : ModelDisk) where
  pub same_count : new ≡ old → (state_of new).refused ≡ (state_of old).refused
  same_count is = ap (λ (m : ModelDisk). (state_of m).refused) is

  pub stopped_after_count : (calls : ℕ) → new ≡ stopping_after calls old → (state_of new).refused ≡ (state_of old).refused
  stopped_after_count calls is = ap (λ (m : ModelDisk). (state_of m).refused) is

  pub stopped_at_sync_count : (syncs : ℕ) → new ≡ stopping_at_sync syncs old → (state_of new).refused ≡ (state_of old).refused
  stopped_at_sync_count syncs is = ap (λ (m : ModelDisk). (state_of m).refused) is

  pub failing_count : (call : ℕ) (part : Part) → FailsAt call part old new → (state_of new).refused ≡ (state_of old).refused
  failing_count call part is = ap (λ (m : ModelDisk). (state_of m).refused) is.rest

  pub same_model : new ≡ old → SameFiles (state_of old) (state_of new)
  same_model is = subst (λ (m : ModelDisk). SameFiles (state_of old) (state_of m)) (sym is) (set_files old old.stops old.part)

  pub stopped_after : (calls : ℕ) → new ≡ stopping_after calls old → SameFiles (state_of old) (state_of new)
  stopped_after calls is = subst (λ (m : ModelDisk). SameFiles (state_of old) (state_of m)) (sym is) (set_files old (stopping_after calls old).stops old.part)

  pub stopped_at_sync : (syncs : ℕ) → new ≡ stopping_at_sync syncs old → SameFiles (state_of old) (state_of new)
  stopped_at_sync syncs is = subst (λ (m : ModelDisk). SameFiles (state_of old) (state_of m)) (sym is) (set_files old (stopping_at_sync syncs old).stops old.part)

  pub failing : (call : ℕ) (part : Part) → FailsAt call part old new → SameFiles (state_of old) (state_of new)
  failing call part is = subst (λ (m : ModelDisk). SameFiles (state_of old) (state_of m)) (sym is.rest) (set_files old (record old.stops { fails = call }) new.part)

-- where the count of refused calls is as it was, nothing is to be told
pub untold : {P : Type 0} (n m : ℕ) → m ≡ n → n < m → P
untold n m is less = absurd (omega (arith, is))
