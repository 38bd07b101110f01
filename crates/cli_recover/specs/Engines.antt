-- What a plan comes to that is carried out on a disk of a database file and the log that counts (own).
use Rattle.std.specs.Prelude.{◌≡◌, ◌⊎◌, ◌≤◌, ℕ, zero, suc, true, false, Result, Ok, Err}
use Rattle.sqval.specs.Limits.{Bounds}
use Rattle.crashdisk.specs.Call.{DiskState}
use Rattle.walcore.specs.Copying.{FoldsFileWithin}
use Rattle.walcore.specs.declared.error.WalError.{WalError}
use Rattle.walcore.specs.declared.folding.Folded.{Folded}
use Rattle.rollcore.specs.Copying.{ReplaysFileWithin}
use Rattle.rollcore.specs.declared.error.RollError.{RollError}
use Rattle.rollcore.specs.declared.replaying.Replayed.{Replayed}
use Rattle.cli_facts.specs.declared.outcome.Outcome.{Outcome}
use Rattle.cli_facts.specs.declared.outcome.Outcome.TheVariants as outcomes
use Rattle.cli_facts.specs.declared.outcome.Refusal.{Refusal}
use Rattle.cli_facts.specs.declared.outcome.Refusal.TheVariants.{PageSizesDiffer, TooLarge}
use Rattle.cli_files.specs.Refusals.{IsFromSystem}
use Rattle.cli_recover.specs.Refusals.{refusal_of_roll, refusal_of_wal}
use Rattle.cli_recover.specs.declared.plans.Recovery.{Recovery}
use Rattle.cli_recover.specs.declared.plans.Recovery.TheVariants.{Nothing, Empty, Fold, RollBack}

-- so many frames of a log that was folded, and pages of its database
abbrev pub folded_as : (frames pages : ℕ) → Outcome
folded_as zero pages = outcomes.NoFront
folded_as (suc n) pages = outcomes.Folded (suc n) pages

-- what a fold answered, and what a replay did
abbrev pub answer_of_fold : Result Folded WalError → Result Outcome Refusal
answer_of_fold (Ok folded) = Ok (folded_as folded.frames folded.size)
answer_of_fold (Err error) = Err (refusal_of_wal error)

abbrev pub replayed_as : Replayed → Outcome
replayed_as r = elim r.hot [ true ↦ outcomes.RolledBack r.records r.size | false ↦ outcomes.Nothing ]

abbrev pub answer_of_replay : Result Replayed RollError → Result Outcome Refusal
answer_of_replay (Ok replayed) = Ok (replayed_as replayed)
answer_of_replay (Err error) = Err (refusal_of_roll error)

-- the log was folded into the file, in pages of this size
abbrev pub FoldsTo : Bounds → (size : ℕ) → Result Outcome Refusal → (old new : DiskState) → Type 0
FoldsTo limits size result old new = (folded : Result Folded WalError) × FoldsFileWithin limits size folded old new × (result ≡ answer_of_fold folded)

-- the journal was replayed into it
abbrev pub ReplaysTo : Bounds → Result Outcome Refusal → (old new : DiskState) → Type 0
ReplaysTo limits result old new = (replayed : Result Replayed RollError) × ReplaysFileWithin limits.bytes replayed old new × (result ≡ answer_of_replay replayed)

-- What a plan comes to: nothing is done, or a log is folded in the size of its pages, one without a valid header in the
-- smallest, or the journal replayed.
abbrev pub CarriesOut : Bounds → Recovery → Result Outcome Refusal → (old new : DiskState) → Type 0
CarriesOut limits Nothing result old new = (result ≡ Ok outcomes.Nothing) × (new ≡ old)
CarriesOut limits Empty result old new = FoldsTo limits 512 result old new
CarriesOut limits (Fold size scan) result old new = FoldsTo limits size result old new
CarriesOut limits RollBack result old new = ReplaysTo limits result old new

-- the outcomes of a fold, and of a replay
abbrev pub IsOfFold : Outcome → Type 0
IsOfFold outcomes.NoFront = Unit {0}
IsOfFold (outcomes.Folded frames pages) = 1 ≤ frames
IsOfFold _ = ⊥

abbrev pub IsOfReplay : Outcome → Type 0
IsOfReplay outcomes.Nothing = Unit {0}
IsOfReplay (outcomes.RolledBack records pages) = Unit {0}
IsOfReplay _ = ⊥

-- the outcomes to which a plan may come
abbrev pub IsOutcomeOf : Recovery → Outcome → Type 0
IsOutcomeOf Nothing outcome = outcome ≡ outcomes.Nothing
IsOutcomeOf Empty outcome = IsOfFold outcome
IsOutcomeOf (Fold size scan) outcome = IsOfFold outcome
IsOutcomeOf RollBack outcome = IsOfReplay outcome

-- what refuses a fold, and a replay
abbrev pub IsUnfolded : Refusal → Type 0
IsUnfolded refusal = (refusal ≡ TooLarge) ⊎ ((refusal ≡ PageSizesDiffer) ⊎ IsFromSystem refusal)

abbrev pub IsUnreplayed : Refusal → Type 0
IsUnreplayed refusal = (refusal ≡ TooLarge) ⊎ IsFromSystem refusal

-- what refuses a plan
abbrev pub IsRefusalOf : Recovery → Refusal → Type 0
IsRefusalOf Nothing refusal = ⊥
IsRefusalOf Empty refusal = IsUnfolded refusal
IsRefusalOf (Fold size scan) refusal = IsUnfolded refusal
IsRefusalOf RollBack refusal = IsUnreplayed refusal
