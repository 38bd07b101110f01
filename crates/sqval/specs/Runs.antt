-- Whole runs of a machine (own).
use Rattle.std.specs.Prelude.{◌≡◌, ℕ, ◌≤◌, List, [], ◌∷◌}
use Rattle.sqval.specs.Answers.{Answer}

-- an event, what was answered, and the disk's count of refused calls when it ends
pub record Moment (A : Type 0) : Type 0 where
  pub act : A
  pub answer : Answer
  pub refused : ℕ

-- One moment after another leads from old to new, each by a row of the machine's table. `before` and `after` are the
-- counts at both ends.
abbrev pub Runs : {S A : Type 0} → (step : S → A → Answer → ℕ → ℕ → S → Type 0) → S → (before : ℕ) → List (Moment A) → S → (after : ℕ) → Type 0
Runs step old before [] new after = (new ≡ old) × (after ≡ before)
Runs {S} step old before (m ∷ ms) new after =
    (before ≤ m.refused) × ((mid : S) × step old m.act m.answer before m.refused mid × Runs step mid m.refused ms new after)

-- these moments are a run from this state on
abbrev pub IsRun : {S A : Type 0} → (step : S → A → Answer → ℕ → ℕ → S → Type 0) → S → List (Moment A) → Type 0
IsRun {S} step first ms = (new : S) × (after : ℕ) × Runs step first 0 ms new after
