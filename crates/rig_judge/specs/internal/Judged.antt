-- What is wrong with files that a crash left (own).
use Rattle.std.specs.Prelude.{◌≡◌, ◌≢◌, ℕ, ◌<◌, ◌≤◌, List, []}
use Rattle.sqview.specs.LogView.{ViewRefused}
use Rattle.sqview.specs.declared.view_error.ViewError.{ViewError}
use Rattle.sqview.specs.declared.view_error.ViewError.TheVariants.{NoMemory}
use Rattle.rig_judge.specs.declared.judgment.Judgment.{Judgment}
use Rattle.rig_judge.specs.declared.judgment.Judgment.TheVariants.{Kept, Lost}

-- the judgment by the number of the last commit that is shown: lost exactly where it is before the known one
abbrev pub IsPlaced : (shown known : ℕ) → Judgment → Type 0
IsPlaced shown known (Kept k) = (k ≡ shown) × (known ≤ shown)
IsPlaced shown known (Lost k) = (k ≡ shown) × (shown < known)
IsPlaced shown known _ = ⊥

-- what refuses the rolling back of a journal, where memory doesn't
abbrev pub IsRollRefused : (db journal : List ℕ) → ViewError → Type 0
IsRollRefused db journal e = (e ≢ NoMemory) × ViewRefused db [] journal e
