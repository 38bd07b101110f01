-- Images that are given to be kept (own).
use Rattle.std.specs.Prelude.{◌≡◌, ℕ, List, [], ◌∷◌, ◌++◌, Option, Some, None}
use Rattle.rig_images.specs.declared.image.Image.{Image}
use Rattle.rig_judge.specs.Judged.{IsFilesJudgment}
use Rattle.rig_judge.specs.declared.judgment.Judgment.{Judgment}
use Rattle.rig_judge.specs.declared.judgment.Judgment.TheVariants.{Kept}
use Rattle.sqcrash.specs.Runs.{RunState}
use Rattle.sqcrash.specs.Surveys.{Shows}

-- of the images that were given, each with its number at its point, these are more; where these are known
abbrev pub Keeps : (old new : Option (List (ℕ × Image))) → (more : List (ℕ × Image)) → Type 0
Keeps None new more = Unit {0}
Keeps (Some old) None more = ⊥
Keeps (Some old) (Some new) more = new ≡ old ++ more

-- what is shown of the image of a number is given where something is wrong with it
abbrev pub kept_of : (number : ℕ) → Judgment → (shown : Image) → List (ℕ × Image)
kept_of number (Kept k) shown = []
kept_of number j shown = (number, shown) ∷ []

-- the image of a number is judged, and what is shown of it given where something is wrong with it
abbrev pub KeepsWrong : RunState → Image → (number : ℕ) → (old new : Option (List (ℕ × Image))) → Type 0
KeepsWrong run image number old new =
    (j : Judgment) × (shown : Image) × IsFilesJudgment run.commits run.known image.db.items image.wal.items image.journal.items j
    × Shows run j image shown × Keeps old new (kept_of number j shown)
