-- What refuses the steps of a run (own).
use Rattle.std.specs.Prelude.{◌≡◌, ◌⊎◌, ℕ, ◌+◌, ◌-◌, ◌*◌, ◌^◌, ◌<◌, ◌≤◌, List}
use Rattle.rig_play.specs.Plays.{Files, StepRefused}
use Rattle.rig_play.specs.declared.error.PlayError.{PlayError}
use Rattle.rig_play.specs.declared.trace.Record.{Record}
use Rattle.sqcrash.specs.Runs.{RunState}
use Rattle.sqcrash.specs.Surveys.{third_of}
use Rattle.sqcrash.specs.declared.outcome.Refusal.{Refusal}
use Rattle.sqcrash.specs.declared.outcome.Refusal.TheVariants as refusals
use Rattle.sqcrash.specs.declared.outcome.Refusal.TheVariants.{FileFailed, TooMany, Unwritten, NoMemory}
use Rattle.sqcrash.specs.declared.survey.Survey.{Survey}
use Rattle.sqcrash.specs.declared.survey.Tally.{Tally}

-- memory alone
abbrev pub IsOfMemory : Refusal → Type 0
IsOfMemory refusal = refusal ≡ NoMemory

-- memory, or the system of files
abbrev pub IsOfFiles : Refusal → Type 0
IsOfFiles refusal = (refusal ≡ NoMemory) ⊎ (refusal ≡ FileFailed)

-- a count of 64 bits has no next one
abbrev pub IsTooMany : (count : ℕ) → Refusal → Type 0
IsTooMany count refusal = (refusal ≡ TooMany) × (2 ^ 64 ≤ count + 1)

-- a record can't be played on these files, and is told by the place where it begins
abbrev pub IsUnplayed : Files → List ℕ → Record → Refusal → Type 0
IsUnplayed s b r refusal = (e : PlayError) × StepRefused s b r e × (refusal ≡ refusals.Record (r.from - 40) e)

-- what refuses to play a record
abbrev pub PlayRefused : List ℕ → Record → RunState → Refusal → Type 0
PlayRefused b r run refusal = IsOfMemory refusal ⊎ (IsTooMany run.played refusal ⊎ IsUnplayed run.files b r refusal)

-- the counts of images have room for so many more
pub record HasRoom (n : ℕ) (t : Tally) : Type 0 where
  pub images : t.images + n < 2 ^ 64
  pub lost : t.lost + n < 2 ^ 64
  pub mixed : t.mixed + n < 2 ^ 64
  pub faults : t.faults + n < 2 ^ 64

-- what refuses so many images more of a point, at most
abbrev pub JudgingRefused : (n : ℕ) → Survey → Refusal → Type 0
JudgingRefused n s refusal = IsOfFiles refusal ⊎ ((refusal ≡ TooMany) × ¬ (HasRoom n s.tally × (s.next + n < 2 ^ 64)))

-- how many images there are at a point, at most: those that aren't torn, and a third as many of each file
abbrev pub most_images : (limit : ℕ) → ℕ
most_images limit = limit + 3 * third_of limit

-- what refuses the images of one point more
abbrev pub SurveyRefused : (limit : ℕ) → (before : Tally) → Refusal → Type 0
SurveyRefused limit before refusal =
    IsOfFiles refusal ⊎ ((refusal ≡ TooMany) × ¬ ((before.points + 1 < 2 ^ 64) × HasRoom (most_images limit) before))

-- what refuses to write so many findings more behind others, at most
abbrev pub WriteRefused : (told n : ℕ) → Refusal → Type 0
WriteRefused told n refusal = (refusal ≡ Unwritten) ⊎ ((refusal ≡ TooMany) × (2 ^ 64 ≤ told + n))
