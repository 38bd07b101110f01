-- Images that are taken into a sample, each once (own).
use Rattle.std.specs.Prelude.{◌≡◌, ◌⊎◌, ℕ, suc, ◌+◌, Bool, true, false, cond, nat_eq, List, ◌++◌, length, map}
use Rattle.std.specs.HashSet.{contains}
use Rattle.std.specs.List.{All, AllPairs, Contains}
use Rattle.rig_families.specs.Versions.{Named}
use Rattle.rig_images.specs.Keys.{key_of}
use Rattle.rig_images.specs.Left.{MayLeave}
use Rattle.rig_images.specs.declared.image.Image.{Image}
use Rattle.sqcrash.specs.Runs.{RunState}
use Rattle.sqcrash.specs.Surveys.{AreLikeliestFirst, AreSame, IsJudgedBy, Judged, Tells, with_image, finding_of}
use Rattle.rig_judge.specs.declared.judgment.Judgment.{Judgment}
use Rattle.rig_missing.specs.declared.missing.Missing.{Missing}
use Rattle.sqcrash.specs.declared.sample.Sample.{Sample}
use Rattle.sqcrash.specs.declared.survey.Survey.{Survey}

-- an image of this key was taken into a sample, or wasn't, as one of the key was taken before or there are enough
abbrev pub Takes : (key : ℕ) (taken : Bool) → (old new : Sample) → Type 0
Takes key true old new = (contains nat_eq old.keys key ≡ false) × (old.left ≡ suc new.left) × ((q : ℕ) → contains nat_eq new.keys q ≡ cond (nat_eq key q) true (contains nat_eq old.keys q))
Takes key false old new = ((old.left ≡ 0) ⊎ (contains nat_eq old.keys key ≡ true)) × (old.left ≡ new.left) × ((q : ℕ) → contains nat_eq new.keys q ≡ contains nat_eq old.keys q)

-- an image that is judged so, and in which these calls aren't down, is counted and told
pub record Adds (j : Judgment) (missing : List Missing) (old new : Survey) : Type 0 where
  pub tally : new.tally ≡ with_image old.tally j
  pub findings : new.findings.items ≡ old.findings.items ++ finding_of old.next j missing
  pub next : new.next ≡ old.next + 1

-- one image more is judged
abbrev pub TakesOne : RunState → Image → (old new : Survey) → Type 0
TakesOne run image old new = (j : Judgment) × (missing : List Missing) × IsJudgedBy run (record { image = image; judgment = j; missing = missing }) × Adds j missing old new

-- an image is taken and judged, or passed over
abbrev pub GoesOn : RunState → Image → (old new : Sample) → (before after : Survey) → Type 0
GoesOn run image old new before after =
    (Takes (key_of image) true old new × TakesOne run image before after) ⊎ (Takes (key_of image) false old new × (after ≡ before))

-- the images that were taken into a sample are judged, and others of that kind may follow
pub record IsSampled (Left : Image → Type 0) (run : RunState) (limit : ℕ) (old : Survey) (sample : Sample) (new : Survey) : Type 0 where
  pub judged : List Judged
  pub left : All (λ x. Left x.image) judged
  pub differ : AllPairs (λ x y. ¬ AreSame x.image y.image) judged
  pub only : (q : ℕ) → contains nat_eq sample.keys q ≡ true → Contains (map (λ x. key_of x.image) judged) q
  pub keyed : All (λ x. contains nat_eq sample.keys (key_of x.image) ≡ true) judged
  pub none : length judged ≡ 0 → (q : ℕ) → contains nat_eq sample.keys q ≡ false
  pub count : length judged + sample.left ≡ limit
  pub told : Tells run judged old new

-- the likeliest were, and others may follow
pub record IsDrawing (versions : List Named) (run : RunState) (limit : ℕ) (old : Survey) (sample : Sample) (new : Survey) : Type 0 where
  pub so : IsSampled (MayLeave run.files) run limit old sample new
  pub likeliest : AreLikeliestFirst run.files versions limit so.judged
