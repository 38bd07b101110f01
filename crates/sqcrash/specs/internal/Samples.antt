-- Images that are drawn until they are enough, as far as that has come (own).
use Rattle.std.specs.Prelude.{◌≡◌, ℕ, ◌/◌, ◌<◌, ◌≤◌, List, ◌++◌, length, map}
use Rattle.std.specs.List.{All, Contains}
use Rattle.rig_families.specs.Families.{IsLikely}
use Rattle.rig_families.specs.Versions.{Named}
use Rattle.rig_families.specs.Members.{IsMemberAt}
use Rattle.rig_images.specs.Keys.{key_of}
use Rattle.rig_images.specs.Left.{MayLeave}
use Rattle.rig_images.specs.declared.image.Image.{Image}
use Rattle.sqcrash.specs.Runs.{RunState}
use Rattle.sqcrash.specs.Samples.{IsSampled}
use Rattle.sqcrash.specs.Surveys.{Judged}
use Rattle.sqcrash.specs.declared.sample.Sample.{Sample}
use Rattle.sqcrash.specs.declared.survey.Survey.{Survey}

-- behind others, to which the image was added unless one of its key was there
pub record IsSampledOn (Left : Image → Type 0) (run : RunState) (limit : ℕ) (old : Survey) (before : List Judged) (image : Image) (sample : Sample) (new : Survey) : Type 0 where
  pub so : IsSampled Left run limit old sample new
  pub some : 0 < length so.judged
  pub more : List Judged
  pub longer : so.judged ≡ before ++ more
  pub of : All (λ x. x.image ≡ image) more
  pub has : Contains (map (λ x. key_of x.image) so.judged) (key_of image)

-- the likeliest images below a number were taken into a sample, and no more than half of the limit
pub record IsTaking (versions : List Named) (now : Named) (run : RunState) (limit : ℕ) (old : Survey) (sample : Sample) (new : Survey) (n : ℕ) : Type 0 where
  pub so : IsSampled (MayLeave run.files) run limit old sample new
  pub are : All (λ x. IsLikely run.files versions x.image) so.judged
  pub each : (k : ℕ) (image : Image) → k < n → IsMemberAt run.files versions now k image → Contains (map (λ x. key_of x.image) so.judged) (key_of image)
  pub left : limit / 2 ≤ sample.left
