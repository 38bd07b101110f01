-- What is told of an image with something wrong (own).
use Rattle.std.specs.Prelude.{ℕ, List}
use Rattle.rig_judge.specs.declared.judgment.Judgment.{Judgment}
use Rattle.rig_missing.specs.declared.missing.Missing.{Missing}

-- its number at the point, its judgment, and the calls that aren't down in it
pub record Told : Type 0 where
  pub image : ℕ
  pub judgment : Judgment
  pub missing : List Missing
