-- What isn't down in what is shown of an image.
use Rattle.std.proofs.Common.{◌≡◌, ℕ, List, refl}
use Rattle.rig_images.specs.declared.image.Image.{Image}
use Rattle.rig_judge.specs.declared.judgment.Judgment.{Judgment}
use Rattle.rig_judge.specs.declared.judgment.Judgment.TheVariants.{Kept, Lost, Mixed, Fault, Refused}
use Rattle.rig_missing.specs.declared.missing.Missing.{Missing}
use Rattle.sqcrash.specs.Runs.{RunState, Explains}
use Rattle.sqcrash.specs.Surveys.{Shows, ExplainsWrong}

-- it explains what is wrong with the image
pub explained : (run : RunState) (image shown : Image) (j : Judgment) (missing : List Missing) → ((k : ℕ) → j ≡ Kept k → ⊥) → Shows run j image shown → Explains run shown missing → ExplainsWrong run image j missing
explained run image shown (Kept k) missing other shows is = absurd (other k refl)
explained run image shown (Lost k) missing other shows is = (shown, shows, is)
explained run image shown Mixed missing other shows is = (shown, shows, is)
explained run image shown (Fault e) missing other shows is = (shown, shows, is)
explained run image shown (Refused e) missing other shows is = (shown, shows, is)
