-- Files are judged by their bytes.
use Rattle.std.proofs.Common.{◌≡◌, ℕ, List, Option, Some, sym, subst}
use Rattle.sqwal.specs.Took.{Took}
use Rattle.sqwal.specs.declared.scan.Scan.{Scan}
use Rattle.rig_images.specs.declared.image.Image.{Image}
use Rattle.rig_judge.specs.Shown.{Commit}
use Rattle.rig_judge.specs.Judged.{IsFilesJudgment}
use Rattle.rig_judge.specs.declared.judgment.Judgment.{Judgment}
use Rattle.sqcrash.specs.Surveys.{IsScanOf}

-- of the same bytes the judgment is the same
pub judged_of : (a b d db wal journal : List ℕ) (commits : List Commit) (known : ℕ) (j : Judgment) → a ≡ db → b ≡ wal → d ≡ journal → IsFilesJudgment commits known a b d j → IsFilesJudgment commits known db wal journal j
judged_of a b d db wal journal commits known j e f g is =
    subst (λ (x : List ℕ). IsFilesJudgment commits known x wal journal j) e
    (subst (λ (x : List ℕ). IsFilesJudgment commits known a x journal j) f
    (subst (λ (x : List ℕ). IsFilesJudgment commits known a b x j) g is))

-- and the scan
pub scan_of : (image : Image) (given : Option Scan) (scan : Scan) (b : List ℕ) → given ≡ Some scan → b ≡ image.wal.items → IsScanOf image given → Took b scan
scan_of image given scan b is same took = subst (λ (x : List ℕ). Took x scan) (sym same) (subst (IsScanOf image) is took)
