-- The fault that a survey found.
use Rattle.std.proofs.Common.{inl, inr, ⊎_elim, ℕ, Bool, List, refl}
use Rattle.std.specs.Prelude.{Ok, Err}
use Rattle.sqval.specs.Limits.{Bounds}
use Rattle.sqview.specs.LogView.{pages_of}
use Rattle.cli_words.specs.declared.requests.Commit.{Commit}
use Rattle.cli_show.specs.Found.{IsFoundOf, fault_in}
use Rattle.cli_show.specs.declared.contents.Contents.{Contents}
use Rattle.cli_show.specs.declared.surveys.Found.{Found}
use Rattle.cli_show.specs.declared.surveys.Found.TheVariants as surveys
use Rattle.cli_show.proofs.AskedFronts.{shows_asked}
use Rattle.cli_job.specs.Faults.{HaveFault}

-- the fault that was found is one that the files have
pub fault_had : {F : Type 0} (maps : Bool) (limits : Bounds) (bytes : F → List ℕ) (at : Commit) (files : Contents (List ℕ)) (found : Found F)
    → IsFoundOf maps limits bytes at files found → HaveFault maps limits at files (fault_in found)
fault_had maps limits bytes at files (surveys.Pages found) is =
    inl (
      found.view.page_size,
      pages_of bytes found.view,
      shows_asked limits bytes files.db files.wal files.journal found.view at is.view,
      (Ok found.survey, is.survey, refl),
    )
fault_had maps limits bytes at files (surveys.Nothing error) is =
    ⊎_elim inr (λ s. inl (s.0, s.1, s.2, (Err error, s.3, refl))) is
