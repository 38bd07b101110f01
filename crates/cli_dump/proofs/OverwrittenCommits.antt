-- A commit that isn't known, and why.
use Rattle.std.proofs.Common.{◌≡◌, ◌≤◌, ◌<◌, ℕ, List, Option, Some, None, refl, sym, subst, arith}
use Rattle.sqval.specs.Limits.{Bounds}
use Rattle.sqwal.specs.Frames.{IsFront}
use Rattle.sqwal.specs.Header.{named_size}
use Rattle.sqwal.proofs.log.UniquenessOfView.{front_unique}
use Rattle.sqjournal.specs.Journal.{IsHot}
use Rattle.sqpast.specs.Files.{PastRefusedWithin}
use Rattle.sqpast.specs.declared.past_error.PastError.TheVariants.{CommitOverwritten}
use Rattle.sqpast.proofs.known.BeforeCommits.{front_header}
use Rattle.view_loss.specs.Losses.{IsLossOf}
use Rattle.view_loss.specs.declared.loss.Loss.{Loss}
use Rattle.view_loss.proofs.PagesCounted.{none_unknown}
use Rattle.cli_history.specs.Ranges.{IsNextKnown}
use Rattle.cli_history.specs.declared.files.Files.{Files}
use Rattle.cli_dump.specs.Overwritten.{IsOverwrittenAt}
use Rattle.cli_show.specs.LogsShown.{IsLogFound}
use Rattle.cli_show.specs.declared.logs.LogFound.TheVariants as found

module _ (limits : Bounds) (files : Files (List ℕ)) (at : ℕ) where
  -- beside no write-ahead log that counts none is
  pub none_without : IsLogFound limits files.wal files.journal found.None → IsOverwrittenAt limits files at None
  none_without log refused = log.1 (front_header files.wal refused.0 refused.1.some refused.1.is)

  pub none_beside : IsHot files.journal → IsOverwrittenAt limits files at None
  none_beside hot refused = refused.1.cold hot

  module _ (frames : ℕ) (is : IsFront (named_size files.wal) files.wal frames) where
    -- at the front and after it none is
    pub none_after : frames ≤ at → IsOverwrittenAt limits files at None
    none_after above refused =
        let same = front_unique (named_size files.wal) files.wal frames refused.0 is refused.1.is in
        omega (arith, refused.3, same)

    pub none_known : at < frames → IsLossOf (named_size files.wal) files.wal frames files.db at None → IsOverwrittenAt limits files at None
    none_known before of refused =
        let same = front_unique (named_size files.wal) files.wal refused.0 frames refused.1.is is in
        none_unknown files.wal refused.0 files.db at refused.1.some refused.1.is refused.2
        (subst (λ (n : ℕ). IsLossOf (named_size files.wal) files.wal n files.db at None) (sym same) of) refused.4

    pub some_overwritten : (¬ IsHot files.journal) → at < frames → (loss : Loss) → IsLossOf (named_size files.wal) files.wal frames files.db at (Some loss)
        → (next : Option ℕ) → IsNextKnown files.wal frames files.db at next
        → IsOverwrittenAt limits files at (Some (record { at = at; loss = loss; next = next }))
    some_overwritten cold before loss of next known = (
      frames,
      record { cold = cold; some = omega (arith, before); is = is },
      before,
      record { commit = refl; loss = of; next = known },
    )
