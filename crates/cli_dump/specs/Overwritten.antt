-- What is told of a commit at which it isn't known which database was there (own).
use Rattle.std.specs.Prelude.{◌≡◌, ℕ, ◌<◌, List, [], ◌++◌, codes, Option, None, Some}
use Rattle.std.specs.Fmt.{decimal}
use Rattle.sqval.specs.Limits.{Bounds}
use Rattle.sqwal.specs.Header.{named_size}
use Rattle.sqview.specs.LogView.{IsLogged}
use Rattle.sqpast.specs.Files.{PastRefusedWithin}
use Rattle.sqpast.specs.declared.past_error.PastError.TheVariants.{CommitOverwritten}
use Rattle.view_loss.specs.Losses.{IsLossOf}
use Rattle.view_loss.specs.declared.loss.Loss.{Loss}
use Rattle.view_loss.specs.declared.loss.Loss.TheVariants.{Copied, CutAway, CutShort, Lengthened}
use Rattle.cli_history.specs.Ranges.{IsNextKnown}
use Rattle.cli_history.specs.declared.files.Files.{Files}
use Rattle.cli_dump.specs.declared.overwritten.Overwritten.{Overwritten}

-- why the database there isn't known: the first page that is gone, and how, or its length; and the first known commit
-- behind it
pub record IsOverwritten (files : Files (List ℕ)) (front at : ℕ) (told : Overwritten) : Type 0 where
  pub commit : told.at ≡ at
  pub loss : IsLossOf (named_size files.wal) files.wal front files.db at (Some told.loss)
  pub next : IsNextKnown files.wal front files.db at told.next

-- the same of a log that counts; none if a view there isn't refused for that
abbrev pub IsOverwrittenAt : (limits : Bounds) → Files (List ℕ) → (at : ℕ) → Option Overwritten → Type 0
IsOverwrittenAt limits files at (Some told) =
    (front : ℕ) × IsLogged files.wal files.journal front × (at < front) × IsOverwritten files front at told
IsOverwrittenAt limits files at None = ¬ PastRefusedWithin limits at files.db files.wal files.journal CommitOverwritten

abbrev pub loss_text : Loss → List ℕ
loss_text (Copied p i) = codes "page " ++ (decimal p ++ (codes " of FILE has the bytes of frame " ++ decimal i))
loss_text (CutAway p i) = codes "the commit at frame " ++ (decimal i ++ (codes " may have cut page " ++ (decimal p ++ codes " away")))
loss_text (CutShort i) = codes "the commit at frame " ++ (decimal i ++ codes " may have cut FILE, whose length counts")
loss_text Lengthened = codes "the last page of FILE may have been added, and its length counts"

abbrev pub next_text : Option ℕ → List ℕ
next_text None = []
next_text (Some frame) = codes "; the first known commit after it is at frame " ++ decimal frame

-- the text of that
abbrev pub overwritten_text : Overwritten → List ℕ
overwritten_text told =
    codes "the database at frame " ++ (decimal told.at ++ (codes " isn't known: " ++ (loss_text told.loss ++ next_text told.next)))
