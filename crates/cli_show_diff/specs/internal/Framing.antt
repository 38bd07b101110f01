-- What stands around the changes of a script, before it is written (own).
use Rattle.std.specs.Prelude.{◌⊎◌, ◌++◌, ℕ, List, Option}
use Rattle.std.specs.Io.KnownBytes.{Appends}
use Rattle.sqval.specs.Database.{Database}
use Rattle.sqdeep.specs.declared.text.Encoding.{Encoding}
use Rattle.cli_show_rows.specs.declared.stop.Stop.{Stop}
use Rattle.cli_show_rows.specs.Stops.{IsWriteError}
use Rattle.cli_show_rows.specs.Strays.{bytes_of}
use Rattle.cli_show_diff.specs.declared.changes.Asked.{Asked}
use Rattle.cli_show_diff.specs.declared.changes.Frame.{Frame}
use Rattle.cli_show_diff.specs.declared.changes.Schemas.{Schemas}
use Rattle.cli_show_diff.specs.declared.form.ChangeForm.{ChangeForm}
use Rattle.cli_show_diff.specs.Changes.{AreAskedPrinted, AreAskedStopped}
use Rattle.cli_show_diff.specs.Frames.{IsClosingText, IsOpeningText}
use Rattle.cli_show_diff.specs.LeftOut.{LeavesOut}

pub record IsFrameOf (schemas : Schemas) (names : List (List ℕ)) (form : ChangeForm) (encoding : Encoding) (f : Frame) : Type 0 where
  pub opens : IsOpeningText form encoding schemas.old.now schemas.new.now f.opening.items
  pub closes : IsClosingText form schemas.old.now schemas.new.now f.closing.items
  pub counted : LeavesOut form names schemas.old.now schemas.new.now f.left

-- Behind this opening what is asked for was printed, or not to its end.
abbrev pub AreBegunPrinted : Database → Database → Schemas → (names : List (List ℕ)) → ChangeForm → (opening : List ℕ) → (before after : Option (List ℕ)) → Type 0
AreBegunPrinted d e schemas names form opening before after =
    (begun : Option (List ℕ)) × Appends before begun opening × AreAskedPrinted d e schemas names form begun after

abbrev pub AreBegunStopped : Database → Database → Schemas → (names : List (List ℕ)) → ChangeForm → (opening : List ℕ) → Stop → (before after : Option (List ℕ)) → Type 0
AreBegunStopped d e schemas names form opening stop before after =
    IsWriteError stop ⊎ ((begun : Option (List ℕ)) × Appends before begun opening × AreAskedStopped d e schemas names form stop begun after)

-- the rows of both schemas that describe no object
abbrev pub strays_of : Asked → List (List ℕ)
strays_of asked = bytes_of asked.strays.0.now ++ bytes_of asked.strays.1.now
