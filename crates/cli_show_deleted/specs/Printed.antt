-- The deleted cells of a database that are printed (own).
use Rattle.std.specs.Prelude.{◌≡◌, ◌⊎◌, ℕ, zero, suc, ◌<◌, ◌≤◌, true, List, [], ◌++◌, length, Option}
use Rattle.std.specs.Io.KnownBytes.{Appends}
use Rattle.sqval.specs.Bytes.{word}
use Rattle.sqval.specs.Database.{Database, page}
use Rattle.sqpage.specs.Freelist.{usable_size}
use Rattle.sqpage.specs.declared.fault.Fault.TheVariants as faults
use Rattle.sqcheck.specs.Places.{used_in}
use Rattle.sqcheck.specs.Surveys.{FindsCleanWith, FindsDamagedWith, SurveyRefusedWith, role_at}
use Rattle.sqcheck.specs.declared.role.Role.{Role}
use Rattle.sqcheck.specs.declared.survey.Survey.{Survey}
use Rattle.sqdeep.specs.Records.{encoding_of}
use Rattle.sqdeleted.specs.declared.cell.DeletedCell.{DeletedCell}
use Rattle.sqdeleted.specs.declared.cut.CutCell.{CutCell}
use Rattle.cli_words.specs.declared.requests.Style.{Style}
use Rattle.cli_words.specs.declared.requests.Style.TheVariants as styles
use Rattle.cli_row_text.specs.declared.form.Form.{Form}
use Rattle.cli_row_text.specs.declared.form.Notation.{Notation}
use Rattle.cli_row_text.specs.declared.form.Notation.TheVariants.{Json, Sql}
use Rattle.cli_row_text.specs.Lines.{form_of}
use Rattle.cli_show_rows.specs.declared.stop.Stop.{Stop}
use Rattle.cli_show_rows.specs.declared.stop.Stop.TheVariants.{Fault, Encoding, NoMemory, Write}
use Rattle.cli_show_deleted.specs.Cells.{AreCellsOf}
use Rattle.cli_show_deleted.specs.CutCells.{AreCutCellsOf}
use Rattle.cli_show_deleted.specs.CutLines.{AreCutLines}
use Rattle.cli_show_deleted.specs.Lines.{AreLines}

-- the notation of values in lines, as those of `diff`, and in objects
abbrev pub notation_in : Style → Notation
notation_in styles.Lines = Sql
notation_in styles.Json = Json

-- The lines of the deleted cells of a page of this role, of which these bytes are used, that stand whole.
abbrev pub IsWholeText : Form → Role → (used : List ℕ) → (number : ℕ) → List ℕ → Type 0
IsWholeText form role used number t = (cells : List DeletedCell) × AreCellsOf role used number cells × AreLines form cells t

-- The lines of those that lost their first four bytes.
abbrev pub IsTextOfCuts : Form → Role → (used : List ℕ) → (number : ℕ) → List ℕ → Type 0
IsTextOfCuts form role used number t = (cells : List CutCell) × AreCutCellsOf role used number cells × AreCutLines form cells t

-- The text of a page: those of its deleted cells that stand whole, and behind them those of the others.
abbrev pub IsTextOf : Form → Role → (used : List ℕ) → (number : ℕ) → List ℕ → Type 0
IsTextOf form role used number t = (own cut : List ℕ) × IsWholeText form role used number own × IsTextOfCuts form role used number cut × (t ≡ own ++ cut)

-- The texts of the first pages, so many, one behind the other.
abbrev pub AreTextsOf : Form → Database → List Role → (n : ℕ) → List ℕ → Type 0
AreTextsOf form d roles zero t = t ≡ []
AreTextsOf form d roles (suc n) t =
    (before own : List ℕ) × AreTextsOf form d roles n before × IsTextOf form (role_at roles (suc n)) (used_in d (suc n)) (suc n) own × (t ≡ before ++ own)

-- What a survey finds of the database, with its pointer maps.
abbrev pub IsSurveyOf : Database → (size : ℕ) → Survey → Type 0
IsSurveyOf d size survey = FindsCleanWith true d size survey × FindsDamagedWith true d size survey × (length survey.roles.items ≡ length d)

-- Its pages can be read, and its texts: enough of each page is used, and the header names an encoding that is known, or 0.
pub record IsReadable (d : Database) : Type 0 where
  pub usable : 480 ≤ usable_size d
  pub encoding : word (page d 1) 56 ≤ 3

-- The deleted cells of all pages were printed, by the roles that a survey finds; a database without pages has none.
abbrev pub AreDeletedPrinted : Database → (size : ℕ) → Style → (before after : Option (List ℕ)) → Type 0
AreDeletedPrinted d size style before after =
    ((length d ≡ 0) × (before ≡ after))
    ⊎ ((survey : Survey) × (t : List ℕ) × IsReadable d × IsSurveyOf d size survey
    × AreTextsOf (form_of (notation_in style) (encoding_of d)) d survey.roles.items (length d) t × Appends before after t)

-- Memory ran out, or the writer failed.
abbrev pub IsRunOut : Stop → Type 0
IsRunOut NoMemory = Unit {0}
IsRunOut (Write e) = Unit {0}
IsRunOut _ = ⊥

-- Nothing was printed, as the pages can't be surveyed, too little of each is used, or the encoding of texts isn't known.
abbrev pub IsUnfit : Database → (size : ℕ) → Stop → Type 0
IsUnfit d size (Fault e) =
    SurveyRefusedWith true d size e.fault e.page ⊎ ((e.fault ≡ faults.Reserved) × (e.page ≡ 1) × (usable_size d < 480))
IsUnfit d size Encoding = 3 < word (page d 1) 56
IsUnfit d size _ = ⊥

-- Why they weren't to their end.
abbrev pub AreDeletedStopped : Database → (size : ℕ) → Stop → (before after : Option (List ℕ)) → Type 0
AreDeletedStopped d size stop before after = IsRunOut stop ⊎ (IsUnfit d size stop × (before ≡ after))
