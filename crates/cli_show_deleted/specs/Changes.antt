-- The deleted cells that went and came between two databases (own).
use Rattle.std.specs.Prelude.{◌≡◌, ◌≢◌, ◌↔◌, ◌⊎◌, ℕ, zero, suc, ◌-◌, ◌*◌, max, List, [], ◌∷◌, ◌++◌, length, map, Option}
use Rattle.std.specs.Io.KnownBytes.{Appends}
use Rattle.sqval.specs.Bytes.{part}
use Rattle.sqval.specs.Database.{Database}
use Rattle.sqpage.specs.declared.cell.Parts.{Parts}
use Rattle.sqpage.specs.Lists.{In, Every}
use Rattle.sqcheck.specs.Places.{used_in}
use Rattle.sqcheck.specs.Surveys.{role_at}
use Rattle.sqcheck.specs.declared.role.Role.{Role}
use Rattle.sqcheck.specs.declared.survey.Survey.{Survey}
use Rattle.sqdeep.specs.Records.{encoding_of}
use Rattle.sqdeleted.specs.DeletedCursor.{Rise}
use Rattle.sqdeleted.specs.declared.cell.DeletedCell.{DeletedCell}
use Rattle.cli_words.specs.declared.requests.Style.{Style}
use Rattle.cli_row_text.specs.declared.form.Form.{Form}
use Rattle.cli_row_text.specs.Lines.{form_of}
use Rattle.cli_show_rows.specs.declared.stop.Stop.{Stop}
use Rattle.cli_show_deleted.specs.Cells.{StandsIn, IsCellIn}
use Rattle.cli_show_deleted.specs.Lines.{IsCellText}
use Rattle.cli_show_deleted.specs.Printed.{IsReadable, IsRunOut, IsSurveyOf, IsUnfit, notation_in}
use Rattle.cli_show_deleted.specs.declared.mark.Mark.TheVariants.{Went, Came}

-- A page as it is used: its role, and its usable bytes.
pub record UsedPage : Type 0 where
  pub role : Role
  pub used : List ℕ

-- A deleted cell of these bytes stands at this place.
abbrev pub HasCell : UsedPage → (number at : ℕ) → (bytes : List ℕ) → Type 0
HasCell page number at bytes = (c : Parts) × StandsIn page.role page.used number at c × (bytes ≡ part page.used at (c.end - at))

-- One does, and none of these bytes does there in the other page.
abbrev pub IsOnlyIn : (page other : UsedPage) → (number at : ℕ) → Type 0
IsOnlyIn page other number at = (bytes : List ℕ) × HasCell page number at bytes × ¬ HasCell other number at bytes

-- A deleted cell that stood in an old page alone, or stands in a new one alone.
pub data Change : Type 0 where
  went : DeletedCell → Change
  came : DeletedCell → Change

-- the turn of a change: by its place, and what went from there before what came
abbrev pub turn_of : Change → ℕ
turn_of (went cell) = 2 * cell.at
turn_of (came cell) = suc (2 * cell.at)

abbrev pub turns_of : List Change → List ℕ
turns_of changes = map turn_of changes

-- This is the cell that stands at its place, in the old page or in the new one.
abbrev pub IsChangeIn : (old new : UsedPage) → (number : ℕ) → Change → Type 0
IsChangeIn old new number (went cell) = IsCellIn old.used number cell
IsChangeIn old new number (came cell) = IsCellIn new.used number cell

-- These are the deleted cells that stand in one of both pages alone, each once, in their turn.
pub record AreChangesOf (old new : UsedPage) (number : ℕ) (changes : List Change) : Type 0 where
  pub rise : Rise 0 (turns_of changes)
  pub gone : (at : ℕ) → In (2 * at) (turns_of changes) ↔ IsOnlyIn old new number at
  pub fresh : (at : ℕ) → In (suc (2 * at)) (turns_of changes) ↔ IsOnlyIn new old number at
  pub each : Every (IsChangeIn old new number) changes

-- The text of a change: that of its cell, in the form of the database in which it stands.
abbrev pub IsChangeText : (old new : Form) → Change → List ℕ → Type 0
IsChangeText old new (went cell) t = IsCellText Went old cell t
IsChangeText old new (came cell) t = IsCellText Came new cell t

-- The text of each, one behind the other.
abbrev pub AreChangeLines : (old new : Form) → List Change → List ℕ → Type 0
AreChangeLines old new [] t = t ≡ []
AreChangeLines old new (change ∷ changes) t =
    (own more : List ℕ) × IsChangeText old new change own × AreChangeLines old new changes more × (t ≡ own ++ more)

-- A database with the roles of its pages, and how its values are written.
pub record Surveyed : Type 0 where
  pub pages : Database
  pub roles : List Role
  pub form : Form

-- page n of it, as it is used; one that it lacks has no bytes
abbrev pub page_used : Surveyed → (n : ℕ) → UsedPage
page_used s n = record { role = role_at s.roles n; used = used_in s.pages n }

-- The text of the changes of page n.
abbrev pub IsTextBetween : (old new : Surveyed) → (n : ℕ) → List ℕ → Type 0
IsTextBetween old new n t =
    (changes : List Change) × AreChangesOf (page_used old n) (page_used new n) n changes × AreChangeLines old.form new.form changes t

-- The texts of the first pages, so many, one behind the other.
abbrev pub AreTextsBetween : (old new : Surveyed) → (n : ℕ) → List ℕ → Type 0
AreTextsBetween old new zero t = t ≡ []
AreTextsBetween old new (suc n) t =
    (before own : List ℕ) × AreTextsBetween old new n before × IsTextBetween old new (suc n) own × (t ≡ before ++ own)

-- The roles of its pages are those that a survey finds; a database without pages has none.
abbrev pub HasRoles : Database → (size : ℕ) → List Role → Type 0
HasRoles d size roles =
    ((length d ≡ 0) × (roles ≡ [])) ⊎ (IsReadable d × ((survey : Survey) × IsSurveyOf d size survey × (roles ≡ survey.roles.items)))

-- the database, with these roles, whose values are written so
abbrev pub surveyed_as : Style → Database → List Role → Surveyed
surveyed_as style d roles = record { pages = d; roles = roles; form = form_of (notation_in style) (encoding_of d) }

-- The deleted cells of all pages that stand in one of both databases alone were printed.
abbrev pub AreDeletedChangesPrinted : (d : Database) (size : ℕ) (e : Database) (last : ℕ) → Style → (before after : Option (List ℕ)) → Type 0
AreDeletedChangesPrinted d size e last style before after =
    (roles others : List Role) × (t : List ℕ) × HasRoles d size roles × HasRoles e last others
    × AreTextsBetween (surveyed_as style d roles) (surveyed_as style e others) (max (length d) (length e)) t × Appends before after t

-- Nothing was printed, as a database that has pages is unfit.
abbrev pub IsUnfitWithPages : Database → (size : ℕ) → Stop → Type 0
IsUnfitWithPages d size stop = (length d ≢ 0) × IsUnfit d size stop

-- Why they weren't to their end.
abbrev pub AreDeletedChangesStopped : (d : Database) (size : ℕ) (e : Database) (last : ℕ) → Stop → (before after : Option (List ℕ)) → Type 0
AreDeletedChangesStopped d size e last stop before after =
    IsRunOut stop ⊎ ((IsUnfitWithPages d size stop ⊎ IsUnfitWithPages e last stop) × (before ≡ after))
