-- What is known of all pages of a database.
use Rattle.std.specs.Prelude.{◌≡◌, ◌⊎◌, ℕ, length}
use Rattle.sqval.specs.Database.{Database}
use Rattle.sqpage.specs.Freelist.{usable_size}
use Rattle.sqcheck.specs.declared.survey.Survey.{Survey}
use Rattle.sqdeep.specs.Records.{encoding_of}
use Rattle.cli_words.specs.declared.requests.Style.{Style}
use Rattle.cli_row_text.specs.Lines.{form_of}
use Rattle.cli_show_deleted.specs.Changes.{HasRoles, Surveyed}
use Rattle.cli_show_deleted.specs.Printed.{IsReadable, IsSurveyOf, notation_in}
use Rattle.cli_show_deleted.specs.declared.surveyed.Pages.{Pages}

-- What is known of those of a database that has some: their roles, how much of each is used, and how its values are written.
pub record AreReadPages (d : Database) (size : ℕ) (style : Style) (pages : Pages) : Type 0 where
  pub readable : IsReadable d
  pub surveyed : (survey : Survey) × IsSurveyOf d size survey × (pages.roles.items ≡ survey.roles.items)
  pub usable : pages.layout.usable ≡ usable_size d
  pub form : pages.layout.form ≡ form_of (notation_in style) (encoding_of d)

-- how many bytes of each page are used, if it has any
abbrev pub IsUsable : Database → (usable : ℕ) → Type 0
IsUsable d usable = (length d ≡ 0) ⊎ (usable ≡ usable_size d)

-- The same of any database.
pub record ArePages (d : Database) (size : ℕ) (style : Style) (pages : Pages) : Type 0 where
  pub roles : HasRoles d size pages.roles.items
  pub usable : IsUsable d pages.layout.usable
  pub form : pages.layout.form ≡ form_of (notation_in style) (encoding_of d)

-- the database as they have it
abbrev pub known : Database → Pages → Surveyed
known d pages = record { pages = d; roles = pages.roles.items; form = pages.layout.form }
