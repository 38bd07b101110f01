-- What is shown of a database: its header, and a page.
use Rattle.std.specs.Prelude.{◌≡◌, ℕ, ◌⊎◌, List, length, take}
use Rattle.sqval.specs.Database.{Database, page}
use Rattle.sqpage.specs.Freelist.{IsPage}
use Rattle.sqpage.specs.Header.{IsHeader}
use Rattle.sqpage.specs.declared.header.DbHeader.{DbHeader}
use Rattle.cli_facts.specs.declared.outcome.Refusal.{Refusal}
use Rattle.cli_facts.specs.declared.outcome.Refusal.TheVariants.{NotADatabase, NoSuchPage, NoMemory}
use Rattle.cli_words.specs.Commits.{commit_named}
use Rattle.cli_words.specs.declared.requests.Options.{Options}
use Rattle.cli_text.specs.Headers.{header_text}
use Rattle.cli_show.specs.Views.{WholeShows, IsUnasked}

-- why a page isn't read
abbrev pub IsPageUnread : Database → (number : ℕ) → Refusal → Type 0
IsPageUnread d number NoSuchPage = ¬ IsPage d number
IsPageUnread d number NoMemory = Unit {0}
IsPageUnread d number _ = ⊥

-- the first 100 bytes of page 1 are the header of a database
abbrev pub HasHeader : Database → Type 0
HasHeader d = (header : DbHeader) × IsHeader header (take 100 (page d 1))

-- the database that is asked for has such a header
abbrev pub ShowsHeader : Options → (db wal journal : List ℕ) → Type 0
ShowsHeader options db wal journal = (size : ℕ) × (d : Database) × WholeShows (commit_named options) size db wal journal d × HasHeader d

-- what is printed of it: the header's fields, and how many pages there are
abbrev pub IsHeaderText : Options → (db wal journal text : List ℕ) → Type 0
IsHeaderText options db wal journal text = (size : ℕ) × (d : Database) × (header : DbHeader) × WholeShows (commit_named options) size db wal journal d
    × IsHeader header (take 100 (page d 1)) × (text ≡ header_text options.style header (length d))

-- why its header isn't shown
abbrev pub IsHeaderUnshown : Options → (db wal journal : List ℕ) → Refusal → Type 0
IsHeaderUnshown options db wal journal NotADatabase =
    IsUnasked options db wal journal NotADatabase ⊎ ((size : ℕ) × (d : Database) × WholeShows (commit_named options) size db wal journal d × ¬ HasHeader d)
IsHeaderUnshown options db wal journal NoMemory = Unit {0}
IsHeaderUnshown options db wal journal refusal = IsUnasked options db wal journal refusal

-- it has such a page
abbrev pub ShowsPage : Options → (number : ℕ) → (db wal journal : List ℕ) → Type 0
ShowsPage options number db wal journal = (size : ℕ) × (d : Database) × WholeShows (commit_named options) size db wal journal d × IsPage d number

-- why its page isn't shown
abbrev pub IsPageUnshown : Options → (number : ℕ) → (db wal journal : List ℕ) → Refusal → Type 0
IsPageUnshown options number db wal journal NoSuchPage = (size : ℕ) × (d : Database) × WholeShows (commit_named options) size db wal journal d × ¬ IsPage d number
IsPageUnshown options number db wal journal NoMemory = Unit {0}
IsPageUnshown options number db wal journal refusal = IsUnasked options db wal journal refusal
