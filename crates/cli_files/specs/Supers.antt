-- Whether the super-journal that a hot journal names exists (own: as for SQLite 3.40).
use Rattle.std.specs.Prelude.{◌≡◌, ◌≢◌, ◌⊎◌, ◌++◌, ℕ, Bool, IsTrue, List, Option, None, Some, codes}
use Rattle.std.specs.Fs.{metadata_len, file_type, IsFile}
use Rattle.std.specs.declared.fs.attrs.Metadata.{Metadata}
use Rattle.fmt_super.specs.Supers.{IsSuperPath}
use Rattle.cli_words.specs.declared.requests.SuperJournal.{SuperJournal}
use Rattle.cli_words.specs.declared.requests.SuperJournal.TheVariants.{Present, Gone, Look}

-- a path that begins with a "/"
abbrev pub IsAbsolute : (path : List ℕ) → Type 0
IsAbsolute path = (rest : List ℕ) × (path ≡ codes "/" ++ rest)

-- the file system found something that isn't an empty regular file
abbrev pub IsThere : (found : Option Metadata) → Type 0
IsThere None = ⊥
IsThere (Some m) = ¬ (IsFile (file_type m) × (metadata_len m ≡ 0))

-- a super-journal exists exactly if it is there
abbrev pub IsFoundAs : SuperJournal → Type 0
IsFoundAs answer =
    (found : Option Metadata) × (((answer ≡ Present) × IsThere found) ⊎ ((answer ≡ Gone) × ¬ IsThere found))

-- What the file system says of the super-journal of a journal. It is asked about the path that the journal has, which is
-- absolute. A journal without such a path counts.
abbrev pub LooksFor : (journal : List ℕ) → SuperJournal → Type 0
LooksFor journal answer = (((path : List ℕ) → ¬ IsSuperPath journal path) × (answer ≡ Present))
    ⊎ ((path : List ℕ) × IsSuperPath journal path × IsAbsolute path × IsFoundAs answer)

-- what decides about a journal that names a super-journal: the file system if it is to decide, otherwise what is said
abbrev pub IsDecided : (said : Option SuperJournal) → (names_super : Bool) → (journal : List ℕ) → Option SuperJournal → Type 0
IsDecided said names_super journal decided = ((IsTrue names_super → said ≢ Some Look) × (decided ≡ said))
    ⊎ (IsTrue names_super × (said ≡ Some Look) × ((answer : SuperJournal) × (decided ≡ Some answer) × LooksFor journal answer))
