-- Where the files of a database lie, and which of them are opened (own).
use Rattle.std.specs.Prelude.{◌≡◌, ◌≢◌, ◌⊎◌, ◌++◌, ℕ, ◌<◌, ◌≤◌, List, [], length, Option, None, Some, option_map, IfSome, IsSome, IsSomeAnd, codes, string_bytes, unwrap_or}
use Rattle.std.specs.Fs.{metadata_len, file_type, IsFile}
use Rattle.std.specs.declared.fs.attrs.Metadata.{Metadata}
use Rattle.std.specs.Option.{option_map_or}
use Rattle.std.specs.Path.{path_file_name, path_parent}
use Rattle.sqval.specs.Bytes.{AreBytes}
use Rattle.cli_facts.specs.declared.locks.Identity.{Identity}
use Rattle.cli_files.specs.declared.logs.Beheld.{Beheld}
use Rattle.cli_files.specs.declared.opened_file.OpenedFile.{OpenedFile}
use Rattle.cli_files.specs.declared.paths.Paths.{Paths}
use Rattle.cli_files.specs.declared.place.Place.{Place}

-- the path of a place
abbrev pub path_of : Place → List ℕ
path_of place = string_bytes place.path

-- the other files lie beside the database file, each under its name with an end of its own
abbrev pub AreBeside : Paths → Type 0
AreBeside paths = (path_of paths.wal ≡ path_of paths.db ++ codes "-wal")
    × (path_of paths.journal ≡ path_of paths.db ++ codes "-journal") × (path_of paths.shm ≡ path_of paths.db ++ codes "-shm")
    × (path_of paths.lock ≡ path_of paths.db ++ codes ".lock")

-- a file of this path lies in this folder: the path without its last part, or where that is empty the present folder
abbrev pub IsFolderOf : (folder path : List ℕ) → Type 0
IsFolderOf folder path = ((path_parent path ≡ Some folder) × (folder ≢ []))
    ⊎ ((unwrap_or (path_parent path) [] ≡ []) × (folder ≡ codes "."))

-- a path ends in the name of the file that lies at this place
abbrev pub HasNameOf : Place → (path : List ℕ) → Type 0
HasNameOf place path = path_file_name (path_of place) ≡ path_file_name path

-- in that of one that lies beside the database file
abbrev pub HasNameBeside : Paths → (path : List ℕ) → Type 0
HasNameBeside paths path = HasNameOf paths.wal path ⊎ HasNameOf paths.journal path ⊎ HasNameOf paths.shm path

-- the system knows both folders, and they are one
abbrev pub IsOneFolder : (here there : Option Identity) → Type 0
IsOneFolder here there = IsSome here × (here ≡ there)

-- a file of this length that was opened at this place
abbrev pub IsOpenedAt : {F : Type 0} → OpenedFile F → Place → (length : ℕ) → Type 0
IsOpenedAt file place length = IsSomeAnd file.file (λ opened. path_of opened.1.now ≡ path_of place) × (file.length ≡ length)

-- one that isn't there, and has no bytes
abbrev pub IsMissing : {F : Type 0} → OpenedFile F → Type 0
IsMissing file = (file.file ≡ None) × (file.length ≡ 0)

-- Where the system found a file of so many bytes at least at this place, it was opened as that; else it isn't there.
abbrev pub IsOpenedOf : {F : Type 0} → OpenedFile F → Place → (least : ℕ) → (found : Option Metadata) → Type 0
IsOpenedOf file place least None = IsMissing file
IsOpenedOf file place least (Some found) = (least ≤ metadata_len found → IsOpenedAt file place (metadata_len found))
    × (metadata_len found < least → IsMissing file)

-- of a database's files those that the system found are regular ones
abbrev pub AreRegular : Beheld → Type 0
AreRegular found = IsFile (file_type found.db) × IfSome found.wal (λ m. IsFile (file_type m)) × IfSome found.journal (λ m. IsFile (file_type m))

-- the file that was opened; none where it isn't there
abbrev pub file_of : {F : Type 0} → OpenedFile F → Option F
file_of file = option_map (λ opened. opened.0) file.file

-- the bytes of an opened file, none of one that isn't there
abbrev pub opened_bytes : {F : Type 0} → (bytes : F → List ℕ) → OpenedFile F → List ℕ
opened_bytes bytes file = option_map_or (λ opened. bytes opened.0) file.file []

-- The file keeps its word, and is as long as when it was opened.
abbrev pub IsSteady : {F : Type 0} → (bytes : F → List ℕ) → (keeps_word : F → Type 0) → OpenedFile F → Type 0
IsSteady bytes keeps_word file = IfSome file.file (λ opened. keeps_word opened.0)
    × (file.length ≡ length (opened_bytes bytes file)) × AreBytes (opened_bytes bytes file)

-- no read of it fails
abbrev pub NeverFails : {F : Type 0} → (never_fails : F → Type 0) → OpenedFile F → Type 0
NeverFails never_fails file = IfSome file.file (λ opened. never_fails opened.0)
