-- Under which names, and with which permissions, a file is made (own).
use Rattle.std.specs.Prelude.{◌≡◌, ◌⊎◌, ◌++◌, ℕ, List, codes, string_bytes}
use Rattle.cli_files.specs.Files.{IsFolderOf}
use Rattle.cli_files.specs.declared.new_file.NewFile.{NewFile}

-- a name in the folder of a file that is the same for each file there
abbrev pub IsShortPart : (to part : List ℕ) → Type 0
IsShortPart to part = (folder : List ℕ) × IsFolderOf folder to × (part ≡ folder ++ codes "/.sqrescue-part")

-- the file's name with an end of its own, or where that has no room such a one
abbrev pub IsPart : (to part : List ℕ) → Type 0
IsPart to part = (part ≡ to ++ codes ".sqrescue-part") ⊎ IsShortPart to part

-- a file that gets this name and these permissions, made under such a name
pub record IsBegunFile {F : Type 0} (to : List ℕ) (mode : ℕ) (made : NewFile F) : Type 0 where
  pub named : made.to.now ≡ to
  pub part : IsPart to (string_bytes made.part)
  pub allowed : made.mode ≡ mode
