-- Why words ask for nothing (own).
use Rattle.std.specs.Prelude.{◌≡◌, ◌≢◌}
use Rattle.clap.specs.Words.{kind_of}
use Rattle.clap.specs.declared.error.Error.{Error}
use Rattle.clap.specs.declared.error.kind.ErrorKind.TheVariants.{DisplayHelp, OutOfMemory}
use Rattle.sqcrash_store.specs.declared.commands.LineError.{LineError}
use Rattle.sqcrash_store.specs.declared.commands.LineError.TheVariants.{NotUnderstood, Help, NoMemory}

-- what is said where clap refused the words by this error
abbrev pub IsRefusal : Error → LineError → Type 0
IsRefusal error (Help told) = (told ≡ error) × (kind_of error ≡ DisplayHelp)
IsRefusal error (NotUnderstood told) = (told ≡ error) × (kind_of error ≢ DisplayHelp) × (kind_of error ≢ OutOfMemory)
IsRefusal error NoMemory = Unit {0}

-- a text is no part
abbrev pub IsOfPart : LineError → Type 0
IsOfPart (Help told) = ⊥
IsOfPart _ = Unit {0}
