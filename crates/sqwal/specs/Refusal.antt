-- The numbers of the refusals of a log, and how long a log may be (own).
use Rattle.std.specs.Prelude.{ℕ}
use Rattle.sqval.specs.Limits.{usual}
use Rattle.sqwal.specs.declared.error.WalFormatError.{WalFormatError}
use Rattle.sqwal.specs.declared.error.WalFormatError.TheVariants.{NotAWal, PageSize, HeaderSum, UnknownVersion, TooLong, NoMemory}

abbrev pub number_of : WalFormatError → ℕ
number_of NotAWal = 1
number_of PageSize = 2
number_of HeaderSum = 3
number_of UnknownVersion = 4
number_of TooLong = 5
number_of NoMemory = 6

-- the most valid frames of a log that is scanned where no limits are named
abbrev pub most_frames : ℕ
most_frames = usual.frames
