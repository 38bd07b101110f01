-- How Linux tells of the locks on an open file, in /proc/self/fdinfo (own).
use Rattle.std.specs.Prelude.{◌≡◌, ◌⊎◌, ◌++◌, ℕ, ◌-◌, ◌^◌, List, [], Bool, true, false, codes, nat_eq, Option, Some, None}
use Rattle.std.specs.Fmt.{decimal, digits, format_spec, padded_integral}
use Rattle.std.specs.List.{Any, ends_with}
use Rattle.std.specs.Str.Iter.{HasSubslice}
use Rattle.std.specs.Str.Lines.{lines}
use Rattle.sqlocks.specs.declared.plan.Want.{Want}
use Rattle.sqlocks.specs.declared.plan.Want.TheVariants.{Read, Recover}
use Rattle.sqlocks.specs.declared.plan.Lock.{Lock}
use Rattle.sqlocks.specs.declared.plan.Lock.TheVariants.{Pending, Shared, Exclusive, Restarts, Checkpoints, Writers, Connections, WholeIndex, Alone}
use Rattle.sqlocks.specs.declared.told.FileId.{FileId}

-- a number in lower-case hex, of two digits at least
abbrev pub hex_pair : ℕ → List ℕ
hex_pair n = padded_integral (format_spec 32 0 4 2 (2 ^ 64 - 1)) false [] (digits 16 false n)

-- a file's number on its device, behind the device's
abbrev pub inode_text : FileId → List ℕ
inode_text file = codes ":" ++ decimal file.inode ++ codes " "

-- the device and the number
abbrev pub place_text : FileId → List ℕ
place_text file = codes " " ++ (hex_pair file.major ++ (codes ":" ++ (hex_pair file.minor ++ inode_text file)))

-- the first and the last byte of a lock
abbrev pub range_text : Lock → List ℕ
range_text Pending = codes " 1073741824 1073741824"
range_text Shared = codes " 1073741826 1073742335"
range_text Exclusive = codes " 1073741824 1073742335"
range_text Writers = codes " 120 120"
range_text Checkpoints = codes " 123 123"
range_text Restarts = codes " 127 127"
range_text Connections = codes " 128 128"
range_text WholeIndex = codes " 120 128"
range_text Alone = codes " 1073742337 1073742337"

-- whether it is for one alone
abbrev pub kind_text : Lock → List ℕ
kind_text Exclusive = codes " WRITE "
kind_text Connections = codes " WRITE "
kind_text WholeIndex = codes " WRITE "
kind_text _ = codes " READ "

-- The line names the file, or its number where its device or that of the line has no number of its own.
abbrev pub NamesFile : (line : List ℕ) → FileId → Type 0
NamesFile line file = HasSubslice line (place_text file)
    ⊎ (HasSubslice line (inode_text file) × ((file.major ≡ 0) ⊎ HasSubslice line (codes " 00:")))

-- the line is of a lock of an open file, on these bytes
abbrev pub IsOfLock : (line : List ℕ) → Lock → Type 0
IsOfLock line lock = HasSubslice line (codes " OFDLCK ") × HasSubslice line (kind_text lock) × (ends_with nat_eq line (range_text lock) ≡ true)

-- some line tells of this lock on the file
abbrev pub Tells : (text : List ℕ) → Lock → FileId → Type 0
Tells text lock file = Any (λ line. NamesFile line file × IsOfLock line lock) (lines text)

-- the locks that a plan goes on with are told of, those of FILE-shm where there is one
abbrev pub TellsAll : (text : List ℕ) → Want → (file : FileId) → (index : Option FileId) → Type 0
TellsAll text Read file None = Tells text Shared file
TellsAll text Read file (Some index) = Tells text Shared file × Tells text Restarts index × Tells text Checkpoints index
TellsAll text Recover file None = Tells text Exclusive file
TellsAll text Recover file (Some index) = Tells text Exclusive file × Tells text WholeIndex index
