-- How /proc/locks names a file that is locked.
use Rattle.std.specs.Prelude.{◌≡◌, ◌⊎◌, ◌++◌, ℕ, ◌-◌, ◌^◌, List, [], false, codes}
use Rattle.std.specs.Fmt.{decimal, digits, format_spec, padded_integral}
use Rattle.std.specs.List.{Any}
use Rattle.std.specs.Str.Iter.{HasSubslice}
use Rattle.std.specs.Str.Lines.{lines}
use Rattle.cli_facts.specs.declared.locks.Identity.{Identity}

-- a number in lower-case hex, of two digits at least
abbrev pub hex_pair : ℕ → List ℕ
hex_pair n = padded_integral (format_spec 32 0 4 2 (2 ^ 64 - 1)) false [] (digits 16 false n)

-- a file's number on its device, behind the device's
abbrev pub inode_text : Identity → List ℕ
inode_text file = codes ":" ++ decimal file.inode ++ codes " "

-- the device and the number
abbrev pub place_text : Identity → List ℕ
place_text file = codes " " ++ (hex_pair file.major ++ (codes ":" ++ (hex_pair file.minor ++ inode_text file)))

-- The line names the file, or its number where its device or that of the line has no number of its own.
abbrev pub NamesFile : (line : List ℕ) → Identity → Type 0
NamesFile line file = HasSubslice line (place_text file)
    ⊎ (HasSubslice line (inode_text file) × ((file.major ≡ 0) ⊎ HasSubslice line (codes " 00:")))

-- the line is of a lock of a process, or of one of an open file
abbrev pub IsOfLock : (line : List ℕ) → Type 0
IsOfLock line = HasSubslice line (codes " POSIX ") ⊎ HasSubslice line (codes " OFDLCK ")

-- a line of such a lock on the file
abbrev pub IsLockOn : (line : List ℕ) → Identity → Type 0
IsLockOn line file = IsOfLock line × NamesFile line file

-- a text one of whose lines is such a one
abbrev pub HasLockOn : (text : List ℕ) → Identity → Type 0
HasLockOn text file = Any (λ line. IsLockOn line file) (lines text)
