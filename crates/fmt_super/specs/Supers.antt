-- The name of a super-journal at the end of a journal (fileformat2, 3; own: the conditions of SQLite 3.40).
use Rattle.std.specs.Prelude.{◌≡◌, ◌≢◌, ◌⊎◌, ℕ, ◌+◌, ◌-◌, ◌^◌, ◌%◌, ◌<◌, ◌≤◌, nat_lt, if◌then◌else◌, List, length, take, drop, get_or}
use Rattle.std.specs.List.{sum_by}
use Rattle.sqval.specs.Bytes.{part, word}
use Rattle.sqjournal.specs.Header.{magic}

-- a byte as SQLite adds it on processors with signed characters, modulo 2^32
abbrev pub signed : (byte : ℕ) → ℕ
signed byte = if nat_lt byte 128 then byte else byte + 4294967040

-- the sum of a name
unfoldable pub name_sum : (name : List ℕ) → ℕ
name_sum name = sum_by signed name % 2 ^ 32

-- The journal ends with this name, the name's length, its sum and the magic. The name has 1 to 512 bytes, of which the first
-- isn't zero.
pub record IsSuperName (journal name : List ℕ) : Type 0 where
  pub some : 1 ≤ length name
  pub most : length name ≤ 512
  pub within : length name + 16 ≤ length journal
  pub is : part journal (length journal - 16 - length name) (length name) ≡ name
  pub counted : word journal (length journal - 16) ≡ length name
  pub summed : word journal (length journal - 12) ≡ name_sum name
  pub ends : drop (length journal - 8) journal ≡ magic
  pub begins : get_or name 0 0 ≢ 0

-- these bytes are the last ones of a journal, all of them or at least 528
pub record IsEndOf (journal end : List ℕ) : Type 0 where
  pub within : length end ≤ length journal
  pub is : drop (length journal - length end) journal ≡ end
  pub enough : (length end ≡ length journal) ⊎ (528 ≤ length end)

-- the bytes of a name up to its first zero
pub record IsPathIn (name path : List ℕ) : Type 0 where
  pub is : path ≡ take (length path) name
  pub most : length path ≤ length name
  pub none : (i : ℕ) → i < length path → get_or name i 0 ≢ 0
  pub ends : (length path ≡ length name) ⊎ (get_or name (length path) 0 ≡ 0)

-- the path of a journal's super-journal
pub record IsSuperPath (journal path : List ℕ) : Type 0 where
  pub name : List ℕ
  pub named : IsSuperName journal name
  pub is : IsPathIn name path
