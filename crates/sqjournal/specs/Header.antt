-- The header of a rollback journal (fileformat2, 3, "The Rollback Journal").
use Rattle.std.specs.Prelude.{◌≡◌, ℕ, ◌+◌, ◌-◌, ◌*◌, ◌/◌, List, [], ◌∷◌, ◌++◌, Result, MatchResult}
use Rattle.byteorder.specs.Endian.{big_bytes}
use Rattle.sqval.specs.Bytes.{part, word}
use Rattle.sqval.specs.PageSize.{IsPageSize}
use Rattle.sqjournal.specs.declared.error.JournalError.{JournalError}
use Rattle.sqjournal.specs.declared.error.JournalError.TheVariants.{NotAJournal, SectorSize, PageSize, NoMemory, TooLong}
use Rattle.sqjournal.specs.declared.header.JournalHeader.{JournalHeader}

-- the eight bytes that a header begins with
abbrev pub magic : List ℕ
magic = 0xd9 ∷ 0xd5 ∷ 0x05 ∷ 0xf9 ∷ 0x20 ∷ 0xa1 ∷ 0x63 ∷ 0xd7 ∷ []

abbrev pub HasMagic : List ℕ → (at : ℕ) → Type 0
HasMagic w at = part w at 8 ≡ magic

-- own: a sector is a power of two from 512 to 65536, as a page is
abbrev pub IsSector : ℕ → Type 0
IsSector n = IsPageSize n

-- own: the least multiple of the sector that isn't below a place
abbrev pub next_header : (sector end : ℕ) → ℕ
next_header sector end = (end + sector - 1) / sector * sector

-- the bytes begin with a first header whose words can be taken
pub record IsFirstHeader (w : List ℕ) : Type 0 where
  pub magic : HasMagic w 0
  pub sector : IsSector (word w 20)
  pub size : IsPageSize (word w 24)

-- what refuses a first header: the first condition that holds
abbrev pub IsRefused : (w : List ℕ) → JournalError → Type 0
IsRefused w NotAJournal = ¬ HasMagic w 0
IsRefused w SectorSize = HasMagic w 0 × ¬ IsSector (word w 20)
IsRefused w PageSize = HasMagic w 0 × IsSector (word w 20) × ¬ IsPageSize (word w 24)
IsRefused w NoMemory = ⊥
IsRefused w TooLong = ⊥

-- the header has the words that stand in the bytes
pub record Names (w : List ℕ) (h : JournalHeader) : Type 0 where
  pub count : h.count ≡ word w 8
  pub nonce : h.nonce ≡ word w 12
  pub first_size : h.first_size ≡ word w 16
  pub sector : h.sector ≡ word w 20
  pub size : h.page_size ≡ word w 24

-- a first header, or the reason why there is none
abbrev pub IsRead : (w : List ℕ) → Result JournalHeader JournalError → Type 0
IsRead w result = MatchResult result (λ h. IsFirstHeader w × Names w h) (λ e. IsRefused w e)

-- the 28 bytes of a header
abbrev pub header_bytes : JournalHeader → List ℕ
header_bytes h = magic ++ big_bytes 4 h.count ++ big_bytes 4 h.nonce ++ big_bytes 4 h.first_size ++ big_bytes 4 h.sector ++ big_bytes 4 h.page_size

-- the number of an error
abbrev pub error_number : JournalError → ℕ
error_number NotAJournal = 1
error_number SectorSize = 2
error_number PageSize = 3
error_number NoMemory = 4
error_number TooLong = 5
