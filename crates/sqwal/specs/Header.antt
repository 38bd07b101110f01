-- The header of a log (fileformat2, 4.1).
use Rattle.std.specs.Prelude.{◌≡◌, ◌⊎◌, ℕ, ◌≤◌, nat_eq, cond, List, length, Result, Ok, Err}
use Rattle.sqval.specs.Bytes.{part, word}
use Rattle.sqval.specs.PageSize.{IsPageSize}
use Rattle.sqwal.specs.Sums.{words, sum_0, sum_1}
use Rattle.sqwal.specs.declared.sum.Order.{Order}
use Rattle.sqwal.specs.declared.sum.Order.TheVariants.{Big, Little}
use Rattle.sqwal.specs.declared.header.WalHeader.{WalHeader}
use Rattle.sqwal.specs.declared.error.WalFormatError.{WalFormatError}
use Rattle.sqwal.specs.declared.error.WalFormatError.TheVariants.{NotAWal, PageSize, HeaderSum, UnknownVersion, TooLong, NoMemory}

abbrev pub HasMagic : List ℕ → Type 0
HasMagic w = (word w 0 ≡ 0x377f0682) ⊎ (word w 0 ≡ 0x377f0683)

-- the order of the bytes in the words that sums are over
abbrev pub order_of : List ℕ → Order
order_of w = cond (nat_eq (word w 0) 0x377f0682) Little Big

-- the page size that a header names
abbrev pub named_size : List ℕ → ℕ
named_size w = word w 8

-- the sums are those of the bytes before them
abbrev pub HasHeaderSums : List ℕ → Type 0
HasHeaderSums w = (word w 24 ≡ sum_0 (words (order_of w) (part w 0 24))) × (word w 28 ≡ sum_1 (words (order_of w) (part w 0 24)))

-- a valid header of a log of pages of this size
pub record IsHeader (size : ℕ) (w : List ℕ) : Type 0 where
  pub whole : 32 ≤ length w
  pub magic : HasMagic w
  pub version : word w 4 ≡ 3007000
  pub is_size : IsPageSize size
  pub named : named_size w ≡ size
  pub sums : HasHeaderSums w

-- a valid header and what it says
pub record IsHeaderOf (w : List ℕ) (h : WalHeader) : Type 0 where
  pub valid : IsHeader h.page_size w
  pub order : h.order ≡ order_of w
  pub sequence : h.sequence ≡ word w 12
  pub salt1 : h.salt1 ≡ word w 16
  pub salt2 : h.salt2 ≡ word w 20

-- why 32 bytes are no valid header: the first of these that is true
abbrev pub HeaderRefused : List ℕ → WalFormatError → Type 0
HeaderRefused w NotAWal = HasMagic w → ⊥
HeaderRefused w PageSize = HasMagic w × (IsPageSize (named_size w) → ⊥)
HeaderRefused w HeaderSum = HasMagic w × IsPageSize (named_size w) × (HasHeaderSums w → ⊥)
HeaderRefused w UnknownVersion = HasMagic w × IsPageSize (named_size w) × HasHeaderSums w × (word w 4 ≡ 3007000 → ⊥)
HeaderRefused w TooLong = ⊥
HeaderRefused w NoMemory = ⊥

-- what the reading of a header answers
abbrev pub HeaderAnswer : List ℕ → Result WalHeader WalFormatError → Type 0
HeaderAnswer w (Ok h) = IsHeaderOf w h
HeaderAnswer w (Err e) = HeaderRefused w e
