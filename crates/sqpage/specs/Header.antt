-- The database header: the first 100 bytes of page 1 (fileformat2, 1.3).
use Rattle.std.specs.Prelude.{◌≡◌, ℕ, ◌+◌, ◌≤◌, ◌==◌, if◌then◌else◌, List, [], ◌∷◌, get_or, codes, ◌++◌}
use Rattle.byteorder.specs.Endian.{big_number}
use Rattle.sqval.specs.Bytes.{part, word}
use Rattle.sqval.specs.PageSize.{IsPageSize}
use Rattle.sqpage.specs.declared.fault.Fault.{Fault}
use Rattle.sqpage.specs.declared.fault.Fault.TheVariants as faults
use Rattle.sqpage.specs.declared.header.DbHeader.{DbHeader}

-- the byte at a place
abbrev pub byte : List ℕ → (at : ℕ) → ℕ
byte b at = get_or b at 0

-- the 16-bit number at a place, the highest byte first
abbrev pub half : List ℕ → (at : ℕ) → ℕ
half b at = big_number 2 (part b at 2)

-- the text that each database file begins with: "SQLite format 3" and a zero byte
abbrev pub magic : List ℕ
magic = codes "SQLite format 3" ++ 0 ∷ []

abbrev pub HasMagic : List ℕ → Type 0
HasMagic b = part b 0 16 ≡ magic

-- the page size that this number names, where 1 stands for 65536
abbrev pub size_named_by : ℕ → ℕ
size_named_by n = if n == 1 then 65536 else n

-- the page size that the header names
abbrev pub size_named : List ℕ → ℕ
size_named b = size_named_by (half b 16)

abbrev pub HasPageSize : List ℕ → Type 0
HasPageSize b = IsPageSize (size_named b)

-- the payload fractions
abbrev pub HasFractions : List ℕ → Type 0
HasFractions b = part b 21 3 ≡ 64 ∷ 32 ∷ 32 ∷ []

-- at least 480 bytes of a page are usable
abbrev pub HasRoom : List ℕ → Type 0
HasRoom b = 480 + byte b 20 ≤ size_named b

-- These bytes are this header.
pub record IsHeader (h : DbHeader) (b : List ℕ) : Type 0 where
  pub magic : HasMagic b
  pub page_size : h.page_size ≡ size_named b
  pub sized : HasPageSize b
  pub write_version : h.write_version ≡ byte b 18
  pub read_version : h.read_version ≡ byte b 19
  pub reserved : h.reserved ≡ byte b 20
  pub room : HasRoom b
  pub fractions : HasFractions b
  pub change_counter : h.change_counter ≡ word b 24
  pub size_in_pages : h.size_in_pages ≡ word b 28
  pub first_trunk : h.first_trunk ≡ word b 32
  pub free_pages : h.free_pages ≡ word b 36
  pub schema_cookie : h.schema_cookie ≡ word b 40
  pub schema_format : h.schema_format ≡ word b 44
  pub cache_size : h.cache_size ≡ word b 48
  pub largest_root : h.largest_root ≡ word b 52
  pub text_encoding : h.text_encoding ≡ word b 56
  pub user_version : h.user_version ≡ word b 60
  pub incremental_vacuum : h.incremental_vacuum ≡ word b 64
  pub application_id : h.application_id ≡ word b 68
  pub version_valid_for : h.version_valid_for ≡ word b 92
  pub writer_version : h.writer_version ≡ word b 96

-- The first fault of these bytes as a header, in the order magic, page size, fractions, reserved bytes.
abbrev pub HeaderRefused : Fault → List ℕ → Type 0
HeaderRefused faults.Magic b = ¬ HasMagic b
HeaderRefused faults.PageSize b = HasMagic b × ¬ HasPageSize b
HeaderRefused faults.Fraction b = HasMagic b × HasPageSize b × ¬ HasFractions b
HeaderRefused faults.Reserved b = HasMagic b × HasPageSize b × HasFractions b × ¬ HasRoom b
HeaderRefused _ b = ⊥
