-- The header of the file as a check reads it (fileformat2, 1.3). No public contract cites these words.
use Rattle.std.specs.Prelude.{◌≡◌, ◌≢◌, ℕ, List, Bool, true, false}
use Rattle.sqval.specs.Bytes.{word}
use Rattle.sqpage.specs.declared.fault.Fault.{Fault}
use Rattle.sqpage.specs.declared.fault.Fault.TheVariants as faults
use Rattle.sqpage.specs.declared.header.DbHeader.{DbHeader}
use Rattle.sqpage.specs.Header.{byte, HasMagic, HasFractions, HasRoom, size_named}

-- The bytes of page 1 begin with this sound header. With `maps` it may be one of auto-vacuum.
pub record HasHeaderOf (maps : Bool) (h : DbHeader) (size : ℕ) (b : List ℕ) : Type 0 where
  pub magic : HasMagic b
  pub page_size : size_named b ≡ size
  pub fractions : HasFractions b
  pub room : HasRoom b
  pub plain : maps ≡ false → word b 52 ≡ 0
  pub incremental : maps ≡ true → word b 64 ≢ 0 → word b 52 ≢ 0
  pub reserved : h.reserved ≡ byte b 20
  pub first_trunk : h.first_trunk ≡ word b 32
  pub free_pages : h.free_pages ≡ word b 36
  pub largest_root : h.largest_root ≡ word b 52

-- The first thing that is wrong with them.
abbrev pub HeaderFault : (maps : Bool) → Fault → (size : ℕ) → List ℕ → Type 0
HeaderFault maps faults.Magic size b = ¬ HasMagic b
HeaderFault maps faults.PageSize size b = HasMagic b × (size_named b ≢ size)
HeaderFault maps faults.Fraction size b = HasMagic b × (size_named b ≡ size) × ¬ HasFractions b
HeaderFault maps faults.Reserved size b = HasMagic b × (size_named b ≡ size) × HasFractions b × ¬ HasRoom b
HeaderFault maps faults.AutoVacuum size b = HasMagic b × (size_named b ≡ size) × HasFractions b × HasRoom b × (maps ≡ false) × (word b 52 ≢ 0)
HeaderFault maps faults.PointerMap size b = HasMagic b × (size_named b ≡ size) × HasFractions b × HasRoom b × (maps ≡ true) × (word b 64 ≢ 0) × (word b 52 ≡ 0)
HeaderFault maps _ size b = ⊥
