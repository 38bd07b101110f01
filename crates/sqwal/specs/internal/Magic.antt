-- The two magics of a log (fileformat2, 4.1).
use Rattle.std.specs.Prelude.{◌≡◌, ℕ}
use Rattle.sqwal.specs.declared.sum.Order.{Order}
use Rattle.sqwal.specs.declared.sum.Order.TheVariants.{Big, Little}

-- the magic of a log whose sums are over words in this order
abbrev pub NamesOrder : (magic : ℕ) → Order → Type 0
NamesOrder magic Big = magic ≡ 0x377f0683
NamesOrder magic Little = magic ≡ 0x377f0682
