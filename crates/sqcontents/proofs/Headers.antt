-- The numbers of a header.
use Rattle.std.proofs.Common.{◌≡◌, [], ◌∷◌, length, refl, arith}
use Rattle.sqval.specs.Database.{Database, page}
use Rattle.sqcontents.specs.internal.Judging.{AreNumbersOf}

-- a database without pages has zeros there
pub zeros : (d : Database) → length d ≡ 0 → AreNumbersOf d (record { format = 0; encoding = 0 })
unfolding page
zeros [] none = record { format = refl; encoding = refl }
zeros (p ∷ d) none = absurd (omega (arith, none))
