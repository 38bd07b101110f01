-- The numbers of the engine's refusals (own).
use Rattle.std.specs.Prelude.{ℕ}
use Rattle.rollcore.specs.declared.error.RollError.{RollError}
use Rattle.rollcore.specs.declared.error.RollError.TheVariants.{Closed, EmptyCommit, SizeZero, PageZero, PageAboveSize, PageTwice, HoleInGrowth, BadLength, TooLarge, PageSize, NoMemory, Device, NonceMissing, SectorAbovePage}

abbrev pub number_of : RollError → ℕ
number_of Closed = 1
number_of EmptyCommit = 2
number_of SizeZero = 3
number_of PageZero = 4
number_of PageAboveSize = 5
number_of PageTwice = 6
number_of HoleInGrowth = 7
number_of BadLength = 8
number_of TooLarge = 9
number_of PageSize = 13
number_of NoMemory = 14
number_of Device = 15
number_of NonceMissing = 16
number_of SectorAbovePage = 17
