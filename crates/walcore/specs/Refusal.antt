-- The numbers of the engine's refusals (own).
use Rattle.std.specs.Prelude.{ℕ}
use Rattle.walcore.specs.declared.error.WalError.{WalError}
use Rattle.walcore.specs.declared.error.WalError.TheVariants.{Closed, EmptyCommit, SizeZero, PageZero, PageAboveSize, PageTwice, HoleInGrowth, BadLength, TooLarge, WalFull, NotDrained, ReadersOpen, PageSize, NoMemory, Device, SectorAbovePage}

abbrev pub number_of : WalError → ℕ
number_of Closed = 1
number_of EmptyCommit = 2
number_of SizeZero = 3
number_of PageZero = 4
number_of PageAboveSize = 5
number_of PageTwice = 6
number_of HoleInGrowth = 7
number_of BadLength = 8
number_of TooLarge = 9
number_of WalFull = 10
number_of NotDrained = 11
number_of ReadersOpen = 12
number_of PageSize = 13
number_of NoMemory = 14
number_of Device = 15
number_of SectorAbovePage = 17
