-- The numbers and the names of faults (own).
use Rattle.std.specs.Prelude.{ℕ, List, codes}
use Rattle.sqpage.specs.declared.fault.Fault.{Fault}
use Rattle.sqpage.specs.declared.fault.Fault.TheVariants as faults

-- own: the faults in the order in which they are numbered
abbrev pub number_of : Fault → ℕ
number_of faults.Magic = 1
number_of faults.PageSize = 2
number_of faults.Fraction = 3
number_of faults.Reserved = 4
number_of faults.AutoVacuum = 5
number_of faults.Kind = 6
number_of faults.CellOutside = 7
number_of faults.Overlap = 8
number_of faults.Freeblock = 9
number_of faults.Fragments = 10
number_of faults.ChainCut = 11
number_of faults.ChainLong = 12
number_of faults.PageTwice = 13
number_of faults.PageOutside = 14
number_of faults.PageUnused = 15
number_of faults.KeyOrder = 16
number_of faults.Depth = 17
number_of faults.FreeCount = 18
number_of faults.Source = 19
number_of faults.NoMemory = 20
number_of faults.SchemaRecord = 21
number_of faults.PointerMap = 22

-- own: the name of a fault in a report
abbrev pub name_of : Fault → List ℕ
name_of faults.Magic = codes "Magic"
name_of faults.PageSize = codes "PageSize"
name_of faults.Fraction = codes "Fraction"
name_of faults.Reserved = codes "Reserved"
name_of faults.AutoVacuum = codes "AutoVacuum"
name_of faults.Kind = codes "Kind"
name_of faults.CellOutside = codes "CellOutside"
name_of faults.Overlap = codes "Overlap"
name_of faults.Freeblock = codes "Freeblock"
name_of faults.Fragments = codes "Fragments"
name_of faults.ChainCut = codes "ChainCut"
name_of faults.ChainLong = codes "ChainLong"
name_of faults.PageTwice = codes "PageTwice"
name_of faults.PageOutside = codes "PageOutside"
name_of faults.PageUnused = codes "PageUnused"
name_of faults.KeyOrder = codes "KeyOrder"
name_of faults.Depth = codes "Depth"
name_of faults.FreeCount = codes "FreeCount"
name_of faults.Source = codes "Source"
name_of faults.NoMemory = codes "NoMemory"
name_of faults.SchemaRecord = codes "SchemaRecord"
name_of faults.PointerMap = codes "PointerMap"
