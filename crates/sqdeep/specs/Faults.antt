-- The numbers and the names of the faults that a well-formed database may have (own).
use Rattle.std.specs.Prelude.{ℕ, List, codes}
use Rattle.sqdeep.specs.declared.fault.InnerFault.{InnerFault}
use Rattle.sqdeep.specs.declared.fault.InnerFault.TheVariants as faults

-- own: behind those of a check; from 40 on those of a cell
abbrev pub number_of : InnerFault → ℕ
number_of faults.Version = 30
number_of faults.SchemaFormat = 31
number_of faults.TextEncoding = 32
number_of faults.EmptyPage = 33
number_of faults.FreeblockGap = 34
number_of faults.RootBehind = 35
number_of faults.ShortCell = 40
number_of faults.TooLong = 41
number_of faults.NotRecord = 42

-- own: the name of a fault in a report
abbrev pub name_of : InnerFault → List ℕ
name_of faults.Version = codes "Version"
name_of faults.SchemaFormat = codes "SchemaFormat"
name_of faults.TextEncoding = codes "TextEncoding"
name_of faults.EmptyPage = codes "EmptyPage"
name_of faults.FreeblockGap = codes "FreeblockGap"
name_of faults.RootBehind = codes "RootBehind"
name_of faults.ShortCell = codes "ShortCell"
name_of faults.TooLong = codes "TooLong"
name_of faults.NotRecord = codes "NotRecord"
