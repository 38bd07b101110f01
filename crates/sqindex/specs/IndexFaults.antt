-- The numbers and the names of the faults that an index may have (own).
use Rattle.std.specs.Prelude.{ℕ, List, codes}
use Rattle.sqindex.specs.declared.fault.IndexFault.{IndexFault}
use Rattle.sqindex.specs.declared.fault.IndexFault.TheVariants as faults

-- own: behind those of the schema
abbrev pub number_of : IndexFault → ℕ
number_of faults.EntryForm = 60
number_of faults.EntryOrder = 61
number_of faults.KeyTwice = 62
number_of faults.EntryOfNoRow = 63
number_of faults.RowWithoutEntry = 64
number_of faults.RowTwice = 65

-- own: the name of a fault in a report
abbrev pub name_of : IndexFault → List ℕ
name_of faults.EntryForm = codes "EntryForm"
name_of faults.EntryOrder = codes "EntryOrder"
name_of faults.KeyTwice = codes "KeyTwice"
name_of faults.EntryOfNoRow = codes "EntryOfNoRow"
name_of faults.RowWithoutEntry = codes "RowWithoutEntry"
name_of faults.RowTwice = codes "RowTwice"
