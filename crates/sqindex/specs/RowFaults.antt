-- The numbers and the names of the faults that a row of a table may have (own).
use Rattle.std.specs.Prelude.{ℕ, List, codes}
use Rattle.sqindex.specs.declared.row_fault.RowFault.{RowFault}
use Rattle.sqindex.specs.declared.row_fault.RowFault.TheVariants as faults

-- own: behind those of indexes
abbrev pub number_of : RowFault → ℕ
number_of faults.NullUnderNotNull = 70
number_of faults.TypeUnderStrict = 71
number_of faults.NumberUnderText = 72
number_of faults.TextUnderNumeric = 73
number_of faults.RowOrder = 74

-- own: the name of a fault in a report
abbrev pub name_of : RowFault → List ℕ
name_of faults.NullUnderNotNull = codes "NullUnderNotNull"
name_of faults.TypeUnderStrict = codes "TypeUnderStrict"
name_of faults.NumberUnderText = codes "NumberUnderText"
name_of faults.TextUnderNumeric = codes "TextUnderNumeric"
name_of faults.RowOrder = codes "RowOrder"
