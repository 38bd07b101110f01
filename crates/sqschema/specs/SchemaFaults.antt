-- The numbers and the names of the faults that a schema may have (own).
use Rattle.std.specs.Prelude.{ℕ, List, codes}
use Rattle.sqschema.specs.declared.fault.SchemaFault.{SchemaFault}
use Rattle.sqschema.specs.declared.fault.SchemaFault.TheVariants as faults

-- own: behind those of cells
abbrev pub number_of : SchemaFault → ℕ
number_of faults.RowForm = 50
number_of faults.ObjectType = 51
number_of faults.CreateText = 52
number_of faults.RootNumber = 53
number_of faults.NameTwice = 54
number_of faults.TableName = 55
number_of faults.RootKind = 56

-- own: the name of a fault in a report
abbrev pub name_of : SchemaFault → List ℕ
name_of faults.RowForm = codes "RowForm"
name_of faults.ObjectType = codes "ObjectType"
name_of faults.CreateText = codes "CreateText"
name_of faults.RootNumber = codes "RootNumber"
name_of faults.NameTwice = codes "NameTwice"
name_of faults.TableName = codes "TableName"
name_of faults.RootKind = codes "RootKind"
