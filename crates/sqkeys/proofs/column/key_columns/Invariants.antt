use Rattle.std.proofs.Common.{take}
use Rattle.std.specs.List.{AllZip}
use Rattle.sqkeys.specs.Columns.{IsKeyColumn}
use Rattle.sqkeys.proofs.column.key_columns.Given as goal

abbrev pub invariant-loop-keyed : goal.invariant-loop-keyed
invariant-loop-keyed l = AllZip (IsKeyColumn l.body) (take l.keyed-index l.named) l.columns.items
