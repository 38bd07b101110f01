use Rattle.std.proofs.Common.{◌≡◌, take, false}
use Rattle.std.specs.Prelude.{All}
use Rattle.std.specs.Str.{str_eq_ignore_ascii_case}
use Rattle.cli_show_rows.proofs.table.is_among.Given as goal

abbrev pub invariant-loop-column : goal.invariant-loop-column
invariant-loop-column l = All (λ column. str_eq_ignore_ascii_case column.items l.name ≡ false) (take l.column-index l.names)
