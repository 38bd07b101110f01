-- What a stop is told for (own).
use Rattle.std.specs.Prelude.{◌≡◌, ◌<◌, ℕ, List, Option}
use Rattle.std.specs.Io.KnownBytes.{Appends}
use Rattle.sqrows.specs.declared.rows.RowsError.{RowsError}
use Rattle.sqrows.specs.declared.rows.RowsError.TheVariants as row_errors
use Rattle.sqrows.specs.declared.payload.PayloadError.TheVariants as payload_errors
use Rattle.sqtables.specs.declared.list.ListError.{ListError}
use Rattle.sqtables.specs.declared.list.ListError.TheVariants as list_errors
use Rattle.cli_row_text.specs.declared.print.PrintError.{PrintError}
use Rattle.cli_row_text.specs.declared.print.PrintError.TheVariants as print_errors
use Rattle.cli_show_rows.specs.declared.stop.Stop.{Stop}
use Rattle.cli_show_rows.specs.declared.stop.Stop.TheVariants.{Fault, Record, TooLong, Default, Behind, LeftOut, NoMemory, Write}

-- What was left out was counted behind this text, or the writer failed.
abbrev pub IsCounted : (t : List ℕ) → (count : ℕ) → Stop → (before after : Option (List ℕ)) → Type 0
IsCounted t count (LeftOut n) before after = (n ≡ count) × (0 < count) × Appends before after t
IsCounted t count (Write e) before after = Unit {0}
IsCounted t count _ before after = ⊥

abbrev pub stop_of_row : RowsError → Stop
stop_of_row (row_errors.Tree e) = Fault e
stop_of_row (row_errors.Payload (payload_errors.Chain e)) = Fault e
stop_of_row (row_errors.Payload payload_errors.TooLong) = TooLong

abbrev pub stop_of_print : PrintError → Stop
stop_of_print (print_errors.Tree e) = Fault e
stop_of_print (print_errors.Row e) = stop_of_row e
stop_of_print (print_errors.Record e) = Record e
stop_of_print print_errors.NoMemory = NoMemory
stop_of_print print_errors.Default = Default
stop_of_print print_errors.Behind = Behind
stop_of_print (print_errors.Write e) = Write e

abbrev pub stop_of_list : ListError → Stop
stop_of_list (list_errors.Tree e) = Fault e
stop_of_list (list_errors.Row e) = stop_of_row e
stop_of_list (list_errors.Record e) = Record e
stop_of_list list_errors.NoMemory = NoMemory
