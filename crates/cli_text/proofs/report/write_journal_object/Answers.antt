use Rattle.std.proofs.Common.{List, refl}
use Rattle.sqjournal.specs.Journal.{entries, sizes_of}
use Rattle.sqjournal.specs.Took.{Says}
use Rattle.sqjournal.specs.declared.reading.Record.{Record}
use Rattle.cli_text.specs.Logs.{Journal}
use Rattle.cli_text.proofs.JournalRecords.{counted}
use Rattle.cli_text.proofs.report.write_journal_object.Goals as goal

pub returns : goal.returns
returns g c b took =
    let stops = c.stop-stop.ensures b took in
    let records : List Record = entries (sizes_of b) 0 stops.segments in
    let says : Says b records c.stop-stop.result = record { segments = stops.segments; is = stops.is; records = refl } in
    let first = c.first_size-first.ensures b took in
    let count = counted b records c.stop-stop.result c.count-records.result says (c.count-records.ensures b took) in
    let shown : Journal = record { first = first.0; records = records; stop = c.stop-stop.result } in
    (shown, record { first = first.1; records = says }, rw (count, first.2, c.record_stop_name-why.ensures) at c.write.ensures.bytes)
