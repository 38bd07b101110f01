use Rattle.std.proofs.Common.{List, refl}
use Rattle.sqjournal.specs.Journal.{entries, sizes_of}
use Rattle.sqjournal.specs.Took.{Says}
use Rattle.sqjournal.specs.declared.reading.Record.{Record}
use Rattle.cli_text.specs.Logs.{Journal}
use Rattle.cli_text.proofs.logs.write_journal.Goals as goal

pub returns-in-Some : goal.returns-in-Some
returns-in-Some g c b took =
    let stops = c.stop-stop.ensures b took in
    let records : List Record = entries (sizes_of b) 0 stops.segments in
    let says : Says b records c.stop-stop.result = record { segments = stops.segments; is = stops.is; records = refl } in
    let shown : Journal = record { first = c.first.result; records = records; stop = c.stop-stop.result } in
    (shown, record { first = c.first.ensures b took; records = says }, rw c.in-Some.is (c.write_hot.ensures b records took says))

pub returns-in-None : goal.returns-in-None
returns-in-None g c b took =
    let stops = c.stop-stop.ensures b took in
    let records : List Record = entries (sizes_of b) 0 stops.segments in
    let says : Says b records c.stop-stop.result = record { segments = stops.segments; is = stops.is; records = refl } in
    let shown : Journal = record { first = c.first.result; records = records; stop = c.stop-stop.result } in
    (shown, record { first = c.first.ensures b took; records = says }, rw c.in-None.is c.write_none.ensures)
