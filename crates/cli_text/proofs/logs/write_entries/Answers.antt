use Rattle.std.proofs.Common.{◌≡◌, ◌+◌, ◌<◌, ◌≤◌, List, length, get_or, sym, subst, ◌∙◌, arith}
use Rattle.std.specs.Io.KnownBytes.{Appends}
use Rattle.std.proofs.lemmas.List.{take_all}
use Rattle.std.proofs.lemmas.Option.{get_or_from_slice_get, slice_get-get_or}
use Rattle.sqjournal.specs.declared.reading.Record.{Record}
use Rattle.cli_text.specs.Logs.{record_text, records_text}
use Rattle.cli_text.proofs.JournalRecords.{counted, read_at}
use Rattle.cli_text.proofs.WrittenTexts.{appends_numbered}
use Rattle.cli_text.proofs.logs.write_entries.Goals as goal

pub loop-i-preserved : goal.loop-i-preserved
loop-i-preserved g c b records stop took says =
    let old = g.W.Write.contents c.args.out.now in
    let mid = g.W.Write.contents c.loop-i.out in
    let new = g.W.Write.contents c.write_entry.new.out in
    let i = c.loop-i.i in
    let count = counted b records stop c.count-i-end.result says (c.count-i-end.ensures b took) in
    let found = read_at b records stop i c.entry.result says (c.entry.ensures b took) in
    let within : i < length records = omega (arith, count, c.loop-i-test.true) in
    let entry = c.in-Some.entry in
    let same : entry ≡ get_or records i entry = sym (get_or_from_slice_get records i entry entry (sym found ∙ c.in-Some.is)) in
    let here : Appends mid new (record_text c.args.style (i + 1) (get_or records i entry)) =
    subst (λ (r : Record). Appends mid new (record_text c.args.style (i + 1) r)) same c.in_ok-write_entry.ensures in
    appends_numbered old mid new (record_text c.args.style) records i entry within (c.loop-i.invariant b records stop took says) here

pub returns-after-loop-i : goal.returns-after-loop-i
returns-after-loop-i g c b records stop took says =
    let count = counted b records stop c.count-i-end.result says (c.count-i-end.ensures b took) in
    let over : length records ≤ c.loop-i.i = omega (arith, count, c.loop-i-test.false) in
    subst (λ (l : List Record). Appends (g.W.Write.contents c.args.out.now) (g.W.Write.contents c.loop-i.out) (records_text c.args.style l))
    (take_all c.loop-i.i records over) (c.loop-i.invariant b records stop took says)

pub returns-in_default : goal.returns-in_default
returns-in_default g c b records stop took says =
    let count = counted b records stop c.count-i-end.result says (c.count-i-end.ensures b took) in
    let found = read_at b records stop c.loop-i.i c.entry.result says (c.entry.ensures b took) in
    let within : c.loop-i.i < length records = omega (arith, count, c.loop-i-test.true) in
    let none : Record = record { page = 0; at = 0 } in
    absurd (c.in_default.not-Some (get_or records c.loop-i.i none) (found ∙ slice_get-get_or records c.loop-i.i none within))
