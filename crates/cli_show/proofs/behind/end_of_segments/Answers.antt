use Rattle.std.proofs.Common.{◌+◌, ◌≤◌, ℕ, length, ◌∙◌, sym, subst}
use Rattle.cli_show.proofs.LastSegments.{behind_header, behind_record, default_none, journal_stop}
use Rattle.cli_show.proofs.behind.end_of_segments.Goals as goal

pub returns-in-Some-clause-ends : goal.returns-in-Some-clause-ends
returns-in-Some-clause-ends g c = λ gives bytes hot names read.
    let b = g.F.FileBytes.bytes c.args.journal.now in
    let size = c.args.header.now.page_size in
    let place = c.in-Some.place in
    let last = c.in-Some.ensures b hot names read in
    let within : place + (size + 8) ≤ length b = subst (λ (n : ℕ). place + (n + 8) ≤ length b) (sym names.size) last.whole in
    behind_record b size place c.saturating_add.result (length c.record_at.new.bytes) c.in_ok-slot.slot bytes last names.size (c.in_ok-slot.ensures.slot gives within)
    (c.record_at.auto.bytes ∙ c.requires) c.saturating_add.ensures

pub returns-clause-ends : goal.returns-clause-ends
returns-clause-ends g c = λ gives bytes hot names read.
    let b = g.F.FileBytes.bytes c.args.journal.now in
    let stop = c.stop-stop.result in
    let none = default_none b c.last_place.result c.in_default.not-Some (c.last_place.ensures b hot names read) in
    let j = journal_stop b c.args.replay.now read stop (c.stop-stop.ensures read.front read.took) in
    let place = c.saturating_sub.ensures in
    behind_header b c.read_at.new.out stop.at c.saturating_sub.result c.from.result c.word.result (none j.0 stop.at stop.why j.1) (c.from.ensures ∙ names.sector) place
    (c.in_ok-read_at.ensures.read (g.met.F.FileBytes.right c.args.journal.now gives)) c.word.ensures
