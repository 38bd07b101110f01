use Rattle.std.proofs.Common.{subst}
use Rattle.std.specs.Prelude.{Ok}
use Rattle.sqview.specs.Logs.{CountsAnswer}
use Rattle.sqview.specs.declared.logs.LogInUse.{LogInUse}
use Rattle.cli_show.specs.Limits.{limits_named}
use Rattle.cli_show.proofs.CountedLogs.{counted, journal_unread}
use Rattle.cli_show.proofs.WrittenLogs.{journal_shown, journal_written, wal_written}
use Rattle.cli_show.proofs.logs.show_counting.Goals as goal

pub returns-in-Journal-clause-refused : goal.returns-in-Journal-clause-refused
returns-in-Journal-clause-refused g c = λ given_wal given_journal.
    let bytes = g.F.FileBytes.bytes in
    let wal = bytes c.args.wal.now in
    let journal = bytes c.args.journal.now in
    let counts = counted wal journal c.log_in_use.result c.map_err.result c.in_ok-map_err.field-0 _ (c.log_in_use.ensures.answer given_wal given_journal) c.map_err.ensures.cases c.map_err.ensures.variant c.in_ok-map_err.was in
    let hot = subst (λ (l : LogInUse). CountsAnswer wal journal (Ok l)) c.in-Journal.is counts in
    journal_unread (limits_named c.args.options.large) wal journal (bytes c.log_in_use.new.journal) c.show_journal.result hot.0 c.log_in_use.ensures.same_bytes
    (c.show_journal.ensures.refused (c.log_in_use.ensures.still_gives given_journal))

pub returns-in-Journal-clause-text : goal.returns-in-Journal-clause-text
returns-in-Journal-clause-text g c = λ given_wal given_journal.
    let bytes = g.F.FileBytes.bytes in
    let wal = bytes c.args.wal.now in
    let journal = bytes c.args.journal.now in
    let counts = counted wal journal c.log_in_use.result c.map_err.result c.in_ok-map_err.field-0 _ (c.log_in_use.ensures.answer given_wal given_journal) c.map_err.ensures.cases c.map_err.ensures.variant c.in_ok-map_err.was in
    let hot = subst (λ (l : LogInUse). CountsAnswer wal journal (Ok l)) c.in-Journal.is counts in
    journal_written c.args.options wal journal (g.W.Write.contents c.args.out.now) (g.W.Write.contents c.show_journal.new.out) c.show_journal.result
    (bytes c.log_in_use.new.journal) c.log_in_use.ensures.same_bytes hot.0 hot.2 (c.show_journal.ensures.text (c.log_in_use.ensures.still_gives given_journal))

pub returns-in-Journal-clause-shown : goal.returns-in-Journal-clause-shown
returns-in-Journal-clause-shown g c = λ given_wal given_journal.
    let bytes = g.F.FileBytes.bytes in
    let wal = bytes c.args.wal.now in
    let journal = bytes c.args.journal.now in
    let counts = counted wal journal c.log_in_use.result c.map_err.result c.in_ok-map_err.field-0 _ (c.log_in_use.ensures.answer given_wal given_journal) c.map_err.ensures.cases c.map_err.ensures.variant c.in_ok-map_err.was in
    let hot = subst (λ (l : LogInUse). CountsAnswer wal journal (Ok l)) c.in-Journal.is counts in
    journal_shown (limits_named c.args.options.large) wal journal (bytes c.log_in_use.new.journal) c.show_journal.result hot.0 hot.2 c.log_in_use.ensures.same_bytes
    (c.show_journal.ensures.shown (c.log_in_use.ensures.still_gives given_journal))

pub returns-in-Wal-clause-text : goal.returns-in-Wal-clause-text
returns-in-Wal-clause-text g c = λ given_wal given_journal.
    let bytes = g.F.FileBytes.bytes in
    let wal = bytes c.args.wal.now in
    let journal = bytes c.args.journal.now in
    let counts = counted wal journal c.log_in_use.result c.map_err.result c.in_ok-map_err.field-0 _ (c.log_in_use.ensures.answer given_wal given_journal) c.map_err.ensures.cases c.map_err.ensures.variant c.in_ok-map_err.was in
    let cold = subst (λ (l : LogInUse). CountsAnswer wal journal (Ok l)) c.in-Wal.is counts in
    wal_written c.args.options wal journal (g.W.Write.contents c.args.out.now) (g.W.Write.contents c.show_wal.new.out) c.show_wal.result cold.0
    (c.show_wal.ensures.text given_wal)
