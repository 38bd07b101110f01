use Rattle.std.proofs.Common.{List, ℕ, refl, sym, subst}
use Rattle.std.specs.Prelude.{OnOk}
use Rattle.std.specs.Io.KnownBytes.{Appends}
use Rattle.cli_text.specs.Reports.{journal_object, wal_object}
use Rattle.cli_show.specs.LogsShown.{IsLogFound}
use Rattle.cli_show.specs.Reports.{IsLogObject}
use Rattle.cli_show.specs.declared.logs.LogFound.{LogFound}
use Rattle.cli_show.proofs.WrittenLogs.{on_ok}
use Rattle.cli_show.proofs.logs.write_log_facts.Goals as goal

pub returns-in-Wal : goal.returns-in-Wal
returns-in-Wal g c limits wal journal found =
    let old = g.W.Write.contents c.args.out.now in
    let new = g.W.Write.contents c.write_wal_object.new.out in
    let most = limits.frames in
    let log = subst (λ (l : LogFound). IsLogFound limits wal journal l) c.in-Wal.is found in
    let shown = c.write_wal_object.ensures most wal log.1 in
    let text = wal_object shown.0 c.in-Wal.commits.items c.in-Wal.length in
    on_ok c.write_wal_object.result (Appends old new text)
    ((text : List ℕ) × IsLogObject most wal journal c.args.log.now text × Appends old new text)
    (λ written. (text, subst (λ (l : LogFound). IsLogObject most wal journal l text) (sym c.in-Wal.is) (shown.0, shown.1, refl), written))
    (subst (λ (l : List ℕ). OnOk c.write_wal_object.result (Appends old new (wal_object shown.0 l c.in-Wal.length))) c.deref.ensures.value shown.2)

pub returns-in-Journal : goal.returns-in-Journal
returns-in-Journal g c limits wal journal found =
    let old = g.W.Write.contents c.args.out.now in
    let new = g.W.Write.contents c.write_journal_object.new.out in
    let most = limits.frames in
    let log = subst (λ (l : LogFound). IsLogFound limits wal journal l) c.in-Journal.is found in
    let read = log.1 in
    let shown = c.write_journal_object.ensures read.front read.took in
    let text = journal_object shown.0 in
    on_ok c.write_journal_object.result (Appends old new text)
    ((text : List ℕ) × IsLogObject most wal journal c.args.log.now text × Appends old new text)
    (λ written. (text, subst (λ (l : LogFound). IsLogObject most wal journal l text) (sym c.in-Journal.is) (read, shown.0, shown.1, refl), written))
    shown.2
