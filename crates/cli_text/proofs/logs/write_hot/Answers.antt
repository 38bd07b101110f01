use Rattle.cli_text.specs.Logs.{journal_start_text, journal_stop_text, records_text}
use Rattle.cli_text.proofs.WrittenTexts.{appends_three}
use Rattle.cli_text.proofs.logs.write_hot.Goals as goal

pub returns : goal.returns
returns g c b records took says =
    let style = c.args.style in
    appends_three c.write_stop.result (g.W.Write.contents c.args.out.now) (g.W.Write.contents c.write_journal_header.new.out)
    (g.W.Write.contents c.write_entries.new.out) (g.W.Write.contents c.write_stop.new.out)
    (journal_start_text style c.args.header.now) (records_text style records) (journal_stop_text style c.args.stop)
    c.in_ok-write_journal_header.ensures (c.in_ok-write_entries.ensures b records c.args.stop took says) c.write_stop.ensures
