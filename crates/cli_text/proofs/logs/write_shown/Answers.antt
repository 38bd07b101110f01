use Rattle.cli_text.specs.Logs.{frames_text, front_text, log_start_text}
use Rattle.cli_text.proofs.WrittenTexts.{appends_three}
use Rattle.cli_text.proofs.logs.write_shown.Goals as goal

pub returns : goal.returns
returns g c =
    let log = c.args.log.now in
    let style = c.args.style in
    rw c.in-Some.is (appends_three c.write_front.result (g.W.Write.contents c.args.out.now) (g.W.Write.contents c.write_wal_header.new.out)
    (g.W.Write.contents c.write_frames.new.out) (g.W.Write.contents c.write_front.new.out)
    (log_start_text style c.in-Some.header) (frames_text style log.entries.now) (front_text style log.front log.stop)
    c.in_ok-write_wal_header.ensures c.in_ok-write_frames.ensures c.write_front.ensures)
