use Rattle.sqwal.specs.declared.scan.Entry.{Entry}
use Rattle.cli_text.specs.Logs.{frame_text}
use Rattle.cli_text.proofs.WrittenTexts.{appends_numbered}
use Rattle.cli_text.proofs.logs.write_frames.Goals as goal

-- what stands for a frame behind the last
missing : Entry
missing = record { page = 0; size = 0 }

pub loop-i-preserved : goal.loop-i-preserved
unfolding missing
loop-i-preserved g c =
    appends_numbered (g.W.Write.contents c.args.out.now) (g.W.Write.contents c.loop-i.out) (g.W.Write.contents c.write_frame.new.out)
    (frame_text c.args.style) c.args.entries.now c.loop-i.i missing c.loop-i-test.true c.loop-i.invariant c.in_ok-write_frame.ensures
