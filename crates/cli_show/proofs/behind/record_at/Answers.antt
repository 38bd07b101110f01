use Rattle.std.proofs.Common.{◌+◌}
use Rattle.cli_show.proofs.LinesBehind.{piece_read}
use Rattle.cli_show.proofs.behind.record_at.Goals as goal

pub returns-in-Some-clause-slot : goal.returns-in-Some-clause-slot
returns-in-Some-clause-slot g c = λ gives within.
    let b = g.F.FileBytes.bytes c.args.journal.now in
    let read = c.in_ok-read_at.ensures.read (g.met.F.FileBytes.right c.args.journal.now gives) in
    c.in-Some.ensures.1 b c.args.place (piece_read (c.args.page_size + 8) c.args.place b c.read_at.new.out c.args.bytes.now c.requires within read)
