use Rattle.std.proofs.Common.{◌+◌, ℕ, ap, sym, ◌∙◌}
use Rattle.sqval.specs.Bytes.{part}
use Rattle.cli_show.proofs.LinesBehind.{piece_read}
use Rattle.cli_show.proofs.behind.slot_at.Goals as goal

pub returns-in-Some-clause-slot : goal.returns-in-Some-clause-slot
returns-in-Some-clause-slot g c = λ gives header within i some at sums.
    let b = g.F.FileBytes.bytes c.args.wal.now in
    let size = c.args.header.now.page_size in
    let read = c.in_ok-read_at.ensures.read (g.met.F.FileBytes.right c.args.wal.now gives) in
    let piece = piece_read (24 + size) c.args.place b c.read_at.new.out c.args.frame.now c.requires within read in
    c.in-Some.ensures.1 b i header some (ap (λ (n : ℕ). part b n (24 + size)) (sym at) ∙ piece) sums
