use Rattle.std.proofs.Common.{take}
use Rattle.sqview.proofs.file.LogsReadInPieces.{replay_fed}
use Rattle.sqview.proofs.logs.replay_piece.Goals as goal

pub returns-clause-fed : goal.returns-clause-fed
returns-clause-fed g c = λ right le short took.
    let w = g.F.FileBytes.bytes c.args.journal.now in
    replay_fed w c.read_at.new.out c.args.at _ le (c.in_ok-read_at.ensures.read right) c.feed.result c.feed.new.self short (c.feed.ensures (take c.args.at w) took)
