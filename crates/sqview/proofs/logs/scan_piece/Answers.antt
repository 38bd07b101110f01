use Rattle.std.proofs.Common.{take}
use Rattle.sqview.proofs.file.LogsReadInPieces.{scan_fed}
use Rattle.sqview.proofs.logs.scan_piece.Goals as goal

pub returns-clause-fed : goal.returns-clause-fed
returns-clause-fed g c = λ most right le took.
    let w = g.F.FileBytes.bytes c.args.log.now in
    scan_fed w c.read_at.new.out c.args.at _ le (c.in_ok-read_at.ensures.read right) most c.feed.result c.feed.new.self (c.feed.ensures most (take c.args.at w) took)
