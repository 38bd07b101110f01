use Rattle.sqwal.proofs.feed.ScanAnswers.{committed_within}
use Rattle.sqwal.proofs.scan.Scan.committed.Goals as goal

pub returns : goal.returns
returns c most b t = committed_within most b c.args.self.now t
