use Rattle.sqwal.proofs.feed.ScanAnswers.{header_found}
use Rattle.sqwal.proofs.scan.Scan.header.Goals as goal

pub returns : goal.returns
returns c most b t = header_found b c.args.self.now.held.items c.args.self.now.frames.entries.items c.args.self.now.frames.progress c.args.self.now.header t.parts
