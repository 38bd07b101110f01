use Rattle.sqwal.proofs.feed.ScanWithNextFrame.{took-header}
use Rattle.sqwal.proofs.scan.FrameList.new.Goals as goal

pub returns-clause-took : goal.returns-clause-took
returns-clause-took c is = took-header c.args.limits c.args.header.now c.args.head.now c.new.result.items c.zero.result c.add.result is c.told-head c.new.ensures.items c.zero.ensures c.add.ensures
