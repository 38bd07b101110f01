use Rattle.std.proofs.Common.{sym}
use Rattle.sqpage.proofs.file.PagesInMemory.{length-sliced}
use Rattle.sqpage.proofs.source.SliceSourcePageSource.count.Goals as goal

pub returns : goal.returns
returns c = sym (length-sliced c.args.self.now.page_size c.args.self.now.count c.args.self.now.bytes.now)
