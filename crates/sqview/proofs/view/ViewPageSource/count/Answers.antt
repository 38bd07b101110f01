use Rattle.std.proofs.Common.{sym}
use Rattle.sqview.proofs.openings.PagesOfView.{length_laid}
use Rattle.sqview.proofs.view.ViewPageSource.count.Goals as goal

pub returns : goal.returns
returns g c = let v = c.args.self.now in sym (length_laid v.page_size v.count (g.F.FileBytes.bytes v.db) (g.F.FileBytes.bytes v.log) v.places.items)
