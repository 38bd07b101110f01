use Rattle.sqview.proofs.openings.PagesOfView.{laid_sized, on_ok}
use Rattle.cli_show_frames.proofs.held.HeldPageSource.page.Goals as goal

pub returns-clause-read : goal.returns-clause-read
returns-clause-read g c = λ right.
    let v = c.args.self.now.view in
    on_ok c.read.result (λ read. (read, laid_sized v.page_size (g.F.FileBytes.bytes v.db) (g.F.FileBytes.bytes v.log) v.places.items v.count)) (c.read.ensures.read right)
