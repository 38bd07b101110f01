use Rattle.std.proofs.Common.{ℕ, ◌∙◌, ap, arith}
use Rattle.history.specs.Past.{used}
use Rattle.sqval.specs.Database.{page}
use Rattle.sqview.specs.LogView.{pages_of}
use Rattle.sqview.proofs.openings.PagesOfView.{length_laid}
use Rattle.sqpast.proofs.known.UsedPages.{used_counts, used_fits}
use Rattle.sqpast.proofs.at.used_pages.Goals as goal

pub returns-clause-right : goal.returns-clause-right
returns-clause-right g c = λ r some.
    let v = c.args.view.now in
    let d = pages_of g.F.FileBytes.bytes v in
    c.used.ensures ∙ used_counts d c.in_ok-counts.counts (c.in_ok-counts.ensures.right r)
    ∙ ap (λ (n : ℕ). used n (page d 1)) (length_laid v.page_size v.count (g.F.FileBytes.bytes v.db) (g.F.FileBytes.bytes v.log) v.places.items)

pub returns-clause-within : goal.returns-clause-within
returns-clause-within g c = omega (arith, c.used.ensures, used_fits c.in_ok-counts.counts, c.in_ok-counts.ensures.all)
