use Rattle.std.proofs.Common.{◌<◌, ◌∙◌, ap, subst, arith}
use Rattle.sqval.specs.Database.{file_pages}
use Rattle.sqval.specs.PageSize.{IsPageSize}
use Rattle.sqval.proofs.page.FilePages.{size_some}
use Rattle.sqpast.proofs.known.KnownViews.{file_count}
use Rattle.view_loss.proofs.start.page_count.Goals as goal

pub returns-clause-pages : goal.returns-clause-pages
returns-clause-pages g c = λ r.
    let file = g.F.FileBytes.bytes c.args.file.now in
    let pos : 0 < c.from.result = let s = size_some c.get.result c.get.ensures.valid in omega (arith, s, c.from.ensures) in
    file_count c.from.result c.div_ceil.result c.len.result file pos (c.len.ensures.count r) c.div_ceil.ensures
    ∙ ap (λ n. file_pages n file) (c.from.ensures ∙ c.get.ensures.value)

pub returns-clause-valid : goal.returns-clause-valid
returns-clause-valid g c = subst IsPageSize c.get.ensures.value c.get.ensures.valid
