use Rattle.std.proofs.Common.{◌≡◌, ◌<◌, ◌∙◌, ap, subst, arith}
use Rattle.sqval.specs.Database.{file_pages}
use Rattle.sqval.specs.PageSize.{IsPageSize}
use Rattle.sqval.proofs.page.FilePages.{size_some}
use Rattle.sqpast.proofs.known.KnownViews.{file_count}
use Rattle.sqpast.proofs.known.BeforeCommits.{head_count}
use Rattle.sqpast.proofs.before.start_of.Goals as goal

pub returns-clause-right : goal.returns-clause-right
returns-clause-right g c = λ r.
    let file = g.F.FileBytes.bytes c.args.db.now in
    let pos : 0 < c.from.result = let s = size_some c.get.result c.get.ensures.valid in omega (arith, s, c.from.ensures) in
    let counted : c.div_ceil-long.result ≡ file_pages c.from.result file = file_count c.from.result c.div_ceil-long.result c.len.result file pos (c.len.ensures.count r) c.div_ceil-long.ensures in
    record {
      long = counted ∙ ap (λ n. file_pages n file) (c.from.ensures ∙ c.get.ensures.value);
      valid = c.in_ok-valid.ensures.read r ∙ head_count c.args.page_size file (subst IsPageSize c.get.ensures.value c.get.ensures.valid);
    }
