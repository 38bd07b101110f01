use Rattle.std.proofs.Common.{◌≡◌, ◌+◌, ◌<◌, length, ◌∙◌, ap, arith}
use Rattle.sqval.specs.Database.{Database, page}
use Rattle.sqpage.proofs.file.PagesInMemory.{keeps_on}
use Rattle.rig_judge.proofs.NumberedCommits.{page_more}
use Rattle.rig_judge.proofs.snapshot.read_pages.Goals as goal

pub loop-i-preserved : goal.loop-i-preserved
loop-i-preserved g c =
    let d = g.S.PageSource.pages c.args.source.now in
    let n = c.loop-i.i in
    let was = c.loop-i.invariant in (
      keeps_on was.0 c.read.ensures.keeps,
      λ right.
          let value : c.in_ok-page.page ≡ page d (n + 1) = c.in_ok-page.ensures.same ∙ c.in_ok-read.ensures.read (was.0.still_right right) ∙ ap (λ (x : Database). page x (n + 1)) was.0.same_pages in
          let less : n < length d = omega (arith, c.loop-i-test.true, c.count-i-end.ensures) in
          page_more d n c.loop-i.pages.items c.push.new.self.items c.in_ok-page.page less (was.1 right) c.in_ok-push.ensures.items value,
    )
