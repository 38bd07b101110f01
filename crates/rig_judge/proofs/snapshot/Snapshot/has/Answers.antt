use Rattle.std.proofs.Common.{◌≡◌, sym, ◌∙◌}
use Rattle.sqval.specs.Database.{page}
use Rattle.rig_judge.proofs.NumberedCommits.{page_read}
use Rattle.rig_judge.proofs.snapshot.Snapshot.has.Goals as goal

pub returns : goal.returns
returns c =
    let d = c.args.self.now.pages.items in
    let e : c.index.result.now ≡ page d c.args.p = page_read d c.args.p c.index.result.now c.requires.above c.requires.within c.index.ensures in
    (λ yes. c.has.ensures.0 yes ∙ e, λ is. c.has.ensures.1 (is ∙ sym e))
