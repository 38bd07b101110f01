use Rattle.std.proofs.Common.{List, ℕ, ◌++◌, subst, append_assoc}
use Rattle.std.proofs.lemmas.Result.{err_from_is_err_and}
use Rattle.sqval.specs.Limits.{Bounds}
use Rattle.sqwal.specs.Took.{TookFrames}
use Rattle.sqwal.specs.internal.ScanParts.{FramesRefused}
use Rattle.sqwal.proofs.feed.ScanUnderMoreBytes.{frames_refused-more}
use Rattle.sqwal.proofs.feed.PieceFedToScan.{all-kept}
use Rattle.sqwal.proofs.scan.Scan.advance.Goals as goal

pub returns-in_err-finish-clause-took : goal.returns-in_err-finish-clause-took
returns-in_err-finish-clause-took c b t none is =
    let p = err_from_is_err_and c.from_residual.result c.from_residual.ensures.1 in
    rw (p.1, p.2) (subst (λ (x : List ℕ). FramesRefused c.args.self.now.frames.progress.limits.frames c.args.header.now.page_size x c.in_err-finish.field-0.0) (append_assoc b c.args.first.now c.args.rest.now)
    (frames_refused-more c.args.self.now.frames.progress.limits.frames c.args.header.now.page_size (b ++ c.args.first.now) c.args.rest.now c.in_err-finish.field-0.0 (c.in_err-finish.ensures.took b t none is)))

pub returns-in_err-left-clause-took : goal.returns-in_err-left-clause-took
returns-in_err-left-clause-took c b t none is =
    let p = err_from_is_err_and c.from_residual-in_err-left.result c.from_residual-in_err-left.ensures.1 in
    rw (p.1, p.2) (subst (λ (x : List ℕ). FramesRefused c.args.self.now.frames.progress.limits.frames c.args.header.now.page_size x c.in_err-left.field-0.0) (append_assoc b c.args.first.now c.args.rest.now)
    (subst (λ (k : Bounds). FramesRefused k.frames c.args.header.now.page_size ((b ++ c.args.first.now) ++ c.args.rest.now) c.in_err-left.field-0.0) c.in_ok-finish.ensures.limits
    (c.in_err-left.ensures.took (b ++ c.args.first.now) (c.in_ok-finish.ensures.took b t none is))))

pub returns-clause-took : goal.returns-clause-took
returns-clause-took c b t none is = all-kept c.args.self.now.frames.progress.limits.frames c.args.header.now (b ++ (c.args.first.now ++ c.args.rest.now)) c.in_ok-left.left.now c.take_whole.new.self.entries.items c.take_whole.new.self.progress c.kept.result c.kept.ensures.items c.kept.ensures.memory
    (subst (λ (x : List ℕ). TookFrames c.args.header.now x c.in_ok-left.left.now c.take_whole.new.self.entries.items c.take_whole.new.self.progress) (append_assoc b c.args.first.now c.args.rest.now)
    (c.in_ok-left.ensures.took (b ++ c.args.first.now) (c.in_ok-finish.ensures.took b t none is)))
