use Rattle.std.proofs.Common.{◌∙◌, ℕ, ap, subst, arith}
use Rattle.sqwal.specs.Frames.{size_of, IsValidFrame}
use Rattle.sqwal.specs.Header.{named_size}
use Rattle.sqwal.proofs.feed.ScanAnswers.{few_frames}
use Rattle.sqview.proofs.openings.ShownOrRefusedView.{alone_zero, placed_logged, front_valid}
use Rattle.sqview.proofs.view.opening.committed.Goals as goal

pub returns-then-front-eq0-clause-right : goal.returns-then-front-eq0-clause-right
returns-then-front-eq0-clause-right g c = λ right ok took header journal cold.
    let w = g.F.FileBytes.bytes c.args.log in
    let alone = alone_zero c.args.limits (g.F.FileBytes.bytes c.args.db) w journal cold (few_frames w c.args.scan.now took) c.committed-front.result (c.committed-front.ensures _ w took) c.if-front-eq0.true in
    c.own.ensures.right right ok w journal alone.0 alone.1

pub returns-clause-right : goal.returns-clause-right
returns-clause-right g c = λ right ok took header journal cold.
    let db = g.F.FileBytes.bytes c.args.db in
    let w = g.F.FileBytes.bytes c.args.log in
    let f = c.committed-front.result in
    let is = c.committed-front.ensures _ w took in
    let valid = front_valid (named_size w) w f.frames is.front c.if-front-eq0.false in
    let sized : IsValidFrame c.args.page_size w f.frames = subst (λ (n : ℕ). IsValidFrame n w f.frames) header.named valid in
    placed_logged c.args.limits db w journal cold (few_frames w c.args.scan.now took) c.args.page_size header.named f is c.if-front-eq0.false g.F.FileBytes.bytes c.placed.result
    (c.placed.ensures.answer took header.named sized (is.some (omega (arith, c.if-front-eq0.false)) ∙ ap (λ n. size_of n w f.frames) header.named))
