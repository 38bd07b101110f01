use Rattle.std.proofs.Common.{[], ◌++◌, refl, ◌∙◌, ap, arith}
use Rattle.sqval.specs.Limits.{Bounds}
use Rattle.std.proofs.lemmas.Result.{err_from_is_err_and}
use Rattle.sqwal.proofs.feed.ScanWithNextFrame.{come-error, come-next, come-end, keeps-keeps}
use Rattle.sqwal.proofs.scan.FrameList.take_whole.Goals as goal

pub returns-in_err-take-clause-took : goal.returns-in_err-take-clause-took
returns-in_err-take-clause-took c b t =
    let p = err_from_is_err_and c.from_residual.result c.from_residual.ensures.1 in
    let is = c.loop-rest.invariant.took b t in
    let same = ap (λ (k : Bounds). k.frames) c.loop-rest.invariant.limits in
    rw (p.1, p.2, ← same) (come-error c.args.header.now (b ++ c.args.bytes.now) c.loop-rest.rest.now c.split_at.result.0.now c.split_at.result.1.now c.loop-rest.self.entries.items c.loop-rest.self.progress
    c.split_at.ensures.by_index.0 is c.loop-rest.self.progress.limits.frames c.in_err-take.field-0.0 (c.in_err-take.ensures.took is.0 [] c.split_at.result.0.now is.1.1 refl))

pub loop-rest-preserved : goal.loop-rest-preserved
loop-rest-preserved c = record {
  took = λ b t.
      let is = c.loop-rest.invariant.took b t in
      come-next c.args.header.now (b ++ c.args.bytes.now) c.loop-rest.rest.now c.split_at.result.0.now c.split_at.result.1.now c.loop-rest.self.entries.items c.loop-rest.self.progress
      c.split_at.ensures.by_index.0 is c.take.new.self.entries.items c.take.new.self.progress (c.in_ok-take.ensures.took is.0 [] c.split_at.result.0.now is.1.1 refl);
  limits = c.take.ensures.limits ∙ c.loop-rest.invariant.limits;
  keeps = keeps-keeps c.args.self.now.entries.items c.loop-rest.self.entries.items c.take.new.self.entries.items c.loop-rest.invariant.keeps c.take.ensures.keeps;
}

pub returns-clause-took : goal.returns-clause-took
returns-clause-took c b t = come-end c.args.header.now (b ++ c.args.bytes.now) c.loop-rest.rest.now c.loop-rest.self.entries.items c.loop-rest.self.progress (c.loop-rest.invariant.took b t) (omega (arith, c.loop-rest-test.false, c.frame_length-length.ensures.value))
