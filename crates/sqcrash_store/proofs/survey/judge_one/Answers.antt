use Rattle.std.proofs.Common.{inl, inr, [], refl}
use Rattle.rig_store.specs.Left.{image_of}
use Rattle.sqcrash_store.specs.Judged.{Judged, kept_of}
use Rattle.sqcrash_store.specs.Refused.{IsOfWriter}
use Rattle.sqcrash_store.proofs.KeptImages.{keeps_more}
use Rattle.sqcrash_store.proofs.PassedRefusals.{made}
use Rattle.sqcrash_store.proofs.survey.judge_one.Goals as goal

pub returns-clause-judged : goal.returns-clause-judged
returns-clause-judged g c =
    let x : Judged = record { image = image_of c.args.drawn.image.now; found = c.in_ok-found.found } in
    let kept = g.J.Judge.kept in (
      x,
      refl,
      c.in_ok-found.ensures.number,
      c.in_ok-found.ensures.judged,
      c.in_ok-tally.ensures,
      c.in_ok-write_wrong.ensures,
      keeps_more (kept c.args.judge.now) (kept c.found_of.new.judge) (kept c.keep_one.new.judge) [] (kept_of c.args.bench.now.plan x) c.in_ok-found.ensures.kept c.in_ok-keep_one.ensures,
    )

pub returns-in_err-write_wrong-clause-refused : goal.returns-in_err-write_wrong-clause-refused
returns-in_err-write_wrong-clause-refused g c =
    made c.from_residual-in_err-write_wrong.result _ _ IsOfWriter c.from_residual-in_err-write_wrong.ensures.1
    (λ refusal is. inl (inr (inl is)))
