use Rattle.std.proofs.Common.{inl, inr, Bool, refl, subst}
use Rattle.std.proofs.lemmas.Result.{IfOk-weaker}
use Rattle.rig_images.specs.Keys.{key_of}
use Rattle.sqcrash.specs.Samples.{Takes}
use Rattle.sqcrash.proofs.sample.Sample.judge.Goals as goal

pub returns-then-not-taken-clause-judged : goal.returns-then-not-taken-clause-judged
returns-then-not-taken-clause-judged g c = λ scan. inr (subst (λ (b : Bool). Takes (key_of c.args.image.now) b c.args.self.now c.takes.new.self) c.if-not-taken.true c.in_ok-taken.ensures, refl)

pub returns-clause-judged : goal.returns-clause-judged
returns-clause-judged g c = λ scan.
    let taken = subst (λ (b : Bool). Takes (key_of c.args.image.now) b c.args.self.now c.takes.new.self) c.if-not-taken.false c.in_ok-taken.ensures in
    IfOk-weaker c.judge.result _ _ (λ done one. inl (taken, one)) (c.judge.ensures.judged scan)
