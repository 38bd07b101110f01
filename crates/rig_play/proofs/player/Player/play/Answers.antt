use Rattle.std.proofs.Common.{inr, Bool, subst}
use Rattle.std.proofs.lemmas.Result.{IfOk-weaker, IfErr-weaker}
use Rattle.rig_play.specs.declared.meta.Epoch.{Epoch}
use Rattle.rig_play.specs.Plays.{files_of, epoch_now, Follows}
use Rattle.rig_play.proofs.ForgottenFiles.{in_order, same_meta}
use Rattle.rig_play.proofs.player.Player.play.Goals as goal

pub returns-clause-step : goal.returns-clause-step
returns-clause-step c =
    let mid = files_of c.go.new.self in
    let new = files_of c.follow.new.self in
    IfOk-weaker c.follow.result _ _ (λ done follows. (
      mid,
      c.in_ok-go.ensures.goes,
      subst (λ (down : Bool). Follows down (epoch_now (files_of c.args.self.now)) (epoch_now mid) mid.earlier new.earlier) c.has_all_down-all_down.ensures
          (subst (λ (before : Epoch). Follows c.has_all_down-all_down.result before (epoch_now mid) mid.earlier new.earlier) c.epoch-before.ensures follows),
      c.follow.ensures.rest,
    )) c.follow.ensures.follows

pub returns-clause-refused : goal.returns-clause-refused
returns-clause-refused c =
    let old = files_of c.args.self.now in
    let mid = files_of c.go.new.self in
    IfErr-weaker c.follow.result _ _ (λ error refused. inr (
      in_order old mid c.epoch-before.result (same_meta c.args.trace.now c.args.call.now old mid c.in_ok-go.ensures.goes) c.epoch-before.ensures refused.0,
      refused.1,
    )) c.follow.ensures.refused
