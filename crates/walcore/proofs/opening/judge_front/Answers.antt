use Rattle.walcore.proofs.Facts.{Device, called_quiet, during, fits_still, front_unique, front_unlooked, front_unread, inr, named_size, passed, passes_device, present_in, read_plans, refl, rules, still_looks, still_then, sym, tells_quiet, tells_then, usual, ◌∙◌}
use Rattle.walcore.proofs.folds.LengthOfDatabaseFile.{front_none}
use Rattle.walcore.proofs.opening.judge_front.Goals as goal

pub returns-in_err-long : goal.returns-in_err-long
returns-in_err-long g c = during c.len.ensures.word (λ word.
    let sound = g.met.D.Disk.sound c.args.disk.now word in
    let looked = c.len.ensures.state word in
    let device = passed c.from_residual.result Device c.from_residual.ensures.1 in
    record {
      still = still_looks _ c.len.result _ _ sound looked;
      told = λ more. device;
      found = λ fits w are. front_unlooked c.args.page_size w c.args.fault c.len.result _ c.from_residual.result (g.D.Disk.state c.args.disk.now) (g.D.Disk.state c.len.new.self) sound fits c.in_err-long.was device looked;
    })

pub returns-in_err-plan : goal.returns-in_err-plan
returns-in_err-plan g c = during (search rules) (λ word.
    let looked = c.len.ensures.state word in
    let is = still_looks _ c.len.result (g.D.Disk.state c.args.disk.now) (g.D.Disk.state c.len.new.self) (g.met.D.Disk.sound c.args.disk.now word) looked in
    let read = c.read_plan.ensures.disk.holds (c.len.ensures.word.0 word) in
    let quiet = called_quiet c.len.result _ (g.D.Disk.state c.args.disk.now) (g.D.Disk.state c.len.new.self) c.in_ok-long.was looked.refused in
    record {
      still = still_then (g.D.Disk.state c.args.disk.now) (g.D.Disk.state c.len.new.self) (g.D.Disk.state c.read_plan.new.disk) is read.still;
      told = λ more. passes_device Device c.read_plan.result c.from_residual-in_err-plan.result _ c.in_err-plan.was c.from_residual-in_err-plan.ensures.1 (tells_then Device c.read_plan.result (g.D.Disk.state c.args.disk.now) (g.D.Disk.state c.len.new.self) (g.D.Disk.state c.read_plan.new.disk) quiet read.told more);
      found = λ fits w are.
          front_unread c.args.page_size w c.args.fault c.read_plan.result _ c.from_residual-in_err-plan.result (g.D.Disk.state c.args.disk.now) (g.D.Disk.state c.len.new.self) (g.D.Disk.state c.read_plan.new.disk) fits
          (fits_still c.args.page_size w w (g.D.Disk.state c.args.disk.now) (g.D.Disk.state c.len.new.self) (g.D.Disk.state c.len.new.self) fits is) is read.still c.in_err-plan.was
          (passed c.from_residual-in_err-plan.result _ c.from_residual-in_err-plan.ensures.1) (read.found w (present_in _ _ w is.log are) (are.len ∙ sym (c.in_ok-long.ensures.answer word)));
    })

pub returns-then-plan-eq0 : goal.returns-then-plan-eq0
returns-then-plan-eq0 g c = during (search rules) (λ word.
    let looked = c.len.ensures.state word in
    let is = still_looks _ c.len.result (g.D.Disk.state c.args.disk.now) (g.D.Disk.state c.len.new.self) (g.met.D.Disk.sound c.args.disk.now word) looked in
    let read = c.read_plan.ensures.disk.holds (c.len.ensures.word.0 word) in
    let quiet = called_quiet c.len.result _ (g.D.Disk.state c.args.disk.now) (g.D.Disk.state c.len.new.self) c.in_ok-long.was looked.refused in
    record {
      still = still_then (g.D.Disk.state c.args.disk.now) (g.D.Disk.state c.len.new.self) (g.D.Disk.state c.read_plan.new.disk) is read.still;
      told = λ more. absurd (tells_quiet Device c.read_plan.result _ (g.D.Disk.state c.args.disk.now) (g.D.Disk.state c.len.new.self) (g.D.Disk.state c.read_plan.new.disk) c.in_ok-plan.was quiet read.told more);
      found = λ fits w are.
          let plans = read_plans usual c.args.page_size w c.read_plan.result c.in_ok-plan.plan _ _ c.in_ok-plan.was (read.found w (present_in _ _ w is.log are) (are.len ∙ sym (c.in_ok-long.ensures.answer word))) in
          inr (plans.0, front_none w c.in_ok-plan.plan.frames c.if-plan-eq0.true plans.1.front, refl);
    })

pub returns : goal.returns
returns g c = during (search rules) (λ word.
    let looked = c.len.ensures.state word in
    let is = still_looks _ c.len.result (g.D.Disk.state c.args.disk.now) (g.D.Disk.state c.len.new.self) (g.met.D.Disk.sound c.args.disk.now word) looked in
    let read = c.read_plan.ensures.disk.holds (c.len.ensures.word.0 word) in
    let quiet = called_quiet c.len.result _ (g.D.Disk.state c.args.disk.now) (g.D.Disk.state c.len.new.self) c.in_ok-long.was looked.refused in
    record {
      still = still_then (g.D.Disk.state c.args.disk.now) (g.D.Disk.state c.len.new.self) (g.D.Disk.state c.read_plan.new.disk) is read.still;
      told = λ more. absurd (tells_quiet Device c.read_plan.result _ (g.D.Disk.state c.args.disk.now) (g.D.Disk.state c.len.new.self) (g.D.Disk.state c.read_plan.new.disk) c.in_ok-plan.was quiet read.told more);
      found = λ fits w are none.
          let plans = read_plans usual c.args.page_size w c.read_plan.result c.in_ok-plan.plan _ _ c.in_ok-plan.was (read.found w (present_in _ _ w is.log are) (are.len ∙ sym (c.in_ok-long.ensures.answer word))) in
          c.if-plan-eq0.false (sym (front_unique (named_size w) w 0 c.in_ok-plan.plan.frames none plans.1.front));
    })
