use Rattle.walcore.proofs.Facts.{ArePresent, Device, List, byte, down_present, down_still, during, ends_down, later_still, later_then, length_still, passed, passes_device, plan_folds, present_in, present_list, quiet_ok, read_folds, read_plans, rules, scanning_shows, scanning_still, table, tells_then, ℕ, ◌∙◌}
use Rattle.walcore.proofs.folding.fold_log.Goals as goal

pub returns-in_err-plan : goal.returns-in_err-plan
returns-in_err-plan g c = during c.read_plan.ensures.disk.word (λ word long.
    let read = c.read_plan.ensures.disk.holds word in
    record {
      calls = record {
        later = later_still (g.D.Disk.state c.args.disk.now) (g.D.Disk.state c.read_plan.new.disk) (g.met.D.Disk.sound c.args.disk.now word) read.still;
        told = λ more. passes_device Device c.read_plan.result c.from_residual.result _ c.in_err-plan.was c.from_residual.ensures.1 (read.told more);
      };
      folds = λ fits db w are_db are. read_folds c.args.limits c.args.page_size db w _ _ fits read.still c.read_plan.result c.from_residual.result _ c.in_err-plan.was (passed c.from_residual.result _ c.from_residual.ensures.1) (read.found w are (are.len ∙ long));
      shows = λ w d scanning. scanning_shows c.args.page_size d w _ (scanning_still c.args.page_size d w _ _ scanning read.still);
      lengths = λ w n durable len. ends_down n w _ (down_still w _ _ read.still durable) (length_still c.args.page_size w n _ _ read.still len).none;
    })

pub returns : goal.returns
returns g c = during (search rules) (λ word long.
    let read = c.read_plan.ensures.disk.holds word in
    let folded = c.fold_plan.ensures.holds (c.read_plan.ensures.disk.word.0 word) in
    let s = (g.D.Disk.state c.args.disk.now) in
    let is = read.still in
    let plans = λ (w : List ℕ) (are : ArePresent s.log w). read_plans c.args.limits c.args.page_size w c.read_plan.result c.in_ok-plan.plan s (g.D.Disk.state c.read_plan.new.disk) c.in_ok-plan.was (read.found w are (are.len ∙ long)) in
    record {
      calls =
          let w = table s.log.len (byte s.log) in
          let calls = folded.calls c.args.limits.bytes c.args.page_size w (plans w (present_list s.log)).1 in
          record {
            later = later_then s (g.D.Disk.state c.read_plan.new.disk) (g.D.Disk.state c.fold_plan.new.disk) (later_still s (g.D.Disk.state c.read_plan.new.disk) (g.met.D.Disk.sound c.args.disk.now word) is) calls.later;
            told = tells_then Device c.fold_plan.result s (g.D.Disk.state c.read_plan.new.disk) (g.D.Disk.state c.fold_plan.new.disk) (quiet_ok Device c.read_plan.result _ s (g.D.Disk.state c.read_plan.new.disk) c.in_ok-plan.was read.told) calls.told;
          };
      folds = λ fits db w are_db are.
          plan_folds c.args.limits c.args.page_size db w _ _ fits is c.read_plan.result c.in_ok-plan.plan c.fold_plan.result _ (plans w are).0
          (folded.folds c.args.limits.bytes c.args.page_size db w (present_in _ _ db is.db are_db) (present_in _ _ w is.log are) (plans w are).1);
      shows = λ w d scanning.
          let plan = plans w (down_present w _ scanning.log.durable) in
          folded.shows c.args.limits c.args.page_size w d (scanning_still c.args.page_size d w _ _ scanning is) plan.1 plan.0;
      lengths = λ w n durable len. folded.lengths c.args.limits.bytes c.args.page_size w n (down_still w _ _ is durable) (plans w (down_present w _ durable)).1 (length_still c.args.page_size w n _ _ is len);
    })
