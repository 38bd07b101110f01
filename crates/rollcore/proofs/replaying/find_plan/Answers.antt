use Rattle.rollcore.proofs.Facts.{Device, FileState, Ok, ap, during, look_unread, passed, present_in, read_looked, read_torn, refl, rules, still_looks, still_then, sym, tells_ok, told_then, torn_still, ◌∙◌, ◌≡◌}
use Rattle.rollcore.proofs.disk.ToldRefusals.{told_device}
use Rattle.rollcore.proofs.replaying.find_plan.Goals as goal

pub returns-in_err-long-clause-disk : goal.returns-in_err-long-clause-disk
returns-in_err-long-clause-disk g c = during (search rules) (λ word.
    record {
      still = still_looks _ c.len.result _ _ (g.met.D.Disk.sound c.args.disk.now word) (c.len.ensures.state word);
      told = told_device c.from_residual.result (g.D.Disk.state c.args.disk.now) (g.D.Disk.state c.len.new.self) (passed c.from_residual.result Device c.from_residual.ensures.1);
      found = record {
        plan = λ w are. look_unread c.args.limits.bytes w (g.D.Disk.state c.args.disk.now) (g.met.D.Disk.sound c.args.disk.now word) (g.D.Disk.state c.len.new.self) c.len.result _ c.from_residual.result c.in_err-long.was (passed c.from_residual.result Device c.from_residual.ensures.1) (c.len.ensures.state word);
        sectors = search rules;
      };
    })

pub returns-clause-disk : goal.returns-clause-disk
returns-clause-disk g c = during (search rules) (λ word.
    let sound = g.met.D.Disk.sound c.args.disk.now word in
    let by_read_plan = c.read_plan.ensures.disk.holds (c.len.ensures.word.0 word) in
    let is = still_looks _ c.len.result _ _ sound (c.len.ensures.state word) in
    record {
      still = still_then (g.D.Disk.state c.args.disk.now) (g.D.Disk.state c.len.new.self) (g.D.Disk.state c.read_plan.new.disk) is by_read_plan.still;
      told =
          told_then c.read_plan.result {U = Unit {0}} (Ok tt) tt (g.D.Disk.state c.args.disk.now) (g.D.Disk.state c.len.new.self) (g.D.Disk.state c.read_plan.new.disk) refl
          (tells_ok {T = Unit {0}} Device (Ok tt) c.len.result _ (g.D.Disk.state c.args.disk.now) (g.D.Disk.state c.len.new.self) c.in_ok-long.was (c.len.ensures.state word).refused) by_read_plan.told;
      found = record {
        plan = λ w are.
            let a = g.D.Disk.state c.args.disk.now in
            let b = g.D.Disk.state c.len.new.self in
            let are1 = present_in a.log b.log w is.log are in
            let long : b.log.len ≡ c.in_ok-long.long = ap (λ (s : FileState). s.len) is.log ∙ sym (c.in_ok-long.ensures.answer word) in
            read_looked c.args.limits.bytes w a b (g.D.Disk.state c.read_plan.new.disk) is c.read_plan.result
            (read_torn c.args.limits.bytes c.sector_that_tears-torn.result w c.read_plan.result b (g.D.Disk.state c.read_plan.new.disk) (c.sector_that_tears-torn.ensures.value word ∙ sym (torn_still a b is)) (by_read_plan.found w are1 (are1.len ∙ long)));
        sectors = search rules;
      };
    })
