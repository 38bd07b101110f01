use Rattle.rollcore.proofs.Facts.{ap, during, length, passed, read_answer, read_file, read_judged, refused_answer, rules, ℕ, ◌*◌}
use Rattle.rollcore.proofs.roll.Roll.read.Goals as goal

pub returns-in_err-judge_read-clause-disk : goal.returns-in_err-judge_read-clause-disk
returns-in_err-judge_read-clause-disk g c = during (search rules) (λ word.
    record {
      step = λ past fits full.
          read_judged past c.args.self.now.core (g.D.Disk.state c.args.self.now.disk) fits c.args.page
          c.args.out.now (length c.args.out.now) c.judge_read.result c.from_residual.result _ fits.disk.suits.sound c.in_err-judge_read.was (passed c.from_residual.result _ c.from_residual.ensures.1) full c.judge_read.ensures.judged;
      looks = search rules;
    })

pub returns-in_err-judge_read-clause-answer : goal.returns-in_err-judge_read-clause-answer
returns-in_err-judge_read-clause-answer g c =
    refused_answer c.args.self.now.core c.args.page (length c.args.out.now) c.judge_read.result c.from_residual.result _ _ c.in_err-judge_read.was (passed c.from_residual.result _ c.from_residual.ensures.1) c.judge_read.ensures.judged

pub returns-clause-disk : goal.returns-clause-disk
returns-clause-disk g c = during (search rules) (λ word.
    let by_read_place = c.read_place.ensures.disk.holds word in
    record {
      step = λ past fits full.
          read_file past c.args.self.now.core (g.D.Disk.state c.args.self.now.disk) fits c.args.page (length c.args.out.now) full c.in_ok-judge_read.ensures.judged
          (c.from.result * length c.args.out.now) (ap (λ (n : ℕ). n * length c.args.out.now) c.from.ensures) c.read_place.new.out c.read_place.auto.out (g.D.Disk.state c.read_place.new.disk) c.read_place.result
          by_read_place.told by_read_place.place;
      looks = search rules;
    })

pub returns-clause-answer : goal.returns-clause-answer
returns-clause-answer g c = read_answer c.args.self.now.core c.args.page (length c.args.out.now) c.judge_read.result _ c.read_place.result _ _ c.in_ok-judge_read.was c.read_place.ensures.error c.judge_read.ensures.judged
