use Rattle.walcore.proofs.Facts.{Device, during, file_judged, fits_still, present_in, quiet_err, rules, still_then, tells_then}
use Rattle.walcore.proofs.opening.judge_file.Goals as goal

pub returns-in_default : goal.returns-in_default
returns-in_default g c = during (search rules) (λ word.
    let counted = c.count_pages.ensures.holds word in
    let front = c.judge_front.ensures.holds (c.count_pages.ensures.word.0 word) in
    let is = counted.still in
    record {
      still = still_then (g.D.Disk.state c.args.disk.now) (g.D.Disk.state c.count_pages.new.disk) (g.D.Disk.state c.judge_front.new.disk) is front.still;
      told = tells_then Device c.judge_front.result (g.D.Disk.state c.args.disk.now) (g.D.Disk.state c.count_pages.new.disk) (g.D.Disk.state c.judge_front.new.disk) (quiet_err Device c.count_pages.result _ (g.D.Disk.state c.args.disk.now) (g.D.Disk.state c.count_pages.new.disk) c.in-Err.is c.in_default.not-Device counted.told) front.told;
      found = λ fits db w are_db are.
          file_judged c.args.page_size db w (g.D.Disk.state c.args.disk.now) (g.D.Disk.state c.count_pages.new.disk) (g.D.Disk.state c.judge_front.new.disk) fits are_db is front.still c.in-Err.fault c.judge_front.result (c.in-Err.ensures.holds word).found
          (front.found (fits_still c.args.page_size w w (g.D.Disk.state c.args.disk.now) (g.D.Disk.state c.count_pages.new.disk) (g.D.Disk.state c.count_pages.new.disk) fits is) w (present_in _ _ w is.log are));
    })
