use Rattle.rollcore.proofs.Facts.{Err, Option, Replay, TooLarge, arith, during, rules, scan_long, told_same}
use Rattle.rollcore.proofs.reading.scan_log.Goals as goal

pub returns-then-long-gt-LONGEST : goal.returns-then-long-gt-LONGEST
returns-then-long-gt-LONGEST g c = during (search rules) (λ word.
    record {
      still = search rules;
      told = told_same {T = Option Replay} (Err TooLarge) (g.D.Disk.state c.args.disk.now) (g.D.Disk.state c.args.disk.now) (omega arith);
      found = λ w are long. scan_long w _ _ c.args.long long c.if-long-gt-LONGEST.true;
    })

pub returns : goal.returns
returns g c = during c.scan_log.ensures.word (λ word.
    let scanned = c.scan_log.ensures.holds word in
    record { still = scanned.still; told = scanned.told; found = λ w are long. scanned.found w are long 0 c.new.ensures })
