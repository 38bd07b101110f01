use Rattle.std.proofs.Common.{arith}
use Rattle.sqrescue_c.proofs.CopiedRecords.{count_is}
use Rattle.sqrescue_c.proofs.journal.sqr_journal_scan.Goals as goal

pub returns-then-count-records-clause-scanned : goal.returns-then-count-records-clause-scanned
returns-then-count-records-clause-scanned c = λ _. c.report_of.ensures c.args.journal.now c.in-Ok.ensures.took

pub returns-then-count-records-clause-crowded : goal.returns-then-count-records-clause-crowded
returns-then-count-records-clause-crowded c = λ _.
    let b = c.args.journal.now in
    let took = c.in-Ok.ensures.took in
    let is = c.report_of.ensures b took in
    let count = count_is b is.entries is.stop is.says c.count-count.result (c.count-count.ensures b took) in
    omega (arith, is.counted, count)

pub returns-clause-scanned : goal.returns-clause-scanned
returns-clause-scanned c = λ _. c.report_of.ensures c.args.journal.now c.in-Ok.ensures.took

pub returns-clause-records : goal.returns-clause-records
returns-clause-records c = λ _.
    let b = c.args.journal.now in
    let took = c.in-Ok.ensures.took in
    let is = c.report_of.ensures b took in
    let count = count_is b is.entries is.stop is.says c.count-count.result (c.count-count.ensures b took) in
    record {
      entries = is.entries;
      stop = is.stop;
      says = is.says;
      counted = is.counted;
      long = omega (arith, is.counted, count, c.copy_records.auto.records);
      each = λ i d within. c.copy_records.ensures b is.entries is.stop took is.says i d (omega (arith, is.counted, count));
    }
