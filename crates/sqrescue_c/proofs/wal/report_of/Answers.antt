use Rattle.std.proofs.Common.{◌≡◌, length, arith}
use Rattle.sqrescue_c.proofs.wal.report_of.Goals as goal

pub returns : goal.returns
returns c = λ w took.
    let front = c.committed-front.ensures _ w took in
    let entries = c.entries.ensures _ w took in
    let most = entries.most in
    let all : c.min.result ≡ length c.entries.result.now = omega (arith, c.min.ensures) in
    record {
      page_size = c.page_size_of.ensures w took;
      valid = λ i one le. entries.valid i one (omega arith);
      all = λ i valid. let within = entries.all i valid in omega arith;
      front = front.front;
      none = front.none;
      some = front.some;
      why_is = c.stop-stop.result.why;
      numbered = c.why_number.ensures;
      stops = c.stop-stop.ensures _ w took;
    }
