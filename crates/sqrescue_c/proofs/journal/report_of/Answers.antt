use Rattle.std.proofs.Common.{◌∙◌, refl}
use Rattle.sqjournal.specs.Journal.{entries, sizes_of}
use Rattle.sqrescue_c.proofs.CopiedRecords.{says_so, count_is}
use Rattle.sqrescue_c.proofs.journal.report_of.Goals as goal

pub returns-in-Some : goal.returns-in-Some
returns-in-Some c = λ b took.
    let so = c.stop-stop.ensures b took in
    let says = says_so b c.stop-stop.result so in
    let first = c.in-Some.ensures b took in
    record {
      entries = entries (sizes_of b) 0 so.segments;
      stop = c.stop-stop.result;
      says = says;
      counted = count_is b (entries (sizes_of b) 0 so.segments) c.stop-stop.result says c.count.result (c.count.ensures b took);
      at = refl;
      why = c.why_number.ensures;
      hot = λ _. (c.get.ensures.value ∙ first.1.size, first.1.sector, first.1.first_size);
      cold = λ cold. absurd (cold first.0);
    }

pub returns-in-None : goal.returns-in-None
returns-in-None c = λ b took.
    let so = c.stop-stop.ensures b took in
    let says = says_so b c.stop-stop.result so in
    record {
      entries = entries (sizes_of b) 0 so.segments;
      stop = c.stop-stop.result;
      says = says;
      counted = count_is b (entries (sizes_of b) 0 so.segments) c.stop-stop.result says c.count.result (c.count.ensures b took);
      at = refl;
      why = c.why_number.ensures;
      hot = λ hot. absurd (c.in-None.ensures b took hot);
      cold = λ _. (refl, refl, refl);
    }
