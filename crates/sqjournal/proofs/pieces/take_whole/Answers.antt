use Rattle.std.proofs.Common.{◌∙◌, ◌++◌, ap, arith, append_assoc}
use Rattle.sqjournal.proofs.read.NextStateOfReading.{next_in}
use Rattle.sqjournal.proofs.pieces.take_whole.Goals as goal

pub loop-start-preserved : goal.loop-start-preserved
loop-start-preserved c =
    let before = c.loop-start.invariant in
    let after = c.in_ok-reading.ensures in
    let found = c.in-Some.ensures in
    record {
      header = after.header ∙ before.header;
      limit = after.further.1;
      ahead = λ n. omega (arith, after.further.0 n, found.1);
      stands = λ b l s. after.stands (b ++ c.args.piece.now) (before.stands b l s)
          (next_in b c.args.piece.now c.loop-start.reading c.in-Some.start c.next_len-len.result c.args.place l found.1 c.next_len-len.ensures.value found.2);
      grows = (before.grows.0 ++ after.grows.0, after.grows.1 ∙ ap (λ l. l ++ after.grows.0) before.grows.1 ∙ append_assoc c.args.records.now.items before.grows.0 after.grows.0);
    }
