use Rattle.std.proofs.Common.{List, ℕ, length, ◌∙◌, ap}
use Rattle.cli_show.proofs.LinesBehind.{zeros_begin}
use Rattle.cli_show.proofs.behind.has_zeros.Goals as goal

pub returns-then-len-ge28-clause-zeros : goal.returns-then-len-ge28-clause-zeros
returns-then-len-ge28-clause-zeros g c = λ gives.
    let b = g.F.FileBytes.bytes c.args.journal.now in
    let right = g.met.F.FileBytes.right c.args.journal.now gives in
    let later = g.met.F.FileBytes.right c.read_at.new.self (c.read_at.ensures.still_gives gives) in
    zeros_begin b c.read_at.new.out c.len.result c.is_zeroed.result (c.in_ok-read_at.ensures.read right)
    (c.len.ensures.count later ∙ ap (λ (l : List ℕ). length l) c.read_at.ensures.same_bytes) c.if-len-ge28.true c.is_zeroed.ensures
