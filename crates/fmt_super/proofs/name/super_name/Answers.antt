use Rattle.std.proofs.Common.{length}
use Rattle.fmt_super.proofs.name.super_name.Goals as goal

pub returns-in_err-count : goal.returns-in_err-count
returns-in_err-count c =
    let none = rw c.in_err-count.was at c.length_in.ensures in
    rw c.from_residual.ensures (λ name is. none (length name) (record { some = is.some; most = is.most; within = is.within; is = is.counted; ends = is.ends }))
