use Rattle.std.proofs.Common.{◌≡◌, List, ℕ, take, subst, arith}
use Rattle.sqwal.specs.Header.{HeaderAnswer}
use Rattle.sqrescue_c.proofs.AskedRecovery.{header_of_taken}
use Rattle.sqrescue_c.proofs.refusals.header_of.Goals as goal

pub returns : goal.returns
returns c =
    let w = c.args.wal.now in
    let after = c.copy_from_slice.ensures.after in
    let same : c.copy_from_slice.new.self ≡ take 32 c.args.wal.now = grind (arith, after) in
    (c.if-wal-lt32.false, header_of_taken w c.read.result c.if-wal-lt32.false (subst (λ (x : List ℕ). HeaderAnswer x c.read.result) same c.read.ensures))
