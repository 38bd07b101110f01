use Rattle.std.proofs.Common.{◌≡◌, ℕ, ◌+◌, length, subst, arith, Err}
use Rattle.recovery.proofs.Below.{during, still_looks, PieceAnswer}
use Rattle.recovery.proofs.ToldRefusals.{tells_ok, turned}
use Rattle.recovery.proofs.PiecewiseScan.{follows, read_refused, piece_refused}
use Rattle.recovery.proofs.scanning.feed_piece.Goals as goal

pub returns-in_err-read_at : goal.returns-in_err-read_at
returns-in_err-read_at g c = during c.read_at.ensures.word (λ word.
    let sound = g.met.D.Disk.sound c.args.disk.now word in
    let looked = c.read_at.ensures.state word in
    let device : c.from_residual.result ≡ Err g.S.LogScan.device = turned g.S.LogScan.device _ c.from_residual.result c.from_residual.ensures.1 (g.met.S.LogScan.device_gives _) in
    record {
      still = still_looks _ c.read_at.result _ _ sound looked;
      told = λ more. device;
      found = λ most w are fits took.
          piece_refused (g.S.LogScan.kind most) w c.args.scan.now (g.D.Disk.state c.args.disk.now) (g.D.Disk.state c.read_at.new.self) g.S.LogScan.device (c.args.at + length c.args.piece.now) c.from_residual.result (g.met.S.LogScan.sound most)
          (read_refused w (c.args.at + length c.args.piece.now) c.read_at.result _ _ _ sound are fits c.in_err-read_at.was looked) device;
    })

pub returns : goal.returns
returns g c = during c.read_at.ensures.word (λ word.
    let looked = c.read_at.ensures.state word in
    record {
      still = still_looks _ c.read_at.result _ _ (g.met.D.Disk.sound c.args.disk.now word) looked;
      told = tells_ok g.S.LogScan.device c.take_piece.result c.read_at.result _ (g.D.Disk.state c.args.disk.now) (g.D.Disk.state c.read_at.new.self) c.in_ok-read_at.was looked.refused;
      found = λ most w are fits took.
          subst (λ (n : ℕ). PieceAnswer (g.S.LogScan.kind most) w (c.args.at + n) c.take_piece.result c.take_piece.new.self (g.D.Disk.state c.args.disk.now) (g.D.Disk.state c.read_at.new.self)) c.read_at.auto.out
          (c.take_piece.ensures most w c.args.at _ _ (omega (arith, c.read_at.auto.out)) (follows w (g.D.Disk.state c.args.disk.now).log c.args.at c.args.piece.now c.read_at.new.out c.read_at.auto.out are fits (c.in_ok-read_at.ensures.bytes word)) took);
    })
