use Rattle.std.proofs.Common.{arith, rules}
use Rattle.recovery.proofs.Below.{during, passed, still}
use Rattle.recovery.proofs.ToldRefusals.{quiet_ok, passes_device}
use Rattle.recovery.proofs.PiecewiseScan.{scan_some, scan_none, scan_after, scan_refused_by}
use Rattle.recovery.proofs.scanning.scan_log.Goals as goal

pub returns-in_err-buffer : goal.returns-in_err-buffer
returns-in_err-buffer g c = during (search rules) (λ word. record {
  still = still _ (g.met.D.Disk.sound c.args.disk.now word);
  told = λ more. absurd (omega (arith, more));
  found = λ w are long most none. scan_refused_by (g.S.LogScan.kind most) w c.args.scan (g.D.Disk.state c.args.disk.now) (g.D.Disk.state c.args.disk.now) _ c.from_residual.result c.from_residual.ensures.1 (λ e. g.met.S.LogScan.memory_gives most w _ e _ _);
})

pub returns-in_err-scan_pieces : goal.returns-in_err-scan_pieces
returns-in_err-scan_pieces g c = during c.scan_pieces.ensures.word (λ word.
    let scanned = c.scan_pieces.ensures.holds word in
    record {
      still = scanned.still;
      told = λ more. passes_device g.S.LogScan.device c.scan_pieces.result c.from_residual-in_err-scan_pieces.result _ c.in_err-scan_pieces.was c.from_residual-in_err-scan_pieces.ensures.1 (scanned.told more);
      found = λ w are long most none.
          scan_after (g.S.LogScan.kind most) w c.scan_pieces.new.scan _ _ c.scan_pieces.result _ c.from_residual-in_err-scan_pieces.result c.in_err-scan_pieces.was (passed c.from_residual-in_err-scan_pieces.result _ c.from_residual-in_err-scan_pieces.ensures.1) (scanned.found most w are long none);
    })

pub returns-then-branch : goal.returns-then-branch
returns-then-branch g c = during c.scan_pieces.ensures.word (λ word.
    let scanned = c.scan_pieces.ensures.holds word in
    record {
      still = scanned.still;
      told = λ more. absurd (quiet_ok g.S.LogScan.device c.scan_pieces.result _ (g.D.Disk.state c.args.disk.now) (g.D.Disk.state c.scan_pieces.new.disk) c.in_ok-scan_pieces.was scanned.told more);
      found = λ w are long most none. scan_some (g.S.LogScan.kind most) w c.scan_pieces.new.scan _ _ c.scan_pieces.result _ c.in_ok-scan_pieces.was c.if-branch.true (scanned.found most w are long none);
    })

pub returns-else-branch : goal.returns-else-branch
returns-else-branch g c = during c.scan_pieces.ensures.word (λ word.
    let scanned = c.scan_pieces.ensures.holds word in
    record {
      still = scanned.still;
      told = λ more. absurd (quiet_ok g.S.LogScan.device c.scan_pieces.result _ (g.D.Disk.state c.args.disk.now) (g.D.Disk.state c.scan_pieces.new.disk) c.in_ok-scan_pieces.was scanned.told more);
      found = λ w are long most none. scan_none (g.S.LogScan.kind most) w c.scan_pieces.new.scan _ _ c.scan_pieces.result _ c.in_ok-scan_pieces.was c.if-branch.false (scanned.found most w are long none);
    })
