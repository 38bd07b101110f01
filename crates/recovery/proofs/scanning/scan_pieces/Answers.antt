use Rattle.std.proofs.Common.{◌+◌, ◌≡◌, ℕ, take, length, sym, subst, arith, rules, Bool, Result, Err, length-take-le}
use Rattle.recovery.proofs.Below.{during, passed, still, still_then, present_in, PiecesAnswer}
use Rattle.recovery.proofs.ToldRefusals.{tells_quiet, passes_device, tells_then}
use Rattle.recovery.proofs.PiecewiseScan.{piece_after, piece_none, piece_some, pieces_read, pieces_whole, present_bytes}
use Rattle.recovery.proofs.scanning.scan_pieces.Goals as goal

pub loop-at-init : goal.loop-at-init
loop-at-init g c = record {
  word = (λ k. k, λ k. k);
  quiet = λ word more. omega (arith, more);
  still = λ word. still _ (g.met.D.Disk.sound c.args.disk.now word);
  took = λ word most w are long took. took;
  place = omega arith;
}

pub returns-in_err-feed_piece : goal.returns-in_err-feed_piece
returns-in_err-feed_piece g c = during (search rules) (λ word.
    let i = c.loop-at.invariant in
    let before = i.still word in
    let now = c.feed_piece.ensures.holds (i.word.0 word) in
    record {
      still = still_then _ _ _ before now.still;
      told = λ more.
          let said : c.feed_piece.result ≡ Err g.S.LogScan.device = tells_then g.S.LogScan.device c.feed_piece.result (g.D.Disk.state c.args.disk.now) (g.D.Disk.state c.loop-at.disk) (g.D.Disk.state c.feed_piece.new.disk) (i.quiet word) now.told more in
          passes_device g.S.LogScan.device c.feed_piece.result c.from_residual.result _ c.in_err-feed_piece.was c.from_residual.ensures.1 said;
      found = λ most w are long took.
          let n : length (take c.min-n.result c.loop-at.buffer) ≡ c.min-n.result = length-take-le c.min-n.result c.loop-at.buffer (omega (arith, c.loop-at.auto.buffer)) in
          let answer = now.found most w (present_in _ _ w before.log are) (omega arith) (i.took word most w are long took) in
          subst (λ (r : Result Bool g.row.E.Denot). PiecesAnswer (g.S.LogScan.kind most) w r c.feed_piece.new.scan (g.D.Disk.state c.args.disk.now) (g.D.Disk.state c.feed_piece.new.disk))
          (sym (passed c.from_residual.result _ c.from_residual.ensures.1)) (piece_after (g.S.LogScan.kind most) w c.feed_piece.new.scan _ _ _ (λ e. (g.met.S.LogScan.sound most).later w e (g.D.Disk.state c.args.disk.now) (g.D.Disk.state c.loop-at.disk) (g.D.Disk.state c.feed_piece.new.disk) before.refused) _ c.feed_piece.result _ c.in_err-feed_piece.was answer);
    })

pub returns-then-not-branch : goal.returns-then-not-branch
returns-then-not-branch g c = during (search rules) (λ word.
    let i = c.loop-at.invariant in
    let before = i.still word in
    let now = c.feed_piece.ensures.holds (i.word.0 word) in
    record {
      still = still_then _ _ _ before now.still;
      told = λ more. absurd (tells_quiet g.S.LogScan.device c.feed_piece.result _ (g.D.Disk.state c.args.disk.now) (g.D.Disk.state c.loop-at.disk) (g.D.Disk.state c.feed_piece.new.disk) c.in_ok-feed_piece.was (i.quiet word) now.told more);
      found = λ most w are long took.
          let n : length (take c.min-n.result c.loop-at.buffer) ≡ c.min-n.result = length-take-le c.min-n.result c.loop-at.buffer (omega (arith, c.loop-at.auto.buffer)) in
          let answer = now.found most w (present_in _ _ w before.log are) (omega arith) (i.took word most w are long took) in
          piece_none (g.S.LogScan.kind most) w c.feed_piece.new.scan _ _ _ _ c.feed_piece.result _ c.in_ok-feed_piece.was c.if-not-branch.true answer;
    })

pub returns-then-is_settled : goal.returns-then-is_settled
returns-then-is_settled g c = during (search rules) (λ word.
    let i = c.loop-at.invariant in
    let before = i.still word in
    let now = c.feed_piece.ensures.holds (i.word.0 word) in
    record {
      still = still_then _ _ _ before now.still;
      told = λ more. absurd (tells_quiet g.S.LogScan.device c.feed_piece.result _ (g.D.Disk.state c.args.disk.now) (g.D.Disk.state c.loop-at.disk) (g.D.Disk.state c.feed_piece.new.disk) c.in_ok-feed_piece.was (i.quiet word) now.told more);
      found = λ most w are long took.
          let n : length (take c.min-n.result c.loop-at.buffer) ≡ c.min-n.result = length-take-le c.min-n.result c.loop-at.buffer (omega (arith, c.loop-at.auto.buffer)) in
          let answer = now.found most w (present_in _ _ w before.log are) (omega arith) (i.took word most w are long took) in
          let fed = piece_some (g.S.LogScan.kind most) w c.feed_piece.new.scan _ _ _ c.feed_piece.result _ c.in_ok-feed_piece.was c.if-not-branch.false answer in
          pieces_read (g.S.LogScan.kind most) w c.feed_piece.new.scan _ _ (c.is_settled.ensures most w _ c.if-is_settled.true (present_bytes _ _ w (g.met.D.Disk.sound c.args.disk.now word).log are) fed);
    })

pub loop-at-preserved : goal.loop-at-preserved
loop-at-preserved g c =
    let i = c.loop-at.invariant in
    record {
      word = search rules;
      still = λ word. still_then _ _ _ (i.still word) (c.feed_piece.ensures.holds (i.word.0 word)).still;
      took = λ word most w are long took.
          let n : length (take c.min-n.result c.loop-at.buffer) ≡ c.min-n.result = length-take-le c.min-n.result c.loop-at.buffer (omega (arith, c.loop-at.auto.buffer)) in
          let answer = (c.feed_piece.ensures.holds (i.word.0 word)).found most w (present_in _ _ w (i.still word).log are) (omega arith) (i.took word most w are long took) in
          subst (λ (k : ℕ). (g.S.LogScan.kind most).Took (take (c.loop-at.at + k) w) c.feed_piece.new.scan) n (piece_some (g.S.LogScan.kind most) w c.feed_piece.new.scan _ _ _ c.feed_piece.result _ c.in_ok-feed_piece.was c.if-not-branch.false answer);
      quiet = λ word. tells_quiet g.S.LogScan.device c.feed_piece.result _ (g.D.Disk.state c.args.disk.now) (g.D.Disk.state c.loop-at.disk) (g.D.Disk.state c.feed_piece.new.disk) c.in_ok-feed_piece.was (i.quiet word) (c.feed_piece.ensures.holds (i.word.0 word)).told;
      place = omega arith;
    }

pub returns : goal.returns
returns g c = during c.loop-at.invariant.word (λ word.
    let i = c.loop-at.invariant in
    record {
      still = i.still word;
      told = λ more. absurd (i.quiet word more);
      found = λ most w are long took.
          let all : c.loop-at.at ≡ c.args.long = omega arith in
          pieces_whole (g.S.LogScan.kind most) w c.loop-at.scan _ _ g.S.LogScan.device c.args.long (g.met.S.LogScan.sound most) long (subst (λ (k : ℕ). (g.S.LogScan.kind most).Took (take k w) c.loop-at.scan) all (i.took word most w are long took));
    })
