use Rattle.std.proofs.Common.{◌≡◌, ◌+◌, ◌∙◌, ℕ, length, take, subst, arith, true, false, refl}
use Rattle.std.specs.Prelude.{Result, IsOk}
use Rattle.std.proofs.lemmas.Grind.{common_steps}
use Rattle.sqwal.specs.Took.{TookWithin}
use Rattle.sqwal.specs.declared.error.WalFormatError.{WalFormatError}
use Rattle.sqpage.specs.declared.source.SourceError.{SourceError}
use Rattle.sqview.proofs.file.LogsReadInPieces.{piece_long, piece_within, scan_on, over_taken, all_taken, scan_bad, scan_good}
use Rattle.sqview.proofs.logs.scan_log_within.Goals as goal

pub returns-in_err-error-clause-answer : goal.returns-in_err-error-clause-answer
returns-in_err-error-clause-answer g c = λ gives.
    let never : IsOk c.scan_piece.result = c.scan_piece.ensures.never_fails (c.loop-at.invariant.gives gives) in
    let bad : false ≡ true = subst (λ (r : Result (Result (Unit {0}) WalFormatError) SourceError). IsOk r) c.in_err-error.was never in cc

pub returns-in-Err-clause-right : goal.returns-in-Err-clause-right
returns-in-Err-clause-right g c = λ right ok.
    let w = g.F.FileBytes.bytes c.args.log.now in
    let i = c.loop-at.invariant in
    let xs = c.deref_mut.result.now in
    let n = length (take c.min-count.result xs) in
    let long : length xs ≡ 65536 = omega (arith, c.deref_mut.ensures.len, i.long, c.loop-at.piece.ok.0) in
    let le = piece_within xs w c.loop-at.at c.len-end.result c.min-count.result long c.min-count.ensures c.loop-at-test.true (i.end right) in
    let fed = scan_on w (g.F.FileBytes.bytes c.loop-at.log) i.same c.loop-at.at n le c.args.limits.frames c.scan_piece.result c.loop-at.scan c.scan_piece.new.scan (i.took right) (c.scan_piece.ensures.fed _ (i.right right)) in
    scan_bad c.args.limits.frames w (c.loop-at.at + n) c.scan_piece.result c.scan_piece.new.scan fed c.in_ok-error.field-0 c.in-Err.error c.in_ok-error.was c.in-Err.is

pub returns-in-Err-clause-answer : goal.returns-in-Err-clause-answer
returns-in-Err-clause-answer g c = λ gives. returns-in-Err-clause-right g c (g.met.F.FileBytes.right c.args.log.now gives) refl

pub returns-in-Err-clause-still_gives : goal.returns-in-Err-clause-still_gives
returns-in-Err-clause-still_gives g c = λ gives. c.scan_piece.ensures.still_gives (c.loop-at.invariant.gives gives)

pub returns-then-is_over-clause-right : goal.returns-then-is_over-clause-right
returns-then-is_over-clause-right g c = λ right ok.
    let w = g.F.FileBytes.bytes c.args.log.now in
    let i = c.loop-at.invariant in
    let xs = c.deref_mut.result.now in
    let n = length (take c.min-count.result xs) in
    let long : length xs ≡ 65536 = omega (arith, c.deref_mut.ensures.len, i.long, c.loop-at.piece.ok.0) in
    let le = piece_within xs w c.loop-at.at c.len-end.result c.min-count.result long c.min-count.ensures c.loop-at-test.true (i.end right) in
    let fed = scan_on w (g.F.FileBytes.bytes c.loop-at.log) i.same c.loop-at.at n le c.args.limits.frames c.scan_piece.result c.loop-at.scan c.scan_piece.new.scan (i.took right) (c.scan_piece.ensures.fed _ (i.right right)) in
    let took = scan_good c.args.limits.frames w (c.loop-at.at + n) c.scan_piece.result c.scan_piece.new.scan fed c.in_ok-error.field-0 c.in_default-2.field-0 c.in_ok-error.was c.in_default-2.is in
    over_taken c.args.limits.frames w (c.loop-at.at + n) c.scan_piece.new.scan (i.bytes right) ((c.is_over.ensures _ (take (c.loop-at.at + n) w) took).0 c.if-is_over.true)

pub returns-then-is_over-clause-answer : goal.returns-then-is_over-clause-answer
returns-then-is_over-clause-answer g c = λ gives. returns-then-is_over-clause-right g c (g.met.F.FileBytes.right c.args.log.now gives) refl

pub returns-then-is_over-clause-still_gives : goal.returns-then-is_over-clause-still_gives
returns-then-is_over-clause-still_gives g c = λ gives. c.scan_piece.ensures.still_gives (c.loop-at.invariant.gives gives)

pub loop-at-preserved : goal.loop-at-preserved
loop-at-preserved g c = record {
  long = grind (arith, common_steps, c.loop-at.invariant.long, c.loop-at.piece.ok.0);
  within = omega (arith, c.min-count.ensures, c.loop-at.invariant.within);
  right = λ right. c.scan_piece.ensures.still_right (c.loop-at.invariant.right right);
  gives = λ gives. c.scan_piece.ensures.still_gives (c.loop-at.invariant.gives gives);
  same = c.scan_piece.ensures.same_bytes ∙ c.loop-at.invariant.same;
  end = c.loop-at.invariant.end;
  bytes = c.loop-at.invariant.bytes;
  took = λ right.
      let w = g.F.FileBytes.bytes c.args.log.now in
      let i = c.loop-at.invariant in
      let xs = c.deref_mut.result.now in
      let n = length (take c.min-count.result xs) in
      let long : length xs ≡ 65536 = omega (arith, c.deref_mut.ensures.len, i.long, c.loop-at.piece.ok.0) in
      let le = piece_within xs w c.loop-at.at c.len-end.result c.min-count.result long c.min-count.ensures c.loop-at-test.true (i.end right) in
      let fed = scan_on w (g.F.FileBytes.bytes c.loop-at.log) i.same c.loop-at.at n le c.args.limits.frames c.scan_piece.result c.loop-at.scan c.scan_piece.new.scan (i.took right) (c.scan_piece.ensures.fed _ (i.right right)) in
      subst (λ (k : ℕ). TookWithin c.args.limits.frames (take (c.loop-at.at + k) w) c.scan_piece.new.scan) (piece_long xs c.loop-at.at c.len-end.result c.min-count.result long c.min-count.ensures)
      (scan_good c.args.limits.frames w (c.loop-at.at + n) c.scan_piece.result c.scan_piece.new.scan fed c.in_ok-error.field-0 c.in_default-2.field-0 c.in_ok-error.was c.in_default-2.is);
}

pub returns-clause-right : goal.returns-clause-right
returns-clause-right g c = λ right ok.
    let w = g.F.FileBytes.bytes c.args.log.now in
    let i = c.loop-at.invariant in
    all_taken w c.loop-at.at c.loop-at.scan (omega (arith, c.loop-at-test.false, i.end right)) (i.took right)

pub returns-clause-answer : goal.returns-clause-answer
returns-clause-answer g c = λ gives. returns-clause-right g c (g.met.F.FileBytes.right c.args.log.now gives) refl

pub returns-in-Err-clause-still_right : goal.returns-in-Err-clause-still_right
returns-in-Err-clause-still_right g c = λ right. c.scan_piece.ensures.still_right (c.loop-at.invariant.right right)

pub returns-then-is_over-clause-still_right : goal.returns-then-is_over-clause-still_right
returns-then-is_over-clause-still_right g c = λ right. c.scan_piece.ensures.still_right (c.loop-at.invariant.right right)
