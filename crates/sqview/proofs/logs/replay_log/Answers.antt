use Rattle.std.proofs.Common.{◌≡◌, ◌+◌, ◌^◌, ◌≤◌, ◌∙◌, ℕ, length, take, subst, arith, true, false, refl}
use Rattle.std.specs.Prelude.{Result, IsOk}
use Rattle.std.proofs.lemmas.Grind.{common_steps}
use Rattle.sqjournal.specs.Took.{Took}
use Rattle.sqjournal.specs.declared.error.JournalError.{JournalError}
use Rattle.sqpage.specs.declared.source.SourceError.{SourceError}
use Rattle.sqview.proofs.file.LogsReadInPieces.{piece_long, piece_within, replay_on, all_read, over_read, replay_bad, replay_good}
use Rattle.sqview.proofs.logs.replay_log.Goals as goal

pub returns-in_err-error-clause-answer : goal.returns-in_err-error-clause-answer
returns-in_err-error-clause-answer g c = λ gives.
    let never : IsOk c.replay_piece.result = c.replay_piece.ensures.never_fails (c.loop-at.invariant.gives gives) in
    let bad : false ≡ true = subst (λ (r : Result (Result (Unit {0}) JournalError) SourceError). IsOk r) c.in_err-error.was never in cc

pub returns-in-Err-clause-right : goal.returns-in-Err-clause-right
returns-in-Err-clause-right g c = λ right ok.
    let b = g.F.FileBytes.bytes c.args.journal.now in
    let i = c.loop-at.invariant in
    let xs = c.deref_mut.result.now in
    let n = length (take c.min-count.result xs) in
    let long : length xs ≡ 65536 = omega (arith, c.deref_mut.ensures.len, i.long, c.loop-at.piece.ok.0) in
    let short : length b ≤ 2 ^ 40 = omega (arith, i.end right, c.if-end-gt-LONGEST.false) in
    let le = piece_within xs b c.loop-at.at c.len-end.result c.min-count.result long c.min-count.ensures c.loop-at-test.true (i.end right) in
    let fed = replay_on b (g.F.FileBytes.bytes c.loop-at.journal) i.same c.loop-at.at n le c.replay_piece.result c.loop-at.replay c.replay_piece.new.replay short (i.took right) (c.replay_piece.ensures.fed (i.right right)) in
    replay_bad b (c.loop-at.at + n) c.replay_piece.result c.replay_piece.new.replay fed c.in_ok-error.field-0 c.in-Err.error c.in_ok-error.was c.in-Err.is

pub returns-in-Err-clause-answer : goal.returns-in-Err-clause-answer
returns-in-Err-clause-answer g c = λ gives. returns-in-Err-clause-right g c (g.met.F.FileBytes.right c.args.journal.now gives) refl

pub returns-in-Err-clause-still_gives : goal.returns-in-Err-clause-still_gives
returns-in-Err-clause-still_gives g c = λ gives. c.replay_piece.ensures.still_gives (c.loop-at.invariant.gives gives)

pub returns-then-is_over-clause-right : goal.returns-then-is_over-clause-right
returns-then-is_over-clause-right g c = λ right ok.
    let b = g.F.FileBytes.bytes c.args.journal.now in
    let i = c.loop-at.invariant in
    let xs = c.deref_mut.result.now in
    let n = length (take c.min-count.result xs) in
    let long : length xs ≡ 65536 = omega (arith, c.deref_mut.ensures.len, i.long, c.loop-at.piece.ok.0) in
    let short : length b ≤ 2 ^ 40 = omega (arith, i.end right, c.if-end-gt-LONGEST.false) in
    let le = piece_within xs b c.loop-at.at c.len-end.result c.min-count.result long c.min-count.ensures c.loop-at-test.true (i.end right) in
    let fed = replay_on b (g.F.FileBytes.bytes c.loop-at.journal) i.same c.loop-at.at n le c.replay_piece.result c.loop-at.replay c.replay_piece.new.replay short (i.took right) (c.replay_piece.ensures.fed (i.right right)) in
    let took = replay_good b (c.loop-at.at + n) c.replay_piece.result c.replay_piece.new.replay fed c.in_ok-error.field-0 c.in_default-2.field-0 c.in_ok-error.was c.in_default-2.is in
    (short, over_read b (c.loop-at.at + n) c.replay_piece.new.replay (c.is_over.ensures.settled c.if-is_over.true (take (c.loop-at.at + n) b) took) took)

pub returns-then-is_over-clause-answer : goal.returns-then-is_over-clause-answer
returns-then-is_over-clause-answer g c = λ gives. returns-then-is_over-clause-right g c (g.met.F.FileBytes.right c.args.journal.now gives) refl

pub returns-then-is_over-clause-still_gives : goal.returns-then-is_over-clause-still_gives
returns-then-is_over-clause-still_gives g c = λ gives. c.replay_piece.ensures.still_gives (c.loop-at.invariant.gives gives)

pub returns-clause-right : goal.returns-clause-right
returns-clause-right g c = λ right ok.
    let b = g.F.FileBytes.bytes c.args.journal.now in
    let i = c.loop-at.invariant in
    (omega (arith, i.end right, c.if-end-gt-LONGEST.false), all_read b c.loop-at.at c.loop-at.replay (omega (arith, i.end right, c.loop-at-test.false)) (i.took right))

pub returns-clause-answer : goal.returns-clause-answer
returns-clause-answer g c = λ gives. returns-clause-right g c (g.met.F.FileBytes.right c.args.journal.now gives) refl

pub loop-at-preserved : goal.loop-at-preserved
loop-at-preserved g c = record {
  long = grind (arith, common_steps, c.loop-at.invariant.long, c.loop-at.piece.ok.0);
  within = omega (arith, c.min-count.ensures, c.loop-at.invariant.within);
  right = λ right. c.replay_piece.ensures.still_right (c.loop-at.invariant.right right);
  gives = λ gives. c.replay_piece.ensures.still_gives (c.loop-at.invariant.gives gives);
  same = c.replay_piece.ensures.same_bytes ∙ c.loop-at.invariant.same;
  end = c.loop-at.invariant.end;
  took = λ right.
      let b = g.F.FileBytes.bytes c.args.journal.now in
      let i = c.loop-at.invariant in
      let xs = c.deref_mut.result.now in
      let n = length (take c.min-count.result xs) in
      let long : length xs ≡ 65536 = omega (arith, c.deref_mut.ensures.len, i.long, c.loop-at.piece.ok.0) in
      let short : length b ≤ 2 ^ 40 = omega (arith, i.end right, c.if-end-gt-LONGEST.false) in
      let le = piece_within xs b c.loop-at.at c.len-end.result c.min-count.result long c.min-count.ensures c.loop-at-test.true (i.end right) in
      let fed = replay_on b (g.F.FileBytes.bytes c.loop-at.journal) i.same c.loop-at.at n le c.replay_piece.result c.loop-at.replay c.replay_piece.new.replay short (i.took right) (c.replay_piece.ensures.fed (i.right right)) in
      subst (λ (k : ℕ). Took (take (c.loop-at.at + k) b) c.replay_piece.new.replay) (piece_long xs c.loop-at.at c.len-end.result c.min-count.result long c.min-count.ensures)
      (replay_good b (c.loop-at.at + n) c.replay_piece.result c.replay_piece.new.replay fed c.in_ok-error.field-0 c.in_default-2.field-0 c.in_ok-error.was c.in_default-2.is);
}

pub returns-in_err-error-clause-still_gives : goal.returns-in_err-error-clause-still_gives
returns-in_err-error-clause-still_gives g c = λ gives. c.replay_piece.ensures.still_gives (c.loop-at.invariant.gives gives)

pub returns-in-Err-clause-still_right : goal.returns-in-Err-clause-still_right
returns-in-Err-clause-still_right g c = λ right. c.replay_piece.ensures.still_right (c.loop-at.invariant.right right)

pub returns-then-is_over-clause-still_right : goal.returns-then-is_over-clause-still_right
returns-then-is_over-clause-still_right g c = λ right. c.replay_piece.ensures.still_right (c.loop-at.invariant.right right)

pub returns-in_err-error-clause-still_right : goal.returns-in_err-error-clause-still_right
returns-in_err-error-clause-still_right g c = λ right. c.replay_piece.ensures.still_right (c.loop-at.invariant.right right)
