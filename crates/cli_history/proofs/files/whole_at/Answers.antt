use Rattle.std.proofs.Common.{◌≡◌, ℕ, Bool, true, false, inr, refl, sym, subst, arith}
use Rattle.sqpast.specs.Files.{PastAnswerWithin}
use Rattle.cli_history.specs.History.{bytes_of}
use Rattle.cli_history.proofs.ViewsShown.{past_answers}
use Rattle.cli_history.proofs.files.whole_at.Goals as goal

not_both : (b : Bool) → b ≡ false → b ≡ true → ⊥
not_both b is not = cc

pub returns-in-Ok-clause-answer : goal.returns-in-Ok-clause-answer
returns-in-Ok-clause-answer g c = λ given took cold. inr (c.is_front.ensures.0 c.if-is_front.true, (c.in-Ok.ensures.answer given).shows)

pub returns-in-Err-clause-answer : goal.returns-in-Err-clause-answer
returns-in-Err-clause-answer g c = λ given took cold. inr (c.is_front.ensures.0 c.if-is_front.true, (c.in-Err.error, refl, c.in-Err.ensures.answer given))

pub returns-then-frame-eq0-clause-answer : goal.returns-then-frame-eq0-clause-answer
returns-then-frame-eq0-clause-answer g c = λ given took cold.
    let bytes = g.F.FileBytes.bytes in
    let files = c.args.files in
    let right = g.met.F.FileBytes.right in
    let answer = c.past_before.ensures.right (right files.db given.0, right files.wal given.1, right files.journal given.2) (c.past_before.ensures.read given) took cold in
    past_answers c.args.limits bytes (bytes_of bytes files) c.args.front c.args.frame (λ e. not_both c.is_front.result c.if-is_front.false (c.is_front.ensures.1 e)) c.past_before.result
    (subst (λ (m : ℕ). PastAnswerWithin c.args.limits bytes m (bytes files.db) (bytes files.wal) (bytes files.journal) c.past_before.result) (sym c.if-frame-eq0.true) answer)

pub returns-clause-answer : goal.returns-clause-answer
returns-clause-answer g c = λ given took cold.
    let bytes = g.F.FileBytes.bytes in
    let files = c.args.files in
    let right = g.met.F.FileBytes.right in
    past_answers c.args.limits bytes (bytes_of bytes files) c.args.front c.args.frame (λ e. not_both c.is_front.result c.if-is_front.false (c.is_front.ensures.1 e)) c.past_of_scan.result
    (c.past_of_scan.ensures.right (right files.db given.0, right files.wal given.1) (c.past_of_scan.ensures.read (given.0, given.1)) took (omega (arith, c.if-frame-eq0.false)) (bytes files.journal) cold)

pub returns-clause-still_gives : goal.returns-clause-still_gives
returns-clause-still_gives g c = λ given. c.past_of_scan.ensures.still_gives (given.0, given.1)
