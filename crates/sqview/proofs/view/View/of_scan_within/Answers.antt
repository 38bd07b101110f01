use Rattle.std.proofs.Common.{◌≡◌, ◌≤◌, ◌∙◌, ℕ, sym, ap, subst, arith}
use Rattle.std.specs.Prelude.{Some}
use Rattle.sqwal.specs.Frames.{size_of, IsValidFrame}
use Rattle.sqwal.proofs.feed.ScanAnswers.{few_frames}
use Rattle.sqview.specs.At.{AtAnswerWithin}
use Rattle.sqview.specs.internal.ViewParts.{CommitFound, PlacedAnswer}
use Rattle.sqview.proofs.openings.ViewAtCommit.{at_none, placed_at}
use Rattle.sqview.proofs.view.View.of_scan_within.Goals as goal

pub returns-in-Some-clause-answer : goal.returns-in-Some-clause-answer
returns-in-Some-clause-answer g c = λ took one journal cold.
    let bytes = g.F.FileBytes.bytes in
    let w = bytes c.args.log in
    let it = c.in-Some.it in
    let m = it.frame in
    let at : m ≡ c.args.frame = (c.in-Some.ensures _ w took).4 in
    let found : CommitFound w m (Some it) = subst (λ (k : ℕ). CommitFound w k (Some it)) (sym at) (c.in-Some.ensures _ w took) in
    let named = found.0.named in
    let sized : IsValidFrame it.page_size w m = subst (λ (n : ℕ). IsValidFrame n w m) named found.1 in
    let placed : PlacedAnswer c.args.limits.bytes bytes it.page_size m it.size (bytes c.args.db) w c.placed.result =
    c.placed.ensures.answer took named sized (found.3 ∙ ap (λ n. size_of n w m) named) in
    subst (λ (k : ℕ). AtAnswerWithin c.args.limits bytes k (bytes c.args.db) w journal c.placed.result) at
    (placed_at c.args.limits (bytes c.args.db) w journal cold m (subst (λ (k : ℕ). 1 ≤ k) (sym at) one) (few_frames w c.args.scan.now took) it found bytes c.placed.result placed)

pub returns-in-None-clause-answer : goal.returns-in-None-clause-answer
returns-in-None-clause-answer g c = λ took one journal cold.
    let bytes = g.F.FileBytes.bytes in
    let w = bytes c.args.log in
    at_none c.args.limits (bytes c.args.db) w journal cold c.args.frame one (few_frames w c.args.scan.now took) (c.in-None.ensures _ w took)

pub returns-in-Some-clause-zero : goal.returns-in-Some-clause-zero
returns-in-Some-clause-zero g c = λ took none. absurd (omega (arith, (c.in-Some.ensures _ (g.F.FileBytes.bytes c.args.log) took).1.first, none))
