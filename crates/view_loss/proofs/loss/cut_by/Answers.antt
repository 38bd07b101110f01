use Rattle.std.proofs.Common.{◌≡◌, ◌+◌, ◌≤◌, ℕ, true, sym, ◌∙◌, ap, ⊎_elim, arith}
use Rattle.std.proofs.lemmas.Bool.{cases_eq}
use Rattle.sqwal.specs.Header.{named_size}
use Rattle.sqwal.specs.Frames.{size_of}
use Rattle.sqwal.proofs.log.UniquenessOfView.{front_unique}
use Rattle.sqpast.proofs.known.KnownViews.{front_is}
use Rattle.view_loss.proofs.loss.cut_by.Goals as goal

pub loop-before-preserved : goal.loop-before-preserved
loop-before-preserved c = λ most w took i one le commit below least.
    let size = named_size w in
    let k = c.loop-before.before in
    let here : c.in-Some.entry.size ≡ size_of size w (k + 1) = (c.in-Some.ensures most w took).2 in
    ⊎_elim
    (λ e.
    let at : size_of size w i ≡ size_of size w (k + 1) = ap (size_of size w) e in
    let yes : c.may_cut.result ≡ true = c.may_cut.ensures.1 (λ zero. commit (at ∙ sym here ∙ zero), omega (arith, here, at, below), omega (arith, here, at, least)) in
    let no = c.if-may_cut.false in cc)
    (λ ne. c.loop-before.invariant most w took i one (omega (arith, le, ne)) commit below least)
    (cases_eq i (k + 1))

pub returns-then-may_cut : goal.returns-then-may_cut
returns-then-may_cut c = λ most front w took is some.
    let size = named_size w in
    let frames = c.committed-before-end.result.frames in
    let same : frames ≡ front = front_unique size w frames front (c.committed-before-end.ensures most w took).front is in
    let here : c.in-Some.entry.size ≡ size_of size w (c.loop-before.before + 1) = (c.in-Some.ensures most w took).2 in
    let cuts = c.may_cut.ensures.0 c.if-may_cut.true in
    record {
      first = omega arith;
      within = omega (arith, same, c.loop-before-test.true);
      commit = λ zero. cuts.0 (here ∙ zero);
      below = omega (arith, here, cuts.1);
      least = omega (arith, here, cuts.2);
    }

pub returns-after-loop-before : goal.returns-after-loop-before
returns-after-loop-before c = λ most front w took is some i one le.
    let size = named_size w in
    let frames = c.committed-before-end.result.frames in
    let same : frames ≡ front = front_unique size w frames front (c.committed-before-end.ensures most w took).front is in
    c.loop-before.invariant most w took i one (omega (arith, le, same, c.loop-before-test.false))

pub returns-in_default : goal.returns-in_default
returns-in_default c = λ most front w took is some.
    let size = named_size w in
    let frames = c.committed-before-end.result.frames in
    let committed = (c.committed-before-end.ensures most w took).front in
    let same : frames ≡ front = front_unique size w frames front committed is in
    let valid = (front_is size w front some is).0 in
    absurd (c.in_default.ensures most w took (record { first = omega arith; each = λ j a b. valid.each j a (omega (arith, same, b, c.loop-before-test.true)) }))
