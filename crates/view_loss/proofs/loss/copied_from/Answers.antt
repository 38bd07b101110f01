use Rattle.std.proofs.Common.{◌≡◌, ◌+◌, ◌≤◌, ℕ, List, true, false, length, refl, sym, ◌∙◌, ap, subst, ⊎_elim, arith}
use Rattle.std.proofs.lemmas.Bool.{cases_eq}
use Rattle.sqwal.specs.Frames.{IsFront, IsValidFrame, content_of, page_of}
use Rattle.sqwal.specs.Header.{named_size}
use Rattle.sqwal.specs.Took.{TookWithin}
use Rattle.sqwal.proofs.log.UniquenessOfView.{front_unique}
use Rattle.sqpast.proofs.known.KnownViews.{front_is}
use Rattle.view_loss.proofs.loss.copied_from.Goals as goal

pub loop-before-init : goal.loop-before-init
loop-before-init g c = record {
  right = λ r. r;
  gives = λ r. r;
  same = refl;
  room = c.requires.1;
  done = λ r most took named valid i one le. absurd (omega (arith, one, le));
}

pub returns-in_err-is_copied_by-clause-never_fails : goal.returns-in_err-is_copied_by-clause-never_fails
returns-in_err-is_copied_by-clause-never_fails g c = λ gives.
    let bad : false ≡ true = c.in_err-is_copied_by.ensures.never_fails (c.loop-before.invariant.gives gives) in cc

pub loop-before-preserved : goal.loop-before-preserved
loop-before-preserved g c =
    let inv = c.loop-before.invariant in
    let bytes = g.F.FileBytes.bytes in
    let w = bytes c.args.log.now in
    let now = bytes c.loop-before.log in
    let size = c.args.page_size in
    let k = c.loop-before.before in
    record {
      right = λ r. c.is_copied_by.ensures.still_right (inv.right r);
      gives = λ r. c.is_copied_by.ensures.still_gives (inv.gives r);
      same = c.is_copied_by.ensures.kept.0 ∙ inv.same;
      room = c.is_copied_by.ensures.kept.1 ∙ inv.room;
      done = λ r most took named valid i one le names same. ⊎_elim
          (λ e.
          let took' = subst (λ (l : List ℕ). TookWithin most l c.args.scan.now) (sym inv.same) took in
          let named' : named_size now ≡ size = ap named_size inv.same ∙ named in
          let valid' = subst (λ (l : List ℕ). IsValidFrame size l (k + 1)) (sym inv.same) (valid (k + 1) (omega arith) (omega arith)) in
          let found = c.in_ok-is_copied_by.ensures.read (inv.right r) most took' named' valid' in
          let page : page_of size now (k + 1) ≡ c.args.of.0 = ap (λ (l : List ℕ). page_of size l (k + 1)) inv.same ∙ ap (page_of size w) (sym e) ∙ names in
          let content : c.args.of.1.now ≡ content_of size now (k + 1) = same ∙ ap (content_of size w) e ∙ sym (ap (λ (l : List ℕ). content_of size l (k + 1)) inv.same) in
          let yes = found.1 (page, content) in
          let no = c.if-branch.false in cc)
          (λ ne. inv.done r most took named (λ j a b. valid j a (omega (arith, b))) i one (omega (arith, le, ne)) names same)
          (cases_eq i (k + 1));
    }

pub returns-then-branch-clause-read : goal.returns-then-branch-clause-read
returns-then-branch-clause-read g c = λ r most front took named is some.
    let inv = c.loop-before.invariant in
    let bytes = g.F.FileBytes.bytes in
    let w = bytes c.args.log.now in
    let now = bytes c.loop-before.log in
    let size = c.args.page_size in
    let k = c.loop-before.before in
    let frames = c.committed-before-end.result.frames in
    let valid = (front_is size w front some is).0 in
    let front_is_frames : frames ≡ front = front_unique (named_size w) w frames front (c.committed-before-end.ensures most w took).front (subst (λ (n : ℕ). IsFront n w front) (sym named) is) in
    let took' = subst (λ (l : List ℕ). TookWithin most l c.args.scan.now) (sym inv.same) took in
    let named' : named_size now ≡ size = ap named_size inv.same ∙ named in
    let here : IsValidFrame size w (k + 1) = record { first = omega arith; each = λ j a b. valid.each j a (omega (arith, b, front_is_frames, c.loop-before-test.true)) } in
    let valid' = subst (λ (l : List ℕ). IsValidFrame size l (k + 1)) (sym inv.same) here in
    let found = (c.in_ok-is_copied_by.ensures.read (inv.right r) most took' named' valid').0 c.if-branch.true in
    record {
      first = omega arith;
      within = omega (arith, front_is_frames, c.loop-before-test.true);
      names = ap (λ (l : List ℕ). page_of size l (k + 1)) (sym inv.same) ∙ found.0;
      same = found.1 ∙ ap (λ (l : List ℕ). content_of size l (k + 1)) inv.same;
    }

pub returns-clause-read : goal.returns-clause-read
returns-clause-read g c = λ r most front took named is some i one le names same.
    let inv = c.loop-before.invariant in
    let w = g.F.FileBytes.bytes c.args.log.now in
    let size = c.args.page_size in
    let frames = c.committed-before-end.result.frames in
    let valid = (front_is size w front some is).0 in
    let front_is_frames : frames ≡ front = front_unique (named_size w) w frames front (c.committed-before-end.ensures most w took).front (subst (λ (n : ℕ). IsFront n w front) (sym named) is) in
    inv.done r most took named (λ j a b. record { first = a; each = λ h x y. valid.each h x (omega (arith, b, y, front_is_frames, c.loop-before.auto.before-end)) })
    i one (omega (arith, le, front_is_frames, c.loop-before-test.false)) names same
