use Rattle.std.proofs.Common.{◌≡◌, ◌≤◌, ◌+◌, ◌-◌, length, take, drop, refl, sym, ◌∙◌, ap, subst, true, false, ℕ, arith}
use Rattle.std.proofs.lemmas.Grind.{common_steps}
use Rattle.sqview.specs.Laid.{part_or_zeros}
use Rattle.sqpast.proofs.known.BytesInPieces.{SameTo, same_none, same_all, same_more, piece_of_same}
use Rattle.sqpast.proofs.likeness.is_part.Goals as goal

pub loop-done-init : goal.loop-done-init
loop-done-init g c = record { within = omega arith; right = λ x. x; gives = λ x. x; same_bytes = refl; same = λ _. same_none c.args.at (g.F.FileBytes.bytes c.args.file.now) c.args.bytes.now }

pub loop-done-preserved : goal.loop-done-preserved
loop-done-preserved g c =
    let done = c.loop-done.done in
    let count = c.min-count.result in
    let bytes = c.args.bytes.now in
    let inv = c.loop-done.invariant in
    let low : count ≤ length bytes - done = grind (arith, common_steps) in
    record {
      within = omega (arith, inv.within);
      right = λ r. c.is_piece.ensures.still_right (inv.right r);
      gives = λ r. c.is_piece.ensures.still_gives (inv.gives r);
      same_bytes = c.is_piece.ensures.same_bytes ∙ inv.same_bytes;
      same = λ r.
          let file = g.F.FileBytes.bytes c.args.file.now in
          let e = done + count - done in
          let z : done + e ≡ done + count = omega arith in
          let piece = take e (drop done bytes) in
          let same = (c.in_ok-is_piece.ensures.read (inv.right r)).0 c.if-not-branch.false ∙ ap (part_or_zeros (length piece) (c.args.at + done)) inv.same_bytes in
          subst (λ (n : ℕ). SameTo c.args.at file bytes n) z (same_more c.args.at file bytes done e (omega (arith, inv.within)) piece refl (c.args.at + done) refl same (inv.same r));
    }

pub returns-then-not-branch-clause-read : goal.returns-then-not-branch-clause-read
returns-then-not-branch-clause-read g c = λ right.
    let done = c.loop-done.done in
    let count = c.min-count.result in
    let bytes = c.args.bytes.now in
    let inv = c.loop-done.invariant in
    let low : count ≤ length bytes - done = grind (arith, common_steps) in
    let file = g.F.FileBytes.bytes c.args.file.now in
    let e = done + count - done in
    let piece = take e (drop done bytes) in (
      λ bad. let b : false ≡ true = bad in cc,
      λ same.
          let part = piece_of_same c.args.at file bytes done e (omega (arith, inv.within)) piece refl (c.args.at + done) refl same in
          let yes : c.in_ok-is_piece.field-0 ≡ true = (c.in_ok-is_piece.ensures.read (inv.right right)).1 (part ∙ ap (part_or_zeros (length piece) (c.args.at + done)) (sym inv.same_bytes)) in
          let no = c.if-not-branch.true in
          cc,
    )

pub returns-clause-read : goal.returns-clause-read
returns-clause-read g c = λ right.
    (λ _. same_all c.args.at (g.F.FileBytes.bytes c.args.file.now) c.args.bytes.now c.loop-done.done c.loop-done-test.false (c.loop-done.invariant.same right), λ _. refl)
