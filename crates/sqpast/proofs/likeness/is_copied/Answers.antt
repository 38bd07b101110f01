use Rattle.std.proofs.Common.{◌≡◌, ◌≤◌, ◌<◌, ◌-◌, ℕ, true, false, inl, inr, length, get_or, refl, sym, ◌∙◌, subst, arith}
use Rattle.std.proofs.lemmas.Grind.{get_or_default_zero}
use Rattle.sqpast.specs.internal.Chains.{IsNextFrame}
use Rattle.sqpast.proofs.known.BytesInPieces.{tried_none, tried_over, here, tried_found, tried_more, content_by_part}
use Rattle.sqpast.proofs.likeness.is_copied.Goals as goal

pub loop-step-init : goal.loop-step-init
loop-step-init g c = record {
  right = λ r. r;
  gives = λ r. r;
  same_bytes = refl;
  tried = λ r front are.
      let first = c.args.chains.now.first.items in
      let lt : c.args.p - 1 < length first = omega (arith, c.requires.0, c.requires.1) in
      let at : c.index-frame.result.now ≡ get_or first (c.args.p - 1) 0 = c.index-frame.ensures ∙ get_or_default_zero first (c.args.p - 1) c.index-frame.result.now lt in
      tried_none c.args.chains.now.page_size (g.F.FileBytes.bytes c.args.log.now) front c.args.p c.args.bytes.now c.index-frame.result.now
      (subst (λ (n : ℕ). IsNextFrame c.args.chains.now.page_size (g.F.FileBytes.bytes c.args.log.now) front 0 c.args.p n) (sym at) (are.chains.each c.args.p c.requires.0 c.requires.1));
}

pub loop-step-preserved : goal.loop-step-preserved
loop-step-preserved g c =
    let inv = c.loop-step.invariant in
    record {
      right = λ r. c.is_part.ensures.still_right (inv.right r);
      gives = λ r. c.is_part.ensures.still_gives (inv.gives r);
      same_bytes = c.is_part.ensures.same_bytes ∙ inv.same_bytes;
      tried = λ r front are.
          let size = c.args.chains.now.page_size in
          let w = g.F.FileBytes.bytes c.args.log.now in
          let bytes = c.args.bytes.now in
          let frame = c.loop-step.frame in
          let tried = inv.tried r front are in
          let at = here size w front c.args.p bytes c.loop-step.step frame tried c.if-frame-step.false in
          let some : 1 ≤ frame = omega (arith, c.if-frame-step.false) in
          let content = content_by_part size w (g.F.FileBytes.bytes c.loop-step.log) frame c.place.result (length bytes) inv.same_bytes c.requires.2 some (are.valid.each frame some at.0).whole c.place.ensures.place in
          let next = are.chains.further frame c.args.p some at.0 c.requires.0 c.requires.1 at.1 in
          tried_more size w front c.args.p bytes c.loop-step.step frame tried c.if-frame-step.false c.after-frame.result
          (subst (λ (n : ℕ). IsNextFrame size w front frame c.args.p n) (sym c.after-frame.ensures) next)
          (λ same. let yes : c.in_ok-is_part.field-0 ≡ true = (c.in_ok-is_part.ensures.read (inv.right r)).1 (same ∙ sym content) in let no = c.if-branch.false in cc);
    }

pub returns-then-branch-clause-read : goal.returns-then-branch-clause-read
returns-then-branch-clause-read g c = λ r front are.
    let inv = c.loop-step.invariant in
    let size = c.args.chains.now.page_size in
    let w = g.F.FileBytes.bytes c.args.log.now in
    let bytes = c.args.bytes.now in
    let frame = c.loop-step.frame in
    let tried = inv.tried r front are in
    let at = here size w front c.args.p bytes c.loop-step.step frame tried c.if-frame-step.false in
    let some : 1 ≤ frame = omega (arith, c.if-frame-step.false) in
    let content = content_by_part size w (g.F.FileBytes.bytes c.loop-step.log) frame c.place.result (length bytes) inv.same_bytes c.requires.2 some (are.valid.each frame some at.0).whole c.place.ensures.place in
    (λ _. tried_found size w front c.args.p bytes c.loop-step.step frame tried c.if-frame-step.false ((c.in_ok-is_part.ensures.read (inv.right r)).0 c.if-branch.true ∙ content), λ _. refl)

pub returns-after-loop-step-clause-read : goal.returns-after-loop-step-clause-read
returns-after-loop-step-clause-read g c = λ r front are. (
  λ bad. let b : false ≡ true = bad in cc,
  λ any. absurd (tried_over c.args.chains.now.page_size (g.F.FileBytes.bytes c.args.log.now) front c.args.p c.args.bytes.now c.loop-step.step c.loop-step.frame (c.loop-step.invariant.tried r front are)
      (inr (omega (arith, c.loop-step-test.false, c.len-step-end.ensures, are.chains.frames))) any),
)

pub returns-then-frame-step-clause-read : goal.returns-then-frame-step-clause-read
returns-then-frame-step-clause-read g c = λ r front are. (
  λ bad. let b : false ≡ true = bad in cc,
  λ any. absurd (tried_over c.args.chains.now.page_size (g.F.FileBytes.bytes c.args.log.now) front c.args.p c.args.bytes.now c.loop-step.step c.loop-step.frame (c.loop-step.invariant.tried r front are)
      (inl c.if-frame-step.true) any),
)
