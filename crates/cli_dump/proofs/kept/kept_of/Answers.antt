use Rattle.std.proofs.Common.{◌≡◌, ◌∙◌, List, ℕ, ◌+◌, ◌<◌, ◌≤◌, ◌++◌, length, get_or, take, refl, sym, ap, subst, inl, inr, arith}
use Rattle.std.proofs.lemmas.List.{take_all}
use Rattle.std.proofs.lemmas.Option.{slice_get-get_or}
use Rattle.cli_show_diff.specs.Changes.{texts_of}
use Rattle.cli_history.specs.History.{bytes_of}
use Rattle.cli_history.proofs.CommitsTaken.{last_more}
use Rattle.cli_dump.specs.Kept.{IsCommitUntold, IsTextOfCommit, IsTextOfCommits}
use Rattle.cli_dump.proofs.CommitsKept.{text_more}
use Rattle.cli_dump.proofs.kept.kept_of.Goals as goal

pub loop-frame-preserved : goal.loop-frame-preserved
loop-frame-preserved g c =
    let files = bytes_of g.F.FileBytes.bytes c.args.files in
    let names = texts_of c.args.told.now.selected.names.now in
    let form = c.args.told.now.form in
    let front = c.args.told.now.front in
    let from = c.args.from in
    let frames = c.args.frames.now in
    let at = c.loop-frame.frame-index in
    let before = c.loop-frame.before in
    let frame = get_or frames at 0 in
    let text = c.loop-frame.text.items in
    let part = c.in-Ok.part.items in
    let i = c.loop-frame.invariant in
    let grown : c.extend_from_slice.new.self.items ≡ text ++ part =
    c.in_ok-extend_from_slice.ensures.items ∙ ap (λ (l : List ℕ). text ++ l) c.deref.ensures.value in
    record {
      last = last_more c.args.from frames at frame c.loop-frame-test.true refl;
      within = omega (arith, ap length c.deref.ensures.value, c.in_ok-extend_from_slice.ensures.len);
      told = λ right took cold.
          subst (λ (l : List ℕ). IsTextOfCommits files front names form from (take (at + 1) frames) l) (sym grown)
          (text_more files front names form from frames at before frame text part c.loop-frame-test.true i.last refl (i.told right took cold)
          (c.in-Ok.ensures.ok right took cold));
    }

pub returns-in-Err-clause-kept : goal.returns-in-Err-clause-kept
returns-in-Err-clause-kept g c = λ right took cold.
    let files = bytes_of g.F.FileBytes.bytes c.args.files in
    let told = c.args.told.now in
    let frames = c.args.frames.now in
    let at = c.loop-frame.frame-index in
    let frame = get_or frames at 0 in
    let i = c.loop-frame.invariant in
    let untold = subst (λ (before : ℕ). IsCommitUntold told.limits files told.front (texts_of told.selected.names.now) told.form before frame c.in-Err.error)
    i.last (c.in-Err.ensures.err right took cold) in
    (at, i.told right took cold, i.within, inr (frame, slice_get-get_or frames at 0 c.loop-frame-test.true, (refl, untold)))

pub returns-then-len-left-clause-kept : goal.returns-then-len-left-clause-kept
returns-then-len-left-clause-kept g c = λ right took cold.
    let files = bytes_of g.F.FileBytes.bytes c.args.files in
    let told = c.args.told.now in
    let frames = c.args.frames.now in
    let at = c.loop-frame.frame-index in
    let frame = get_or frames at 0 in
    let i = c.loop-frame.invariant in
    let part = c.in-Ok.part.items in
    let is = subst (λ (before : ℕ). IsTextOfCommit files told.front (texts_of told.selected.names.now) told.form before frame part)
    i.last (c.in-Ok.ensures.ok right took cold) in
    let longer : c.args.most < length c.loop-frame.text.items + length part = omega arith in
    (at, i.told right took cold, i.within, inr (frame, slice_get-get_or frames at 0 c.loop-frame-test.true, (refl, (part, is, longer))))

pub returns-clause-kept : goal.returns-clause-kept
returns-clause-kept g c = λ right took cold.
    let files = bytes_of g.F.FileBytes.bytes c.args.files in
    let told = c.args.told.now in
    let frames = c.args.frames.now in
    let at = c.loop-frame.frame-index in
    let i = c.loop-frame.invariant in
    let whole : length frames ≤ length frames = omega arith in (
      length frames,
      subst (λ (some : List ℕ). IsTextOfCommits files told.front (texts_of told.selected.names.now) told.form c.args.from some c.loop-frame.text.items)
          (take_all at frames c.loop-frame-test.false ∙ sym (take_all (length frames) frames whole)) (i.told right took cold),
      i.within,
      inl (refl, refl),
    )
