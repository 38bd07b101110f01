use Rattle.std.proofs.Common.{get_or, refl, subst, ℕ}
use Rattle.std.proofs.lemmas.Option.{slice_get-get_or}
use Rattle.cli_show_diff.specs.Changes.{texts_of}
use Rattle.cli_history.specs.History.{IsCommitStopped, bytes_of}
use Rattle.cli_history.proofs.CommitsTaken.{commits_more, last_more}
use Rattle.cli_history.proofs.commits.print_commits.Goals as goal

pub loop-frame-preserved : goal.loop-frame-preserved
loop-frame-preserved g c =
    let i = c.loop-frame.invariant in
    let files = bytes_of g.F.FileBytes.bytes c.args.files in
    let names = texts_of c.args.told.now.selected.names.now in
    let frames = c.args.frames.now in
    let at = c.loop-frame.frame-index in
    let old = g.W.Write.contents c.args.out.now in
    let mid = g.W.Write.contents c.loop-frame.out in
    let new = g.W.Write.contents c.print_commit.new.out in
    record {
      last = last_more c.args.from frames at _ c.loop-frame-test.true refl;
      taken = λ given took cold.
          commits_more files c.args.told.now.front names c.args.told.now.form c.args.from frames at c.loop-frame.before _ old mid new c.loop-frame-test.true i.last refl
          (i.taken given took cold) (c.in-Ok.ensures.ok given took cold);
    }

pub returns-in-Err-clause-err : goal.returns-in-Err-clause-err
returns-in-Err-clause-err g c = λ given took cold.
    let i = c.loop-frame.invariant in
    let files = bytes_of g.F.FileBytes.bytes c.args.files in
    let names = texts_of c.args.told.now.selected.names.now in
    let frames = c.args.frames.now in
    let at = c.loop-frame.frame-index in
    let mid = g.W.Write.contents c.loop-frame.out in
    let new = g.W.Write.contents c.print_commit.new.out in
    let frame = get_or frames at 0 in
    let stopped = c.in-Err.ensures.err given took cold in (
      at,
      frame,
      mid,
      slice_get-get_or frames at 0 c.loop-frame-test.true,
      i.taken given took cold,
      subst (λ (before : ℕ). IsCommitStopped c.args.told.now.limits files c.args.told.now.front names c.args.told.now.form before frame c.in-Err.error mid new) i.last stopped,
    )
