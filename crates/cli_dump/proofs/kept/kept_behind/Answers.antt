use Rattle.std.proofs.Common.{ℕ, List, subst}
use Rattle.cli_show_diff.specs.Changes.{texts_of}
use Rattle.cli_history.specs.History.{bytes_of}
use Rattle.cli_dump.specs.Kept.{AreCommitsKept}
use Rattle.cli_dump.proofs.kept.kept_behind.Goals as goal

pub returns-in-Ok-kept_of-clause-kept : goal.returns-in-Ok-kept_of-clause-kept
returns-in-Ok-kept_of-clause-kept g c = λ right took cold.
    let files = bytes_of g.F.FileBytes.bytes c.args.files in
    let told = c.args.told.now in
    let names = texts_of told.selected.names.now in
    let same = subst (λ (list : List ℕ). AreCommitsKept told.limits files told.front names told.form c.args.most list c.in-Ok-kept_of.kept)
    c.deref.ensures.value (c.in-Ok-kept_of.ensures.kept right took cold) in
    (c.in-Ok.frames.items, c.in-Ok.ensures.between told.limits.frames files.wal took, same)
