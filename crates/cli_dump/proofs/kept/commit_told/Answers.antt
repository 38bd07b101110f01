use Rattle.std.proofs.Common.{List, Some, [], ◌∷◌, ℕ, subst}
use Rattle.cli_show_diff.specs.Changes.{texts_of}
use Rattle.cli_history.specs.History.{AreCommitsPrinted, bytes_of}
use Rattle.cli_dump.proofs.kept.commit_told.Goals as goal

pub returns-in-Ok-clause-ok : goal.returns-in-Ok-clause-ok
returns-in-Ok-clause-ok g c = λ right took cold.
    let told = c.args.told.now in
    let files = bytes_of g.F.FileBytes.bytes c.args.files in
    let text = c.print_commits.new.out.text.items in
    subst (λ (t : List ℕ). AreCommitsPrinted files told.front (texts_of told.selected.names.now) told.form c.args.step.0 (c.args.step.1 ∷ []) (Some t) (Some text))
    c.new.ensures.items (c.in-Ok.ensures.ok right took cold)
