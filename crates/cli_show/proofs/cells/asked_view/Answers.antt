use Rattle.std.proofs.Common.{subst}
use Rattle.sqval.specs.Limits.{Bounds}
use Rattle.cli_words.specs.declared.requests.Commit.{Commit}
use Rattle.cli_show.specs.Limits.{limits_named}
use Rattle.cli_show.specs.Views.{IsWholeView, AskedRefused}
use Rattle.cli_show.proofs.cells.asked_view.Goals as goal

pub returns-in-Err-clause-answer : goal.returns-in-Err-clause-answer
returns-in-Err-clause-answer g c = λ given.
    let bytes = g.F.FileBytes.bytes in
    let db = bytes c.args.files.db in
    let wal = bytes c.args.files.wal in
    let journal = bytes c.args.files.journal in
    let refused = subst (λ (l : Bounds). AskedRefused l c.commit.result db wal journal c.in-Err.error) c.limits_of.ensures (c.in-Err.ensures.answer given) in
    (c.in-Err.error, subst (λ (at : Commit). AskedRefused (limits_named c.args.options.large) at db wal journal c.in-Err.error) c.commit.ensures refused, c.from.ensures)

pub returns-in-Ok-clause-answer : goal.returns-in-Ok-clause-answer
returns-in-Ok-clause-answer g c = λ given.
    let bytes = g.F.FileBytes.bytes in
    let db = bytes c.args.files.db in
    let wal = bytes c.args.files.wal in
    let journal = bytes c.args.files.journal in
    let shown = subst (λ (l : Bounds). IsWholeView l bytes c.commit.result db wal journal c.in-Ok.view) c.limits_of.ensures (c.in-Ok.ensures.answer given) in
    subst (λ (at : Commit). IsWholeView (limits_named c.args.options.large) bytes at db wal journal c.in-Ok.view) c.commit.ensures shown
