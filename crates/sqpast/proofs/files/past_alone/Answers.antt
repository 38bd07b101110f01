use Rattle.sqpast.proofs.known.OpenedFiles.{refused_as, refused_answer, read_before, alone_shown}
use Rattle.sqpast.proofs.files.past_alone.Goals as goal

pub returns-in_err-view-clause-right : goal.returns-in_err-view-clause-right
returns-in_err-view-clause-right g c = λ rights ok bare.
    let bytes = g.F.FileBytes.bytes in
    let e = c.in_err-view.field-0.0 in
    refused_answer c.args.limits bytes c.args.frame (bytes c.args.db) (bytes c.args.wal) (bytes c.args.journal) c.from_residual.result e c.from_residual.ensures
    (refused_as c.args.limits c.args.frame (bytes c.args.db) (bytes c.args.wal) (bytes c.args.journal) e
    (c.in_err-view.ensures.right rights (read_before c.from_residual.result e c.from_residual.ensures ok)))

pub returns-clause-right : goal.returns-clause-right
returns-clause-right g c = λ rights ok bare.
    let bytes = g.F.FileBytes.bytes in
    alone_shown c.args.limits bytes c.args.frame (bytes c.args.db) (bytes c.args.wal) (bytes c.args.journal) bare c.in_ok-view.view (c.in_ok-view.ensures.right rights tt)
