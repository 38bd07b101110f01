use Rattle.std.proofs.Common.{refl}
use Rattle.sqview.specs.declared.read_ahead.ReadAhead.{ReadAhead}
use Rattle.cli_job.specs.declared.metered.Metered.{Metered}
use Rattle.cli_recover.proofs.CopiedPages.{gives_unread, past_copied, same_unread, unpast}
use Rattle.cli_recover.proofs.copies.at_commit.Goals as goal

pub returns-in-Ok : goal.returns-in-Ok
returns-in-Ok g c = λ given.
    let bytes = g.F.FileBytes.bytes in
    let gives = g.F.FileBytes.gives_bytes in
    let files = c.args.files in
    let ahead = c.in_ok-db.field-0 in
    let own = c.in_ok-db.ensures in
    let counted = λ (x : Metered (ReadAhead g.row.F.Denot) g.row.M.Denot). bytes x.file.file in
    past_copied c.args.limits counted c.args.frame (bytes files.db.file) (bytes files.wal.file) (bytes files.journal.file) (counted ahead.db) (counted ahead.wal) (counted ahead.journal)
    c.in-Ok.view c.folded_as.result c.count-pages.result
    (same_unread bytes files.db.file 65536 ahead.db ahead.db refl own.db)
    (same_unread bytes files.wal.file 0 ahead.wal ahead.wal refl own.wal)
    (same_unread bytes files.journal.file 65536 ahead.journal ahead.journal refl own.journal)
    c.folded_as.ensures.is c.count-pages.ensures
    (c.in-Ok.ensures.answer (
      gives_unread bytes gives files.db.file 65536 ahead.db ahead.db refl own.db given.0,
      gives_unread bytes gives files.wal.file 0 ahead.wal ahead.wal refl own.wal given.1,
      gives_unread bytes gives files.journal.file 65536 ahead.journal ahead.journal refl own.journal given.2,
    ))

pub returns-in-Err : goal.returns-in-Err
returns-in-Err g c = λ given.
    let bytes = g.F.FileBytes.bytes in
    let gives = g.F.FileBytes.gives_bytes in
    let files = c.args.files in
    let ahead = c.in_ok-db.field-0 in
    let own = c.in_ok-db.ensures in
    let counted = λ (x : Metered (ReadAhead g.row.F.Denot) g.row.M.Denot). bytes x.file.file in
    unpast c.args.limits c.args.frame (bytes files.db.file) (bytes files.wal.file) (bytes files.journal.file) (counted ahead.db) (counted ahead.wal) (counted ahead.journal)
    c.in-Err.error c.from.result
    (same_unread bytes files.db.file 65536 ahead.db ahead.db refl own.db)
    (same_unread bytes files.wal.file 0 ahead.wal ahead.wal refl own.wal)
    (same_unread bytes files.journal.file 65536 ahead.journal ahead.journal refl own.journal)
    c.from.ensures
    (c.in-Err.ensures.answer (
      gives_unread bytes gives files.db.file 65536 ahead.db ahead.db refl own.db given.0,
      gives_unread bytes gives files.wal.file 0 ahead.wal ahead.wal refl own.wal given.1,
      gives_unread bytes gives files.journal.file 65536 ahead.journal ahead.journal refl own.journal given.2,
    ))
