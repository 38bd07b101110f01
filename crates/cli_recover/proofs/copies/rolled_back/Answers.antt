use Rattle.std.proofs.Common.{refl, ◌∙◌}
use Rattle.sqjournal.specs.Took.{HasCount}
use Rattle.sqview.specs.declared.read_ahead.ReadAhead.{ReadAhead}
use Rattle.cli_job.specs.declared.metered.Metered.{Metered}
use Rattle.cli_recover.proofs.CopiedPages.{count_read, gives_unread, replay_copied, same_unread, unreplayed}
use Rattle.cli_recover.proofs.copies.rolled_back.Goals as goal

pub returns-in-Ok : goal.returns-in-Ok
returns-in-Ok g c = λ given hot.
    let bytes = g.F.FileBytes.bytes in
    let gives = g.F.FileBytes.gives_bytes in
    let files = c.args.files in
    let ahead = c.in_ok-db.field-0 in
    let own = c.in_ok-db.ensures in
    let counted = λ (x : Metered (ReadAhead g.row.F.Denot) g.row.M.Denot). bytes x.file.file in
    let given_journal = c.replayed.ensures.same.still_gives given.2 in
    let found = c.in_ok-replayed.ensures.found given.2 in
    let count : HasCount (bytes files.journal.file) c.count-records.result =
    count_read (bytes files.journal.file) c.in_ok-replayed.field-0 c.count-records.result found.1 (λ b took. c.count-records.ensures b took) in
    replay_copied c.args.limits counted (bytes files.db.file) (bytes files.wal.file) (bytes files.journal.file) (counted ahead.db) (counted ahead.wal) (counted ahead.journal)
    c.count-records.result c.in-Ok.view c.count-pages.result
    (same_unread bytes files.db.file 65536 ahead.db ahead.db refl own.db)
    (same_unread bytes files.wal.file 0 ahead.wal ahead.wal refl own.wal)
    (same_unread bytes c.replayed.new.journal.file 65536 ahead.journal ahead.journal refl own.journal ∙ c.replayed.ensures.same.same_bytes)
    c.count-pages.ensures hot count
    (c.in-Ok.ensures.answer (
      gives_unread bytes gives files.db.file 65536 ahead.db ahead.db refl own.db given.0,
      gives_unread bytes gives files.wal.file 0 ahead.wal ahead.wal refl own.wal given.1,
      gives_unread bytes gives c.replayed.new.journal.file 65536 ahead.journal ahead.journal refl own.journal given_journal,
    ))

pub returns-in-Err : goal.returns-in-Err
returns-in-Err g c = λ given hot.
    let bytes = g.F.FileBytes.bytes in
    let gives = g.F.FileBytes.gives_bytes in
    let files = c.args.files in
    let ahead = c.in_ok-db.field-0 in
    let own = c.in_ok-db.ensures in
    let counted = λ (x : Metered (ReadAhead g.row.F.Denot) g.row.M.Denot). bytes x.file.file in
    let given_journal = c.replayed.ensures.same.still_gives given.2 in
    unreplayed c.args.limits (bytes files.db.file) (bytes files.wal.file) (bytes files.journal.file) (counted ahead.db) (counted ahead.wal) (counted ahead.journal)
    c.in-Err.error c.from.result
    (same_unread bytes files.db.file 65536 ahead.db ahead.db refl own.db)
    (same_unread bytes files.wal.file 0 ahead.wal ahead.wal refl own.wal)
    (same_unread bytes c.replayed.new.journal.file 65536 ahead.journal ahead.journal refl own.journal ∙ c.replayed.ensures.same.same_bytes)
    c.from.ensures
    (c.in-Err.ensures.answer (
      gives_unread bytes gives files.db.file 65536 ahead.db ahead.db refl own.db given.0,
      gives_unread bytes gives files.wal.file 0 ahead.wal ahead.wal refl own.wal given.1,
      gives_unread bytes gives c.replayed.new.journal.file 65536 ahead.journal ahead.journal refl own.journal given_journal,
    ))
