use Rattle.std.proofs.Common.{◌≡◌, ℕ, List, ap, sym, subst}
use Rattle.sqwal.specs.Took.{TookWithin}
use Rattle.sqview.specs.declared.read_ahead.ReadAhead.{ReadAhead}
use Rattle.cli_job.specs.declared.metered.Metered.{Metered}
use Rattle.cli_recover.proofs.CopiedPages.{fold_copied, unfolded_at}
use Rattle.cli_recover.proofs.copies.folded_to.Goals as goal

pub returns-in-Ok : goal.returns-in-Ok
returns-in-Ok g c = λ given took some cold.
    let bytes = g.F.FileBytes.bytes in
    let counted = λ (x : Metered (ReadAhead g.row.F.Denot) g.row.M.Denot). bytes x.file.file in
    let files = c.args.files in
    let same_wal : counted c.in_ok-db.wal ≡ bytes files.wal.file = ap bytes c.in_ok-db.ensures.second.same in
    fold_copied c.args.limits counted c.args.frame (bytes files.db.file) (bytes files.wal.file) (counted c.in_ok-db.db) (counted c.in_ok-db.wal)
    (bytes files.journal.file) c.in-Ok.view c.front-frames.result c.count-pages.result (ap bytes c.in_ok-db.ensures.first.same) same_wal
    c.front-frames.ensures c.count-pages.ensures some
    (c.in-Ok.ensures.answer (subst (λ (w : List ℕ). TookWithin c.args.limits.frames w c.args.scan.now) (sym same_wal) took) some (bytes files.journal.file) cold)

pub returns : goal.returns
returns g c = λ given took some cold.
    let bytes = g.F.FileBytes.bytes in
    let counted = λ (x : Metered (ReadAhead g.row.F.Denot) g.row.M.Denot). bytes x.file.file in
    let files = c.args.files in
    let same_wal : counted c.in_ok-db.wal ≡ bytes files.wal.file = ap bytes c.in_ok-db.ensures.second.same in
    unfolded_at c.args.limits c.args.frame (bytes files.db.file) (bytes files.wal.file) (counted c.in_ok-db.db) (counted c.in_ok-db.wal)
    (bytes files.journal.file) c.in-Err.error c.from.result (ap bytes c.in_ok-db.ensures.first.same) same_wal c.from.ensures
    (c.in-Err.ensures.answer (subst (λ (w : List ℕ). TookWithin c.args.limits.frames w c.args.scan.now) (sym same_wal) took) some (bytes files.journal.file) cold)
