use Rattle.sqview.specs.LogView.{pages_of}
use Rattle.sqrescue_c.proofs.AskedViews.{memory_refused, missing_used, shown_used}
use Rattle.sqrescue_c.proofs.asked.used_asked.Goals as goal

pub returns-in-Ok-used_of-clause-shown : goal.returns-in-Ok-used_of-clause-shown
returns-in-Ok-used_of-clause-shown c =
    let files = c.args.files.now in
    shown_used (λ file. file.now) c.args.flags c.args.frame files.db.now files.wal.now files.journal.now c.in-Ok.whole c.in-Ok-used_of.used.view
    (c.in-Ok-used_of.ensures.used (tt, tt)) c.in-Ok.ensures.shown

pub returns-in-Ok-used_of-clause-missing : goal.returns-in-Ok-used_of-clause-missing
returns-in-Ok-used_of-clause-missing c =
    let files = c.args.files.now in
    missing_used (λ file. file.now) c.args.flags c.args.frame files.db.now files.wal.now files.journal.now c.in-Ok.whole c.in-Ok-used_of.used.view
    (c.in-Ok-used_of.ensures.used (tt, tt)) c.in-Ok.ensures.missing

pub returns-in-Err-used_of-clause-refused : goal.returns-in-Err-used_of-clause-refused
returns-in-Err-used_of-clause-refused c =
    let files = c.args.files.now in
    memory_refused c.args.flags c.args.frame files.db.now files.wal.now files.journal.now c.in-Err-used_of.error (c.in-Err-used_of.ensures.refused (tt, tt))

pub returns-in-Ok-used_of-clause-counts : goal.returns-in-Ok-used_of-clause-counts
returns-in-Ok-used_of-clause-counts c =
    let whole = c.in-Ok.whole in
    (whole.page_size, pages_of (λ file. file.now) whole, c.in-Ok.ensures.shown, c.in-Ok-used_of.ensures.counts (tt, tt))
