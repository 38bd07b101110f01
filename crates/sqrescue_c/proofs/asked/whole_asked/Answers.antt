use Rattle.std.proofs.Common.{◌∙◌, sym}
use Rattle.std.specs.Prelude.{Ok}
use Rattle.sqrescue_c.proofs.AskedViews.{shown_at, refused_at, shown_now, refused_after, missing_then, missing_of_shown}
use Rattle.sqrescue_c.proofs.asked.whole_asked.Goals as goal

pub returns-then-is_set-clause-shown : goal.returns-then-is_set-clause-shown
returns-then-is_set-clause-shown c =
    let files = c.args.files.now in
    shown_at (λ file. file.now) c.args.flags c.args.frame files.db.now files.wal.now files.journal.now c.past_within.result (sym c.is_set.ensures ∙ c.if-is_set.true)
    (rw c.limits_of-limits.ensures at (c.past_within.ensures.answer (tt, tt, tt)))

pub returns-then-is_set-clause-missing : goal.returns-then-is_set-clause-missing
returns-then-is_set-clause-missing c =
    let files = c.args.files.now in
    missing_then (λ file. file.now) c.args.flags c.args.frame files.db.now files.wal.now files.journal.now c.past_within.result (sym c.is_set.ensures ∙ c.if-is_set.true)
    (rw c.limits_of-limits.ensures at (c.past_within.ensures.answer (tt, tt, tt)))

pub returns-in_ok-new_within-clause-missing : goal.returns-in_ok-new_within-clause-missing
returns-in_ok-new_within-clause-missing c =
    let files = c.args.files.now in
    missing_of_shown (λ file. file.now) c.args.flags c.args.frame files.db.now files.wal.now files.journal.now (Ok c.in_ok-new_within.field-0) (sym c.is_set.ensures ∙ c.if-is_set.false)
    (rw c.limits_of-limits.ensures at (c.in_ok-new_within.ensures.answer (tt, tt, tt)))

pub returns-then-is_set-clause-refused : goal.returns-then-is_set-clause-refused
returns-then-is_set-clause-refused c =
    let files = c.args.files.now in
    refused_at (λ file. file.now) c.args.flags c.args.frame files.db.now files.wal.now files.journal.now c.past_within.result (sym c.is_set.ensures ∙ c.if-is_set.true)
    (rw c.limits_of-limits.ensures at (c.past_within.ensures.answer (tt, tt, tt)))

pub returns-in_ok-new_within-clause-shown : goal.returns-in_ok-new_within-clause-shown
returns-in_ok-new_within-clause-shown c =
    let files = c.args.files.now in
    shown_now (λ file. file.now) c.args.flags c.args.frame files.db.now files.wal.now files.journal.now (Ok c.in_ok-new_within.field-0) (sym c.is_set.ensures ∙ c.if-is_set.false)
    (rw c.limits_of-limits.ensures at (c.in_ok-new_within.ensures.answer (tt, tt, tt)))

pub returns-in_err-new_within-clause-refused : goal.returns-in_err-new_within-clause-refused
returns-in_err-new_within-clause-refused c =
    let files = c.args.files.now in
    refused_after (λ file. file.now) c.args.flags c.args.frame files.db.now files.wal.now files.journal.now c.from_residual.result c.in_err-new_within.field-0.0
    c.from_residual.ensures (sym c.is_set.ensures ∙ c.if-is_set.false)
    (rw c.limits_of-limits.ensures at (c.in_err-new_within.ensures.answer (tt, tt, tt)))
