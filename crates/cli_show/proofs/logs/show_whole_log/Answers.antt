use Rattle.std.proofs.Common.{ℕ, List, sym, subst}
use Rattle.cli_show.specs.Limits.{limits_named}
use Rattle.cli_show.specs.internal.LogsShown.{IsShownLog}
use Rattle.cli_show.proofs.LinesBehind.{memory_unread, whole_written}
use Rattle.cli_show.proofs.logs.show_whole_log.Goals as goal

pub returns-in-Ok-clause-front : goal.returns-in-Ok-clause-front
returns-in-Ok-clause-front g c = λ given.
    let bytes = g.F.FileBytes.bytes in
    c.front.ensures (limits_named c.args.options.large) (bytes c.args.files.now.wal) (bytes c.args.files.now.journal) (c.in_ok-shown.ensures.shown given.1 given.2)

pub returns-in-Ok-clause-text : goal.returns-in-Ok-clause-text
returns-in-Ok-clause-text g c = λ given.
    let bytes = g.F.FileBytes.bytes in
    let limits = limits_named c.args.options.large in
    let wal = bytes c.args.files.now.wal in
    let journal = bytes c.args.files.now.journal in
    let kept_wal = c.in_ok-shown.ensures.wal in
    let kept_journal = c.in_ok-shown.ensures.journal in
    let wal_now = bytes c.show_counting.new.wal in
    let journal_now = bytes c.show_counting.new.journal in
    let shown = c.in_ok-shown.ensures.shown given.1 given.2 in
    let later = subst (λ (j : List ℕ). IsShownLog limits wal_now j c.in_ok-shown.shown) (sym kept_journal.same_bytes)
    (subst (λ (w : List ℕ). IsShownLog limits w journal c.in_ok-shown.shown) (sym kept_wal.same_bytes) shown) in
    whole_written c.args.options (bytes c.args.files.now.db) wal journal wal_now journal_now (g.W.Write.contents c.args.out.now)
    (g.W.Write.contents c.show_counting.new.out) (g.W.Write.contents c.show_behind.new.out) kept_wal.same_bytes kept_journal.same_bytes
    (c.in_ok-shown.ensures.text given.1 given.2)
    (c.in-Ok.ensures.text (given.0, kept_wal.still_gives given.1, kept_journal.still_gives given.2) limits later)

pub returns-clause-refused : goal.returns-clause-refused
returns-clause-refused g c = λ given.
    let bytes = g.F.FileBytes.bytes in
    let limits = limits_named c.args.options.large in
    let wal = bytes c.args.files.now.wal in
    let journal = bytes c.args.files.now.journal in
    let kept_wal = c.in_ok-shown.ensures.wal in
    let kept_journal = c.in_ok-shown.ensures.journal in
    let shown = c.in_ok-shown.ensures.shown given.1 given.2 in
    let later = subst (λ (j : List ℕ). IsShownLog limits (bytes c.show_counting.new.wal) j c.in_ok-shown.shown) (sym kept_journal.same_bytes)
    (subst (λ (w : List ℕ). IsShownLog limits w journal c.in_ok-shown.shown) (sym kept_wal.same_bytes) shown) in
    memory_unread limits wal journal c.in-Err.error (c.in-Err.ensures.refused (given.0, kept_wal.still_gives given.1, kept_journal.still_gives given.2) limits later)
