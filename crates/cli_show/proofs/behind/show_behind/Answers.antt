use Rattle.std.proofs.Common.{[], ℕ, List, inl, inr, refl, subst}
use Rattle.std.specs.Io.KnownBytes.{Appends}
use Rattle.std.proofs.KnownBytes.{Appends-nil}
use Rattle.cli_show.specs.Behind.{IsBehindFrames, IsBehindText, IsBehindZeros}
use Rattle.cli_show.specs.Contents.{contents_of}
use Rattle.cli_show.specs.internal.LogsShown.{IsShownLog}
use Rattle.cli_show.specs.declared.logs.Shown.{Shown}
use Rattle.cli_show.proofs.WrittenLogs.{on_ok}
use Rattle.cli_show.proofs.behind.show_behind.Goals as goal

pub returns-in-Refused-clause-text : goal.returns-in-Refused-clause-text
returns-in-Refused-clause-text g c = λ given limits is.
    let bytes = g.F.FileBytes.bytes in
    let wal = bytes c.args.files.now.wal in
    let journal = bytes c.args.files.now.journal in
    let s = subst (λ (x : Shown). IsShownLog limits wal journal x) c.in-Refused.is is in
    ([], inr (inl (s.0, s.2, inr (inr ((s.1.0, s.1.1.0, s.1.1.1), refl)))), Appends-nil (g.W.Write.contents c.args.out.now))

pub returns-in-Wal-clause-text : goal.returns-in-Wal-clause-text
returns-in-Wal-clause-text g c = λ given limits is.
    let bytes = g.F.FileBytes.bytes in
    let wal = bytes c.args.files.now.wal in
    let journal = bytes c.args.files.now.journal in
    let old = g.W.Write.contents c.args.out.now in
    let new = g.W.Write.contents c.show_frames.new.out in
    let style = c.args.style in
    let s = subst (λ (x : Shown). IsShownLog limits wal journal x) c.in-Wal.is is in
    on_ok c.show_frames.result ((text : List ℕ) × IsBehindFrames style wal text × Appends old new text)
    ((text : List ℕ) × IsBehindText style (contents_of bytes c.args.files.now) text × Appends old new text)
    (λ w. (w.0, inr (inl (s.0, s.2, w.1)), w.2)) (c.show_frames.ensures.text given.1 limits.frames s.1)

pub returns-in-Neither-clause-text : goal.returns-in-Neither-clause-text
returns-in-Neither-clause-text g c = λ given limits is.
    let bytes = g.F.FileBytes.bytes in
    let wal = bytes c.args.files.now.wal in
    let journal = bytes c.args.files.now.journal in
    let old = g.W.Write.contents c.args.out.now in
    let new = g.W.Write.contents c.show_zeros.new.out in
    let style = c.args.style in
    let s = subst (λ (x : Shown). IsShownLog limits wal journal x) c.in-Neither.is is in
    on_ok c.show_zeros.result ((text : List ℕ) × IsBehindZeros style (bytes c.args.files.now.db) journal text × Appends old new text)
    ((text : List ℕ) × IsBehindText style (contents_of bytes c.args.files.now) text × Appends old new text)
    (λ w. (w.0, inr (inr (s.0, s.1, w.1)), w.2)) (c.show_zeros.ensures.text given)
