use Rattle.std.proofs.Common.{ℕ, List, subst}
use Rattle.sqpast.specs.Files.{PastAnswerWithin}
use Rattle.sqpast.specs.internal.Opening.{HasNoLog}
use Rattle.sqpast.proofs.known.OpenedFiles.{scanned_none, bare_log}
use Rattle.sqpast.proofs.files.past_logged.Goals as goal

pub returns-in_default-clause-right : goal.returns-in_default-clause-right
returns-in_default-clause-right g c = λ rights ok cold.
    let bytes = g.F.FileBytes.bytes in
    let db = bytes c.args.db in
    let w = bytes c.args.wal in
    let j = bytes c.args.journal in
    let bare = scanned_none c.args.limits.frames w c.in_ok-scan.field-0 c.in_default.is (c.in_ok-scan.ensures.right rights.1 tt) in
    subst (λ (l : List ℕ). HasNoLog c.args.limits c.args.frame l j → PastAnswerWithin c.args.limits bytes c.args.frame db l j c.past_alone.result) c.scanned.ensures.same_bytes
    (λ none. c.past_alone.ensures.right (rights.0, c.scanned.ensures.still_right rights.1, rights.2) ok none)
    (bare_log c.args.limits bytes c.args.frame db w j cold bare)
