use Rattle.std.proofs.Common.{ℕ, List, subst}
use Rattle.std.specs.Prelude.{Ok}
use Rattle.sqjournal.specs.Journal.{IsHot}
use Rattle.sqview.specs.Logs.{CountsAnswer}
use Rattle.sqview.specs.declared.logs.LogInUse.{LogInUse}
use Rattle.sqpast.specs.Files.{PastAnswerWithin}
use Rattle.sqpast.specs.internal.Opening.{HasNoLog}
use Rattle.sqpast.proofs.known.OpenedFiles.{other_log}
use Rattle.sqpast.proofs.files.past_within.Goals as goal

pub returns-in-Wal-clause-right : goal.returns-in-Wal-clause-right
returns-in-Wal-clause-right g c = λ rights ok.
    let bytes = g.F.FileBytes.bytes in
    let w = bytes c.args.wal in
    let j = bytes c.args.journal in
    let counts = subst (λ (l : LogInUse). CountsAnswer w j (Ok l)) c.in-Wal.is (c.in_ok-in_use.ensures.right rights.1 rights.2 tt) in
    subst (λ (l : List ℕ). (¬ IsHot l) → PastAnswerWithin c.args.limits bytes c.args.frame (bytes c.args.db) w l c.past_logged.result) c.log_in_use.ensures.same_bytes
    (λ cold. c.past_logged.ensures.right (rights.0, rights.1, c.log_in_use.ensures.still_right rights.2) ok cold) counts.0

pub returns-in_default-clause-right : goal.returns-in_default-clause-right
returns-in_default-clause-right g c = λ rights ok.
    let bytes = g.F.FileBytes.bytes in
    let w = bytes c.args.wal in
    let j = bytes c.args.journal in
    let none = other_log c.args.limits bytes c.args.frame (bytes c.args.db) w j c.in_ok-in_use.in_use (c.in_ok-in_use.ensures.right rights.1 rights.2 tt) (λ e. c.in_default.not-Wal e) in
    subst (λ (l : List ℕ). HasNoLog c.args.limits c.args.frame w l → PastAnswerWithin c.args.limits bytes c.args.frame (bytes c.args.db) w l c.past_alone.result) c.log_in_use.ensures.same_bytes
    (λ none. c.past_alone.ensures.right (rights.0, rights.1, c.log_in_use.ensures.still_right rights.2) ok none) none

pub returns-in-Wal-clause-answer : goal.returns-in-Wal-clause-answer
returns-in-Wal-clause-answer g c = λ gives.
    returns-in-Wal-clause-right g c (g.met.F.FileBytes.right c.args.db gives.0, g.met.F.FileBytes.right c.args.wal gives.1, g.met.F.FileBytes.right c.args.journal gives.2)
    (c.past_logged.ensures.read (gives.0, gives.1, c.log_in_use.ensures.still_gives gives.2))

pub returns-in_default-clause-answer : goal.returns-in_default-clause-answer
returns-in_default-clause-answer g c = λ gives.
    returns-in_default-clause-right g c (g.met.F.FileBytes.right c.args.db gives.0, g.met.F.FileBytes.right c.args.wal gives.1, g.met.F.FileBytes.right c.args.journal gives.2)
    (c.past_alone.ensures.read (gives.0, gives.1, c.log_in_use.ensures.still_gives gives.2))
