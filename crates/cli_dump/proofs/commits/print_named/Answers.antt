use Rattle.std.proofs.Common.{◌≡◌, inl, inr, refl, subst}
use Rattle.std.specs.Prelude.{◌⊎◌, Result, Ok, Err, IfErr, IfOk}
use Rattle.cli_show_rows.specs.declared.stop.Stop.{Stop}
use Rattle.cli_show_diff.specs.Changes.{texts_of}
use Rattle.cli_facts.specs.declared.outcome.Refusal.{Refusal}
use Rattle.cli_show.specs.Logs.{IsUnreadLog}
use Rattle.cli_show.specs.LogsShown.{IsLogFound}
use Rattle.cli_show.specs.declared.logs.LogFound.{LogFound}
use Rattle.cli_history.specs.History.{bytes_of}
use Rattle.cli_dump.specs.History.{IsNoLog, IsRangePrinted, IsRangeRefused}
use Rattle.cli_dump.proofs.commits.print_named.Goals as goal

-- what holds of an answer is one of two things that may
right : {T E : Type 0} (r : Result T E) (P Q : T → Type 0) → IfOk r Q → IfOk r (λ x. P x ⊎ Q x)
right (Ok x) P Q holds = inr holds
right (Err _) P Q holds = tt

right_err : {T E : Type 0} (r : Result T E) (P Q : E → Type 0) → IfErr r Q → IfErr r (λ x. P x ⊎ Q x)
right_err (Ok _) P Q holds = tt
right_err (Err e) P Q holds = inr holds

pub returns-in-Wal-clause-shown : goal.returns-in-Wal-clause-shown
returns-in-Wal-clause-shown g c = λ given.
    let files = bytes_of g.F.FileBytes.bytes c.args.files in
    let asked = c.args.asked.now in
    let names = texts_of asked.names.now in
    let old = g.W.Write.contents c.args.out.now in
    let new = g.W.Write.contents c.print_range.new.out in
    let log = subst (λ (l : LogFound). IsLogFound asked.limits files.wal files.journal l) c.in-Wal.is (c.in-Ok.ensures given) in
    right c.print_range.result (λ (ended : Result (Unit {0}) Stop). IsNoLog files.wal files.journal × (old ≡ new) × (ended ≡ Ok tt))
    (IsRangePrinted asked.limits files names asked.compared asked.to old new) (c.print_range.ensures.shown given log.1 log.0)

pub returns-in-Wal-clause-refused : goal.returns-in-Wal-clause-refused
returns-in-Wal-clause-refused g c = λ given.
    let files = bytes_of g.F.FileBytes.bytes c.args.files in
    let asked = c.args.asked.now in
    let names = texts_of asked.names.now in
    let old = g.W.Write.contents c.args.out.now in
    let new = g.W.Write.contents c.print_range.new.out in
    let log = subst (λ (l : LogFound). IsLogFound asked.limits files.wal files.journal l) c.in-Wal.is (c.in-Ok.ensures given) in
    right_err c.print_range.result (λ (refusal : Refusal). IsUnreadLog asked.limits files.wal files.journal refusal)
    (IsRangeRefused asked.limits files names asked.compared asked.to old new) (c.print_range.ensures.refused given log.1 log.0)

pub returns-in-None-clause-shown : goal.returns-in-None-clause-shown
returns-in-None-clause-shown g c = λ given.
    let files = bytes_of g.F.FileBytes.bytes c.args.files in
    let log = subst (λ (l : LogFound). IsLogFound c.args.asked.now.limits files.wal files.journal l) c.in-None.is (c.in-Ok.ensures given) in
    inl (inr log.1, refl, refl)

pub returns-clause-shown : goal.returns-clause-shown
returns-clause-shown g c = λ given.
    let files = bytes_of g.F.FileBytes.bytes c.args.files in
    let log = subst (λ (l : LogFound). IsLogFound c.args.asked.now.limits files.wal files.journal l) c.in-Journal.is (c.in-Ok.ensures given) in
    inl (inl log.0, refl, refl)

pub returns-in-Err-clause-refused : goal.returns-in-Err-clause-refused
returns-in-Err-clause-refused g c = λ given. inl (c.in-Err.ensures given)
