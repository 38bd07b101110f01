use Rattle.std.proofs.Common.{◌++◌, List, ℕ, subst, sym}
use Rattle.std.proofs.lemmas.Result.{err_from_is_err_and}
use Rattle.sqjournal.specs.Header.{IsFirstHeader, Names, IsRefused}
use Rattle.sqjournal.specs.declared.error.JournalError.{JournalError}
use Rattle.sqjournal.proofs.read.NextStateOfReading.{front_first, front_names, front_refused}
use Rattle.sqjournal.proofs.pieces.first_header.Goals as goal

pub returns-in_err-header : goal.returns-in_err-header
returns-in_err-header c =
    let w = c.args.begun.now ++ c.args.piece.now in
    let front = c.in-Some.ensures in
    let p = err_from_is_err_and c.from_residual.result c.from_residual.ensures.1 in
    let bad : IsRefused c.in-Some.front p.0 = subst (λ (e : JournalError). IsRefused c.in-Some.front e) (sym p.2) c.in_err-header.ensures in
    rw p.1 (front.0, front_refused w p.0 (subst (λ (f : List ℕ). IsRefused f p.0) front.1 bad))

pub returns : goal.returns
returns c =
    let w = c.args.begun.now ++ c.args.piece.now in
    let front = c.in-Some.ensures in
    let header = c.in_ok-header.ensures in
    (front.0, front_first w (subst IsFirstHeader front.1 header.0), front_names w c.in_ok-header.header (subst (λ (f : List ℕ). Names f c.in_ok-header.header) front.1 header.1))
