use Rattle.std.proofs.Common.{◌≡◌, ◌<◌, ◌≤◌, ◌∙◌, ◌++◌, List, ℕ, length, sym, ap, subst}
use Rattle.std.proofs.lemmas.Result.{err_from_is_err_and}
use Rattle.sqjournal.specs.Header.{IsFirstHeader, Names, IsRefused}
use Rattle.sqjournal.specs.declared.error.JournalError.{JournalError}
use Rattle.sqjournal.proofs.read.BytesTakenByReplay.{goes_on_judged, goes_on_fresh, sound_fresh, unjudged_of, at_header, at_none}
use Rattle.sqjournal.proofs.replay.Replay.judged.Goals as goal

pub returns-in-Some-clause-judged : goal.returns-in-Some-clause-judged
returns-in-Some-clause-judged c = λ b t. goes_on_judged b c.args.piece.now c.args.self.now c.in-Some.reading t c.in-Some.is

pub returns-in-Some-clause-sound : goal.returns-in-Some-clause-sound
returns-in-Some-clause-sound c = c.args.self.now.sound c.in-Some.reading c.in-Some.is

pub returns-in_err-header-clause-judged : goal.returns-in_err-header-clause-judged
returns-in_err-header-clause-judged c = λ b t.
    let kept : c.deref.result.now ≡ b = c.deref.ensures.value ∙ (unjudged_of b c.args.self.now t c.in_default.is).kept in
    let p = err_from_is_err_and c.from_residual.result c.from_residual.ensures.1 in
    let bad = c.in_err-header.ensures in
    let refused : IsRefused (c.deref.result.now ++ c.args.piece.now) p.0 = subst (λ (e : JournalError). IsRefused (c.deref.result.now ++ c.args.piece.now) e) (sym p.2) bad.1 in
    rw p.1 (subst (λ (l : List ℕ). 28 ≤ length (l ++ c.args.piece.now)) kept bad.0, subst (λ (l : List ℕ). IsRefused (l ++ c.args.piece.now) p.0) kept refused)

pub returns-in-Some-2-clause-judged : goal.returns-in-Some-2-clause-judged
returns-in-Some-2-clause-judged c = λ b t.
    let piece = c.args.piece.now in
    let s = c.args.self.now in
    let w : c.deref.result.now ++ piece ≡ s.begun.items ++ piece = ap (λ l. l ++ piece) c.deref.ensures.value in
    let h = at_header (c.deref.result.now ++ piece) c.in_ok-header.field-0 c.in-Some-2.header c.in-Some-2.is c.in_ok-header.ensures in
    goes_on_fresh b piece s c.in-Some-2.header t c.in_default.is (subst (λ (l : List ℕ). 28 ≤ length l) w h.0) (subst IsFirstHeader w h.1)
    (subst (λ (l : List ℕ). Names l c.in-Some-2.header) w h.2)

pub returns-in-Some-2-clause-sound : goal.returns-in-Some-2-clause-sound
returns-in-Some-2-clause-sound c =
    let s = c.args.self.now in
    let w = c.deref.result.now ++ c.args.piece.now in
    let h = at_header w c.in_ok-header.field-0 c.in-Some-2.header c.in-Some-2.is c.in_ok-header.ensures in
    let u = s.unjudged c.in_default.is in
    sound_fresh w c.in-Some-2.header s.taken (length s.begun.items) h.1 h.2 u.1 u.0

pub returns-in-None-clause-judged : goal.returns-in-None-clause-judged
returns-in-None-clause-judged c = λ b t.
    let kept : c.deref.result.now ≡ b = c.deref.ensures.value ∙ (unjudged_of b c.args.self.now t c.in_default.is).kept in
    subst (λ (l : List ℕ). length (l ++ c.args.piece.now) < 28) kept (at_none (c.deref.result.now ++ c.args.piece.now) c.in_ok-header.field-0 c.in-None.is c.in_ok-header.ensures)
