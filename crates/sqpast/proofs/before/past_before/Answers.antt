use Rattle.std.proofs.Common.{◌≡◌, ◌∙◌, ℕ, List, true, false, sym, subst}
use Rattle.std.specs.Prelude.{IsTrue, Ok, Err}
use Rattle.sqwal.proofs.feed.ScanAnswers.{few_frames}
use Rattle.sqview.specs.At.{AtAnswerWithin}
use Rattle.sqpast.proofs.known.OpenedFiles.{refused_as, refused_answer, read_before}
use Rattle.sqpast.proofs.known.BeforeCommits.{changed_answer, before_shown, other_size}
use Rattle.sqpast.proofs.before.past_before.Goals as goal

not_true : false ≡ true → ⊥
not_true e = cc

pub returns-then-changed-clause-right : goal.returns-then-changed-clause-right
returns-then-changed-clause-right g c = λ rights ok took cold.
    let bytes = g.F.FileBytes.bytes in
    let w = bytes c.args.wal in
    let is = (c.committed-front.ensures c.args.limits.frames w took).front in
    changed_answer c.args.limits bytes (bytes c.args.db) w (bytes c.args.journal) cold c.committed-front.result.frames is c.in_ok-changed.changed
    (c.in_ok-changed.ensures.right (rights.0, rights.1) c.args.limits.frames c.committed-front.result.frames took is) c.if-changed.true

pub returns-in_err-view-clause-right : goal.returns-in_err-view-clause-right
returns-in_err-view-clause-right g c = λ rights ok took cold.
    let bytes = g.F.FileBytes.bytes in
    let db = bytes c.args.db in
    let w = bytes c.args.wal in
    let j = bytes c.args.journal in
    let limits = c.args.limits in
    let same = c.is_changed.ensures.same_bytes in
    let right = c.is_changed.ensures.still_right (rights.0, rights.1) in
    let e = c.in_err-view.field-0.0 in
    refused_answer limits bytes 0 db w j c.from_residual-in_err-view.result e c.from_residual-in_err-view.ensures
    (refused_as limits 0 db w j e
    (subst (λ (f : List ℕ). AtAnswerWithin limits bytes 0 f w j (Err e)) same.0
    (subst (λ (l : List ℕ). AtAnswerWithin limits bytes 0 (bytes c.is_changed.new.db) l j (Err e)) same.1
    (c.in_err-view.ensures.right (right.0, right.1, rights.2) (read_before c.from_residual-in_err-view.result e c.from_residual-in_err-view.ensures ok)))))

pub returns-then-other-clause-right : goal.returns-then-other-clause-right
returns-then-other-clause-right g c = λ rights ok took cold.
    let bytes = g.F.FileBytes.bytes in
    let db = bytes c.args.db in
    let w = bytes c.args.wal in
    let j = bytes c.args.journal in
    let limits = c.args.limits in
    let view = c.in_ok-view.view in
    let same = c.is_changed.ensures.same_bytes in
    let right = c.is_changed.ensures.still_right (rights.0, rights.1) in
    let is = (c.committed-front.ensures limits.frames w took).front in
    let shown = subst (λ (f : List ℕ). AtAnswerWithin limits bytes 0 f w j (Ok view)) same.0
    (subst (λ (l : List ℕ). AtAnswerWithin limits bytes 0 (bytes c.is_changed.new.db) l j (Ok view)) same.1
    (c.in_ok-view.ensures.right (right.0, right.1, rights.2) tt)) in
    let other = (c.is_other_size-other.ensures limits.frames w took is).yes c.if-other.true in
    other_size limits bytes db w j cold c.committed-front.result.frames is view shown other.0 (λ e. other.1 (c.page_size.ensures ∙ e))

pub returns-clause-right : goal.returns-clause-right
returns-clause-right g c = λ rights ok took cold.
    let bytes = g.F.FileBytes.bytes in
    let db = bytes c.args.db in
    let w = bytes c.args.wal in
    let j = bytes c.args.journal in
    let limits = c.args.limits in
    let view = c.in_ok-view.view in
    let same = c.is_changed.ensures.same_bytes in
    let right = c.is_changed.ensures.still_right (rights.0, rights.1) in
    let is = (c.committed-front.ensures limits.frames w took).front in
    let shown = subst (λ (f : List ℕ). AtAnswerWithin limits bytes 0 f w j (Ok view)) same.0
    (subst (λ (l : List ℕ). AtAnswerWithin limits bytes 0 (bytes c.is_changed.new.db) l j (Ok view)) same.1
    (c.in_ok-view.ensures.right (right.0, right.1, rights.2) tt)) in
    let kept : IsTrue c.in_ok-changed.changed → ⊥ = λ t. not_true (sym c.if-changed.false ∙ t) in
    let sized = (c.is_other_size-other.ensures limits.frames w took is).no (λ t. not_true (sym c.if-other.false ∙ t)) in
    before_shown limits bytes db w j cold c.committed-front.result.frames is c.in_ok-changed.changed
    (c.in_ok-changed.ensures.right (rights.0, rights.1) limits.frames c.committed-front.result.frames took is)
    kept view shown (few_frames w c.args.scan.now took) (λ one. sym c.page_size.ensures ∙ sized one)
