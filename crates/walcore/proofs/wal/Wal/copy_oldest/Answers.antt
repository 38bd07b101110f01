use Rattle.walcore.proofs.Facts.{IsLeast, List, arith, during, page_least, page_most, passed, refl, subst, ℕ}
use Rattle.walcore.proofs.checkpoint.StepOfCheckpoint.{down_refused, down_done, page_room}
use Rattle.walcore.proofs.wal.Wal.copy_oldest.Goals as goal

pub bring_over-requires : goal.bring_over-requires
bring_over-requires g c =
    let core = c.args.self.now.core in
    omega (arith, page_least c.get-size.result c.get-size.ensures.valid, page_most c.get-size.result c.get-size.ensures.valid, c.get-size.ensures.value, page_room c.deref_mut.result.now core.frame.items c.get-size.result core.page_size c.get-size.ensures.value c.deref_mut.ensures.value core.framed)

pub returns-in_err-bring_over-clause-disk : goal.returns-in_err-bring_over-clause-disk
returns-in_err-bring_over-clause-disk g c = during c.bring_over.ensures.disk.word (λ word past fits opened floor none.
    let core = c.args.self.now.core in
    let brought = c.bring_over.ensures.disk.holds word in
    let low = subst (λ (l : List ℕ). IsLeast l core.mark c.least_mark-frame.result) c.deref.ensures.value c.least_mark-frame.ensures in
    down_refused past core _ _ fits opened floor none c.least_mark-frame.result low brought.log _ _ c.bring_over.result c.from_residual.result _
    (page_room c.deref_mut.result.now core.frame.items c.get-size.result core.page_size c.get-size.ensures.value c.deref_mut.ensures.value core.framed) brought.brings c.in_err-bring_over.was
    (passed c.from_residual.result _ c.from_residual.ensures.1) refl refl)

pub returns-clause-disk : goal.returns-clause-disk
returns-clause-disk g c = during c.bring_over.ensures.disk.word (λ word past fits opened floor none.
    let core = c.args.self.now.core in
    let brought = c.bring_over.ensures.disk.holds word in
    let low = subst (λ (l : List ℕ). IsLeast l core.mark c.least_mark-frame.result) c.deref.ensures.value c.least_mark-frame.ensures in
    down_done past core _ _ fits opened floor none c.least_mark-frame.result low brought.log _ c.bring_over.result c.in_ok-bring_over.field-0
    (page_room c.deref_mut.result.now core.frame.items c.get-size.result core.page_size c.get-size.ensures.value c.deref_mut.ensures.value core.framed) brought.brings c.in_ok-bring_over.was brought.told
    _ refl _ c.reached.result c.reached.ensures
    (record { page_size = refl; is_open = refl; drained = refl; header = refl; sum = refl; frames = refl; mark = refl; last_page = refl; size = refl; used = refl; unsynced = refl; index = refl }) refl)
