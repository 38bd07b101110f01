use Rattle.std.proofs.Common.{◌∙◌, ◌≤◌, ℕ, List, [], refl, sym, subst}
use Rattle.sqjournal.specs.Restored.{IsRolledBack}
use Rattle.sqjournal.specs.declared.replay.Replay.{Replay}
use Rattle.sqview.specs.Laid.{laid}
use Rattle.sqview.specs.Places.{most_kept}
use Rattle.sqview.proofs.place.PlacesOfLastRecords.{journal_places, read_journal, read_kept, read_places, rolled_back}
use Rattle.sqview.proofs.openings.ShownOrRefusedView.{answers, read_before, replay_refused, restored_limited, restored_shown}
use Rattle.sqview.proofs.view.opening.restored.Goals as goal

pub returns-in_err-replay-clause-right : goal.returns-in_err-replay-clause-right
returns-in_err-replay-clause-right g c = λ right ok hot names.
    let bytes = g.F.FileBytes.bytes in
    let e = c.in_err-replay.field-0.0 in
    answers c.args.limits bytes (bytes c.args.db) [] (bytes c.args.journal) c.from_residual.result e c.from_residual.ensures.1
    (replay_refused c.args.limits (bytes c.args.db) (bytes c.args.journal) hot e (c.in_err-replay.ensures.right right (read_before Replay c.from_residual.result e c.from_residual.ensures.1 ok) hot))

pub returns-in_err-count-clause-right : goal.returns-in_err-count-clause-right
returns-in_err-count-clause-right g c = λ right ok hot names.
    let bytes = g.F.FileBytes.bytes in
    let b = bytes c.args.journal in
    let e = c.in_err-count.field-0.0 in
    answers c.args.limits bytes (bytes c.args.db) [] b c.from_residual-in_err-count.result e c.from_residual-in_err-count.ensures.1
    (restored_limited c.args.limits (bytes c.args.db) b hot c.args.header.now.page_size c.from.result names.size (c.from.ensures ∙ names.first_size) (c.in_ok-replay.ensures.right right tt hot).0 e c.in_err-count.ensures)

pub returns-clause-right : goal.returns-clause-right
returns-clause-right g c = λ right ok hot names.
    let bytes = g.F.FileBytes.bytes in
    let db = bytes c.args.db in
    let b = bytes c.args.journal in
    let size = c.args.header.now.page_size in
    let read = c.in_ok-replay.ensures.right right tt hot in
    let places = c.in_ok-places.places.items in
    let n = c.in_ok-count.count in
    let count = c.from.ensures ∙ names.first_size in
    let j = read_journal b c.in_ok-replay.replay read.1 in
    let are = read_places b c.in_ok-replay.replay read.1 n places read.0 c.in_ok-places.ensures.places in
    let back : IsRolledBack db b (laid size n db b places) = rolled_back b n places are j.0 j.1 j.2 j.3 hot size db names.size (c.in_ok-count.ensures.0 ∙ count) in
    restored_shown c.args.limits db b hot size c.from.result names.size count read.0 bytes
    (record { db = c.args.db; log = c.replayed.new.journal; page_size = size; count = n; front = 0; places = c.in_ok-places.places }) c.in_ok-count.ensures names.size
    (subst (λ (l : List ℕ). IsRolledBack db b (laid size n db l places)) (sym c.replayed.ensures.same_bytes) back) refl (journal_places b n places are)
    (subst (λ (l : List ℕ). c.in_ok-places.places.kept ≤ most_kept size l) (sym c.replayed.ensures.same_bytes)
    (subst (λ (k : ℕ). c.in_ok-places.places.kept ≤ most_kept k b) (sym names.size) (read_kept b c.in_ok-replay.replay read.1 c.in_ok-places.places.kept hot c.in_ok-places.ensures.few)))
