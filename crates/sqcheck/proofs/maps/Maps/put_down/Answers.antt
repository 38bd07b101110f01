use Rattle.sqcheck.proofs.Facts.{both_ok, entry_found, inl, on_ok, tells_both, tells_nothing, tells_one, ◌∙◌}
use Rattle.sqcheck.proofs.maps.Maps.put_down.Goals as goal

pub returns-in-Ok-clause-tells : goal.returns-in-Ok-clause-tells
returns-in-Ok-clause-tells g c = λ right tree found. tells_nothing g.V.Snapshot.maps g.V.Snapshot.pages g.V.Snapshot.size c.args.chart.now.faults.items c.put.new.self.faults.items c.put.ensures.same

pub returns-in-Err-clause-tells : goal.returns-in-Err-clause-tells
returns-in-Err-clause-tells g c = λ right tree found.
    let maps = g.V.Snapshot.maps in
    let d = g.V.Snapshot.pages in
    let size = g.V.Snapshot.size in
    let e = c.in-Err.error in
    let s = c.args.self.now in
    let old = c.args.chart.now.faults.items in
    let mid = c.put.new.self.faults.items in
    on_ok _ _ c.tell.result
    (λ both.
    let h = c.in-Err.ensures.err right (λ unread. both.1 (inl unread)) in
    tells_both maps d size old mid c.tell.new.self.faults.items (tells_nothing maps d size old mid c.put.ensures.same)
    (tells_one maps d size e mid c.tell.new.self.faults.items both.0
    (entry_found maps d size tree c.args.item e (s.asked h.0) ((s.known right).long ∙ s.size) found h.1)))
    (both_ok _ _ c.tell.result c.tell.ensures.down c.tell.ensures.taken)
