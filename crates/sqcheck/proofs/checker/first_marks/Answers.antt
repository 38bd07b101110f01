use Rattle.sqcheck.proofs.Below.{Bool, Global, IsWithin, List, MarksAside, MarksOne, Vec, ap, aside_marked, false, inl, is_marked, length, length-replicate, lock_byte_page, maps_barred, maps_marked, replicate, subst, sym, true, with_items, with_items_is, ℕ, ◌-◌, ◌∙◌, ◌≡◌}
use Rattle.sqcheck.proofs.checker.first_marks.Goals.{then-maps, else-maps}
use Rattle.sqcheck.proofs.checker.first_marks.Goals as goal

pub returns-clause-aside : goal.returns-clause-aside
returns-clause-aside g c = λ right.
    let d = g.V.Snapshot.pages in
    let maps = c.args.maps.now in
    let known = maps.known right.0 in
    let set : List Bool = c.set_aside.new.marks in
    let first : Vec Bool Global = with_items c.in_ok-marks.marks set in
    let same : first.items ≡ set = with_items_is c.in_ok-marks.marks set (c.set_aside.ensures.length ∙ c.deref_mut.ensures.len) in
    let blank = c.deref_mut.ensures.value ∙ c.in_ok-marks.ensures in
    let count = ap (λ (l : List Bool). length l) blank ∙ length-replicate c.args.count false in
    let one : MarksOne set (lock_byte_page maps.page_size) = c.set_aside.ensures.lock (blank ∙ sym (ap (λ (n : ℕ). replicate n false) count)) in
    elim c.if-maps.branch [
      | then-maps w ↦
          let new : List Bool = w.mark_maps.new.marks in
          let items : c.if-maps.marks.items ≡ new = ap (λ (v : Vec Bool Global). v.items) w.marks-is ∙ with_items_is first new (w.mark_maps.ensures.length ∙ w.deref_mut-then-maps.ensures.len) in
          let old : MarksOne w.deref_mut-then-maps.result.now (lock_byte_page maps.page_size) = subst (λ l. MarksOne l (lock_byte_page maps.page_size)) (sym (w.deref_mut-then-maps.ensures.value ∙ same)) one in
          subst (MarksAside d) (sym items)
          (maps_marked d w.deref_mut-then-maps.result.now new maps.page_size (maps.page_size - maps.reserved) known.long known.usable (known.auto w.if-maps.true) w.mark_maps.ensures.length old w.mark_maps.ensures.maps)
      | else-maps w ↦
          let items : c.if-maps.marks.items ≡ set = ap (λ (v : Vec Bool Global). v.items) w.marks-is ∙ same in
          subst (MarksAside d) (sym items) (aside_marked d set maps.page_size known.long (known.plain right.1 w.if-maps.false) one)
    ]

pub returns-clause-barred : goal.returns-clause-barred
returns-clause-barred g c = λ right p within marked.
    let d = g.V.Snapshot.pages in
    let maps = c.args.maps.now in
    let known = maps.known right in
    let set : List Bool = c.set_aside.new.marks in
    let first : Vec Bool Global = with_items c.in_ok-marks.marks set in
    let same : first.items ≡ set = with_items_is c.in_ok-marks.marks set (c.set_aside.ensures.length ∙ c.deref_mut.ensures.len) in
    let blank = c.deref_mut.ensures.value ∙ c.in_ok-marks.ensures in
    let count = ap (λ (l : List Bool). length l) blank ∙ length-replicate c.args.count false in
    let one : MarksOne set (lock_byte_page maps.page_size) = c.set_aside.ensures.lock (blank ∙ sym (ap (λ (n : ℕ). replicate n false) count)) in
    elim c.if-maps.branch [
      | then-maps w ↦
          let new : List Bool = w.mark_maps.new.marks in
          let items : c.if-maps.marks.items ≡ new = ap (λ (v : Vec Bool Global). v.items) w.marks-is ∙ with_items_is first new (w.mark_maps.ensures.length ∙ w.deref_mut-then-maps.ensures.len) in
          let old : MarksOne w.deref_mut-then-maps.result.now (lock_byte_page maps.page_size) = subst (λ l. MarksOne l (lock_byte_page maps.page_size)) (sym (w.deref_mut-then-maps.ensures.value ∙ same)) one in
          maps_barred g.V.Snapshot.maps d w.deref_mut-then-maps.result.now new g.V.Snapshot.size maps.page_size (maps.page_size - maps.reserved) maps.size known.usable (maps.asked w.if-maps.true) (known.auto w.if-maps.true) w.mark_maps.ensures.length old w.mark_maps.ensures.maps p
          (subst (λ (l : List Bool). IsWithin (length l) p) items within) (subst (λ l. is_marked l p ≡ true) items marked)
      | else-maps w ↦
          let items : c.if-maps.marks.items ≡ set = ap (λ (v : Vec Bool Global). v.items) w.marks-is ∙ same in
          inl ((one p (subst (λ (l : List Bool). IsWithin (length l) p) items within)).0 (subst (λ l. is_marked l p ≡ true) items marked) ∙ ap lock_byte_page maps.size)
    ]
