use Rattle.rollcore.proofs.Facts.{ArePlaced, AreWithin, Asks, Change, Database, List, MayCommit, ap, apply, arith, before_part, drop, during, inl, inr, length, length-drop, length-map, length-take, lent, pages_of, part_after, part_back, part_cases, part_fresh, part_limit, part_numbered, part_short, part_some, part_somes, part_turned, part_within, ready_placed, refl, rules, segments_of, size_bounds, subst, sym, take, ℕ, ⊎_elim, ◌*◌, ◌-◌, ◌<◌, ◌∙◌, ◌≡◌}
use Rattle.rollcore.proofs.parts.put_part.Goals as goal

pub put_segment-requires-clause-buffer : goal.put_segment-requires-clause-buffer
put_segment-requires-clause-buffer g c =
    let long = ap (λ (l : List ℕ). length l) c.deref_mut.ensures.value in
    (omega (arith, long, c.args.core.now.record_room), omega (arith, long, c.args.core.now.record_room, c.args.core.now.sized.1))

pub put_segment-requires-clause-changes : goal.put_segment-requires-clause-changes
put_segment-requires-clause-changes g c = record {
  few = search rules;
  some = λ i lt. part_numbered c.args.pages.now c.requires.ready.0 c.requires.ready.1 c.args.core.now c.deref.result.now c.requires.ready.2 c.deref.ensures.value (c.args.part.number * 64) (c.min-to.result - c.args.part.number * 64) i lt;
  within = λ i k lt some.
      part_within c.args.pages.now c.requires.ready.0 c.requires.ready.1 c.args.core.now c.deref.result.now c.requires.ready.2 c.deref.ensures.value (c.args.part.number * 64) (c.min-to.result - c.args.part.number * 64) i k lt some;
  short = λ k d lt. part_short c.args.pages.now c.requires.ready.0 c.requires.ready.1 c.args.core.now c.requires.ready.2 c.args.core.now.sized k d lt;
}

pub returns-clause-disk : goal.returns-clause-disk
returns-clause-disk g c = during (search rules) (λ word.
    let by_put_segment = c.put_segment.ensures.disk.holds word in
    record {
      asks = λ wide.
          let core = c.args.core.now in
          let one : length c.deref_mut.result.now - 8 ≡ core.page_size = omega (arith, ap (λ (l : List ℕ). length l) c.deref_mut.ensures.value, core.record_room) in
          let placed = ready_placed c.args.pages.now c.requires.ready.0 c.requires.ready.1 core c.requires.ready.2 in
          let within = part_limit c.args.pages.now c.requires.ready.0 c.requires.ready.1 core c.deref.result.now c.requires.ready.2 c.deref.ensures.value core.few (c.args.part.number * 64) (c.min-to.result - c.args.part.number * 64) in
          subst (λ (k : ℕ). Asks (MayCommit k c.args.sector) c.put_segment.result (g.D.Disk.state c.args.disk.now) (g.D.Disk.state c.put_segment.new.disk)) one
          (by_put_segment.asks (ap (λ (l : List ℕ). length l) c.deref_mut-2.ensures.value ∙ wide)
          (subst (λ (k : ℕ). ArePlaced k c.args.pages.now) (sym one) placed)
          (subst (λ (k : ℕ). AreWithin k (take (c.min-to.result - c.args.part.number * 64) (drop (c.args.part.number * 64) c.deref.result.now))) (sym one) within));
      segment = λ n count d nonces ready many wide lt at parted.
          let v : List Change = c.deref.result.now in
          let size : ℕ = length c.deref_mut.result.now - 8 in
          let m : ℕ = c.min-to.result - c.args.part.number * 64 in
          let pages = lent c.args.pages.now in
          let e : Database = apply d pages n in
          let s = g.D.Disk.state c.args.disk.now in
          let new = g.D.Disk.state c.put_segment.new.disk in
          let one : size ≡ c.args.core.now.page_size = omega (arith, ap (λ (l : List ℕ). length l) c.deref_mut.ensures.value, c.args.core.now.record_room) in
          let two = c.deref.ensures.value in
          let items : length v ≡ length c.args.core.now.changes.items = ap (λ (l : List Change). length l) two in
          let long = length-drop (c.args.part.number * 64) v in
          let slice = length-take m (drop (c.args.part.number * 64) v) in
          let numbers = length-map (take m (drop (c.args.part.number * 64) v)) (λ (c : Change). c.page) in
          let before = before_part c.args.pages.now n count c.args.sector nonces c.args.part.number c.args.part.place d c.args.core.now size v s ready many parted one two in
          let some = part_some c.args.part.number (length c.args.core.now.changes.items) c.requires.part.0 in
          part_back pages n c.args.sector nonces c.args.part.number d c.args.core.now size v c.put_segment.result s new one two
          (part_after size c.args.sector d pages n nonces c.args.part.number c.args.part.place v s before m e (size_bounds c.args.sector c.requires.sector).0
          (part_cases c.args.part.number (length v) c.min-to.result (omega (arith, c.min-to.ensures, c.len.ensures, items)) (part_some c.args.part.number (length v) (subst (λ (z : ℕ). c.args.part.number < segments_of z) (sym items) c.requires.part.0)))
          c.args.part.nonce lt at
          c.put_segment.result new
          (by_put_segment.segment d e (take (c.args.part.number * 64) (pages_of v)) before.parted.journaled.0 (take (c.args.part.number * 64) (pages_of v)) before.parted.journaled.1
          (part_fresh size c.args.sector d pages n nonces c.args.part.number c.args.part.place v s before m)
          (⊎_elim (λ z. inl (before.parted.first z)) (λ above. inr (omega (arith, above, items, long, slice, c.min-to.ensures, c.len.ensures))) some)
          (ap (λ (l : List ℕ). length l) c.deref_mut-2.ensures.value ∙ wide)
          (record { count = omega (arith, numbers, long, slice, items, c.min-to.ensures, c.len.ensures); nonce_is = refl; first_size = sym many; sector_is = refl; page_size = sym one })
          (part_turned size c.args.sector d pages n nonces c.args.part.number c.args.part.place v s before m)
          (part_somes size c.args.sector d pages n nonces c.args.part.number c.args.part.place v s before m) before.parted.put));
    })
