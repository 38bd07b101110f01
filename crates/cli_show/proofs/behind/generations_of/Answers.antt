use Rattle.std.proofs.Common.{◌+◌, ◌<◌, ◌^◌, length, ℕ, ◌≡◌, ◌-◌, ap, subst, sym, ◌∙◌, arith}
use Rattle.sqwal.specs.Frames.{frame_at}
use Rattle.sqwal.specs.Slots.{stored, IsSlot}
use Rattle.cli_show.specs.Behind.{slots_from}
use Rattle.cli_show.specs.internal.Generations.{AreRead}
use Rattle.cli_show.proofs.LinesBehind.{counted_slots, kept_twice, number_low, placed, placed_at, slot_fails, slot_number, slot_there}
use Rattle.cli_show.proofs.behind.generations_of.Goals as goal

pub returns-in_err-before-clause-refused : goal.returns-in_err-before-clause-refused
returns-in_err-before-clause-refused g c = λ gives header some within.
    let wal = g.F.FileBytes.bytes c.args.wal.now in
    let right = g.met.F.FileBytes.right c.args.wal.now gives in
    let small : length wal < 2 ^ 64 = omega (arith, c.new-slots.ensures.end, c.len.ensures.count right) in
    absurd (c.in_err-before.ensures.sum gives (c.len.ensures.bytes right) small header within)

pub loop-i-init : goal.loop-i-init
loop-i-init g c = (
  c.sum_before.ensures.same,
  λ gives header some within.
      let wal = g.F.FileBytes.bytes c.args.wal.now in
      let right = g.met.F.FileBytes.right c.args.wal.now gives in
      let small : length wal < 2 ^ 64 = omega (arith, c.new-slots.ensures.end, c.len.ensures.count right) in
      let here : c.args.first - 1 ≡ c.args.first + 0 - 1 = omega arith in
      let none : c.args.first ≡ c.args.first + 0 = omega arith in (
        c.in_ok-before.ensures.sum gives (c.len.ensures.bytes right) small header within ∙ ap (λ (n : ℕ). stored c.args.header.now.page_size wal n) here,
        subst (λ (n : ℕ). AreRead c.args.header.now.page_size wal c.args.first n c.new-generations.result) none
            (c.new-generations.ensures c.args.header.now.page_size wal c.args.first),
      ),
)

pub returns-in_err-slot-clause-same : goal.returns-in_err-slot-clause-same
returns-in_err-slot-clause-same g c =
    kept_twice g.F.FileBytes.bytes g.F.FileBytes.gives_bytes c.args.wal.now c.loop-i.wal c.slot_at.new.wal c.loop-i.invariant.0 c.slot_at.ensures.same

pub returns-in_err-add-clause-same : goal.returns-in_err-add-clause-same
returns-in_err-add-clause-same g c =
    kept_twice g.F.FileBytes.bytes g.F.FileBytes.gives_bytes c.args.wal.now c.loop-i.wal c.slot_at.new.wal c.loop-i.invariant.0 c.slot_at.ensures.same

pub returns-in_err-slot-clause-refused : goal.returns-in_err-slot-clause-refused
returns-in_err-slot-clause-refused g c = λ gives header some within.
    let wal = g.F.FileBytes.bytes c.args.wal.now in
    let h = c.args.header.now in
    let s = c.new-slots.result in
    let right = g.met.F.FileBytes.right c.args.wal.now gives in
    let end = c.len.ensures.count right in
    let small : length wal < 2 ^ 64 = omega (arith, c.new-slots.ensures.end, end) in
    let from = placed_at h.page_size c.args.first c.frame_place.result c.frame_place.ensures in
    let wide = c.new-slots.ensures.length ∙ c.requires in
    let count = counted_slots (frame_at h.page_size c.args.first) (24 + h.page_size) c.len.result c.frame_place.result (length c.args.frame.now) s.count wal from c.requires end
    c.new-slots.ensures.count in
    let there = placed (frame_at h.page_size c.args.first) (24 + h.page_size) (length wal) s.from s.length s.count c.loop-i.i c.place.result
    (c.new-slots.ensures.from ∙ from) wide count (omega arith) small c.loop-i-test.true c.place.ensures in
    absurd (slot_fails h c.loop-i.before wal (g.F.FileBytes.bytes c.loop-i.wal) c.args.first c.loop-i.i c.place.result c.loop-i.invariant.0.same_bytes header there
    (c.in_err-slot.ensures.slot (c.loop-i.invariant.0.still_gives gives)))

pub loop-i-preserved : goal.loop-i-preserved
loop-i-preserved g c = (
  kept_twice g.F.FileBytes.bytes g.F.FileBytes.gives_bytes c.args.wal.now c.loop-i.wal c.slot_at.new.wal c.loop-i.invariant.0 c.slot_at.ensures.same,
  λ gives header some within.
      let wal = g.F.FileBytes.bytes c.args.wal.now in
      let h = c.args.header.now in
      let s = c.new-slots.result in
      let right = g.met.F.FileBytes.right c.args.wal.now gives in
      let end = c.len.ensures.count right in
      let small : length wal < 2 ^ 64 = omega (arith, c.new-slots.ensures.end, end) in
      let from = placed_at h.page_size c.args.first c.frame_place.result c.frame_place.ensures in
      let wide = c.new-slots.ensures.length ∙ c.requires in
      let count = counted_slots (frame_at h.page_size c.args.first) (24 + h.page_size) c.len.result c.frame_place.result (length c.args.frame.now) s.count wal from c.requires end
      c.new-slots.ensures.count in
      let there = placed (frame_at h.page_size c.args.first) (24 + h.page_size) (length wal) s.from s.length s.count c.loop-i.i c.place.result
      (c.new-slots.ensures.from ∙ from) wide count (omega arith) small c.loop-i-test.true c.place.ensures in
      let known = c.loop-i.invariant.1 gives header some within in
      let slot = c.in_ok-slot.slot in
      let is = slot_there h c.loop-i.before wal (g.F.FileBytes.bytes c.loop-i.wal) c.args.first c.loop-i.i c.place.result c.loop-i.invariant.0.same_bytes header there slot some known.0
      (c.in_ok-slot.ensures.slot (c.loop-i.invariant.0.still_gives gives)) in
      let number = slot_number h c.loop-i.before wal (g.F.FileBytes.bytes c.loop-i.wal) c.args.first c.loop-i.i c.place.result c.loop-i.invariant.0.same_bytes header there
      c.saturating_add.result c.from.result some small c.from.ensures c.saturating_add.ensures in
      let low : c.saturating_add.result < 2 ^ 64 - 1 = omega (arith, number, number_low h.page_size c.args.first c.loop-i.i (length wal) some is.whole small) in
      let last : c.args.first + c.loop-i.i ≡ c.args.first + (c.loop-i.i + 1) - 1 = omega arith in
      let next : c.saturating_add.result + 1 ≡ c.args.first + (c.loop-i.i + 1) = omega (arith, number) in (
        is.sum ∙ ap (λ (n : ℕ). stored h.page_size wal n) last,
        subst (λ (n : ℕ). AreRead h.page_size wal c.args.first n c.add.new.self) next
            (c.in_ok-add.ensures h.page_size wal c.args.first low (subst (λ (n : ℕ). IsSlot h.page_size wal n slot) (sym number) is)
            (subst (λ (n : ℕ). AreRead h.page_size wal c.args.first n c.loop-i.generations) (sym number) known.1)),
      ),
)

pub returns-clause-read : goal.returns-clause-read
returns-clause-read g c = λ gives header some within.
    let wal = g.F.FileBytes.bytes c.args.wal.now in
    let h = c.args.header.now in
    let s = c.new-slots.result in
    let right = g.met.F.FileBytes.right c.args.wal.now gives in
    let end = c.len.ensures.count right in
    let from = placed_at h.page_size c.args.first c.frame_place.result c.frame_place.ensures in
    let count = counted_slots (frame_at h.page_size c.args.first) (24 + h.page_size) c.len.result c.frame_place.result (length c.args.frame.now) s.count wal from c.requires end
    c.new-slots.ensures.count in
    let all : c.args.first + c.loop-i.i ≡ c.args.first + slots_from (frame_at h.page_size c.args.first) (24 + h.page_size) wal =
    omega (arith, count, c.loop-i-test.false, c.loop-i.auto.i-end) in
    subst (λ (n : ℕ). AreRead h.page_size wal c.args.first n c.loop-i.generations) all (c.loop-i.invariant.1 gives header some within).1
