use Rattle.std.proofs.Common.{◌+◌, ◌<◌, ◌^◌, length, ℕ, ◌≡◌, ◌-◌, [], refl, ap, sym, ◌∙◌, arith}
use Rattle.std.proofs.KnownBytes.{Appends-nil}
use Rattle.cli_text.specs.Behind.{slot_text}
use Rattle.cli_text.specs.declared.behind.SlotKind.TheVariants.{Frame}
use Rattle.sqwal.specs.Frames.{frame_at}
use Rattle.sqwal.specs.Slots.{stored}
use Rattle.cli_show.specs.Behind.{IsSlotLine, over_from, slots_from}
use Rattle.sqwal.specs.Header.{named_size}
use Rattle.cli_show.proofs.LinesBehind.{counted_over, counted_slots, ended, kept_twice, one_more, placed, placed_at, slot_fails, slot_line, slot_number, slot_there}
use Rattle.cli_show.proofs.behind.show_slots.Goals as goal

pub returns-in_err-before-clause-refused : goal.returns-in_err-before-clause-refused
returns-in_err-before-clause-refused g c = λ gives header some within.
    let wal = g.F.FileBytes.bytes c.args.wal.now in
    let right = g.met.F.FileBytes.right c.args.wal.now gives in
    let small : length wal < 2 ^ 64 = omega (arith, c.new-slots.ensures.end, c.len.ensures.count right) in
    absurd (c.in_err-before.ensures.sum gives (c.len.ensures.bytes right) small header within)

pub loop-i-init : goal.loop-i-init
loop-i-init g c = (
  c.sum_before.ensures.same,
  λ gives header some within.
      let wal = g.F.FileBytes.bytes c.args.wal.now in
      let right = g.met.F.FileBytes.right c.args.wal.now gives in
      let small : length wal < 2 ^ 64 = omega (arith, c.new-slots.ensures.end, c.len.ensures.count right) in
      let here : c.args.first - 1 ≡ c.args.first + 0 - 1 = omega arith in (
        c.in_ok-before.ensures.sum gives (c.len.ensures.bytes right) small header within ∙ ap (λ (n : ℕ). stored c.args.header.now.page_size wal n) here,
        ([], refl, Appends-nil (g.W.Write.contents c.args.out.now)),
      ),
)

pub returns-in_err-slot-clause-refused : goal.returns-in_err-slot-clause-refused
returns-in_err-slot-clause-refused g c = λ gives header some within.
    let wal = g.F.FileBytes.bytes c.args.wal.now in
    let h = c.args.header.now in
    let s = c.new-slots.result in
    let right = g.met.F.FileBytes.right c.args.wal.now gives in
    let end = c.len.ensures.count right in
    let small : length wal < 2 ^ 64 = omega (arith, c.new-slots.ensures.end, end) in
    let from = placed_at h.page_size c.args.first c.frame_place.result c.frame_place.ensures in
    let wide = c.new-slots.ensures.length ∙ c.requires in
    let count = counted_slots (frame_at h.page_size c.args.first) (24 + h.page_size) c.len.result c.frame_place.result (length c.args.frame.now) s.count wal from c.requires end
    c.new-slots.ensures.count in
    let there = placed (frame_at h.page_size c.args.first) (24 + h.page_size) (length wal) s.from s.length s.count c.loop-i.i c.place.result
    (c.new-slots.ensures.from ∙ from) wide count (omega arith) small c.loop-i-test.true c.place.ensures in
    absurd (slot_fails h c.loop-i.before wal (g.F.FileBytes.bytes c.loop-i.wal) c.args.first c.loop-i.i c.place.result c.loop-i.invariant.0.same_bytes header there
    (c.in_err-slot.ensures.slot (c.loop-i.invariant.0.still_gives gives)))

pub loop-i-preserved : goal.loop-i-preserved
loop-i-preserved g c = (
  kept_twice g.F.FileBytes.bytes g.F.FileBytes.gives_bytes c.args.wal.now c.loop-i.wal c.slot_at.new.wal c.loop-i.invariant.0 c.slot_at.ensures.same,
  λ gives header some within.
      let wal = g.F.FileBytes.bytes c.args.wal.now in
      let h = c.args.header.now in
      let s = c.new-slots.result in
      let right = g.met.F.FileBytes.right c.args.wal.now gives in
      let end = c.len.ensures.count right in
      let small : length wal < 2 ^ 64 = omega (arith, c.new-slots.ensures.end, end) in
      let from = placed_at h.page_size c.args.first c.frame_place.result c.frame_place.ensures in
      let wide = c.new-slots.ensures.length ∙ c.requires in
      let count = counted_slots (frame_at h.page_size c.args.first) (24 + h.page_size) c.len.result c.frame_place.result (length c.args.frame.now) s.count wal from c.requires end
      c.new-slots.ensures.count in
      let there = placed (frame_at h.page_size c.args.first) (24 + h.page_size) (length wal) s.from s.length s.count c.loop-i.i c.place.result
      (c.new-slots.ensures.from ∙ from) wide count (omega arith) small c.loop-i-test.true c.place.ensures in
      let shown = c.loop-i.invariant.1 gives header some within in
      let slot = c.in_ok-slot.slot in
      let is = slot_there h c.loop-i.before wal (g.F.FileBytes.bytes c.loop-i.wal) c.args.first c.loop-i.i c.place.result c.loop-i.invariant.0.same_bytes header there slot some shown.0
      (c.in_ok-slot.ensures.slot (c.loop-i.invariant.0.still_gives gives)) in
      let number = slot_number h c.loop-i.before wal (g.F.FileBytes.bytes c.loop-i.wal) c.args.first c.loop-i.i c.place.result c.loop-i.invariant.0.same_bytes header there
      c.saturating_add.result c.from.result some small c.from.ensures c.saturating_add.ensures in
      let line = slot_line c.args.style wal c.args.first c.loop-i.i c.saturating_add.result h.page_size slot c.as_written.result header.valid.named is number c.as_written.ensures in
      let last : c.args.first + c.loop-i.i ≡ c.args.first + (c.loop-i.i + 1) - 1 = omega arith in (
        is.sum ∙ ap (λ (n : ℕ). stored h.page_size wal n) last,
        one_more (IsSlotLine c.args.style wal c.args.first) c.loop-i.i (g.W.Write.contents c.args.out.now) (g.W.Write.contents c.loop-i.out)
            (g.W.Write.contents c.write_slot.new.out) shown.1.0 (slot_text c.args.style c.saturating_add.result c.as_written.result) shown.1.1 shown.1.2 line
            c.in_ok-write_slot.ensures,
      ),
)

pub returns-clause-text : goal.returns-clause-text
returns-clause-text g c = λ gives header some within.
    let wal = g.F.FileBytes.bytes c.args.wal.now in
    let h = c.args.header.now in
    let s = c.new-slots.result in
    let right = g.met.F.FileBytes.right c.args.wal.now gives in
    let end = c.len.ensures.count right in
    let small : length wal < 2 ^ 64 = omega (arith, c.new-slots.ensures.end, end) in
    let from = placed_at h.page_size c.args.first c.frame_place.result c.frame_place.ensures in
    let wide = c.new-slots.ensures.length ∙ c.requires in
    let count = counted_slots (frame_at h.page_size c.args.first) (24 + h.page_size) c.len.result c.frame_place.result (length c.args.frame.now) s.count wal from c.requires end
    c.new-slots.ensures.count in
    let over = counted_over (frame_at h.page_size c.args.first) (24 + h.page_size) c.len.result c.frame_place.result (length c.args.frame.now) s.over wal from c.requires end
    c.new-slots.ensures.over in
    let shown = (c.loop-i.invariant.1 gives header some within).1 in
    let named = header.valid.named in
    let count_named = count ∙ ap (λ (n : ℕ). slots_from (frame_at n c.args.first) (24 + n) wal) (sym named) in
    let over_named = over ∙ ap (λ (n : ℕ). over_from (frame_at n c.args.first) (24 + n) wal) (sym named) in
    ended c.args.style Frame (IsSlotLine c.args.style wal c.args.first) c.loop-i.i s.count (slots_from (frame_at (named_size wal) c.args.first) (24 + named_size wal) wal)
    s.over (over_from (frame_at (named_size wal) c.args.first) (24 + named_size wal) wal) (g.W.Write.contents c.args.out.now) (g.W.Write.contents c.loop-i.out)
    (g.W.Write.contents c.write_end.new.out) shown.0 c.loop-i-test.false c.loop-i.auto.i-end count_named over_named shown.1 shown.2 c.in_ok-write_end.ensures
