use Rattle.std.proofs.Common.{◌+◌, ◌<◌, ◌^◌, length, refl, ◌∙◌, arith}
use Rattle.cli_text.specs.Behind.{record_slot_text}
use Rattle.cli_text.specs.declared.behind.SlotKind.TheVariants.{Record}
use Rattle.std.specs.Prelude.{◌==◌}
use Rattle.cli_show.specs.Behind.{IsRestLine, over_from, slot_place, slots_from}
use Rattle.cli_show.proofs.LinesBehind.{counted_over, counted_slots, ended, kept_twice, one_more, placed, record_fails, record_there, rest_line}
use Rattle.cli_show.proofs.behind.show_rest.Goals as goal

pub returns-in_err-slot-clause-refused : goal.returns-in_err-slot-clause-refused
returns-in_err-slot-clause-refused g c = λ gives.
    let b = g.F.FileBytes.bytes c.args.journal.now in
    let size = c.args.page_size in
    let s = c.new-slots.result in
    let end = c.len.ensures.count (g.met.F.FileBytes.right c.args.journal.now gives) in
    let small : length b < 2 ^ 64 = omega (arith, c.new-slots.ensures.end, end) in
    let wide = c.new-slots.ensures.length ∙ c.requires in
    let count = counted_slots c.args.rest.from (size + 8) c.len.result c.args.rest.from (length c.args.bytes.now) s.count b refl c.requires end c.new-slots.ensures.count in
    let there = placed c.args.rest.from (size + 8) (length b) s.from s.length s.count c.loop-i.i c.place-place.result c.new-slots.ensures.from wide count (omega arith) small c.loop-i-test.true c.place-place.ensures in
    absurd (record_fails size b (g.F.FileBytes.bytes c.loop-i.journal) c.place-place.result (slot_place c.args.rest.from (size + 8) c.loop-i.i)
    c.loop-i.invariant.0.same_bytes there (c.in_err-slot.ensures.slot (c.loop-i.invariant.0.still_gives gives)))

pub loop-i-preserved : goal.loop-i-preserved
loop-i-preserved g c = (
  kept_twice g.F.FileBytes.bytes g.F.FileBytes.gives_bytes c.args.journal.now c.loop-i.journal c.record_at.new.journal c.loop-i.invariant.0 c.record_at.ensures.same,
  λ gives.
      let b = g.F.FileBytes.bytes c.args.journal.now in
      let size = c.args.page_size in
      let s = c.new-slots.result in
      let end = c.len.ensures.count (g.met.F.FileBytes.right c.args.journal.now gives) in
      let small : length b < 2 ^ 64 = omega (arith, c.new-slots.ensures.end, end) in
      let wide = c.new-slots.ensures.length ∙ c.requires in
      let count = counted_slots c.args.rest.from (size + 8) c.len.result c.args.rest.from (length c.args.bytes.now) s.count b refl c.requires end c.new-slots.ensures.count in
      let there = placed c.args.rest.from (size + 8) (length b) s.from s.length s.count c.loop-i.i c.place-place.result c.new-slots.ensures.from wide count (omega arith) small c.loop-i-test.true c.place-place.ensures in
      let slot = c.in_ok-slot.slot in
      let at = slot_place c.args.rest.from (size + 8) c.loop-i.i in
      let is = record_there size b (g.F.FileBytes.bytes c.loop-i.journal) c.place-place.result at c.loop-i.invariant.0.same_bytes there slot
      (c.in_ok-slot.ensures.slot (c.loop-i.invariant.0.still_gives gives)) in
      let line = rest_line c.args.style size b c.args.rest.from c.args.rest.first c.args.rest.nonce c.loop-i.i c.saturating_add.result c.place-place.result slot
      c.saturating_add.ensures there.0 is in
      let shown = c.loop-i.invariant.1 gives in
      one_more (IsRestLine c.args.style size b c.args.rest.from c.args.rest.first c.args.rest.nonce) c.loop-i.i (g.W.Write.contents c.args.out.now)
      (g.W.Write.contents c.loop-i.out) (g.W.Write.contents c.write_record_slot.new.out) shown.0
      (record_slot_text c.args.style c.saturating_add.result c.place-place.result slot (slot.nonce == c.args.rest.nonce)) shown.1 shown.2 line
      c.in_ok-write_record_slot.ensures,
)

pub returns-clause-text : goal.returns-clause-text
returns-clause-text g c = λ gives.
    let b = g.F.FileBytes.bytes c.args.journal.now in
    let size = c.args.page_size in
    let s = c.new-slots.result in
    let end = c.len.ensures.count (g.met.F.FileBytes.right c.args.journal.now gives) in
    let small : length b < 2 ^ 64 = omega (arith, c.new-slots.ensures.end, end) in
    let wide = c.new-slots.ensures.length ∙ c.requires in
    let count = counted_slots c.args.rest.from (size + 8) c.len.result c.args.rest.from (length c.args.bytes.now) s.count b refl c.requires end c.new-slots.ensures.count in
    let over = counted_over c.args.rest.from (size + 8) c.len.result c.args.rest.from (length c.args.bytes.now) s.over b refl c.requires end c.new-slots.ensures.over in
    let shown = c.loop-i.invariant.1 gives in
    ended c.args.style Record (IsRestLine c.args.style size b c.args.rest.from c.args.rest.first c.args.rest.nonce) c.loop-i.i s.count
    (slots_from c.args.rest.from (size + 8) b) s.over (over_from c.args.rest.from (size + 8) b) (g.W.Write.contents c.args.out.now) (g.W.Write.contents c.loop-i.out)
    (g.W.Write.contents c.write_end.new.out) shown.0 c.loop-i-test.false c.loop-i.auto.i-end count over shown.1 shown.2 c.in_ok-write_end.ensures
