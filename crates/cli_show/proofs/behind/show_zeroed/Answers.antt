use Rattle.std.proofs.Common.{◌+◌, ◌-◌, ◌<◌, ◌≤◌, ◌^◌, length, ℕ, ◌≡◌, List, refl, sym, ap, subst, ◌∙◌, arith}
use Rattle.std.proofs.Math.Nat.{div-le_self}
use Rattle.std.specs.Prelude.{◌≢◌, ◌⊎◌, ◌↔◌, IsTrue, Option, Some}
use Rattle.cli_text.specs.Behind.{record_slot_text}
use Rattle.cli_text.specs.declared.behind.SlotKind.TheVariants.{Record}
use Rattle.cli_show.specs.Behind.{IsZeroedLine, over_from, slot_place, slots_from}
use Rattle.cli_show.proofs.LinesBehind.{counted_over, counted_slots, ended, fellows, kept_twice, next_there, nonce_behind, one_more, placed, record_fails, record_there, zeroed_line}
use Rattle.cli_show.proofs.behind.show_zeroed.Goals as goal

pub returns-in_err-slot-clause-refused : goal.returns-in_err-slot-clause-refused
returns-in_err-slot-clause-refused g c = λ gives.
    let b = g.F.FileBytes.bytes c.args.journal.now in
    let size = c.args.page_size in
    let s = c.new-slots.result in
    let end = c.len.ensures.count (g.met.F.FileBytes.right c.args.journal.now gives) in
    let small : length b < 2 ^ 64 = omega (arith, c.new-slots.ensures.end, end) in
    let wide = c.new-slots.ensures.length ∙ c.requires in
    let count = counted_slots 512 (size + 8) c.len.result 512 (length c.args.bytes.now) s.count b refl c.requires end c.new-slots.ensures.count in
    let there = placed 512 (size + 8) (length b) s.from s.length s.count c.loop-i.i c.place-place.result c.new-slots.ensures.from wide count (omega arith) small c.loop-i-test.true c.place-place.ensures in
    absurd (record_fails size b (g.F.FileBytes.bytes c.loop-i.journal) c.place-place.result (slot_place 512 (size + 8) c.loop-i.i)
    c.loop-i.invariant.0.same_bytes there (c.in_err-slot.ensures.slot (c.loop-i.invariant.0.still_gives gives)))

pub returns-in_err-next-clause-refused : goal.returns-in_err-next-clause-refused
returns-in_err-next-clause-refused g c = λ gives.
    let b = g.F.FileBytes.bytes c.args.journal.now in
    let size = c.args.page_size in
    let s = c.new-slots.result in
    let end = c.len.ensures.count (g.met.F.FileBytes.right c.args.journal.now gives) in
    let small : length b < 2 ^ 64 = omega (arith, c.new-slots.ensures.end, end) in
    let wide = c.new-slots.ensures.length ∙ c.requires in
    let count = counted_slots 512 (size + 8) c.len.result 512 (length c.args.bytes.now) s.count b refl c.requires end c.new-slots.ensures.count in
    let kept = kept_twice g.F.FileBytes.bytes g.F.FileBytes.gives_bytes c.args.journal.now c.loop-i.journal c.record_at.new.journal c.loop-i.invariant.0 c.record_at.ensures.same in
    let count_now = count ∙ ap (λ (l : List ℕ). slots_from 512 (size + 8) l) (sym kept.same_bytes) in
    let small_now = subst (λ (l : List ℕ). length l < 2 ^ 64) (sym kept.same_bytes) small in
    absurd (c.in_err-next.ensures.slot (kept.still_gives gives) count_now small_now)

pub loop-i-preserved : goal.loop-i-preserved
loop-i-preserved g c =
    let kept = kept_twice g.F.FileBytes.bytes g.F.FileBytes.gives_bytes c.args.journal.now c.loop-i.journal c.record_at.new.journal c.loop-i.invariant.0 c.record_at.ensures.same in (
      kept_twice g.F.FileBytes.bytes g.F.FileBytes.gives_bytes c.args.journal.now c.record_at.new.journal c.record_in.new.journal kept c.record_in.ensures.same,
      λ gives.
          let b = g.F.FileBytes.bytes c.args.journal.now in
          let size = c.args.page_size in
          let s = c.new-slots.result in
          let end = c.len.ensures.count (g.met.F.FileBytes.right c.args.journal.now gives) in
          let small : length b < 2 ^ 64 = omega (arith, c.new-slots.ensures.end, end) in
          let wide = c.new-slots.ensures.length ∙ c.requires in
          let count = counted_slots 512 (size + 8) c.len.result 512 (length c.args.bytes.now) s.count b refl c.requires end c.new-slots.ensures.count in
          let there = placed 512 (size + 8) (length b) s.from s.length s.count c.loop-i.i c.place-place.result c.new-slots.ensures.from wide count (omega arith) small c.loop-i-test.true c.place-place.ensures in
          let all = slots_from 512 (size + 8) b in
          let count_now = count ∙ ap (λ (l : List ℕ). slots_from 512 (size + 8) l) (sym kept.same_bytes) in
          let small_now = subst (λ (l : List ℕ). length l < 2 ^ 64) (sym kept.same_bytes) small in
          let slot = c.in_ok-slot.slot in
          let i = c.loop-i.i in
          let at = slot_place 512 (size + 8) i in
          let is = record_there size b (g.F.FileBytes.bytes c.loop-i.journal) c.place-place.result at c.loop-i.invariant.0.same_bytes there slot
          (c.in_ok-slot.ensures.slot (c.loop-i.invariant.0.still_gives gives)) in
          let most : all ≤ length b - 512 = div-le_self (length b - 512) (size + 8) in
          let number : c.saturating_add-number.result ≡ i + 1 = omega (arith, c.loop-i-test.true, count, most, small, c.saturating_add-number.ensures) in
          let next = next_there size b (g.F.FileBytes.bytes c.record_at.new.journal) s.count all c.saturating_add-number.result i c.in_ok-next.next kept.same_bytes count number
          (c.in_ok-next.ensures.slot (kept.still_gives gives) count_now small_now) in
          let inv = c.loop-i.invariant.1 gives in
          let told = subst (λ (o : Option ℕ). IsTrue c.has_fellow-follows.result ↔ ((slot.page ≢ 0) × ((c.loop-i.before ≡ Some slot.nonce) ⊎ (o ≡ Some slot.nonce))))
          c.nonce_of.ensures c.has_fellow-follows.ensures.fellow in
          let fellow = fellows size all b i slot c.has_fellow-follows.ensures.fits c.loop-i.before c.in_ok-next.next c.has_fellow-follows.result inv.0 next told in
          let line = zeroed_line c.args.style size all b i c.saturating_add-number.result c.place-place.result slot c.has_fellow-follows.result number there.0 is fellow in (
            nonce_behind size b i slot is,
            one_more (IsZeroedLine c.args.style size all b) i (g.W.Write.contents c.args.out.now) (g.W.Write.contents c.loop-i.out)
                (g.W.Write.contents c.write_record_slot.new.out) inv.1.0
                (record_slot_text c.args.style c.saturating_add-number.result c.place-place.result slot c.has_fellow-follows.result) inv.1.1 inv.1.2 line
                c.in_ok-write_record_slot.ensures,
          ),
    )

pub returns-clause-text : goal.returns-clause-text
returns-clause-text g c = λ gives.
    let b = g.F.FileBytes.bytes c.args.journal.now in
    let size = c.args.page_size in
    let s = c.new-slots.result in
    let end = c.len.ensures.count (g.met.F.FileBytes.right c.args.journal.now gives) in
    let small : length b < 2 ^ 64 = omega (arith, c.new-slots.ensures.end, end) in
    let wide = c.new-slots.ensures.length ∙ c.requires in
    let count = counted_slots 512 (size + 8) c.len.result 512 (length c.args.bytes.now) s.count b refl c.requires end c.new-slots.ensures.count in
    let over = counted_over 512 (size + 8) c.len.result 512 (length c.args.bytes.now) s.over b refl c.requires end c.new-slots.ensures.over in
    let shown = (c.loop-i.invariant.1 gives).1 in
    ended c.args.style Record (IsZeroedLine c.args.style size (slots_from 512 (size + 8) b) b) c.loop-i.i s.count (slots_from 512 (size + 8) b) s.over
    (over_from 512 (size + 8) b) (g.W.Write.contents c.args.out.now) (g.W.Write.contents c.loop-i.out) (g.W.Write.contents c.write_end.new.out) shown.0
    c.loop-i-test.false c.loop-i.auto.i-end count over shown.1 shown.2 c.in_ok-write_end.ensures
