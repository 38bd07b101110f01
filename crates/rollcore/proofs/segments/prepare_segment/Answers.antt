use Rattle.rollcore.proofs.Facts.{BreakSteps, Change, Device, Err, InFile, Later, Log, Ok, PreparedAnswer, Result, RollError, ap, arith, asks_as, asks_broken, asks_err, asks_step, asks_then, break_file, break_later, during, harmless_after, inl, inr, length, length-map, longest, mul-le-mul_right, next_header, pages_of, passed, recording_begins, refl, rules, settle_failed, size_bounds, subst, sym, sync_later, zero_may, ℕ, ⊎_elim, ◌*◌, ◌+◌, ◌-◌, ◌<◌, ◌^◌, ◌∙◌, ◌≡◌, ◌≤◌, ◌⊎◌}
use Rattle.rollcore.proofs.journal.DurableRecords.{ended, break_failed, settled}
use Rattle.rollcore.proofs.segments.prepare_segment.Goals as goal

near_place : (place count size sector end next : ℕ) → count ≤ 64 → size ≤ 65544 → sector ≤ 65536 → place ≤ 2 ^ 38 → end ≡ place + sector + count * size → next < end + sector → next + 1 ≤ longest
near_place place count size sector end next few short high near is least = let product : count * size ≤ 64 * size = mul-le-mul_right size few in omega arith

pub returns-clause-answer : goal.returns-clause-answer
returns-clause-answer g c =
    let product : length c.args.changes.now * length c.args.buffer.now ≤ 64 * length c.args.buffer.now = mul-le-mul_right (length c.args.buffer.now) c.requires.changes.0 in
    let b = c.in_ok-end.ensures.answer in
    let range = size_bounds c.args.sector c.requires.sector in
    omega (arith, b, range.0, range.1, c.next_header_at-next.ensures.least, c.from.ensures)

pub returns-in_err-end-clause-disk : goal.returns-in_err-end-clause-disk
returns-in_err-end-clause-disk g c = during (search rules) (λ word.
    record {
      asks = asks_err c.from_residual.result c.write_records.result _ _ _ c.in_err-end.was (passed c.from_residual.result _ c.from_residual.ensures.1) ((c.write_records.ensures.disk.holds word).asks c.args.sector);
      prepared = λ d named w is fresh more.
          let n : ℕ = length c.args.buffer.now - 8 in
          let place : c.args.place + c.from.result ≡ c.args.place + c.args.sector = ap (λ (k : ℕ). c.args.place + k) c.from.ensures in
          subst (λ (x : Result ℕ RollError). PreparedAnswer n c.args.sector d named c.args.place w (pages_of c.args.changes.now) c.args.nonce x (g.D.Disk.state c.args.disk.now) (g.D.Disk.state c.write_records.new.disk))
          (sym (passed c.from_residual.result _ c.from_residual.ensures.1))
          ((c.in_err-end.ensures.disk.holds word).records c.args.sector d named c.args.place w (recording_begins n c.args.sector d named c.args.place w _ is) place fresh);
    })

pub returns-in_err-break_magic-clause-disk : goal.returns-in_err-break_magic-clause-disk
returns-in_err-break_magic-clause-disk g c = during (search rules) (λ word.
    let by_break_magic = c.break_magic.ensures.disk.holds (c.write_records.ensures.disk.word.0 word) in
    record {
      asks =
          let first = (c.write_records.ensures.disk.holds word).asks c.args.sector in
          asks_then _ c.write_records.result _ _ _ _ c.in_ok-end.was first (asks_err c.from_residual-in_err-break_magic.result c.break_magic.result _ _ _ c.in_err-break_magic.was (passed c.from_residual-in_err-break_magic.result _ c.from_residual-in_err-break_magic.ensures.1)
          (asks_broken _ c.break_magic.result _ _ (zero_may _ c.args.sector _ (near_place c.args.place (length c.args.changes.now) (length c.args.buffer.now) c.args.sector c.in_ok-end.end c.next_header_at-next.result c.requires.changes.0 c.requires.buffer.1 (size_bounds c.args.sector c.requires.sector).1 c.requires.place (c.in_ok-end.ensures.answer ∙ ap (λ (k : ℕ). c.args.place + k + length c.args.changes.now * length c.args.buffer.now) c.from.ensures) c.next_header_at-next.ensures.least)) first.later.sound by_break_magic.steps by_break_magic.told));
      prepared = λ d named w is fresh more.
          let n : ℕ = length c.args.buffer.now - 8 in
          let numbers = pages_of c.args.changes.now in
          let place : c.args.place + c.from.result ≡ c.args.place + c.args.sector = ap (λ (k : ℕ). c.args.place + k) c.from.ensures in
          let done = (c.in_ok-end.ensures.disk.holds word).records c.args.sector d named c.args.place w (recording_begins n c.args.sector d named c.args.place w _ is) place fresh in
          let at = c.next_header_at-next.ensures.value ∙ ap (λ (k : ℕ). next_header c.args.sector k) done.0 in
          let step = (c.in_err-break_magic.ensures.disk.holds (c.write_records.ensures.disk.word.0 word)).steps in
          subst (λ (x : Result ℕ RollError). PreparedAnswer n c.args.sector d named c.args.place w numbers c.args.nonce x (g.D.Disk.state c.args.disk.now) (g.D.Disk.state c.break_magic.new.disk))
          (sym (passed c.from_residual-in_err-break_magic.result _ c.from_residual-in_err-break_magic.ensures.1))
          (harmless_after n d _ _ _ _ done.2 (break_failed n c.args.sector d named c.args.place w numbers c.args.nonce c.in_err-break_magic.field-0.0 _ _ done.1
          (subst (λ (k : ℕ). BreakSteps k (Err c.in_err-break_magic.field-0.0) (g.D.Disk.state c.write_records.new.disk) (g.D.Disk.state c.break_magic.new.disk)) at step)));
    })

pub returns-in_err-sync_log-clause-disk : goal.returns-in_err-sync_log-clause-disk
returns-in_err-sync_log-clause-disk g c = during (search rules) (λ word.
    let by_break_magic = c.break_magic.ensures.disk.holds (c.write_records.ensures.disk.word.0 word) in
    let by_settle_log = c.sync_log.ensures.disk.holds (c.break_magic.ensures.disk.word.0 (c.write_records.ensures.disk.word.0 word)) in
    record {
      asks =
          let first = (c.write_records.ensures.disk.holds word).asks c.args.sector in
          let broken = asks_broken _ c.break_magic.result _ _ (zero_may _ c.args.sector _ (near_place c.args.place (length c.args.changes.now) (length c.args.buffer.now) c.args.sector c.in_ok-end.end c.next_header_at-next.result c.requires.changes.0 c.requires.buffer.1 (size_bounds c.args.sector c.requires.sector).1 c.requires.place (c.in_ok-end.ensures.answer ∙ ap (λ (k : ℕ). c.args.place + k + length c.args.changes.now * length c.args.buffer.now) c.from.ensures) c.next_header_at-next.ensures.least)) first.later.sound by_break_magic.steps by_break_magic.told in
          asks_then _ c.write_records.result _ _ _ _ c.in_ok-end.was first (asks_then _ c.break_magic.result _ _ _ _ c.in_ok-break_magic.was broken
          (asks_err c.from_residual-in_err-sync_log.result c.sync_log.result _ _ _ c.in_err-sync_log.was (passed c.from_residual-in_err-sync_log.result _ c.from_residual-in_err-sync_log.ensures.1)
          (asks_step Log c.sync_log.result _ _ (inl tt) broken.later.sound by_settle_log)));
      prepared = λ d named w is fresh more.
          let n : ℕ = length c.args.buffer.now - 8 in
          let numbers = pages_of c.args.changes.now in
          let place : c.args.place + c.from.result ≡ c.args.place + c.args.sector = ap (λ (k : ℕ). c.args.place + k) c.from.ensures in
          let done = (c.in_ok-end.ensures.disk.holds word).records c.args.sector d named c.args.place w (recording_begins n c.args.sector d named c.args.place w _ is) place fresh in
          let at = c.next_header_at-next.ensures.value ∙ ap (λ (k : ℕ). next_header c.args.sector k) done.0 in
          let step = subst (λ (k : ℕ). BreakSteps k (Ok c.in_ok-break_magic.field-0) (g.D.Disk.state c.write_records.new.disk) (g.D.Disk.state c.break_magic.new.disk)) at
          (c.in_ok-break_magic.ensures.disk.holds (c.write_records.ensures.disk.word.0 word)).steps in
          let is_ended = ended n c.args.sector d named c.args.place w numbers c.args.nonce c.in_ok-break_magic.field-0 _ _ done.1 step in
          let later = break_later _ c.in_ok-break_magic.field-0 _ _ step in
          subst (λ (x : Result ℕ RollError). PreparedAnswer n c.args.sector d named c.args.place w numbers c.args.nonce x (g.D.Disk.state c.args.disk.now) (g.D.Disk.state c.sync_log.new.disk))
          (sym (passed c.from_residual-in_err-sync_log.result _ c.from_residual-in_err-sync_log.ensures.1))
          (harmless_after n d _ (g.D.Disk.state c.args.disk.now) (g.D.Disk.state c.break_magic.new.disk) _ (omega (arith, done.2, later))
          (settle_failed n c.args.sector d named c.args.place w numbers c.args.nonce c.sync_log.result c.in_err-sync_log.field-0.0 _ _ is_ended c.in_err-sync_log.was
          by_settle_log));
    })

pub returns-clause-disk : goal.returns-clause-disk
returns-clause-disk g c = during (search rules) (λ word.
    let by_break_magic = c.break_magic.ensures.disk.holds (c.write_records.ensures.disk.word.0 word) in
    let by_settle_log = c.sync_log.ensures.disk.holds (c.break_magic.ensures.disk.word.0 (c.write_records.ensures.disk.word.0 word)) in
    record {
      asks =
          let first = (c.write_records.ensures.disk.holds word).asks c.args.sector in
          let broken = asks_broken _ c.break_magic.result _ _ (zero_may _ c.args.sector _ (near_place c.args.place (length c.args.changes.now) (length c.args.buffer.now) c.args.sector c.in_ok-end.end c.next_header_at-next.result c.requires.changes.0 c.requires.buffer.1 (size_bounds c.args.sector c.requires.sector).1 c.requires.place (c.in_ok-end.ensures.answer ∙ ap (λ (k : ℕ). c.args.place + k + length c.args.changes.now * length c.args.buffer.now) c.from.ensures) c.next_header_at-next.ensures.least)) first.later.sound by_break_magic.steps by_break_magic.told in
          asks_then _ c.write_records.result _ _ _ _ c.in_ok-end.was first (asks_then _ c.break_magic.result _ _ _ _ c.in_ok-break_magic.was broken
          (asks_as _ c.sync_log.result _ _ _ c.in_ok-sync_log.was (asks_step Log c.sync_log.result _ _ (inl tt) broken.later.sound by_settle_log)));
      prepared = λ d named w is fresh more.
          let n : ℕ = length c.args.buffer.now - 8 in
          let numbers = pages_of c.args.changes.now in
          let place : c.args.place + c.from.result ≡ c.args.place + c.args.sector = ap (λ (k : ℕ). c.args.place + k) c.from.ensures in
          let done = (c.in_ok-end.ensures.disk.holds word).records c.args.sector d named c.args.place w (recording_begins n c.args.sector d named c.args.place w _ is) place fresh in
          let at = c.next_header_at-next.ensures.value ∙ ap (λ (k : ℕ). next_header c.args.sector k) done.0 in
          let step = subst (λ (k : ℕ). BreakSteps k (Ok c.in_ok-break_magic.field-0) (g.D.Disk.state c.write_records.new.disk) (g.D.Disk.state c.break_magic.new.disk)) at
          (c.in_ok-break_magic.ensures.disk.holds (c.write_records.ensures.disk.word.0 word)).steps in
          let is_ended = ended n c.args.sector d named c.args.place w numbers c.args.nonce c.in_ok-break_magic.field-0 _ _ done.1 step in
          let later = break_later _ c.in_ok-break_magic.field-0 _ _ step in
          let sync = by_settle_log in
          let last : Later (InFile Log) (g.D.Disk.state c.break_magic.new.disk) (g.D.Disk.state c.sync_log.new.disk) = sync_later Device Log c.sync_log.result _ _ refl is_ended.recorded.recording.at.suits.sound sync in
          let many : (c.args.place ≡ 0) ⊎ (1 ≤ length numbers) = ⊎_elim (λ zero. inl zero) (λ one. inr (omega (arith, one, length-map c.args.changes.now (λ (c : Change). c.page)))) more in
          (at, settled n c.args.sector d named c.args.place w numbers c.args.nonce c.sync_log.result c.in_ok-sync_log.field-0 _ _ is_ended many c.in_ok-sync_log.was sync, omega (arith, done.2, later, last.refused), sync.2.elsewhere.other ∙ break_file _ c.in_ok-break_magic.field-0 _ _ step ∙ done.3);
    })
