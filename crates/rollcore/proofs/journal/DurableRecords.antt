-- The records of a segment come durable.
use Rattle.rollcore.proofs.Between.{ArePresent, AreRecords, Bool, BreakSteps, Database, Device, DiskError, DiskState, Ended, Err, FileState, Harmless, IsAt, KeepsParts, List, Log, Ok, Prepared, PutsZero, Recorded, Recording, Result, RollError, SameBelow, Still, SyncStep, [], ap, arith, at_by, byte, false, get_or, inl, inr, journaled_same, length, next_above, next_of, next_place, old_pages, parts_kept, present_byte, present_list, present_steady, present_written, records_end, records_same, refusal_after, sector_some, sizes, subst, suits_syncs, sym, sync_down, sync_refused, table, true, written, written_inside, written_outside, zero_gate, ℕ, ⊎_elim, ◌+◌, ◌-◌, ◌∙◌, ◌∷◌, ◌≡◌, ◌≤◌, ◌⊎◌}
use Rattle.rollcore.proofs.journal.WritesBehindHeader.{recording_still, recording_writes, recording_syncs, recording_unharmed}

module _ (size sector : ℕ) (d : Database) (named : List ℕ) (place : ℕ) (w part : List ℕ) (nonce : ℕ) where
  abbrev pub next : ℕ
  next = next_place (sizes sector size) place (old_pages d part)

  some : (s : DiskState) → IsAt size sector d named place s → 512 ≤ sector
  some s at = omega (arith, sector_some s.sector at.suits.sectors, at.sector_is)

  behind : 512 ≤ sector → place + sector ≤ next
  behind wide = next_of (sizes sector size) place (old_pages d part) (omega arith)

  pub recorded_still : (old new : DiskState) → Recorded size sector d named place w part nonce old → Still old new → Recorded size sector d named place w part nonce new
  recorded_still old new is still = record {
    recording = recording_still size sector d named place w old new is.recording still;
    records = λ v are. is.records v (subst (λ (s : FileState). ArePresent s v) still.log are);
  }

  -- ---- No header begins behind the records.

  breaks_recording : {T : Type 0} (called : Result T DiskError) (old new : DiskState) → Recorded size sector d named place w part nonce old → PutsZero next called old new → Recording size sector d named place w new
  breaks_recording called old new is put = recording_writes size sector d named place w next (0 ∷ []) called put.mid new
      (recording_still size sector d named place w old put.mid is.recording put.still) (behind (some old is.recording.at)) put.wrote

  broken : {T : Type 0} (done : T) (old new : DiskState) → Recorded size sector d named place w part nonce old → PutsZero next (Ok done) old new → Ended size sector d named place w part nonce new
  broken done old new is put =
      let u : List ℕ = table old.log.len (byte old.log) in
      let was = present_list old.log in
      let wide : 512 ≤ sector = some old is.recording.at in
      let far : place + sector ≤ next = behind wide in
      let at_place : (v : List ℕ) → ArePresent new.log v → (i : ℕ) → get_or v i 0 ≡ written put.mid.log next (0 ∷ []) i = λ v are i. present_byte new.log v are i ∙ present_written Log next (0 ∷ []) put.mid new put.wrote i in
      record {
        recorded = record {
          recording = breaks_recording (Ok done) old new is put;
          records = λ v are. records_same (sizes sector size) u v nonce (place + sector) (old_pages d part) (is.records u was)
              (λ i ge lt. at_place v are i ∙ written_outside put.mid.log next (0 ∷ []) i (inl (omega (arith, next_above sector (records_end (sizes sector size) (place + sector) (old_pages d part)) (omega arith))))
              ∙ ap (λ (s : FileState). byte s i) put.still.log ∙ sym (present_byte old.log u was i))
              (omega (arith, was.len, are.len, put.wrote.file.1.len, ap (λ (s : FileState). s.len) put.still.log));
        };
        ends = λ v are. zero_gate v next (at_place v are next ∙ written_inside put.mid.log next (0 ∷ []) next (omega arith) (omega arith) ∙ ap (λ (k : ℕ). get_or (0 ∷ []) k 0) (let z : next - next ≡ 0 = omega arith in z));
      }

  pub ended : (stood : Bool) (old new : DiskState) → Recorded size sector d named place w part nonce old → BreakSteps next (Ok stood) old new → Ended size sector d named place w part nonce new
  ended true old new is put = broken tt old new is put
  ended false old new is none = record {
    recorded = recorded_still old new is none.0;
    ends = λ v are. none.1 v (subst (λ (s : FileState). ArePresent s v) none.0.log are);
  }

  pub break_failed : (e : RollError) (old new : DiskState) → Recorded size sector d named place w part nonce old → BreakSteps next (Err e) old new → Harmless size d e old new
  break_failed e old new is step = record {
    device = step.0;
    refusal = step.1;
    unharmed = ⊎_elim
        (λ still. recording_unharmed size sector d named place w new (recording_still size sector d named place w old new is.recording still))
        (λ put. recording_unharmed size sector d named place w new (breaks_recording put.0 old new is put.1))
        step.2;
  }

  -- ---- The log is synced.

  pub settle_failed : {T : Type 0} (r : Result T RollError) (e : RollError) (old new : DiskState) → Ended size sector d named place w part nonce old → r ≡ Err e → SyncStep Device Log r old new → Harmless size d e old new
  settle_failed r e old new is was step =
      let refused = sync_refused Device Log r e old new is.recorded.recording.at.suits.sound was step in
      record { device = refused.0; refusal = refused.1; unharmed = recording_unharmed size sector d named place w new (recording_syncs size sector d named place w step.0 old new is.recorded.recording step.2) }

  long_enough : (v : List ℕ) → AreRecords (sizes sector size) v nonce (place + sector) (old_pages d part) → (place ≡ 0) ⊎ (1 ≤ length part) → (place ≡ 0) ⊎ (place + sector ≤ length v)
  long_enough v records (inl zero) = inl zero
  long_enough v records (inr some) = inr (first part records some)
    where
      first : (xs : List ℕ) → AreRecords (sizes sector size) v nonce (place + sector) (old_pages d xs) → 1 ≤ length xs → place + sector ≤ length v
      first [] r none = absurd (omega (arith, none))
      first (x ∷ xs) r one = omega (arith, r.0.whole)

  pub settled : {T : Type 0} (r : Result T RollError) (done : T) (old new : DiskState) → Ended size sector d named place w part nonce old → (place ≡ 0) ⊎ (1 ≤ length part) → r ≡ Ok done → SyncStep Device Log r old new
      → (v : List ℕ) × Prepared size sector d named place part nonce v new × KeepsParts (sizes sector size) place w v
  settled r done old new is more was step =
      let at = is.recorded.recording.at in
      let u : List ℕ = table old.log.len (byte old.log) in
      let are = present_list old.log in
      let wide : 512 ≤ sector = some old at in
      let same : SameBelow (place + 8) w u = record {
        each = λ i lt. present_byte old.log u are i ∙ present_steady Log old i (get_or w i 0) at.suits.sound.log (is.recorded.recording.below i (omega arith));
        long = omega (arith, is.recorded.recording.long, at.suits.sound.log.least, are.len);
      } in (
        u,
        record {
          at = at_by size sector d named place old new at (suits_syncs size Log step.0 old new at.suits step.2) step.2.elsewhere.sector step.2.elsewhere.tears step.2.elsewhere.other;
          durable = sync_down r done u old new at.suits.sound was step are;
          is = record {
            journaled = journaled_same size sector d wide named place w u is.recorded.recording.is same;
            records = is.recorded.records u are;
            ends = is.ends u are;
            long = long_enough u (is.recorded.records u are) more;
          };
        },
        parts_kept (sizes sector size) w u place wide same,
      )

pub break_later : (at : ℕ) (stood : Bool) (old new : DiskState) → BreakSteps at (Ok stood) old new → old.refused ≤ new.refused
break_later at true old new put = omega (arith, put.still.refused, put.wrote.elsewhere.refused)
break_later at false old new none = none.0.refused

pub harmless_after : (size : ℕ) (d : Database) (e : RollError) (a b c : DiskState) → a.refused ≤ b.refused → Harmless size d e b c → Harmless size d e a c
harmless_after size d e a b c le off = record { device = off.device; refusal = refusal_after a b c le off.refusal; unharmed = off.unharmed }

pub break_file : (at : ℕ) (stood : Bool) (old new : DiskState) → BreakSteps at (Ok stood) old new → new.db ≡ old.db
break_file at true old new put = put.wrote.elsewhere.other ∙ put.still.db
break_file at false old new none = none.0.db
