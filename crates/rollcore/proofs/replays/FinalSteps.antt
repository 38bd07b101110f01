-- The end of a replay: the database is synced, and the journal's first header zeroed and synced.
use Rattle.rollcore.proofs.Words.{ArePresent, Db, Device, DiskError, DiskState, EndAnswer, EndSteps, Err, FileState, InFile, IsLogDurable, IsSoundDisk, Later, List, Log, Ok, Result, RollError, SyncStep, Syncs, Writes, ZeroSteps, ap, arith, cases_lt, drop, end_refused, end_settled, ended, get_or, get_or-append_right, get_or-drop, get_or-replicate, get_or_append_left, inr, length, length-append, length-drop, length-replicate, lit≤, none_ok, present_byte, present_written, refl, replicate, sound_writes, subst, sym, sync_later, synced_down, told_ok, written_inside, written_outside, zeroed, ℕ, ⊎_elim, ◌+◌, ◌-◌, ◌∙◌, ◌≡◌, ◌≤◌}

module _ {T : Type 0} where
  -- ---- The header is zeroed.

  zero_present : (u : T) (w : List ℕ) (a b : DiskState) → ArePresent a.log w → 28 ≤ length w → Writes Log 0 (replicate 28 0) (Ok u) a b → ArePresent b.log (zeroed w)
  zero_present u w a b are enough wrote =
      let front : length {A = ℕ} (replicate 28 0) ≡ 28 = length-replicate {A = ℕ} 28 0 in
      let long : length (zeroed w) ≡ length w = omega (arith, lit≤, length-append {A = ℕ} (replicate 28 0) (drop 28 w), front, length-drop 28 w) in
      record {
        len = omega (arith, long, are.len, wrote.file.1.len, front, enough);
        each = λ i lt. ⊎_elim
            (λ first. get_or_append_left {A = ℕ} (replicate 28 0) (drop 28 w) 0 i (omega (arith, front)) ∙ get_or-replicate 28 i 0 0 first
            ∙ sym (present_written Log 0 (replicate 28 0) a b wrote i ∙ written_inside a.log 0 (replicate 28 0) i (omega arith) (omega (arith, front)) ∙ ap (λ n. get_or {A = ℕ} (replicate 28 0) n 0) (less_zero i) ∙ get_or-replicate 28 i 0 0 first))
            (λ rest. get_or-append_right (replicate 28 0) (drop 28 w) 28 i 0 front rest ∙ get_or-drop 28 w (i - 28) 0 ∙ ap (λ n. get_or w n 0) (back i rest)
            ∙ present_byte a.log w are i ∙ sym (present_written Log 0 (replicate 28 0) a b wrote i ∙ written_outside a.log 0 (replicate 28 0) i (inr (omega (arith, front, rest)))))
            (cases_lt i 28);
      }
    where
      less_zero : (i : ℕ) → i - 0 ≡ i
      less_zero i = omega arith

      back : (i : ℕ) → 28 ≤ i → 28 + (i - 28) ≡ i
      back i le = omega arith

  pub sync_down : (r : Result T RollError) (v : T) (w : List ℕ) (a b : DiskState) → IsSoundDisk a → r ≡ Ok v → SyncStep Device Log r a b → ArePresent a.log w → IsLogDurable b w
  sync_down r v w a b sound is step are =
      let t = told_ok Device step.0 r v is step.1 in
      synced_down w a b sound are (subst (λ (x : Result T DiskError). Syncs Log x a b) t.1 step.2)

  pub zero_done : (r : Result T RollError) (v : T) (w : List ℕ) (a b : DiskState) → IsSoundDisk a → r ≡ Ok v → ZeroSteps Device 28 r a b → ArePresent a.log w → 28 ≤ length w → IsLogDurable b (zeroed w)
  zero_done r v w a b sound is steps are enough = ⊎_elim
      (λ failed. absurd (none_ok Device failed.0 r v failed.1 is failed.2))
      (λ done. let mid = sound_writes Log 0 (replicate 28 0) (Ok done.1.0) a done.0 sound done.1.1 in
      sync_down r v (zeroed w) done.0 b mid is done.2 (zero_present done.1.0 w a done.0 are enough done.1.1))
      steps

  -- ---- All of it.

  pub end_answer : (r : Result T RollError) (a b : DiskState) → IsSoundDisk a → EndSteps Device 28 r a b → EndAnswer r a b
  unfolding EndAnswer
  end_answer (Ok v) a b sound steps =
      let done = ended Device 28 v a b steps in
      let mid : Later (InFile Db) a done.0 = sync_later Device Db (Ok done.1.0) a done.0 refl sound done.1.1 in (
        λ db are. end_settled Device 28 (Ok v) a b steps v db sound refl are,
        λ w are enough. zero_done (Ok v) v w done.0 b mid.sound refl done.2 (subst (λ (s : FileState). ArePresent s w) (sym done.1.1.2.elsewhere.other) are) enough,
      )
  end_answer (Err e) a b sound steps = end_refused Device 28 (Err e) a b steps (lit≤ tt) e sound refl
