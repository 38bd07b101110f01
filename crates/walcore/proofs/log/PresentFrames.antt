-- The frames that are there to be read.
use Rattle.walcore.proofs.Words.{DiskState, FileState, IsPresent, List, Log, Ok, Syncs, Writes, ap, arith, byte, cases_lt, drop, frame_end, frame_end-le, get_or, get_or-drop, get_or-take, inl, length, length-drop, length-take-le, part, present_synced, present_written, subst, sym, take, written_inside, written_outside, ℕ, ⊎_elim, ◌+◌, ◌-◌, ◌∙◌, ◌≡◌, ◌≤◌}

module _ (size : ℕ) (e : List ℕ) (s t : DiskState) where
  -- calls that left the log alone
  pub present_by : (n : ℕ) → t.log ≡ s.log → IsPresent size e n s → IsPresent size e n t
  present_by n same present = record {
    long = subst (λ (x : FileState). frame_end size n ≤ x.len) (sym same) present.long;
    each = λ i lt. ap (λ (x : FileState). byte x i) same ∙ present.each i lt;
  }

  -- in a log that goes on
  pub present_more : (f : List ℕ) (n : ℕ) → take (frame_end size n) f ≡ take (frame_end size n) e → frame_end size n ≤ length e → IsPresent size e n s → IsPresent size f n s
  present_more f n same fits present = record {
    long = present.long;
    each = λ i lt. present.each i lt ∙ sym (get_or-take (frame_end size n) e i 0 lt) ∙ ap (λ (x : List ℕ). get_or x i 0) (sym same) ∙ get_or-take (frame_end size n) f i 0 lt;
  }

  -- the frames n + 1 to m are written
  pub present_writes : {T : Type 0} {u : T} (n m : ℕ) → n ≤ m → frame_end size m ≤ length e → Writes Log (frame_end size n) (part e (frame_end size n) (frame_end size m - frame_end size n)) (Ok u) s t → IsPresent size e n s → IsPresent size e m t
  present_writes n m more fits wrote present =
      let a : ℕ = frame_end size n in
      let b : ℕ = frame_end size m in
      let le : a ≤ b = frame_end-le size n m more in
      let piece : List ℕ = part e a (b - a) in
      let long : length piece ≡ b - a = length-take-le (b - a) (drop a e) (omega (arith, length-drop a e)) in
      record {
        long = omega (arith, wrote.file.1.len);
        each = λ i lt. present_written Log a piece s t wrote i ∙ ⊎_elim
            (λ low. written_outside s.log a piece i (inl low) ∙ present.each i low)
            (λ high.
            let j : a + (i - a) ≡ i = omega arith in
            written_inside s.log a piece i high (omega arith) ∙ get_or-take (b - a) (drop a e) (i - a) 0 (omega arith) ∙ get_or-drop a e (i - a) 0 ∙ ap (λ (k : ℕ). get_or e k 0) j)
            (cases_lt i a);
      }

  -- after a sync that succeeded
  pub present_syncs : {T : Type 0} {u : T} (n : ℕ) → Syncs Log (Ok u) s t → IsPresent size e n s → IsPresent size e n t
  present_syncs n synced present = record {
    long = omega (arith, synced.file.len, present.long);
    each = λ i lt. present_synced Log s t synced i ∙ present.each i lt;
  }
