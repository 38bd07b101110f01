-- What writes and syncs of the log keep of the frames that are durable.
use Rattle.walcore.proofs.Between.{ArePresent, Bool, Contains, Contains-push_cases, DiskError, DiskState, Err, Failed, FileState, HasFixed, HoldsFrames, IsBehind, IsFixed, IsLog, IsPresent, IsSoundDisk, List, Log, Ok, Result, SinceSync, Spreads, Stopped, Syncs, TooLong, Writes, [], ap, arith, byte, div-mul-le_self, down_head, down_image, false, fixed_synced, fixed_syncs, fixed_writes, frame_end, frame_end-head, frame_end-le, get_or, get_or-take, inl, inr, le-div, length, length-take-le, mul-le-mul_right, present_image, refl, subst, sym, syncs_untorn, take, true, untorn, with_write, writes_untorn, ℕ, ⊎_elim, ◌*◌, ◌++◌, ◌+◌, ◌/◌, ◌<◌, ◌∙◌, ◌∷◌, ◌≡◌, ◌≤◌}
use Rattle.recovery.proofs.Words.{NoMemory}

-- a write past what is durable, on a disk that doesn't tear
clear_whole : (sector from to k : ℕ) → k ≤ from → (i : ℕ) → i < k → Spreads sector false from to i → ⊥
clear_whole sector from to k le i lt (inl in_range) = omega (arith, in_range.0)
clear_whole sector from to k le i lt (inr torn) = absurd (cc torn.0)

-- on a disk that tears, past the last sector of what is durable
clear_torn : (sector from to k : ℕ) → 1 ≤ sector → k ≤ from / sector * sector → (i : ℕ) → i < k → Spreads sector true from to i → ⊥
clear_torn sector from to k pos le i lt (inl in_range) = omega (arith, in_range.0, div-mul-le_self from sector)
clear_torn sector from to k pos le i lt (inr torn) =
    let j : ℕ = torn.1.0 in
    let q : ℕ = from / sector in
    let up : q ≤ j / sector = le-div q j sector pos (omega (arith, torn.1.1, div-mul-le_self from sector)) in
    let up_i : q ≤ i / sector = omega (arith, torn.1.3) in
    let wide : q * sector ≤ i / sector * sector = mul-le-mul_right sector up_i in
    omega (arith, div-mul-le_self i sector)

fixed_at : (m n : ℕ) (a b : Bool) (s : FileState) (bytes : List ℕ) → n ≡ m → b ≡ a → HasFixed m a s 0 bytes → HasFixed n b s 0 bytes
fixed_at m n a b s bytes e f fixed = subst (λ (x : ℕ). HasFixed x b s 0 bytes) (sym e) (subst (λ (x : Bool). HasFixed m x s 0 bytes) (sym f) fixed)

module _ (size : ℕ) (e : List ℕ) (n d : ℕ) (s t : DiskState) (log : IsLog size e n) (durable : d ≤ n) (sound : IsSoundDisk s) (positive : 1 ≤ s.sector) (holds : HoldsFrames size e d s) where
  below : (i : ℕ) → i < length (take (frame_end size d) e) → i < frame_end size d
  below i lt = omega (arith, length-take-le (frame_end size d) e (omega (arith, log.whole, frame_end-le size d n durable)))

  -- what is kept has the header
  kept_head : (kept : List ℕ) → ArePresent s.log kept → take 32 kept ≡ take 32 e
  kept_head kept are = down_head size e kept d (down_image size e n d s.sector false s.log log durable holds.listed kept (present_image s.sector false s.log kept sound.log are))

  module _ {T : Type 0} where
    -- a write, whatever was answered
    handed_by : (tears : Bool) (result : Result T DiskError) (at : ℕ) (bytes : List ℕ) → 32 ≤ at → t.handed ≡ with_write tears Log result at bytes s.handed
        → ((write : ℕ × List ℕ) → Contains s.handed write → 32 ≤ write.0) → (write : ℕ × List ℕ) → Contains t.handed write → 32 ≤ write.0
    handed_by tears result at bytes far is before write has = by tears result is
      where
        same : t.handed ≡ s.handed → 32 ≤ write.0
        same e2 = before write (subst (λ (l : List (ℕ × List ℕ)). Contains l write) e2 has)

        more : t.handed ≡ s.handed ++ (at, bytes) ∷ [] → 32 ≤ write.0
        more e2 = ⊎_elim (λ was. before write was) (λ now. subst (λ (x : ℕ × List ℕ). 32 ≤ x.0) now far)
            (Contains-push_cases s.handed (at, bytes) write (subst (λ (l : List (ℕ × List ℕ)). Contains l write) e2 has))

        by : (tears : Bool) (result : Result T DiskError) → t.handed ≡ with_write tears Log result at bytes s.handed → 32 ≤ write.0
        by true (Ok _) e2 = more e2
        by true (Err Failed) e2 = more e2
        by true (Err Stopped) e2 = same e2
        by true (Err TooLong) e2 = same e2
        by true (Err NoMemory) e2 = same e2
        by false result e2 = same e2

    pub holds_writes : (at : ℕ) (bytes : List ℕ) (result : Result T DiskError) → Writes Log at bytes result s t → IsBehind size d at s → HoldsFrames size e d t
    holds_writes at bytes result wrote behind = record {
      listed = λ i lt. fixed_writes Log at bytes result (untorn s) (untorn t) (0 + i) (get_or (take (frame_end size d) e) i 0) sound.log (writes_untorn result s t at bytes wrote) (holds.listed i lt)
          (clear_whole s.sector at (at + length bytes) (frame_end size d) behind.behind (0 + i) (omega (arith, below i lt)));
      torn = λ torn some.
          let was : s.tears ≡ true = sym wrote.elsewhere.tears ∙ torn in
          fixed_at t.sector t.sector t.tears true t.log (take (frame_end size d) e) refl (sym torn)
          (λ i lt. fixed_writes Log at bytes result s t (0 + i) (get_or (take (frame_end size d) e) i 0) sound.log wrote
          (fixed_at s.sector s.sector true s.tears s.log (take (frame_end size d) e) refl was (holds.torn was some) i lt)
          (λ spreads. clear_torn s.sector at (at + length bytes) (frame_end size d) positive (behind.apart was some) (0 + i) (omega (arith, below i lt))
          (subst (λ (b : Bool). Spreads s.sector b at (at + length bytes) (0 + i)) was spreads)));
      kept = λ torn. ap (λ (x : List ℕ). take 32 x) wrote.kept ∙ holds.kept (sym wrote.elsewhere.tears ∙ torn);
      handed = λ torn. handed_by s.tears result at bytes (omega (arith, behind.behind, frame_end-head size d)) wrote.handed (holds.handed (sym wrote.elsewhere.tears ∙ torn));
    }

    -- a sync, whatever was answered
    since_log : (tears : Bool) (result : Result T DiskError) → SinceSync tears Log result s t → take 32 s.kept ≡ take 32 e → ((write : ℕ × List ℕ) → Contains s.handed write → 32 ≤ write.0)
        → (take 32 t.kept ≡ take 32 e) × ((write : ℕ × List ℕ) → Contains t.handed write → 32 ≤ write.0)
    since_log true (Ok _) since kept before = (kept_head t.kept since.0, λ write has. absurd (let none : Contains [] write = subst (λ (l : List (ℕ × List ℕ)). Contains l write) since.1 has in omega (arith, none.1)))
    since_log true (Err _) since kept before = (ap (λ (x : List ℕ). take 32 x) since.0 ∙ kept, λ write has. before write (subst (λ (l : List (ℕ × List ℕ)). Contains l write) since.1 has))
    since_log false result since kept before = (ap (λ (x : List ℕ). take 32 x) since.0 ∙ kept, λ write has. before write (subst (λ (l : List (ℕ × List ℕ)). Contains l write) since.1 has))

    pub holds_syncs : (result : Result T DiskError) → Syncs Log result s t → HoldsFrames size e d t
    holds_syncs result synced =
        let since : (torn : t.tears ≡ true) → (take 32 t.kept ≡ take 32 e) × ((write : ℕ × List ℕ) → Contains t.handed write → 32 ≤ write.0)
        = λ torn. let was : s.tears ≡ true = sym synced.elsewhere.tears ∙ torn in since_log s.tears result synced.since (holds.kept was) (holds.handed was) in
        record {
          listed = λ i lt. fixed_syncs Log result (untorn s) (untorn t) (0 + i) (get_or (take (frame_end size d) e) i 0) sound.log (syncs_untorn result s t synced) (holds.listed i lt);
          torn = λ torn some.
              let was : s.tears ≡ true = sym synced.elsewhere.tears ∙ torn in
              fixed_at t.sector t.sector t.tears true t.log (take (frame_end size d) e) refl (sym torn)
              (λ i lt. fixed_syncs Log result s t (0 + i) (get_or (take (frame_end size d) e) i 0) sound.log synced
              (fixed_at s.sector s.sector true s.tears s.log (take (frame_end size d) e) refl was (holds.torn was some) i lt));
          kept = λ torn. (since torn).0;
          handed = λ torn. (since torn).1;
        }

    -- a sync that succeeds, after which all frames that were present are durable
    pub holds_synced : {u : T} → Syncs Log (Ok u) s t → IsPresent size e n s → HoldsFrames size e n t
    holds_synced {u = u} synced present =
        let was : HoldsFrames size e d t = holds_syncs (Ok u) synced in
        let fits : length (take (frame_end size n) e) ≡ frame_end size n = length-take-le (frame_end size n) e (omega (arith, log.whole)) in
        let at : (i : ℕ) → i < length (take (frame_end size n) e) → byte s.log (0 + i) ≡ get_or (take (frame_end size n) e) i 0
        = λ i lt. present.each (0 + i) (omega arith) ∙ ap (λ (j : ℕ). get_or e j 0) (let z : 0 + i ≡ i = omega arith in z) ∙ sym (get_or-take (frame_end size n) e i 0 (omega arith)) in
        record {
          listed = λ i lt. subst (λ (b : ℕ). IsFixed t.sector false t.log (0 + i) b) (at i lt) (fixed_synced Log (untorn s) (untorn t) (0 + i) (syncs_untorn (Ok u) s t synced) (omega (arith, present.long)));
          torn = λ torn some i lt. subst (λ (b : ℕ). IsFixed t.sector true t.log (0 + i) b) (at i lt)
              (subst (λ (b : Bool). IsFixed t.sector b t.log (0 + i) (byte s.log (0 + i))) torn (fixed_synced Log s t (0 + i) synced (omega (arith, present.long))));
          kept = was.kept;
          handed = was.handed;
        }

-- calls that left the log alone
pub holds_elsewhere : (size : ℕ) (e : List ℕ) (d : ℕ) (s t : DiskState) → t.sector ≡ s.sector → t.tears ≡ s.tears → t.log ≡ s.log → (t.kept ≡ s.kept) × (t.handed ≡ s.handed) → HoldsFrames size e d s → HoldsFrames size e d t
holds_elsewhere size e d s t sector tears log since holds =
    let at : (b : Bool) → HasFixed s.sector b s.log 0 (take (frame_end size d) e) → HasFixed t.sector b t.log 0 (take (frame_end size d) e)
    = λ b fixed. subst (λ (x : FileState). HasFixed t.sector b x 0 (take (frame_end size d) e)) (sym log) (fixed_at s.sector t.sector b b s.log (take (frame_end size d) e) sector refl fixed) in
    record {
      listed = at false holds.listed;
      torn = λ torn some. at true (holds.torn (sym tears ∙ torn) some);
      kept = λ torn. ap (λ (x : List ℕ). take 32 x) since.0 ∙ holds.kept (sym tears ∙ torn);
      handed = λ torn. subst (λ (l : List (ℕ × List ℕ)). (write : ℕ × List ℕ) → Contains l write → 32 ≤ write.0) (sym since.1) (holds.handed (sym tears ∙ torn));
    }

-- fewer frames
pub holds_fewer : (size : ℕ) (e : List ℕ) (n d d_new : ℕ) (s : DiskState) → IsLog size e n → d ≤ n → d_new ≤ d → HoldsFrames size e d s → HoldsFrames size e d_new s
holds_fewer size e n d d_new s log durable less holds =
    let k : ℕ = frame_end size d in
    let j : ℕ = frame_end size d_new in
    let fits : k ≤ length e = omega (arith, log.whole, frame_end-le size d n durable) in
    let le : j ≤ k = frame_end-le size d_new d less in
    let at : (b : Bool) → HasFixed s.sector b s.log 0 (take k e) → HasFixed s.sector b s.log 0 (take j e)
    = λ b fixed i lt.
    let low : i < j = omega (arith, length-take-le j e (omega arith)) in
    subst (λ (x : ℕ). IsFixed s.sector b s.log (0 + i) x) (get_or-take k e i 0 (omega arith) ∙ sym (get_or-take j e i 0 low)) (fixed i (omega (arith, length-take-le k e fits))) in
    record {
      listed = at false holds.listed;
      torn = λ torn some. at true (holds.torn torn (omega arith));
      kept = holds.kept;
      handed = holds.handed;
    }
