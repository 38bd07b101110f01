-- While a new header is put over a log whose last database is all in the file, what is left shows that database.
use Rattle.walcore.proofs.Below.{AltersFile, AreMade, Bool, Contains, Database, FileState, HasFixed, IsBoundary, IsDurable, IsEra, IsFile, IsFront, IsHeader, IsImage, IsJust, IsLog, IsOver, IsSound, IsTrue, IsView, List, NoChance, Passes, ShowsWhole, Spreads, [], ap, arith, cases_lt, div-eq_of_lt, false, frame_end, frame_end-head, frame_end-le, frame_end-suc, frame_end-zero, front_exists, front_unique, get_or, get_or-take, inl, inr, le-div, length, length-take-le, named_size, page, refl, shown, subst, sym, take, take_less, true, view_file, view_same, wal_log, ℕ, ⊎_elim, ◌+◌, ◌-◌, ◌/◌, ◌<◌, ◌∙◌, ◌≡◌, ◌≤◌, ◌⊎◌}
use Rattle.walcore.proofs.crash.OriginOfValidFrames.{known, named_same}
use Rattle.walcore.proofs.crash.FrontOfSurvivingLog.{same_front, just_file, Fronts, fronts, down_front}

-- a log of no frames, or with no valid one, over a file that is just the database
pub just_shows : (size : ℕ) (db w : List ℕ) (d : Database) → IsJust size d db → IsFile size db d → IsFront (named_size w) w 0 → ShowsWhole wal_log size db w d
just_shows size db w d just file front = record {
  shows = λ k is. let z : k ≡ 0 = front_unique (named_size w) w k 0 is front in (λ one. absurd (omega arith), subst (λ (j : ℕ). IsView size db w j d) (sym z) (view_file size db w d file));
  whole = λ is. just.long;
}

-- of the n frames of the log e those up to d are there, and with them the last database
module _ (size : ℕ) (logs : List (List ℕ)) (e f : List ℕ) (n mark d : ℕ) (h : List Database) (index : ℕ → ℕ) (era : IsEra size e n mark h index) (durable : d ≤ n) (durable_ends : IsBoundary size e d) (newest : mark ≤ d)
    (are : AreMade size logs) (in_e : Contains logs e) (in_f : Contains logs f) (log_f : IsLog size f 0) (w : List ℕ) (chance : NoChance logs w)
    (headers : IsHeader (named_size w) w → (take 32 w ≡ take 32 e) ⊎ (take 32 w ≡ take 32 f))
    (stood : 1 ≤ d → (frame_end size d ≤ length w) × ((i : ℕ) → frame_end size 1 ≤ i → i < frame_end size d → get_or w i 0 ≡ get_or e i 0)) where
  -- with the first frame all of them are there
  turned_down : (m : ℕ) → 1 ≤ m → 1 ≤ d → Fronts size e n w m → IsDurable size e d w
  turned_down m some one is =
      let behind = stood one in
      let first : take (frame_end size 1) w ≡ take (frame_end size 1) e = take_less w e (frame_end size m) (frame_end size 1) is.same (frame_end-le size 1 m some) in
      let long_e : frame_end size d ≤ length e = omega (arith, era.log.whole, frame_end-le size d n durable) in
      let each : (i : ℕ) → i < frame_end size d → get_or w i 0 ≡ get_or e i 0 = λ i lt. ⊎_elim
      (λ low. sym (get_or-take (frame_end size 1) w i 0 low) ∙ ap (λ x. get_or x i 0) first ∙ get_or-take (frame_end size 1) e i 0 low)
      (λ high. behind.1 i high lt)
      (cases_lt i (frame_end size 1)) in
      record { long = behind.0; same = same_front w e (frame_end size d) behind.0 long_e each }

  -- a front behind them shows the last database
  turned_last : (m : ℕ) → d ≤ m → m ≤ n → shown h index m ≡ shown h index n
  turned_last m later within = ap (λ (k : ℕ). get_or h k [])
      (let same : index m ≡ index n = omega (arith, era.marked.2, era.rises mark m (omega arith) within, era.rises m n within (omega arith)) in same)

  turned_view : (db : List ℕ) (m : ℕ) → 1 ≤ m → d ≤ m → Fronts size e n w m → IsFile size db (shown h index n) → IsView size db w m (shown h index n)
  turned_view db m some later is file =
      let last : shown h index m ≡ shown h index n = turned_last m later is.within in
      let over : IsOver size (page (shown h index 0)) e m (shown h index n) = subst (λ (x : Database). IsOver size (page (shown h index 0)) e m x) last (era.shows m is.within is.boundary) in
      let view : IsView size db e m (shown h index n) = record {
        none = λ z. absurd (omega arith);
        some = λ a. ap length (sym last) ∙ ⊎_elim (λ z. absurd (omega arith)) (λ commit. era.sizes m a is.within commit) is.boundary;
        over = record { logged = over.logged; other = λ p a b un. file.each p a b };
      } in
      view_same size db e w (frame_end size m) m (shown h index n) (sym is.same) (omega arith) view

  -- each crash leaves the old header, the new one or none that is valid, and that database
  pub turned_shows : (db : List ℕ) → IsJust size (shown h index n) db → ShowsWhole wal_log size db w (shown h index n)
  turned_shows db just =
      let found = front_exists (named_size w) w in
      let m : ℕ = found.0 in
      let file : IsFile size db (shown h index n) = just_file size (shown h index n) db era.log.header.is_size just in
      ⊎_elim
      (λ z. just_shows size db w (shown h index n) just file (subst (λ (k : ℕ). IsFront (named_size w) w k) z found.1))
      (λ v. ⊎_elim
      (λ head.
      let named : named_size w ≡ size = named_same size e w era.log.header head in
      let front : IsFront size w m = subst (λ (k : ℕ). IsFront k w m) named found.1 in
      let is : Fronts size e n w m = fronts size logs e w n m are in_e era.log chance head front in
      let later : d ≤ m = ⊎_elim (λ lt. omega arith) (λ one. down_front size e w n d m era.log durable durable_ends (turned_down m v.0.first one is) front) (cases_lt d 1) in
      record {
        shows = λ k front_k. let same : m ≡ k = front_unique (named_size w) w m k found.1 front_k in (λ one. named, subst (λ (j : ℕ). IsView size db w j (shown h index n)) same (turned_view db m v.0.first later is file));
        whole = λ front_0. absurd (let none : 0 ≡ m = front_unique (named_size w) w 0 m front_0 found.1 in omega (arith, v.0.first));
      })
      (λ head.
      let named : named_size w ≡ size = named_same size f w log_f.header head in
      absurd (let none : m ≤ 0 = (known size logs f w are in_f chance head 0 m log_f (subst (λ (k : ℕ). (j : ℕ) → 1 ≤ j → j ≤ m → Passes k w j) named v.0.each)).0 in omega (arith, v.0.first)))
      (headers (v.0.each 1 (omega arith) v.0.first).header))
      found.1.is

-- ---- what a write at the front leaves

true_of : {t : Bool} → IsTrue t → t ≡ true
true_of {t = true} is = refl
true_of {t = false} is = absurd (cc is)

-- Behind the sectors that it touches the log is as it was.
pub altered_rest : (size : ℕ) (sector : ℕ) (tears : Bool) (e : List ℕ) (n d : ℕ) (old new : FileState) → IsLog size e n → d ≤ n → 512 ≤ sector → (tears ≡ true → sector ≤ size) → IsSound sector old → HasFixed sector tears old 0 (take (frame_end size d) e)
    → AltersFile sector tears 0 32 old new → (w : List ℕ) → IsImage sector tears new w → (frame_end size d ≤ length w) × ((i : ℕ) → frame_end size 1 ≤ i → i < frame_end size d → get_or w i 0 ≡ get_or e i 0)
altered_rest size sector tears e n d old new log durable pos small sound fixed alters w image =
    let k : ℕ = frame_end size d in
    let fits : length (take k e) ≡ k = length-take-le k e (omega (arith, log.whole, frame_end-le size d n durable)) in
    let some : 32 ≤ k = frame_end-head size d in
    let last = fixed (k - 1) (omega arith) in
    let from = alters.comes w image in (
      omega (arith, image.least, alters.least, last.within),
      λ i far lt.
          let at = fixed i (omega arith) in
          let low : i < length from.file = omega (arith, at.within, from.image.least) in
          ⊎_elim
          (λ same. same ∙ ap (λ (j : ℕ). get_or from.file j 0) (let z : i ≡ 0 + i = omega arith in z) ∙ at.each from.file from.image ∙ get_or-take k e i 0 lt)
          (λ past. absurd (omega (arith, past.0, at.within, sound.least)))
          (from.each i low (beyond i far)),
    )
  where
    beyond : (i : ℕ) → frame_end size 1 ≤ i → Spreads sector tears 0 32 i → ⊥
    beyond i far (inl in_range) = omega (arith, in_range.1, frame_end-suc size 0, frame_end-zero size)
    beyond i far (inr torn) =
        let wide : sector ≤ size = small (true_of torn.0) in
        let first : torn.1.0 / sector ≡ 0 = div-eq_of_lt (omega (arith, torn.1.2)) in
        let up : 1 ≤ i / sector = le-div 1 i sector (omega arith) (omega (arith, frame_end-suc size 0, frame_end-zero size)) in
        omega (arith, torn.1.3)
