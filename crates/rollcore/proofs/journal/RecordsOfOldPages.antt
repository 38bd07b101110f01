-- Records of old pages go into the journal.
use Rattle.rollcore.proofs.Between.{AreFresh, AreRecords, Change, Contains, Database, Db, Device, DiskError, DiskState, Err, FileState, Harmless, IsAt, IsRecord, IsSoundDisk, List, Log, LogsRecord, Looks, Ok, RecordStep, Recorded, Recording, Result, RollError, Still, Writes, [], ap, append-nil, arith, big_bytes, byte, drop, drop_all, drop_at, end_count, get_or, get_or-map, had_refusal, inl, inr, length, length-append, length-drop, length-record, length-take-le, longest, map-append, most_bytes, mul-le-mul_left, mul-le-mul_right, nonce_sum, old_pages, page, page_end, pages_of, part, present_byte, present_list, present_steady, present_written, record_bytes, record_is, records_end, records_more, records_same, refl, refusal_after, same_number_lists, size_some, sizes, still_looks, subst, suc, sym, table, take, take_all, take_at, take_more, written, written_inside, written_outside, ℕ, ⊎_elim, ◌*◌, ◌++◌, ◌+◌, ◌-◌, ◌<◌, ◌^◌, ◌∙◌, ◌∷◌, ◌≡◌, ◌≤◌}
use Rattle.rollcore.proofs.journal.WritesBehindHeader.{recording_still, recording_writes, recording_unharmed}

-- ---- The buffer of a record.

pub framed : (r one two : List ℕ) (number nonce : ℕ) → 8 ≤ length r → one ≡ take 0 r ++ big_bytes 4 number ++ drop (0 + 4) r
    → two ≡ take (length r - 4) one ++ big_bytes 4 (nonce_sum nonce (part r 4 (length r - 8))) ++ drop (length r - 4 + 4) one
    → two ≡ record_bytes number nonce (part r 4 (length r - 8))
framed r one two number nonce long is1 is2 =
    let m : ℕ = length r - 8 in
    let sum : List ℕ = big_bytes 4 (nonce_sum nonce (part r 4 m)) in
    let e : length r - 4 ≡ suc (suc (suc (suc m))) = omega arith in
    let wide : length one ≡ length r = ap (λ (l : List ℕ). length l) is1 ∙ (omega (arith, length-drop 4 r)) in
    let front : take (length r - 4) one ≡ big_bytes 4 number ++ take m (drop 4 r) = ap (λ (n : ℕ). take n one) e ∙ ap (λ (l : List ℕ). take (suc (suc (suc (suc m)))) l) is1 in
    let none : drop (length r - 4 + 4) one ≡ [] = drop_all (length r - 4 + 4) one (omega arith) in
    is2 ∙ ap (λ (l : List ℕ). l ++ sum ++ drop (length r - 4 + 4) one) front ∙ ap (λ (l : List ℕ). (big_bytes 4 number ++ take m (drop 4 r)) ++ sum ++ l) none ∙ append-nil (record_bytes number nonce (part r 4 m))

-- what is read into the middle of a buffer is its middle
pub middle : (r out post : List ℕ) → 4 ≤ length r → length out + 8 ≡ length (take 4 r ++ (out ++ post)) → part (take 4 r ++ (out ++ post)) 4 (length (take 4 r ++ (out ++ post)) - 8) ≡ out
middle r out post long e =
    let all : List ℕ = take 4 r ++ (out ++ post) in
    let n : length all - 8 ≡ length out = omega arith in
    ap (λ (k : ℕ). take k (drop 4 all)) n ∙ ap (λ (l : List ℕ). take (length out) l) (drop_at (take 4 r) (out ++ post) 4 (length-take-le 4 r long)) ∙ take_at out post (length out) refl

pub record_fits : (size number from : ℕ) → 1 ≤ number → number * size ≤ most_bytes → from ≡ (number - 1) * size → from + size ≤ longest
record_fits size number from one fits place = omega (arith, page_end size number one)

-- ---- One record is written.

module _ (size number nonce at : ℕ) {T : Type 0} where
  pub step_unread : {U : Type 0} (from : ℕ) (called : Result U DiskError) (e : DiskError) (q : Result T RollError) (a b : DiskState) → IsSoundDisk a → from + size ≤ longest
      → called ≡ Err e → q ≡ Err Device → Looks (from + size) called a b → RecordStep size number nonce at q a b
  step_unread from called e q a b sound fits was is looked = subst (λ (x : Result T RollError). RecordStep size number nonce at x a b) (sym is)
      (refl, had_refusal called e (from + size) a b sound.refused was looked.within fits looked.refused, inl (still_looks (from + size) called a b sound looked))

  module _ (content : List ℕ) (full : length content ≡ size) (a b c : DiskState) (is : (i : ℕ) → i < size → get_or content i 0 ≡ byte a.db ((number - 1) * size + i)) (read : Still a b) where
    logs : (called : Result T DiskError) → Writes Log at (record_bytes number nonce content) called b c → LogsRecord size number nonce at called a c
    logs called wrote = record { content = content; full = full; is = is; mid = b; read = read; write = wrote }

    pub step_unwritten : (called : Result T DiskError) (e : DiskError) (q : Result T RollError) → at + size + 8 ≤ longest
        → called ≡ Err e → q ≡ Err Device → Writes Log at (record_bytes number nonce content) called b c → RecordStep size number nonce at q a c
    step_unwritten called e q fits was device wrote = subst (λ (x : Result T RollError). RecordStep size number nonce at x a c) (sym device)
        (refl, refusal_after a b c read.refused (had_refusal called e (at + length (record_bytes number nonce content)) b c read.count was wrote.within (omega (arith, length-record number nonce content)) wrote.elsewhere.refused), inr (called, logs called wrote))

    pub step_put : (done : T) → Writes Log at (record_bytes number nonce content) (Ok done) b c → RecordStep size number nonce at (Ok done) a c
    step_put done wrote = logs (Ok done) wrote

pub step_later : {T : Type 0} (size number nonce at : ℕ) (done : T) (old new : DiskState) → LogsRecord size number nonce at (Ok done) old new → old.refused ≤ new.refused
step_later size number nonce at done old new logged = omega (arith, logged.read.refused, logged.write.elsewhere.refused)

-- ---- Record after record.

pub old_pages_more : (d : Database) (part : List ℕ) (p : ℕ) → old_pages d (part ++ p ∷ []) ≡ old_pages d part ++ (p, page d p) ∷ []
old_pages_more d part p = map-append (λ q. (q, page d q)) part (p ∷ [])

module _ (size sector : ℕ) (d : Database) (named : List ℕ) (place : ℕ) (w : List ℕ) where
  pub recorded_none : (nonce : ℕ) (s : DiskState) → Recording size sector d named place w s → Recorded size sector d named place w [] nonce s
  recorded_none nonce s is = record { recording = is; records = λ v are. tt }

  -- what is read of a page that isn't named is its old content
  content_is : (p : ℕ) (content : List ℕ) (s : DiskState) → IsAt size sector d named place s → 1 ≤ p → p ≤ length d → (Contains named p → ⊥) → length content ≡ size
      → ((i : ℕ) → i < size → get_or content i 0 ≡ byte s.db ((p - 1) * size + i)) → content ≡ page d p
  content_is p content s at one le un full is = same_number_lists content (page d p) (full ∙ sym (at.others.held.full p one le))
      (λ i lt. let lt_size : i < size = omega (arith, full) in
      is i lt_size ∙ present_steady Db s ((p - 1) * size + i) (get_or (page d p) i 0) at.suits.sound.db (at.others.each p i one le un lt_size))

  module _ (part : List ℕ) (nonce p at : ℕ) {T : Type 0} (one : 1 ≤ p) (le : p ≤ length d) (un : Contains named p → ⊥) where
    after_record : (called : Result T DiskError) (old new : DiskState) → Recorded size sector d named place w part nonce old → place + sector ≤ at → LogsRecord size p nonce at called old new → Recording size sector d named place w new
    after_record called old new is behind logged = recording_writes size sector d named place w at (record_bytes p nonce logged.content) called logged.mid new
        (recording_still size sector d named place w old logged.mid is.recording logged.read) behind logged.write

    pub recorded_failed : (e : RollError) (old new : DiskState) → Recorded size sector d named place w part nonce old → place + sector ≤ at → RecordStep {T = T} size p nonce at (Err e) old new → Harmless size d e old new
    recorded_failed e old new is behind step = record {
      device = step.0;
      refusal = step.1;
      unharmed = ⊎_elim
          (λ still. recording_unharmed size sector d named place w new (recording_still size sector d named place w old new is.recording still))
          (λ put. recording_unharmed size sector d named place w new (after_record put.0 old new is behind put.1))
          step.2;
    }

    pub recorded_puts : (done : T) (old new : DiskState) → Recorded size sector d named place w part nonce old → at ≡ records_end (sizes sector size) (place + sector) (old_pages d part)
        → LogsRecord size p nonce at (Ok done) old new → Recorded size sector d named place w (part ++ p ∷ []) nonce new
    recorded_puts done old new is end logged =
        let rs : List (ℕ × List ℕ) = old_pages d part in
        let behind : place + sector ≤ at = omega (arith, end, end_count (sizes sector size) (place + sector) rs) in
        let bytes : List ℕ = record_bytes p nonce logged.content in
        let same : logged.content ≡ page d p = content_is p logged.content old is.recording.at one le un logged.full logged.is in
        let u : List ℕ = table old.log.len (byte old.log) in
        let was = present_list old.log in
        let few : p < 2 ^ 32 = (let most = mul-le-mul_left (length d) (size_some size is.recording.at.suits.pages) in omega (arith, most, is.recording.at.others.held.few)) in
        record {
          recording = after_record (Ok done) old new is behind logged;
          records = λ v are.
              let long : length v ≡ new.log.len = are.len in
              let wide : length bytes ≡ size + 8 = length-record p nonce logged.content ∙ ap (λ (n : ℕ). n + 8) logged.full in
              let mid_len : logged.mid.log.len ≡ old.log.len = ap (λ (s : FileState). s.len) logged.read.log in
              let at_place : (i : ℕ) → get_or v i 0 ≡ written logged.mid.log at bytes i = λ i. present_byte new.log v are i ∙ present_written Log at bytes logged.mid new logged.write i in
              let before : AreRecords (sizes sector size) v nonce (place + sector) rs = records_same (sizes sector size) u v nonce (place + sector) rs (is.records u was)
              (λ i ge lt. at_place i ∙ written_outside logged.mid.log at bytes i (inl (omega (arith, end))) ∙ ap (λ (s : FileState). byte s i) logged.read.log ∙ sym (present_byte old.log u was i))
              (omega (arith, was.len, long, logged.write.file.1.len, mid_len)) in
              let here = record_is (sizes sector size) v nonce at p (page d p) one few (is.recording.at.others.held.full p one le)
              (omega (arith, long, logged.write.file.1.len, wide))
              (λ j lt. at_place (at + j) ∙ written_inside logged.mid.log at bytes (at + j) (omega arith) (omega (arith, wide))
              ∙ ap (λ (k : ℕ). get_or bytes k 0) (let z : at + j - at ≡ j = omega arith in z) ∙ ap (λ (c : List ℕ). get_or (record_bytes p nonce c) j 0) same) in
              subst (λ (xs : List (ℕ × List ℕ)). AreRecords (sizes sector size) v nonce (place + sector) xs) (sym (old_pages_more d part p))
              (records_more (sizes sector size) v nonce (place + sector) rs (p, page d p) before (subst (λ (n : ℕ). IsRecord (sizes sector size) v nonce n (p, page d p)) end here));
        }

-- ---- The records of changes.

pub page_in : (changes : List Change) (i : ℕ) (other : Change) → i < length changes → get_or (pages_of changes) i 0 ≡ (get_or changes i other).page
page_in changes i other lt = get_or-map (λ c. c.page) changes i other 0 lt

-- after so many of these records the next one begins at this place
pub record GoneTo (size sector : ℕ) (d : Database) (named : List ℕ) (place : ℕ) (w numbers : List ℕ) (nonce i end : ℕ) (old new : DiskState) : Type 0 where
  pub end_is : end ≡ records_end (sizes sector size) (place + sector) (old_pages d (take i numbers))
  pub recorded : Recorded size sector d named place w (take i numbers) nonce new
  pub refused : old.refused ≤ new.refused
  pub file : new.db ≡ old.db

module _ (size sector : ℕ) (d : Database) (named : List ℕ) (place : ℕ) (w numbers : List ℕ) (nonce : ℕ) where
  pub gone_none : (at : ℕ) (s : DiskState) → at ≡ place + sector → Recording size sector d named place w s → GoneTo size sector d named place w numbers nonce 0 at s s
  gone_none at s e is = record { end_is = e; recorded = recorded_none size sector d named place w nonce s is; refused = omega arith; file = refl }

  module _ (i end p : ℕ) (old mid new : DiskState) (gone : GoneTo size sector d named place w numbers nonce i end old mid) (fresh : AreFresh d named numbers) (lt : i < length numbers) (is : get_or numbers i 0 ≡ p) where
    is_fresh : (1 ≤ p) × (p ≤ length d) × (Contains named p → ⊥)
    is_fresh = subst (λ (q : ℕ). (1 ≤ q) × (q ≤ length d) × (Contains named q → ⊥)) is (fresh i lt)

    pub gone_fits : p * size ≤ most_bytes
    gone_fits = omega (arith, mul-le-mul_right size is_fresh.1, gone.recorded.recording.at.others.held.few)

    pub gone_on : {T : Type 0} (result : Result T RollError) (v : T) (next : ℕ) → result ≡ Ok v → next ≡ end + (size + 8) → RecordStep size p nonce end result mid new → GoneTo size sector d named place w numbers nonce (i + 1) next old new
    gone_on {T = T} result v next was long step =
        let logged : LogsRecord size p nonce end (Ok v) mid new = subst (λ (x : Result T RollError). RecordStep size p nonce end x mid new) was step in
        let z = sizes sector size in
        let more : take (i + 1) numbers ≡ take i numbers ++ p ∷ [] = take_more numbers i 0 lt ∙ ap (λ (q : ℕ). take i numbers ++ q ∷ []) is in
        record {
          end_is =
              let rs : List (ℕ × List ℕ) = old_pages d (take i numbers) in
              let one_more : length (old_pages d (take (i + 1) numbers)) ≡ length rs + 1 = ap (λ (l : List ℕ). length (old_pages d l)) more ∙ ap (λ (l : List (ℕ × List ℕ)). length l) (old_pages_more d (take i numbers) p) ∙ length-append rs ((p, page d p) ∷ []) in
              let after : records_end z (place + sector) (old_pages d (take (i + 1) numbers)) ≡ place + sector + (length rs + 1) * (size + 8) =
              end_count z (place + sector) (old_pages d (take (i + 1) numbers)) ∙ ap (λ (k : ℕ). place + sector + k * (size + 8)) one_more in
              let before : records_end z (place + sector) rs ≡ place + sector + length rs * (size + 8) = end_count z (place + sector) rs in
              omega (arith, gone.end_is);
          recorded = subst (λ (l : List ℕ). Recorded size sector d named place w l nonce new) (sym more)
              (recorded_puts size sector d named place w (take i numbers) nonce p end is_fresh.0 is_fresh.1 is_fresh.2 v mid new gone.recorded gone.end_is logged);
          refused = omega (arith, gone.refused, step_later size p nonce end v mid new logged);
          file = logged.write.elsewhere.other ∙ logged.read.db ∙ gone.file;
        }

    pub gone_off : {T U : Type 0} (result : Result T RollError) (e : RollError) (q : Result U RollError) → result ≡ Err e → q ≡ Err e → RecordStep size p nonce end result mid new
        → (P : Result U RollError → Type 0) → (Harmless size d e old new → P (Err e)) → P q
    gone_off {T = T} {U = U} result e q was is_q step P by =
        let failed : RecordStep {T = T} size p nonce end (Err e) mid new = subst (λ (x : Result T RollError). RecordStep size p nonce end x mid new) was step in
        let behind : place + sector ≤ end = omega (arith, gone.end_is, end_count (sizes sector size) (place + sector) (old_pages d (take i numbers))) in
        let off = recorded_failed size sector d named place w (take i numbers) nonce p end is_fresh.0 is_fresh.1 is_fresh.2 e mid new gone.recorded behind failed in
        subst P (sym is_q) (by (record { device = off.device; refusal = refusal_after old mid new gone.refused off.refusal; unharmed = off.unharmed }))

  -- all of them
  pub gone_end : (i end : ℕ) (old new : DiskState) → length numbers ≤ i → GoneTo size sector d named place w numbers nonce i end old new
      → (end ≡ records_end (sizes sector size) (place + sector) (old_pages d numbers)) × Recorded size sector d named place w numbers nonce new × (old.refused ≤ new.refused) × (new.db ≡ old.db)
  gone_end i end old new all gone =
      let whole : take i numbers ≡ numbers = take_all i numbers all in
      (subst (λ (l : List ℕ). end ≡ records_end (sizes sector size) (place + sector) (old_pages d l)) whole gone.end_is, subst (λ (l : List ℕ). Recorded size sector d named place w l nonce new) whole gone.recorded, gone.refused, gone.file)
