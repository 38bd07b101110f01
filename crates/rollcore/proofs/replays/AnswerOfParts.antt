-- What a replay answers, of its parts.
use Rattle.rollcore.proofs.Below.{ArePages, ArePresent, Bool, CopyAnswer, Database, Device, DiskError, DiskState, EndAnswer, Err, FileState, HasCount, IsBelow, IsFit, IsHot, IsIdle, IsPlan, IsPlanWithin, IsRolledBack, IsSettled, IsSoundDisk, IsTooLargeWithin, IsTrue, IsWithin, KeepsBytes, List, Log, Looks, MatchOption, NoMemory, None, Ok, Option, Plan, PlanAnswer, ReadAnswer, ReplayAnswer, Replayed, Result, RollError, RolledAnswer, SectorAbovePage, Some, Still, Syncs, TearsJournal, TooLarge, Unwritten, Writing, [], ap, arith, byte, byte_below, cond, down_by, down_syncs, drop, ext_get_or, false, flat_is, flat_map, get_or, get_or-replicate, get_or_append_left, had_refusal, had_refusal_any, has_count, hot_long, journal_log, length, length-replicate, longest, made_length, mul-le-mul_right, page, present_in, present_list, refl, refusal_after, replicate, rolled_exists, subst, sym, table, torn_sector, true, word, zeroed, zeros_cold, ℕ, ⊎_elim, ◌*◌, ◌+◌, ◌-◌, ◌<◌, ◌∙◌, ◌≡◌, ◌≤◌, ◌⊎◌}
use Rattle.rollcore.proofs.replays.DecisivePrefixOfJournal.{read_count}

-- ---- What is planned is replayed.

-- a file of pages, as bytes
just : (size : ℕ) (d : Database) (s : FileState) (bytes : List ℕ) → ((p : ℕ) → 1 ≤ p → p ≤ length d → length (page d p) ≡ size) → ArePages size d s → ArePresent s bytes → bytes ≡ flat_map (λ content. content) d
unfolding page
just size d s bytes sized pages are = flat_is size d bytes (are.len ∙ pages.len)
    (λ k lt. ap (λ (n : ℕ). length (get_or d n [])) (back k) ∙ sized (k + 1) (omega arith) (omega arith))
    (λ k j lt below.
    let inside : k * size + j < s.len = omega (arith, pages.len, page_inside k j lt below) in
    are.each (k * size + j) inside ∙ ap (λ (n : ℕ). byte s (n * size + j)) (back k) ∙ pages.each (k + 1) (omega arith) (omega arith) j below ∙ ap (λ (n : ℕ). get_or (get_or d n []) j 0) (sym (back k)))
  where
    back : (k : ℕ) → k ≡ k + 1 - 1
    back k = omega arith

    next : (k : ℕ) → k < length d → k + 1 ≤ length d
    next k lt = omega arith

    page_inside : (k j : ℕ) → k < length d → j < size → k * size + j < length d * size
    page_inside k j lt below = let more : (k + 1) * size ≤ length d * size = mul-le-mul_right size (next k lt) in omega arith

module _ (db w : List ℕ) (a : DiskState) where
  pub rolled_copy : {T : Type 0} (size : ℕ) (d : Database) (r : Result T RollError) (q : Result Replayed RollError) (e : RollError) (b : DiskState) → r ≡ Err e → q ≡ Err e → CopyAnswer Device size d r a b → RolledAnswer db w q a b
  unfolding CopyAnswer RolledAnswer
  rolled_copy {T = T} size d r q e b was is answer =
      let got = subst (λ (x : Result T RollError). CopyAnswer Device size d x a b) was answer in
      subst (λ (x : Result Replayed RollError). RolledAnswer db w x a b) (sym is) got

  pub rolled_end : {T : Type 0} (r : Result T RollError) (q : Result Replayed RollError) (e : RollError) (b c : DiskState) → a.refused ≤ b.refused → r ≡ Err e → q ≡ Err e → EndAnswer r b c → RolledAnswer db w q a c
  unfolding EndAnswer RolledAnswer
  rolled_end {T = T} r q e b c le was is answer =
      let end = subst (λ (x : Result T RollError). EndAnswer x b c) was answer in
      subst (λ (x : Result Replayed RollError). RolledAnswer db w x a c) (sym is) (end.0, refusal_after a b c le end.1)

  pub rolled_done : {T : Type 0} (size : ℕ) (d : Database) (r : Result T RollError) (v : T) (x : Replayed) (b c : DiskState) → IsHot w → IsRolledBack db w d → ((p : ℕ) → 1 ≤ p → p ≤ length d → length (page d p) ≡ size)
      → ArePages size d b.db → ArePresent b.log w → r ≡ Ok v → EndAnswer r b c → IsTrue x.hot → HasCount w x.records → x.size ≡ word w 16 → RolledAnswer db w (Ok x) a c
  unfolding EndAnswer RolledAnswer
  rolled_done {T = T} size d r v x b c hot rolled sized pages are was answer is_hot count first =
      let end = subst (λ (y : Result T RollError). EndAnswer y b c) was answer in
      let bytes : List ℕ = table b.db.len (byte b.db) in
      let here : ArePresent b.db bytes = present_list b.db in
      record {
        hot = is_hot;
        records = count;
        size = first;
        file = (bytes, record { hot = λ h. (d, rolled, just size d b.db bytes sized pages here); cold = λ cold. absurd (cold hot) }, end.0 bytes here);
        log = end.1 w are (omega (arith, hot_long w hot));
      }

-- what a planned copy stands on
pub record Planned (w db : List ℕ) (count n : ℕ) : Type 0 where
  pub pages : Database
  pub rolled : IsRolledBack db w pages
  pub sized : (p : ℕ) → 1 ≤ p → p ≤ length pages → length (page pages p) ≡ n
  pub same : n ≡ word w 24
  pub first : count ≡ word w 16
  pub within : count * n ≤ longest

-- a plan that was found keeps the database within the limit
pub within_some : (most : ℕ) (o : Option Plan) (p : Plan) → o ≡ Some p → MatchOption o (Unit {0}) (IsPlanWithin most) → IsPlanWithin most p
within_some most o p is within = subst (λ (x : Option Plan). MatchOption x (Unit {0}) (IsPlanWithin most)) is within

pub planned : (w db : List ℕ) (torn n : ℕ) (plan : Plan) → IsPlanWithin longest plan → IsFit torn w → IsPlan w plan → n ≡ plan.header.page_size → Planned w db plan.header.first_size n
planned w db torn n plan few fit is e =
    let same : n ≡ word w 24 = e ∙ is.names.size in
    let count = read_count w plan.scan is.read (length plan.scan.records.items) (λ b took. has_count b plan.scan (length plan.scan.records.items) took refl) in
    let made = rolled_exists w db count.segments count.stop.at count.stop.why count.is fit.hot in
    record {
      pages = made.0;
      rolled = made.1;
      sized = λ p a b. made_length w db count.segments count.stop.at count.stop.why count.is fit.hot made.0 made.1 p a b ∙ sym same;
      same = same;
      first = is.names.first_size;
      within = subst (λ (k : ℕ). plan.header.first_size * k ≤ longest) (sym e) few;
    }

-- the buffer's length is the page size
pub writing_at : (n size : ℕ) (w : List ℕ) (d : Database) (a b : DiskState) → n ≡ word w 24 → (Writing n w d a → Writing n w d b) → Writing size w d a → Writing size w d b
writing_at n size w d a b e f is = subst (λ (k : ℕ). Writing k w d a → Writing k w d b) (e ∙ sym is.named) f is

pub pages_at : (n size : ℕ) (w : List ℕ) (d : Database) (a b : DiskState) → n ≡ word w 24 → Writing size w d a → ArePages n d b.db → ArePages size d b.db
pages_at n size w d a b e is pages = subst (λ (k : ℕ). ArePages k d b.db) (e ∙ sym is.named) pages

-- the journal's pages for the present file are those of the database that is shown
pub rolled_present : (size : ℕ) (w : List ℕ) (d : Database) (s : DiskState) → IsHot w → Unwritten journal_log size d w s → IsRolledBack (table s.db.len (byte s.db)) w d
rolled_present size w d s hot is = ((is.present (table s.db.len (byte s.db)) (present_list s.db)).hot hot).1

pub torn_still : (a b : DiskState) → Still a b → torn_sector b ≡ torn_sector a
torn_still a b is = ap (λ (x : Bool). cond x b.sector 0) is.tears ∙ ap (λ (n : ℕ). cond a.tears n 0) is.sector

pub read_torn : (most torn : ℕ) (w : List ℕ) (r : Result (Option Plan) RollError) (a b : DiskState) → torn ≡ torn_sector a → ReadAnswer most torn w r a b → ReadAnswer most (torn_sector a) w r a b
read_torn most torn w r a b e answer = subst (λ (n : ℕ). ReadAnswer most n w r a b) e answer

-- ---- The whole.

pub zeroed_zero : (w : List ℕ) → get_or (zeroed w) 0 0 ≡ 0
zeroed_zero w = get_or_append_left {A = ℕ} (replicate 28 0) (drop 28 w) 0 0 (omega (arith, length-replicate {A = ℕ} 28 0)) ∙ get_or-replicate 28 0 0 0 (omega arith)

-- zeros for a header are no hot journal
settled_cold : (w : List ℕ) (s : FileState) → IsSettled s (zeroed w) → (bytes : List ℕ) → ArePresent s bytes → IsHot bytes → ⊥
settled_cold w s is bytes are hot =
    let some : 0 < s.len = omega (arith, are.len, hot_long bytes hot) in
    zeros_cold bytes (are.each 0 some ∙ byte_below s 0 some ∙ is.present 0 ∙ zeroed_zero w) hot

-- the sectors that tear are larger, or there are none
pub tears_by : (w : List ℕ) (s : DiskState) → IsHot w → IsBelow (torn_sector s) w → TearsJournal s w
tears_by w s hot below = by s.tears refl
  where
    by : (b : Bool) → s.tears ≡ b → TearsJournal s w
    by true e = (e, hot, subst (λ (x : Bool). IsBelow (cond x s.sector 0) w) e below)
    by false e = absurd (let none : IsBelow 0 w = subst (λ (x : Bool). IsBelow (cond x s.sector 0) w) e below in ⊎_elim (λ l. omega arith) (λ l. omega arith) none)

pub fits_whole : (w : List ℕ) (s : DiskState) → IsFit (torn_sector s) w → TearsJournal s w → ⊥
fits_whole w s fit tears =
    let same : (n : ℕ) → torn_sector s ≤ n → s.sector ≤ n = λ n le. subst (λ (b : Bool). cond b s.sector 0 ≤ n) tears.0 le in
    ⊎_elim (λ l. let le : s.sector ≤ word w 24 = same (word w 24) fit.page in omega arith) (λ l. let le : s.sector ≤ word w 20 = same (word w 20) fit.sector in omega arith) tears.2

module _ (db w : List ℕ) (a : DiskState) (sound : IsSoundDisk a) (are_db : ArePresent a.db db) (are : ArePresent a.log w) where
  pub short : longest < length w → ⊥
  short far = omega (arith, are.len, sound.log.greatest, sound.log.within)

  pub small : (most : ℕ) → IsWithin most w → IsTooLargeWithin most w → ⊥
  small most within large = ⊎_elim short (λ x. omega (arith, x.1)) large

  module _ (most : ℕ) (b : DiskState) (is : Still a b) where
    pub bytes_kept : KeepsBytes a b
    bytes_kept = record { db = is.db; log = λ bytes here. present_in a.log b.log bytes is.log here }

    pub read_refused : (r : Result (Option Plan) RollError) (q : Result Replayed RollError) (e : RollError) → r ≡ Err e → q ≡ Err e → ReadAnswer most (torn_sector a) w r a b → ReplayAnswer most db w q a b
    unfolding ReadAnswer PlanAnswer
    read_refused r q e was same answer =
        subst (λ (x : Result Replayed RollError). ReplayAnswer most db w x a b) (sym same) (by e (subst (λ (x : Result (Option Plan) RollError). ReadAnswer most (torn_sector a) w x a b) was answer))
      where
        by : (e : RollError) → ReadAnswer most (torn_sector a) w (Err e) a b → ReplayAnswer most db w (Err e) a b
        by TooLarge x = (x, bytes_kept)
        by SectorAbovePage x = (small most x.1, tears_by w a x.0 x.2, bytes_kept)
        by NoMemory x = bytes_kept
        by Device x = x
        by _ x = absurd x

    pub read_cold : (r : Result (Option Plan) RollError) (x : Replayed) → r ≡ Ok None → ReadAnswer most (torn_sector a) w r a b → x.hot ≡ false → x.records ≡ 0 → x.size ≡ 0 → ReplayAnswer most db w (Ok x) a b
    unfolding ReadAnswer PlanAnswer
    read_cold r x was answer off none zero =
        let cold : IsHot w → ⊥ = subst (λ (y : Result (Option Plan) RollError). ReadAnswer most (torn_sector a) w y a b) was answer in (
          λ large. ⊎_elim short (λ y. cold y.0) large,
          λ tears. cold tears.1,
          record {
            rolled = λ hot. absurd (cold hot);
            idle = λ cold2. record {
              hot = λ on. (let t : true ≡ false = sym on ∙ off in cc);
              records = none;
              size = zero;
              bytes = bytes_kept;
              durable = λ v durable. down_by v a b durable is.log is.tears is.kept is.handed;
            };
            cold = λ bytes here hot. cold (subst IsHot (one_present bytes here) hot);
          },
        )
      where
        one_present : (bytes : List ℕ) → ArePresent b.log bytes → bytes ≡ w
        one_present bytes here = ext_get_or 0 bytes w (here.len ∙ ap (λ (s : FileState). s.len) is.log ∙ sym are.len)
            (λ i lt. let below : i < b.log.len = omega (arith, here.len) in let below_a : i < a.log.len = omega (arith, ap (λ (s : FileState). s.len) is.log) in
            here.each i below ∙ ap (λ (s : FileState). byte s i) is.log ∙ sym (are.each i below_a))

    pub plan_replays : (r : Result (Option Plan) RollError) (plan : Plan) (q : Result Replayed RollError) (c : DiskState) → IsFit (torn_sector a) w → IsWithin most w → RolledAnswer db w q b c → ReplayAnswer most db w q a c
    unfolding RolledAnswer
    plan_replays r plan (Ok x) c fit within answer = (
      small most within,
      fits_whole w a fit,
      record { rolled = λ hot. answer; idle = λ cold. absurd (cold fit.hot); cold = settled_cold w c.log answer.log.settled },
    )
    plan_replays r plan (Err e) c fit within answer = subst (λ (x : RollError). ReplayAnswer most db w (Err x) a c) (sym answer.0) (refusal_after a b c is.refused answer.1)

pub read_plans : (most torn : ℕ) (w : List ℕ) (r : Result (Option Plan) RollError) (plan : Plan) (a b : DiskState) → r ≡ Ok (Some plan) → ReadAnswer most torn w r a b → IsFit torn w × IsPlan w plan × IsWithin most w
unfolding ReadAnswer PlanAnswer
read_plans most torn w r plan a b was answer = let got = subst (λ (x : Result (Option Plan) RollError). ReadAnswer most torn w x a b) was answer in got

pub plan_cold : (most torn : ℕ) (w : List ℕ) (r : Result (Option Plan) RollError) (a b : DiskState) → r ≡ Ok None → ReadAnswer most torn w r a b → IsHot w → ⊥
unfolding ReadAnswer PlanAnswer
plan_cold most torn w r a b was answer = subst (λ (x : Result (Option Plan) RollError). ReadAnswer most torn w x a b) was answer

-- a refused look before the plan is read
pub look_unread : {T : Type 0} (most : ℕ) (w : List ℕ) (a : DiskState) → IsSoundDisk a → (b : DiskState) (called : Result T DiskError) (e : DiskError) (q : Result (Option Plan) RollError) → called ≡ Err e → q ≡ Err Device → Looks 0 called a b → ReadAnswer most (torn_sector a) w q a b
unfolding ReadAnswer
look_unread most w a sound b called e q was is looked =
    subst (λ (x : Result (Option Plan) RollError). ReadAnswer most (torn_sector a) w x a b) (sym is) (had_refusal called e 0 a b sound.refused was looked.within (omega arith) looked.refused)

-- and one that was answered
pub read_looked : (most : ℕ) (w : List ℕ) (a b c : DiskState) → Still a b → (r : Result (Option Plan) RollError) → ReadAnswer most (torn_sector b) w r b c → ReadAnswer most (torn_sector a) w r a c
unfolding ReadAnswer
read_looked most w a b c is (Err Device) answer = refusal_after a b c is.refused answer
read_looked most w a b c is r answer = subst (λ (n : ℕ). PlanAnswer most n w r) (torn_still a b is) answer

-- ---- The log is synced first.

pub sync_unreplayed : {T : Type 0} (most : ℕ) (db w : List ℕ) (called : Result T DiskError) (e : DiskError) (q : Result Replayed RollError) (a b : DiskState) → called ≡ Err e → q ≡ Err Device → Syncs Log called a b → ReplayAnswer most db w q a b
sync_unreplayed most db w called e q a b was is synced =
    subst (λ (x : Result Replayed RollError). ReplayAnswer most db w x a b) (sym is) (had_refusal_any called e a b was synced.within synced.elsewhere.refused)

module _ {T : Type 0} {u : T} (db w : List ℕ) (a b c : DiskState) (synced : Syncs Log (Ok u) a b) where
  pub synced_present : (bytes : List ℕ) → ArePresent a.log bytes → ArePresent b.log bytes
  synced_present bytes are = record {
    len = are.len ∙ sym synced.file.len;
    each = λ i lt. are.each i (omega (arith, synced.file.len)) ∙ sym (byte_below b.log i lt ∙ synced.file.present i);
  }

  le : a.refused ≤ b.refused
  le = omega (arith, synced.elsewhere.refused)

  pub bytes_after : KeepsBytes b c → KeepsBytes a c
  bytes_after keeps = record { db = keeps.db ∙ synced.elsewhere.other; log = λ bytes are. keeps.log bytes (synced_present bytes are) }

  pub tears_after : TearsJournal b w → TearsJournal a w
  tears_after tears = (sym synced.elsewhere.tears ∙ tears.0, tears.1, subst (λ (n : ℕ). (word w 24 < n) ⊎ (word w 20 < n)) synced.elsewhere.sector tears.2)

  tears_before : TearsJournal a w → TearsJournal b w
  tears_before tears = (synced.elsewhere.tears ∙ tears.0, tears.1, subst (λ (n : ℕ). (word w 24 < n) ⊎ (word w 20 < n)) (sym synced.elsewhere.sector) tears.2)

  idle_after : (r : Replayed) → IsIdle r b c → IsIdle r a c
  idle_after r x = record { hot = x.hot; records = x.records; size = x.size; bytes = bytes_after x.bytes; durable = λ v durable. x.durable v (down_syncs v Log (Ok u) a b durable synced) }

  after : (most : ℕ) (q : Result Replayed RollError) → ReplayAnswer most db w q b c → ReplayAnswer most db w q a c
  after most (Ok r) x = (x.0, λ tears. x.1 (tears_before tears), record { rolled = x.2.rolled; idle = λ cold. idle_after r (x.2.idle cold); cold = x.2.cold })
  after most (Err TooLarge) x = (x.0, bytes_after x.1)
  after most (Err SectorAbovePage) x = (x.0, tears_after x.1, bytes_after x.2)
  after most (Err NoMemory) x = bytes_after x
  after most (Err Device) x = refusal_after a b c le x
  after most (Err _) x = absurd x

  pub replay_after : (most : ℕ) (q : Result Replayed RollError) → ArePresent a.db db → ArePresent a.log w → (ArePresent b.db db → ArePresent b.log w → ReplayAnswer most db w q b c) → ReplayAnswer most db w q a c
  replay_after most q are_db are rest = after most q (rest (present_in a.db b.db db synced.elsewhere.other are_db) (synced_present w are))
