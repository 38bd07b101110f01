-- A commit that is granted steps to the history with its database.
use Rattle.walcore.proofs.Between.{AreBytes, AreFiles, AreMade, AreTogether, Bool, Bor, Core, Database, DiskState, Files, FitsCore, FitsDisk, IsBehind, IsBound, IsCore, IsExtended, IsFaultless, IsHeaderOf, IsHeld, IsIndexed, IsLeft, IsLog, IsPresent, IsReady, IsSoundDisk, IsSumOf, IsTrue, KnowsLog, List, NoChance, None, Option, Past, Reader, SameLog, ShowsWhole, Some, Stands, State, Suits, Sum, WalHeader, [], ap, apply, are_committed, are_frames, arith, boundary_same, byte, cases_lt, cond, extended_exists, extended_front, false, frame_end, frame_end-head, frame_end-le, get_or, get_or-append_right, get_or_append_left, get_or_past, header_of_same, index_at, index_low, index_with, inl, length, length-append, length-apply, lent, lent_length, lit<, most_frames, nat_lt, newest, page_of, page_same, present_image, present_last, present_more, reader_at, ready_granted, ready_most, refl, sector_some, shown, stands_shows, subst, summed, summed_same, sym, take, take_less, times, true, wal_log, ℕ, ⊎_elim, ◌++◌, ◌+◌, ◌-◌, ◌<◌, ◌^◌, ◌∙◌, ◌∷◌, ◌≡◌, ◌≤◌}
use Rattle.walcore.proofs.disk.DiskInvariantUnderCalls.{commit_stands}
use Rattle.walcore.proofs.sync.LogWithRepeatedFrame.{behind_later, behind_same}

-- ---- what fits a disk, by its parts

pub record DiskFacts (size : ℕ) (logs : List (List ℕ)) (h : List Database) (floor : ℕ) (s : DiskState) : Type 0 where
  pub suits : Suits size s
  pub floor_is : floor < length h
  pub held : (i : ℕ) → i < length h → IsHeld size (get_or h i [])
  pub made : AreMade size logs
  pub left : IsLeft size logs h floor s

pub disk_by : (past : Past) (size : ℕ) (h : List Database) (floor : ℕ) (s : DiskState) → DiskFacts size past.made.logs h floor s → size ≡ past.state.page_size → h ≡ past.state.history → floor ≡ past.state.floor
    → (IsTrue past.state.is_open → (files : Files) → AreFiles s files → NoChance past.made.logs files.log → ShowsWhole wal_log past.state.page_size files.db files.log (newest past.state.history)) → FitsDisk past s
disk_by past size h floor s facts a b c present =
    let one = subst (λ (x : ℕ). DiskFacts x past.made.logs h floor s) a facts in
    let two = subst (λ (x : List Database). DiskFacts past.state.page_size past.made.logs x floor s) b one in
    let all = subst (λ (x : ℕ). DiskFacts past.state.page_size past.made.logs past.state.history x s) c two in
    record { suits = all.suits; floor = all.floor_is; held = all.held; made = all.made; left = all.left; present = present }

pub facts_stand : (size : ℕ) (logs : List (List ℕ)) (e : List ℕ) (n : ℕ) (h : List Database) (index : ℕ → ℕ) (mark d c : ℕ) (s : DiskState) → Stands size logs e n h index mark d c s → (floor : ℕ) → floor ≤ index d → DiskFacts size logs h floor s
facts_stand size logs e n h index mark d c s stands floor low = record {
  suits = stands.suits;
  floor_is = omega (arith, stands.era.last, stands.era.rises d n stands.marks.durable (omega arith));
  held = stands.era.held;
  made = stands.are_made;
  left = inl (stands_shows size logs e n h index mark d c s stands floor low);
}

-- ---- logs of bytes

pub present_bytes : (size : ℕ) (e : List ℕ) (n : ℕ) (s : DiskState) → IsLog size e n → IsPresent size e n s → IsSoundDisk s → AreBytes e
present_bytes size e n s log present sound i = ⊎_elim
    (λ lt. let low : byte s.log i < 256 = cond_low (nat_lt i s.log.len) (s.log.present i) (sound.log.is_byte i) in omega (arith, present.each i (let k : i < frame_end size n = omega (arith, log.whole) in k)))
    (λ ge. omega (arith, get_or_past e i 0 ge))
    (cases_lt i (length e))
  where
    cond_low : (b : Bool) (x : ℕ) → x < 256 → cond b x 0 < 256
    cond_low true x lt = lt
    cond_low false x lt = lit< tt

pub knows_same : (f : List ℕ) (n : ℕ) (a b : Core) (s : DiskState) → SameLog a b → KnowsLog f n a s → KnowsLog f n b s
knows_same f n a b s same knows = record {
  frames = same.frames ∙ knows.frames;
  header = subst (λ (x : WalHeader). IsHeaderOf f x) (sym same.header) knows.header;
  sum = subst (λ (x : WalHeader). IsSumOf x.order (summed b.page_size f n) b.sum) (sym same.header) (subst (λ (x : Sum). IsSumOf a.header.order (summed b.page_size f n) x) (sym same.sum)
      (subst (λ (z : ℕ). IsSumOf a.header.order (summed z f n) a.sum) (sym same.page_size) knows.sum));
  table = subst (λ (z : ℕ). IsIndexed z f n b.index) (sym same.page_size) (record {
    count = ap length same.pages ∙ knows.table.count;
    each = λ i x y. let was = knows.table.each i x y in (ap (λ (z : List ℕ). get_or z (i - 1) 0) same.pages ∙ was.0, omega (arith, was.1, same.bound));
  });
  last = λ some. same.last_page ∙ knows.last some ∙ ap (λ (z : ℕ). page_of z f n) (sym same.page_size);
  present = subst (λ (z : ℕ). IsPresent z f n s) (sym same.page_size) knows.present;
}

-- what a core knows of a log, it knows of one that goes on
pub knows_more : (e f : List ℕ) (core : Core) (s : DiskState) → take (frame_end core.page_size core.frames) f ≡ take (frame_end core.page_size core.frames) e → frame_end core.page_size core.frames ≤ length f → KnowsLog e core.frames core s → frame_end core.page_size core.frames ≤ length e → KnowsLog f core.frames core s
knows_more e f core s same long knows long_e =
    let n : ℕ = core.frames in
    let z : ℕ = core.page_size in
    let to : ℕ = frame_end z n in
    record {
      frames = refl;
      header = header_of_same e f core.header (take_less e f to 32 (sym same) (frame_end-head z n)) (omega (arith, frame_end-head z n)) knows.header;
      sum = subst (λ (x : List ℕ). IsSumOf core.header.order x core.sum) (summed_same z e f to n (sym same) (omega arith)) knows.sum;
      table = record {
        count = knows.table.count;
        each = λ i x y. let was = knows.table.each i x y in let is : page_of z e i ≡ page_of z f i = page_same z e f to i (sym same) x (frame_end-le z i n y) in (was.0 ∙ is, omega (arith, was.1, is));
      };
      last = λ some. knows.last some ∙ page_same z e f to n (sym same) some (omega arith);
      present = present_more z e s s f n same long_e knows.present;
    }

pub core_knows : (past : Past) (e : List ℕ) (index : ℕ → ℕ) (d c : ℕ) (core : Core) (s : DiskState) → IsCore past e index d c core s → KnowsLog e core.frames core s
core_knows past e index d c core s is = record { frames = refl; header = is.header; sum = is.sum; table = is.table; last = is.last; present = is.present }

-- ---- the plan of a commit

-- the log that it makes
pub record Planned (past : Past) (e : List ℕ) (rest : List (List ℕ)) (index : ℕ → ℕ) (d c : ℕ) (core : Core) (pages : List (ℕ × Bor (List ℕ))) (count : ℕ) (s : DiskState) : Type 0 where
  pub f : List ℕ
  pub more : IsExtended core.page_size e core.frames (lent pages) count f
  pub few : core.frames + length (lent pages) ≤ most_frames
  pub knows : KnowsLog f core.frames core s
  pub stands : Stands core.page_size (f ∷ rest) f (core.frames + length (lent pages)) (past.state.history ++ apply (newest past.state.history) (lent pages) count ∷ [])
      (index_with index core.frames (core.frames + length (lent pages)) (length past.state.history)) (core.frames + length (lent pages)) d c s

pub planned : (past : Past) (e : List ℕ) (rest : List (List ℕ)) (index : ℕ → ℕ) (d c : ℕ) (core : Core) (pages : List (ℕ × Bor (List ℕ))) (count : ℕ) (s : DiskState)
    → IsCore past e index d c core s → past.made.logs ≡ e ∷ rest → IsReady pages count core → count < 2 ^ 32 → Planned past e rest index d c core pages count s
planned past e rest index d c core pages count s is logs ready fits =
    let z : ℕ = core.page_size in
    let n : ℕ = core.frames in
    let log : IsLog z e n = is.stands.era.log in
    let granted = ready_granted pages count core ready in
    let bytes : AreBytes e = present_bytes z e n s log is.present is.stands.suits.sound in
    let made = extended_exists z e n (lent pages) count bytes log (are_frames core.size z pages count granted ready.bytes fits) in
    let f : List ℕ = made.0 in
    let more : IsExtended z e n (lent pages) count f = made.1 in
    let few : n + length (lent pages) ≤ most_frames = omega (arith, is.few.0, lent_length pages, ready_most pages count core ready) in
    let now : shown past.state.history index n ≡ newest past.state.history = ap (λ (k : ℕ). get_or past.state.history k []) (let k : index n ≡ length past.state.history - 1 = omega (arith, is.stands.era.last) in k) in
    let long : core.size ≡ length (shown past.state.history index n) = is.size ∙ ap length (sym now) in
    let committed = are_committed (shown past.state.history index n) z (lent pages) count (subst (λ (k : ℕ). IsFaultless k z (lent pages) count) long granted) in
    let was = subst (λ (x : List (List ℕ)). Stands z x e n past.state.history index core.mark d c s) logs is.stands in
    let then = commit_stands z rest e n past.state.history index core.mark d c s (lent pages) count f was more committed few in
    let same : take (frame_end z n) f ≡ take (frame_end z n) e = extended_front z e n (lent pages) count f log more in
    record {
      f = f;
      more = more;
      few = few;
      knows = knows_more e f core s same (omega (arith, more.log.whole, frame_end-le z n (n + length (lent pages)) (omega arith))) (core_knows past e index d c core s is) (omega (arith, log.whole));
      stands = subst (λ (x : Database). Stands z (f ∷ rest) f (n + length (lent pages)) (past.state.history ++ apply x (lent pages) count ∷ []) (index_with index n (n + length (lent pages)) (length past.state.history)) (n + length (lent pages)) d c s) now then;
    }

-- ---- what fits afterwards

index_low_at : (past : Past) (index : ℕ → ℕ) (n m i : ℕ) → n < m → i ≤ n → index_with index n m (length past.state.history) i ≡ index i
index_low_at past index n m i a b = index_low index n m (length past.state.history) i a b

pub together_map : (R Q : ℕ → Reader → Type 0) → ((i : ℕ) (r : Reader) → R i r → Q i r) → (o : Option ℕ) (t : Option Reader) → AreTogether R o t → AreTogether Q o t
together_map R Q each None None h = h
together_map R Q each (Some i) (Some r) h = each i r h
together_map R Q each None (Some r) h = absurd h
together_map R Q each (Some i) None h = absurd h

module _ (past : Past) (e : List ℕ) (rest : List (List ℕ)) (index : ℕ → ℕ) (d c : ℕ) (core : Core) (pages : List (ℕ × Bor (List ℕ))) (count : ℕ) (s : DiskState) (is : IsCore past e index d c core s) (ready : IsReady pages count core)
    (plan : Planned past e rest index d c core pages count s) (page_is : core.page_size ≡ past.state.page_size) where
  abbrev pub index_new : ℕ → ℕ
  index_new = index_with index core.frames (core.frames + length (lent pages)) (length past.state.history)

  abbrev pub h_new : List Database
  h_new = past.state.history ++ apply (newest past.state.history) (lent pages) count ∷ []

  -- the machine's state
  abbrev pub state_new : Bool → State
  state_new is_open = record past.state { history = h_new; used = past.state.used + length (lent pages); drained = false; is_open = is_open }

  h_long : length h_new ≡ length past.state.history + 1
  h_long = length-append past.state.history (apply (newest past.state.history) (lent pages) count ∷ [])

  h_last : get_or h_new (length past.state.history) [] ≡ apply (newest past.state.history) (lent pages) count
  h_last = get_or-append_right past.state.history (apply (newest past.state.history) (lent pages) count ∷ []) (length past.state.history) [] (omega arith) ∙ ap (λ (k : ℕ). get_or (apply (newest past.state.history) (lent pages) count ∷ []) k []) (let k : length past.state.history - length past.state.history ≡ 0 = omega arith in k)

  h_newest : get_or h_new (length h_new - 1) [] ≡ apply (newest past.state.history) (lent pages) count
  h_newest = ap (λ (k : ℕ). get_or h_new k []) (let k : length h_new - 1 ≡ length past.state.history = omega (arith, h_long) in k) ∙ h_last

  some : 1 ≤ length (lent pages)
  some = (ready_granted pages count core ready).some

  low : past.state.floor ≤ index_new d
  low = omega (arith, index_low_at past index core.frames (core.frames + length (lent pages)) d (omega (arith, some)) is.stands.marks.durable, is.floor)

  module _ (t : DiskState) (stands : Stands core.page_size (plan.f ∷ rest) plan.f (core.frames + length (lent pages)) h_new index_new (core.frames + length (lent pages)) d c t) where
    pub disk_facts : DiskFacts core.page_size (plan.f ∷ rest) h_new past.state.floor t
    disk_facts = facts_stand core.page_size (plan.f ∷ rest) plan.f (core.frames + length (lent pages)) h_new index_new (core.frames + length (lent pages)) d c t stands past.state.floor low

    -- what is present shows it
    pub shows_new : IsPresent core.page_size plan.f (core.frames + length (lent pages)) t → (files : Files) → AreFiles t files → NoChance (plan.f ∷ rest) files.log → ShowsWhole wal_log core.page_size files.db files.log (apply (newest past.state.history) (lent pages) count)
    shows_new present files are chance =
        let shows = present_last core.page_size (plan.f ∷ rest) plan.f (core.frames + length (lent pages)) h_new index_new (core.frames + length (lent pages)) d c t stands present files.log are.log chance
        files.db (present_image t.sector t.tears t.db files.db stands.suits.sound.db are.db) in
        subst (λ (x : Database). ShowsWhole wal_log core.page_size files.db files.log x)
        (ap (λ (k : ℕ). get_or h_new k []) (index_at index core.frames (core.frames + length (lent pages)) (length past.state.history) (core.frames + length (lent pages)) (omega arith)) ∙ h_last)
        shows

    -- readers read on
    reads_on : (i : ℕ) (r : Reader) → IsBound core.page_size e index core.mark c past.state i r
        → IsBound core.page_size plan.f index_new (core.frames + length (lent pages)) c (state_new true) i r
    reads_on i r bound =
        let low_mark : r.mark ≤ core.frames = omega (arith, bound.within, is.stands.era.marked.0) in
        let within : i < length past.state.history = omega (arith, bound.place, is.stands.era.rises r.mark core.frames low_mark (omega arith), is.stands.era.last) in
        record {
          within = omega arith;
          boundary = boundary_same core.page_size e plan.f core.frames r.mark (extended_front core.page_size e core.frames (lent pages) count plan.f is.stands.era.log plan.more) low_mark bound.boundary;
          begun = bound.begun;
          place = index_low_at past index core.frames (core.frames + length (lent pages)) r.mark (omega (arith, some)) low_mark ∙ bound.place;
          size_is = bound.size_is ∙ ap length (sym (get_or_append_left past.state.history (apply (newest past.state.history) (lent pages) count ∷ []) [] i within));
        }

    -- the next frame is written further on
    behind_new : t.sector ≡ s.sector → t.tears ≡ s.tears → IsBehind core.page_size d (frame_end core.page_size (core.frames + length (lent pages))) t
    behind_new sector tears =
        let n : ℕ = core.frames in
        let m : ℕ = core.frames + length (lent pages) in
        let up : frame_end core.page_size n ≤ frame_end core.page_size m = frame_end-le core.page_size n m (omega arith) in
        behind_same core.page_size d (frame_end core.page_size m) s t sector tears
        (behind_later core.page_size d s (frame_end core.page_size n) (frame_end core.page_size m) (omega (arith, sector_some s.sector is.stands.suits.sectors)) up is.behind)

    -- a core that knows all of it
    core_new : t.sector ≡ s.sector → t.tears ≡ s.tears → (mid core_then : Core) → KnowsLog plan.f (core.frames + length (lent pages)) mid t → SameLog mid core_then → mid.page_size ≡ core.page_size → core_then.mark ≡ mid.frames → core_then.size ≡ count
        → core_then.used ≡ core.used + length pages → core_then.unsynced ≡ true → core_then.drained ≡ false
        → IsCore (record { state = state_new true; made = record { logs = plan.f ∷ rest; unsynced = true }; tokens = past.tokens }) plan.f index_new d c core_then t
    core_new sector tears mid core_then knows same page mark size used unsynced drained =
        let known : KnowsLog plan.f (core.frames + length (lent pages)) core_then t = knows_same plan.f (core.frames + length (lent pages)) mid core_then t same knows in
        let at_page : core_then.page_size ≡ core.page_size = same.page_size ∙ page in
        let at_mark : core_then.mark ≡ core.frames + length (lent pages) = mark ∙ knows.frames in
        let to_page : (P : ℕ → Type 0) → P core.page_size → P core_then.page_size = λ P. subst P (sym at_page) in
        let to_frames : (P : ℕ → Type 0) → P (core.frames + length (lent pages)) → P core_then.frames = λ P. subst P (sym known.frames) in
        let to_mark : (P : ℕ → Type 0) → P (core.frames + length (lent pages)) → P core_then.mark = λ P. subst P (sym at_mark) in
        record {
          newest_log = (rest, refl);
          stands = to_page (λ x. Stands x (plan.f ∷ rest) plan.f core_then.frames h_new index_new core_then.mark d c t) (to_frames (λ x. Stands core.page_size (plan.f ∷ rest) plan.f x h_new index_new core_then.mark d c t)
              (to_mark (λ x. Stands core.page_size (plan.f ∷ rest) plan.f (core.frames + length (lent pages)) h_new index_new x d c t) stands));
          floor = low;
          begun = omega (arith, at_mark, is.stands.marks.begun, is.stands.marks.durable);
          behind = to_page (λ x. IsBehind x d (frame_end x core_then.frames) t) (to_frames (λ x. IsBehind core.page_size d (frame_end core.page_size x) t) (behind_new sector tears));
          present = to_frames (λ x. IsPresent core_then.page_size plan.f x t) known.present;
          header = known.header;
          sum = to_frames (λ x. IsSumOf core_then.header.order (summed core_then.page_size plan.f x) core_then.sum) known.sum;
          table = to_frames (λ x. IsIndexed core_then.page_size plan.f x core_then.index) known.table;
          last = to_frames (λ x. 1 ≤ x → core_then.last_page ≡ page_of core_then.page_size plan.f x) known.last;
          room = core_then.room;
          size = size ∙ sym (ap length h_newest ∙ length-apply (newest past.state.history) (lent pages) count);
          used = omega (arith, used, is.used, lent_length pages);
          few = (core_then.few, core_then.most);
          unsynced = unsynced;
          some = λ yes. omega (arith, known.frames, some);
          drained = drained;
          filed = λ yes. absurd (let bad : true ≡ false = sym yes ∙ drained in cc);
          durable = λ z. absurd (let bad : true ≡ false = sym unsynced ∙ z in cc);
          readers = λ number. to_page (λ x. AreTogether (IsBound x plan.f index_new core_then.mark c (state_new true)) (reader_at past.state number) (get_or past.tokens number None))
              (to_mark (λ x. AreTogether (IsBound core.page_size plan.f index_new x c (state_new true)) (reader_at past.state number) (get_or past.tokens number None))
              (together_map (IsBound core.page_size e index core.mark c past.state) (IsBound core.page_size plan.f index_new (core.frames + length (lent pages)) c (state_new true)) reads_on (reader_at past.state number) (get_or past.tokens number None) (is.readers number)));
          page = core_then.framed;
        }

    -- it fits, where the last commit is there to be read
    pub fits_new : FitsCore past core s → t.sector ≡ s.sector → t.tears ≡ s.tears → (mid core_then : Core) → KnowsLog plan.f (core.frames + length (lent pages)) mid t → SameLog mid core_then → mid.page_size ≡ core.page_size → core_then.mark ≡ mid.frames → core_then.size ≡ count
        → core_then.used ≡ core.used + length pages → core_then.unsynced ≡ true → core_then.drained ≡ false → core_then.is_open ≡ true → core_then.marks ≡ core.marks
        → FitsCore (record { state = state_new true; made = record { logs = plan.f ∷ rest; unsynced = true }; tokens = past.tokens }) core_then t
    fits_new fits sector tears mid core_then knows same page mark size used unsynced drained opened marks = record {
      disk = disk_by (record { state = state_new true; made = record { logs = plan.f ∷ rest; unsynced = true }; tokens = past.tokens }) core.page_size h_new past.state.floor t disk_facts page_is refl refl
          (λ yes files are chance. subst (λ (x : ℕ). ShowsWhole wal_log x files.db files.log (get_or h_new (length h_new - 1) [])) page_is
          (subst (λ (x : Database). ShowsWhole wal_log core.page_size files.db files.log x) (sym h_newest)
          (shows_new (subst (λ (x : ℕ). IsPresent x plan.f (core.frames + length (lent pages)) t) page knows.present) files are chance)));
      page_size = same.page_size ∙ page ∙ page_is;
      is_open = opened;
      core = λ yes. (plan.f, index_new, d, c, core_new sector tears mid core_then knows same page mark size used unsynced drained);
      count = fits.count;
      together = fits.together;
      marks = λ k. ap (λ (x : List ℕ). times k x) (ap (λ x. x.items) marks) ∙ fits.marks k;
    }

    -- and a closed core does, whatever was written
    pub fits_closed : FitsCore past core s → (core_then : Core) → core_then.page_size ≡ core.page_size → core_then.is_open ≡ false → core_then.marks ≡ core.marks
        → FitsCore (record { state = state_new false; made = record { logs = plan.f ∷ rest; unsynced = true }; tokens = past.tokens }) core_then t
    fits_closed fits core_then page closed marks = record {
      disk = disk_by (record { state = state_new false; made = record { logs = plan.f ∷ rest; unsynced = true }; tokens = past.tokens }) core.page_size h_new past.state.floor t disk_facts page_is refl refl
          (λ yes. absurd (cc yes));
      page_size = page ∙ page_is;
      is_open = closed;
      core = λ yes. absurd (let bad : true ≡ false = sym yes ∙ closed in cc);
      count = fits.count;
      together = fits.together;
      marks = λ k. ap (λ (x : List ℕ). times k x) (ap (λ x. x.items) marks) ∙ fits.marks k;
    }
