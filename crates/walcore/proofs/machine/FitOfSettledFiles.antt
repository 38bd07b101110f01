-- Files that are durable fit where a world begins with the database that they show.
use Rattle.walcore.proofs.Between.{AllPass, AreMade, Contains, Database, DiskState, Files, FitsAlone, IsCommit, IsFit, IsFront, IsHeader, IsHeld, IsImage, IsJust, IsLog, IsLogDurable, IsPageSize, IsSettled, IsValidFrame, IsView, List, MayBeRead, MayOpen, NoChance, ShowsWhole, Suits, [], all_decided, all_same, ap, arith, beginning_beside, cases_eq, cases_lt, content_long, down_one, false, file_page, frame_at, frame_at-end, frame_end, frame_end-head, frame_end-le, frame_end-zero, front_exists, front_unique, get_or-map-range_with_len, header_decided, header_same, inl, inr, just_file, just_shows, length, length-file_page, length-map-range_with_len, length-take-le, map, most_bytes, most_frames, named_or_not, named_size, page, part, part_same, range_with_len, read_cases, refl, settled_one, size_of, subst, suc, sym, take, take-take, take_less, true, view_exists, wal_log, zero, ℕ, ⊎_elim, ◌*◌, ◌+◌, ◌-◌, ◌<◌, ◌∙◌, ◌∷◌, ◌≡◌, ◌≤◌}
use Rattle.walcore.proofs.machine.FitOfNewDisk.{held_at, made_nothing}

-- ---- they fit

module _ (size : ℕ) (base : Database) (logs : List (List ℕ)) (files : Files) (s : DiskState) (file : IsSettled s.db files.db) (durable : IsLogDurable s files.log) (shows : ShowsWhole wal_log size files.db files.log base) where
  one_log : (w : List ℕ) → MayBeRead wal_log s w → w ≡ files.log
  one_log w may = ⊎_elim (λ image. down_one files.log s durable s.sector false w image) (λ left. down_one files.log s durable s.sector true w left.1) (read_cases wal_log s w may)

  left_shows : (db w : List ℕ) → IsImage s.sector s.tears s.db db → MayBeRead wal_log s w → ShowsWhole wal_log size db w base
  left_shows db w image may =
      subst (λ (x : List ℕ). ShowsWhole wal_log size x w base) (sym (settled_one s.db files.db file s.sector s.tears db image))
      (subst (λ (x : List ℕ). ShowsWhole wal_log size files.db x base) (sym (one_log w may)) shows)

  pub beside_fits : Suits size s → IsHeld size base → AreMade size logs → FitsAlone (beginning_beside size base logs) s
  beside_fits suits held made = record {
    count = refl;
    disk = record {
      suits = suits;
      floor = omega arith;
      held = held_at size base held;
      made = made;
      left = inr (0, omega arith, omega arith, left_shows);
      present = λ opened. absurd (cc opened);
    };
  }

-- ---- what the log holds was made

-- how many of its frames are valid, up to k
record Valid (size : ℕ) (w : List ℕ) (k n : ℕ) : Type 0 where
  within : n ≤ k
  all : AllPass size w n
  most : (i : ℕ) → i ≤ k → AllPass size w i → i ≤ n

valid_to : (size : ℕ) (w : List ℕ) (k : ℕ) → (n : ℕ) × Valid size w k n
valid_to size w zero = (0, record { within = omega arith; all = λ j a b. absurd (omega arith); most = λ i le all. le })
valid_to size w (suc k) = ⊎_elim
    (λ all. (suc k, record { within = omega arith; all = all; most = λ i le is. le }))
    (λ bad.
    let before = valid_to size w k in (
      before.0,
      record {
        within = omega (arith, before.1.within);
        all = before.1.all;
        most = λ i le is. ⊎_elim (λ e. absurd (bad (subst (λ (x : ℕ). AllPass size w x) e is))) (λ ne. before.1.most i (omega arith) is) (cases_eq i (suc k));
      },
    ))
    (all_decided size w (suc k))

module _ (size : ℕ) (w : List ℕ) (header : IsHeader size w) where
  abbrev found : (n : ℕ) × Valid size w most_frames n
  found = valid_to size w most_frames

  abbrev whole_to : ℕ
  whole_to = frame_end size found.0

  abbrev front : List ℕ
  front = take whole_to w

  end_in : (n : ℕ) → AllPass size w n → frame_end size n ≤ length w
  end_in zero all = omega (arith, frame_end-zero size, header.whole)
  end_in (suc n) all = (all (suc n) (omega arith) (omega arith)).whole

  long : length front ≡ whole_to
  long = length-take-le whole_to w (end_in found.0 found.1.all)

  same : take whole_to w ≡ take whole_to front
  same = sym (take-take whole_to whole_to w (omega arith))

  front_log : IsLog size front found.0
  front_log = record {
    header = header_same size w front whole_to same (frame_end-head size found.0) (omega (arith, long, frame_end-head size found.0)) header;
    whole = long;
    all = all_same size w front whole_to found.0 same (omega arith) (omega (arith, long)) found.1.all;
  }

  only_one : (e : List ℕ) → Contains (front ∷ []) e → front ≡ e
  only_one e (zero, lt, is) = is
  only_one e (suc k, lt, is) = absurd (omega arith)

  front_made : AreMade size (front ∷ [])
  front_made = record {
    each = λ e is. (found.0, subst (λ (x : List ℕ). IsLog size x found.0) (only_one e is) front_log, found.1.within);
    new_salts = λ i j l m a b. omega arith;
  }

  head_same : take 32 w ≡ take 32 front
  head_same = take_less w front whole_to 32 same (frame_end-head size found.0)

  frame_same : (IsValidFrame size w (suc most_frames) → ⊥) → (i : ℕ) → IsValidFrame size w i
      → (frame_end size i ≤ length front) × (part w (frame_at size i) (24 + size) ≡ part front (frame_at size i) (24 + size))
  frame_same few i valid =
      let within : i ≤ most_frames = ⊎_elim (λ over. absurd (few (record { first = omega arith; each = λ j a b. valid.each j a (omega arith) }))) (λ le. le) (cases_lt most_frames i) in
      let le : frame_end size i ≤ whole_to = frame_end-le size i found.0 (found.1.most i within valid.each) in
      (omega (arith, long, le), part_same w front whole_to (frame_at size i) (24 + size) same (omega (arith, le, frame_at-end size i valid.first)))

none_made : (w : List ℕ) → (IsHeader (named_size w) w → ⊥) → NoChance [] w
none_made w bad = record {
  header = λ header. absurd (bad header);
  frame = λ i valid. absurd (bad (valid.each i valid.first (omega arith)).header);
}

pub left_made : (size : ℕ) (w : List ℕ) → IsFit size w → (logs : List (List ℕ)) × AreMade size logs × NoChance logs w
left_made size w fit = ⊎_elim
    (λ header. ⊎_elim
    (λ named. (
      front (named_size w) w header ∷ [],
      subst (λ (n : ℕ). AreMade n (front (named_size w) w header ∷ [])) named (front_made (named_size w) w header),
      record {
        header = λ is. (front (named_size w) w header, (0, omega arith, refl), head_same (named_size w) w header);
        frame = λ i valid. let is = frame_same (named_size w) w header (λ more. fit.small (inl more)) i valid in (front (named_size w) w header, (0, omega arith, refl), is.0, is.1);
      },
    ))
    (λ other. absurd (fit.same (header, other)))
    (cases_eq (named_size w) size))
    (λ bad. ([], made_nothing size, none_made w bad))
    (header_decided (named_size w) w)

-- ---- what they show

module _ (size : ℕ) (db : List ℕ) (n : ℕ) (some : 1 ≤ n) (whole : n * size ≡ length db) (few : length db ≤ most_bytes) where
  pages : Database
  pages = map (file_page size db) (range_with_len 1 n)

  at_page : (p : ℕ) → 1 ≤ p → p ≤ n → page pages p ≡ file_page size db p
  unfolding page pages
  at_page p one le = get_or-map-range_with_len (file_page size db) 1 n (p - 1) p [] (omega arith) (omega arith)

  counted : length pages ≡ n
  unfolding pages
  counted = length-map-range_with_len (file_page size db) 1 n

  pages_long : length pages * size ≡ length db
  pages_long = ap (λ (k : ℕ). k * size) counted ∙ whole

  pages_just : IsJust size pages db
  pages_just = record { long = sym pages_long; each = λ p one le. at_page p one (omega (arith, counted)) }

  pages_held : IsHeld size pages
  pages_held = record {
    some = omega (arith, counted);
    full = λ p one le. ap (λ (x : List ℕ). length x) (at_page p one (omega (arith, counted))) ∙ length-file_page size db p;
    few = omega (arith, pages_long);
  }

module _ (size : ℕ) (db w : List ℕ) (m : ℕ) (valid : IsValidFrame size w m) (named : named_size w ≡ size) (front : IsFront (named_size w) w m) (commit : IsCommit size w m) (fit : IsFit size w) where
  view : (d : Database) × IsView size db w m d
  view = view_exists size db w m valid.first

  few : length view.0 * size ≤ most_bytes
  few = ⊎_elim
      (λ over. absurd (fit.small (inr (m, valid.first, front, subst (λ (n : ℕ). most_bytes < size_of n w m * n) (sym named) (let is = view.1.some valid.first in subst (λ (k : ℕ). most_bytes < k * size) is over)))))
      (λ le. le)
      (cases_lt most_bytes (length view.0 * size))

  view_held : IsHeld size view.0
  view_held = record {
    some = let is = view.1.some valid.first in omega (arith, commit);
    full = λ p one le. ⊎_elim
        (λ un. ap (λ (x : List ℕ). length x) (view.1.over.other p one le un) ∙ length-file_page size db p)
        (λ last. ap (λ (x : List ℕ). length x) (view.1.over.logged p last.0 one le last.1) ∙ content_long size m last.0 w valid last.1.first last.1.within)
        (named_or_not size w m p);
    few = few;
  }

  view_shows : ShowsWhole wal_log size db w view.0
  view_shows = record {
    shows = λ k is. (λ one. named, subst (λ (j : ℕ). IsView size db w j view.0) (front_unique (named_size w) w m k front is) view.1);
    whole = λ is. absurd (let z : m ≡ 0 = front_unique (named_size w) w m 0 front is in omega (arith, valid.first));
  }

pub opened_shows : (size : ℕ) (files : Files) (s : DiskState) → IsPageSize size → MayOpen size files s → (base : Database) × IsHeld size base × ShowsWhole wal_log size files.db files.log base
opened_shows size files s is_size may = by (front_exists (named_size files.log) files.log)
  where
    by : (m : ℕ) × IsFront (named_size files.log) files.log m → (base : Database) × IsHeld size base × ShowsWhole wal_log size files.db files.log base
    by (m, front) = ⊎_elim
        (λ z.
        let none = subst (λ (k : ℕ). IsFront (named_size files.log) files.log k) z front in
        let is = may.counted none in
        let just = pages_just size files.db is.0 is.1 is.2 is.3 in (
          pages size files.db is.0 is.1 is.2 is.3,
          pages_held size files.db is.0 is.1 is.2 is.3,
          just_shows size files.db files.log (pages size files.db is.0 is.1 is.2 is.3) just (just_file size (pages size files.db is.0 is.1 is.2 is.3) files.db is_size just) none,
        ))
        (λ both. ⊎_elim
        (λ named.
        let valid = subst (λ (n : ℕ). IsValidFrame n files.log m) named both.0 in
        let commit = subst (λ (n : ℕ). IsCommit n files.log m) named both.1 in (
          (view size files.db files.log m valid named front commit may.fit).0,
          view_held size files.db files.log m valid named front commit may.fit,
          view_shows size files.db files.log m valid named front commit may.fit,
        ))
        (λ other. absurd (may.fit.same ((both.0.each m both.0.first (omega arith)).header, other)))
        (cases_eq (named_size files.log) size))
        front.is
