-- What the engine keeps on its disk shows one database of the history, whatever a crash leaves.
use Rattle.walcore.proofs.Below.{AreMade, AreMarks, ArePresent, Bool, Contains, Database, DiskState, FileState, HasFixed, HasMadeHeader, IsBoundary, IsDurable, IsEra, IsFront, IsHeader, IsImage, IsLog, IsPresent, IsUnder, IsView, List, MayBeRead, NoChance, ShowsHistory, ShowsWhole, Stands, ap, arith, cases_eq, false, frame_end, frame_end-head, frame_end-le, front_exists, front_unique, get_or, get_or-take, inl, length, length-take-le, named_size, read_cases, shown, subst, sym, take, take_less, true, view_file, wal_log, ℕ, ⊎_elim, ◌*◌, ◌+◌, ◌-◌, ◌∙◌, ◌≡◌, ◌≤◌}
use Rattle.walcore.proofs.crash.OriginOfValidFrames.{named_same}
use Rattle.walcore.proofs.crash.FrontOfSurvivingLog.{same_front, just_file, Fronts, fronts, down_front, view_of_image}

-- a log that a crash may leave has the bytes that are fixed
pub down_image : (size : ℕ) (e : List ℕ) (n d : ℕ) (sector : ℕ) (tears : Bool) (log : FileState) → IsLog size e n → d ≤ n → HasFixed sector tears log 0 (take (frame_end size d) e)
    → (w : List ℕ) → IsImage sector tears log w → IsDurable size e d w
down_image size e n d sector tears log is le fixed w image =
    let k : ℕ = frame_end size d in
    let fits : k ≤ length e = omega (arith, is.whole, frame_end-le size d n le) in
    let front : length (take k e) ≡ k = length-take-le k e fits in
    let some : 32 ≤ k = frame_end-head size d in
    let last = fixed (k - 1) (omega arith) in
    let long : k ≤ length w = omega (arith, last.within, image.least) in
    record {
      long = long;
      same = same_front w e k long fits (λ i lt. ap (λ j. get_or w j 0) (let z : i ≡ 0 + i = omega arith in z) ∙ (fixed i (omega arith)).each w image ∙ get_or-take k e i 0 lt);
    }

pub down_head : (size : ℕ) (e w : List ℕ) (d : ℕ) → IsDurable size e d w → take 32 w ≡ take 32 e
down_head size e w d durable = take_less w e (frame_end size d) 32 durable.same (frame_end-head size d)

-- ---- one log that is left

module _ (size : ℕ) (logs : List (List ℕ)) (e : List ℕ) (n : ℕ) (h : List Database) (index : ℕ → ℕ) (mark d c : ℕ) (w : List ℕ) where
  -- what the front m of such a log is
  pub record Leaves (m : ℕ) : Type 0 where
    pub front : IsFront (named_size w) w m
    pub later : d ≤ m
    pub within : m ≤ n
    pub boundary : IsBoundary size e m
    pub shows : (db : List ℕ) → IsUnder size e h index c db → ShowsWhole wal_log size db w (shown h index m)

module _ (size : ℕ) (logs : List (List ℕ)) (e : List ℕ) (n : ℕ) (h : List Database) (index : ℕ → ℕ) (mark d c : ℕ) (w : List ℕ) (era : IsEra size e n mark h index) (marks : AreMarks size e n d c) where
  view_shows : (db : List ℕ) (m : ℕ) (x : Database) → IsFront (named_size w) w m → (1 ≤ m → named_size w ≡ size) → IsView size db w m x → (m ≡ 0 → length db ≡ length x * size) → ShowsWhole wal_log size db w x
  view_shows db m x front named view whole = record {
    shows = λ k is. let at : k ≡ m = front_unique (named_size w) w k m is front in (λ some. named (omega arith), subst (λ (j : ℕ). IsView size db w j x) (sym at) view);
    whole = λ is. whole (front_unique (named_size w) w m 0 front is);
  }

  none_shows : (m : ℕ) → IsFront (named_size w) w m → m ≡ 0 → d ≤ m → (db : List ℕ) → IsUnder size e h index c db → ShowsWhole wal_log size db w (shown h index m)
  none_shows m front z later db under =
      let just = under.untouched (omega (arith, marks.begun)) in
      let view : IsView size db w 0 (shown h index 0) = view_file size db w (shown h index 0) (just_file size (shown h index 0) db era.log.header.is_size just) in
      view_shows db m (shown h index m) front (λ some. absurd (omega arith))
      (subst (λ (j : ℕ). IsView size db w j (shown h index j)) (sym z) view)
      (λ at. just.long ∙ ap (λ (j : ℕ). length (shown h index j) * size) (sym z))

  pub left_front : AreMade size logs → Contains logs e → NoChance logs w → (IsHeader (named_size w) w → take 32 w ≡ take 32 e) → (1 ≤ d → IsDurable size e d w)
      → (m : ℕ) → IsFront (named_size w) w m → Leaves size logs e n h index mark d c w m
  left_front are in_made chance head durable m front =
      let later : d ≤ m = ⊎_elim (λ z. omega arith)
      (λ nz.
      let is = durable (omega arith) in
      let named : named_size w ≡ size = named_same size e w era.log.header (down_head size e w d is) in
      down_front size e w n d m era.log marks.durable marks.durable_ends is (subst (λ (k : ℕ). IsFront k w m) named front))
      (cases_eq d 0) in
      ⊎_elim
      (λ z. record { front = front; later = later; within = omega arith; boundary = inl z; shows = none_shows m front z later })
      (λ v.
      let same : take 32 w ≡ take 32 e = head (v.0.each 1 (omega arith) v.0.first).header in
      let named : named_size w ≡ size = named_same size e w era.log.header same in
      let is : Fronts size e n w m = fronts size logs e w n m are in_made era.log chance same (subst (λ (k : ℕ). IsFront k w m) named front) in
      record {
        front = front;
        later = later;
        within = is.within;
        boundary = is.boundary;
        shows = λ db under. view_shows db m (shown h index m) front (λ some. named) (view_of_image size e n mark h index c db w m era marks.begun_ends (omega (arith, marks.begun)) under is)
            (λ z. absurd (omega (arith, v.0.first)));
      })
      front.is

-- ---- the disk

module _ (size : ℕ) (logs : List (List ℕ)) (e : List ℕ) (n : ℕ) (h : List Database) (index : ℕ → ℕ) (mark d c : ℕ) (s : DiskState) (stands : Stands size logs e n h index mark d c s) where
  listed_down : (w : List ℕ) → IsImage s.sector false s.log w → IsDurable size e d w
  listed_down w image = down_image size e n d s.sector false s.log stands.era.log stands.marks.durable stands.log.listed w image

  pub stands_head : (w : List ℕ) → MayBeRead wal_log s w → IsHeader (named_size w) w → take 32 w ≡ take 32 e
  stands_head w may header = ⊎_elim
      (λ listed. down_head size e w d (listed_down w listed))
      (λ torn. ⊎_elim
      (λ stood. stood.1 ∙ stands.log.kept torn.0)
      (λ lies. absurd (omega (arith, stands.log.handed torn.0 lies.0 lies.1, lies.2)))
      (torn.2.header header))
      (read_cases wal_log s w may)

  pub stands_down : (w : List ℕ) → MayBeRead wal_log s w → 1 ≤ d → IsDurable size e d w
  stands_down w may some = ⊎_elim
      (λ listed. listed_down w listed)
      (λ torn. down_image size e n d s.sector true s.log stands.era.log stands.marks.durable (stands.log.torn torn.0 some) w torn.1)
      (read_cases wal_log s w may)

  pub stands_shows : (floor : ℕ) → floor ≤ index d → ShowsHistory size logs h floor s × HasMadeHeader logs s
  stands_shows floor low = (
    λ w may chance.
        let front = front_exists (named_size w) w in
        let m : ℕ = front.0 in
        let is : Leaves size logs e n h index mark d c w m = left_front size logs e n h index mark d c w stands.era stands.marks stands.are_made stands.in_made chance (stands_head w may) (stands_down w may) m front.1 in (
          index m,
          omega (arith, stands.era.rises d m is.later is.within),
          omega (arith, stands.era.last, stands.era.rises m n is.within (omega arith)),
          λ db image. is.shows db (stands.file db image),
        ),
    λ w may header. (e, stands.in_made, stands_head w may header),
  )

  -- ---- the present bytes

  module _ (present : IsPresent size e n s) (w : List ℕ) (are : ArePresent s.log w) where
    pub present_down : IsDurable size e n w
    present_down =
        let long : frame_end size n ≤ length w = omega (arith, present.long, are.len) in
        record { long = long; same = same_front w e (frame_end size n) long (omega (arith, stands.era.log.whole)) (λ i lt. are.each i (omega (arith, present.long)) ∙ present.each i lt) }

    -- They show the last database.
    pub present_last : NoChance logs w → (db : List ℕ) → IsImage s.sector s.tears s.db db → ShowsWhole wal_log size db w (shown h index n)
    present_last chance db image =
        let marks : AreMarks size e n n c = record { durable = omega arith; durable_ends = stands.era.ends; begun = omega (arith, stands.marks.begun, stands.marks.durable); begun_ends = stands.marks.begun_ends } in
        let front = front_exists (named_size w) w in
        let is : Leaves size logs e n h index mark n c w front.0 = left_front size logs e n h index mark n c w stands.era marks stands.are_made stands.in_made chance (λ header. down_head size e w n present_down) (λ some. present_down) front.0 front.1 in
        let at : front.0 ≡ n = omega (arith, is.later, is.within) in
        subst (λ (k : ℕ). ShowsWhole wal_log size db w (shown h index k)) at (is.shows db (stands.file db image))
