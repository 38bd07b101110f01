-- What a checkpoint does to the database file.
use Rattle.walcore.proofs.Facts.{ArePages, ArePresent, Brings, BroughtTo, CanBring, CopyAnswer, Database, Db, Device, DiskError, DiskState, Err, Filling, FrameTable, HasCalls, IsBoundary, IsCopy, IsDurable, IsJust, IsPresent, IsSoundDisk, IsTable, IsView, KeepsLog, LeavesJust, List, Log, MayFill, MayFillWithin, Ok, PlaceAnswer, Result, SizeAnswer, Stands, Still, SyncStep, Syncs, Told, Unnamed, WalError, [], ap, arith, big_number, byte, calls_then, counted_grows, drop, filling_stands, frame_at, frame_at-end, frame_end, frame_end-le, get_or-drop, get_or-take, length, length-drop, length-take-le, most_bytes, no_calls, nothing_may, one_sync, page_of, page_same, present_by, present_list, refl, refusal_after, same_front, same_number_lists, settled_just, shown, since_db, size_of, size_same, sound_syncs, stands_count, stands_filling, stands_still, stands_syncs, stands_valid, stands_view, subst, sym, sync_refused, table, take, ℕ, ◌*◌, ◌+◌, ◌-◌, ◌∙◌, ◌≡◌, ◌≤◌}
use Rattle.walcore.proofs.read.ContentOfReadPage.{table_upto}

-- ---- the size that a frame names

size_place : (size i : ℕ) → frame_at size i + 4 ≡ 32 + (i - 1) * (24 + size) + 4
unfolding frame_at
size_place size i = refl

module _ (size frame place : ℕ) (out : List ℕ) (a b : DiskState) (same : place ≡ 32 + (frame - 1) * (24 + size) + 4) (one : 1 ≤ frame) (four : length out ≡ 4) where
  here : frame_at size frame + 4 ≡ place
  here = size_place size frame ∙ sym same

  pub size_read : {T : Type 0} (v : T) (n : ℕ) → n ≡ big_number 4 out → PlaceAnswer Device Log place out (Ok v) a b → SizeAnswer size frame (Ok n) a b
  unfolding PlaceAnswer SizeAnswer
  size_read v n is answer = (
    answer.0,
    λ e k present fits le.
        let end : place + 4 ≤ frame_end size k = omega (arith, here, frame_at-end size frame one, frame_end-le size frame k le) in
        let rest : length (take 4 (drop place e)) ≡ 4 = length-take-le 4 (drop place e) (omega (arith, length-drop place e)) in
        let bytes : out ≡ take 4 (drop place e) = same_number_lists out (take 4 (drop place e)) (four ∙ sym rest)
        (λ j lt. answer.1 j lt ∙ present.each (place + j) (omega arith) ∙ sym (get_or-take 4 (drop place e) j 0 (omega arith) ∙ get_or-drop place e j 0)) in
        is ∙ ap (λ (x : List ℕ). big_number 4 x) bytes ∙ ap (λ (x : ℕ). big_number 4 (take 4 (drop x e))) (sym here),
  )

  pub size_unread : {T : Type 0} (r : Result T WalError) (q : Result ℕ WalError) (x : WalError) → IsSoundDisk a → r ≡ Err x → q ≡ Err x → PlaceAnswer Device Log place out r a b → SizeAnswer size frame q a b
  unfolding PlaceAnswer SizeAnswer
  size_unread {T = T} r q x sound was is answer =
      let got = subst (λ (y : Result T WalError). PlaceAnswer Device Log place out y a b) was answer in
      subst (λ (y : Result ℕ WalError). SizeAnswer size frame y a b) (sym is)
      (got.0, got.1, λ e k present le. got.2 (omega (arith, four, here, frame_at-end size frame one, frame_end-le size frame k le, present.long, sound.log.greatest, sound.log.within)))

pub size_still : (size frame : ℕ) (r : Result ℕ WalError) (a b : DiskState) → SizeAnswer size frame r a b → Still a b
unfolding SizeAnswer
size_still size frame (Ok n) a b answer = answer.0
size_still size frame (Err x) a b answer = answer.0

pub size_is : (size frame : ℕ) (r : Result ℕ WalError) (n : ℕ) (a b : DiskState) → r ≡ Ok n → SizeAnswer size frame r a b
    → Still a b × ((e : List ℕ) (k : ℕ) → IsPresent size e k a → frame_end size k ≤ length e → frame ≤ k → n ≡ size_of size e frame)
unfolding SizeAnswer
size_is size frame r n a b was answer = let got = subst (λ (x : Result ℕ WalError). SizeAnswer size frame x a b) was answer in got

-- ---- the log stays

pub keeps_synced : {T : Type 0} (r : Result T WalError) (a b : DiskState) → IsSoundDisk a → SyncStep Device Db r a b → KeepsLog a b
keeps_synced {T = T} r a b sound step =
    let since = since_db [] a.tears step.0 a b step.2.since in record {
      sector = step.2.elsewhere.sector;
      tears = step.2.elsewhere.tears;
      log = step.2.elsewhere.other;
      kept = since.0;
      handed = since.1;
      refused = omega (arith, counted_grows step.0 a.refused sound.refused, step.2.elsewhere.refused);
      sound = sound_syncs Db step.0 a b sound step.2;
      calls = one_sync Db step.0 a b refl step.2;
    }

-- ---- a database is brought over

-- nothing, where the log has no commit yet that all readers see
pub brings_none : {T : Type 0} (size m : ℕ) (t : FrameTable) (v : T) (s : DiskState) → m ≡ 0 → Brings size m t (Ok v) s s
brings_none size m t v s zero logs e n h index mark d c can ends later within =
    let none : c ≡ m = omega arith in (
      (
        subst (λ (k : ℕ). Stands size logs e n h index mark d k s) none can.stands,
        λ db image. subst (λ (k : ℕ). IsJust size (shown h index k) db) (sym zero) ((can.stands.file db image).untouched (none ∙ zero)),
      ),
      no_calls s,
    )

pub brings_unread : {T : Type 0} (size m : ℕ) (t : FrameTable) (r : Result ℕ WalError) (q : Result T WalError) (x : WalError) (a b : DiskState) → r ≡ Err x → q ≡ Err x → SizeAnswer size m r a b → Brings size m t q a b
unfolding SizeAnswer
brings_unread {T = T} size m t r q x a b was is answer logs e n h index mark d c can ends later within =
    let got = subst (λ (y : Result ℕ WalError). SizeAnswer size m y a b) was answer in (
      subst (λ (y : Result T WalError). BroughtTo size logs e n h index mark d m y a b) (sym is)
          (got.1, got.2 e n can.present (omega (arith, can.stands.marks.durable)), (c, stands_still size logs e n h index mark d c a can.stands b got.0)),
      nothing_may a b got.0.calls,
    )

module _ (size m count : ℕ) (t : FrameTable) (a b : DiskState) (some : 1 ≤ m) (read : Still a b × ((e : List ℕ) (k : ℕ) → IsPresent size e k a → frame_end size k ≤ length e → m ≤ k → count ≡ size_of size e m))
    (logs : List (List ℕ)) (e : List ℕ) (n : ℕ) (h : List Database) (index : ℕ → ℕ) (mark d c : ℕ) (can : CanBring size logs e n h index mark d c t a) (ends : IsBoundary size e m) (later : c ≤ m) (within : m ≤ d) where
  within_n : m ≤ n
  within_n = omega (arith, can.stands.marks.durable)

  abbrev now : List ℕ
  now = table b.log.len (byte b.log)

  pub are_now : ArePresent b.log now
  are_now = present_list b.log

  stands : Stands size logs e n h index mark d c b
  stands = stands_still size logs e n h index mark d c a can.stands b read.0

  present : IsPresent size e n b
  present = present_by size e a b n read.0.log can.present

  durable : IsDurable size e m now
  durable =
      let le : frame_end size m ≤ frame_end size n = frame_end-le size m n within_n in
      let long : frame_end size m ≤ length now = omega (arith, are_now.len, present.long) in
      record { long = long; same = same_front now e (frame_end size m) long (omega (arith, stands.era.log.whole)) (λ i lt. are_now.each i (omega (arith, present.long)) ∙ present.each i (omega arith)) }

  pub filling : Filling size (shown h index m) (Unnamed size now m) b
  filling = stands_filling size logs e n h index mark d c b stands m later some within ends now durable

  count_is : count ≡ size_of size now m
  count_is = read.1 e n can.present (omega (arith, can.stands.era.log.whole)) within_n ∙ size_same size e now (frame_end size m) m (sym durable.same) some (omega arith)

  pub long : length (shown h index m) ≡ count
  long = stands_count size logs e n h index mark d c b stands m later some within ends now durable ∙ sym count_is

  small : count * size ≤ most_bytes
  small =
      let held = stands.era.held (index m) (omega (arith, stands.era.last, stands.era.rises m n within_n (omega arith))) in
      subst (λ (k : ℕ). k * size ≤ most_bytes) long held.few

  in_table : IsTable size count now m t
  in_table =
      let upto = table_upto size e n m count t can.table within_n in
      let same : (i : ℕ) → 1 ≤ i → i ≤ m → page_of size e i ≡ page_of size now i = λ i x y. page_same size e now (frame_end size m) i (sym durable.same) x (frame_end-le size i m y) in
      record {
        long = upto.long;
        finds = λ i p x y one low names. upto.finds i p x y one low (same i x y ∙ names);
        found = λ i p x y one low names. sym (same i x y) ∙ upto.found i p x y one low names;
      }

  pub copy : IsCopy size count now m t
  copy = record { valid = stands_valid size logs e n h index mark d c b stands m later some within ends now durable; size_is = count_is; within = omega (arith, small); table = in_table }

  -- by whole pages alone
  pub copies_calls : (g : DiskState) → ((bytes : ℕ) → count * size ≤ bytes → HasCalls (MayFillWithin bytes size) b g) → HasCalls (MayFill size) a g
  copies_calls g calls = calls_then a b g (nothing_may a b read.0.calls) (calls most_bytes small)

  pub settles_calls : {U : Type 0} (g : DiskState) → ((bytes : ℕ) → count * size ≤ bytes → HasCalls (MayFillWithin bytes size) b g) → (z : DiskState) (q : Result U WalError) → SyncStep Device Db q g z → HasCalls (MayFill size) a z
  settles_calls g calls z q step = calls_then a g z (copies_calls g calls) (one_sync Db step.0 g z tt step.2)

  module _ {T : Type 0} (g : DiskState) (r : Result T WalError) (keeps : KeepsLog b g)
      (fills : (w : List ℕ) (x : Database) → ArePresent b.log w → IsCopy size count w m t → length x ≡ count → Filling size x (Unnamed size w m) b → Filling size x (Unnamed size w m) g)
      (copies : (db w : List ℕ) (x : Database) → ArePresent b.db db → ArePresent b.log w → IsCopy size count w m t → length x ≡ count → IsView size db w m x → CopyAnswer Device size x r b g) where
    filled : Filling size (shown h index m) (Unnamed size now m) g
    filled = fills now (shown h index m) are_now copy long filling

    copied : CopyAnswer Device size (shown h index m) r b g
    copied =
        let db : List ℕ = table b.db.len (byte b.db) in
        copies db now (shown h index m) (present_list b.db) are_now copy long (stands_view size logs e n h index mark d c b stands m later some within ends now durable db (present_list b.db))

    stands_filled : Stands size logs e n h index mark d m g
    stands_filled = filling_stands size logs e n h index mark d c b stands m later some within ends now durable g keeps filled

    pub uncopied : {U : Type 0} (q : Result U WalError) (x : WalError) → r ≡ Err x → q ≡ Err x → BroughtTo size logs e n h index mark d m q a g
    unfolding CopyAnswer
    uncopied {U = U} q x was is =
        let got = subst (λ (y : Result T WalError). CopyAnswer Device size (shown h index m) y b g) was copied in
        subst (λ (y : Result U WalError). BroughtTo size logs e n h index mark d m y a g) (sym is)
        (got.0, refusal_after a b g read.0.refused got.1, (m, stands_filled))

    pages : (v : T) → r ≡ Ok v → ArePages size (shown h index m) g.db
    unfolding CopyAnswer
    pages v was = let got = subst (λ (y : Result T WalError). CopyAnswer Device size (shown h index m) y b g) was copied in got

    module _ {U : Type 0} (v : T) (was : r ≡ Ok v) (z : DiskState) where
      just : (u : U) (called : Result U DiskError) → Told Device called (Ok u) → Syncs Db called g z → LeavesJust size (shown h index m) z
      just u (Ok _) told synced = λ db image. settled_just size now m (shown h index m) g z filled (pages v was) synced db image
      just u (Err _) told synced = absurd told

      pub settled : (q : Result U WalError) → SyncStep Device Db q g z → BroughtTo size logs e n h index mark d m q a z
      settled (Ok u) step = (
        stands_syncs size logs e n h index mark d m g z stands_filled Db step.0 step.2,
        just u step.0 step.1 step.2,
      )
      settled (Err x) step =
          let had = sync_refused Device Db (Err x) x g z keeps.sound refl step in
          (had.0, refusal_after a g z (omega (arith, read.0.refused, keeps.refused)) had.1, (m, stands_syncs size logs e n h index mark d m g z stands_filled Db step.0 step.2))
