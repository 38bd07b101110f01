-- What fits an engine still fits after calls that change nothing of its files.
use Rattle.walcore.proofs.Between.{Act, Answer, AreTogether, AreWhole, Bool, Core, Database, DiskState, FileState, FitsCore, FitsDisk, FrameTable, IsBehind, IsBound, IsCore, IsHeaderOf, IsImage, IsIndexed, IsJust, IsLeft, IsPresent, IsSumOf, IsTrue, List, Makes, MayBeRead, None, Past, Refused, SameFiles, Stands, Step, StepsTo, Still, Sum, WalHeader, ap, cond, false, frame_end, get_or, image_same, inl, inr, most_pages, newest, nothing_may, page_of, present_by, present_in, reader_at, refl, same_files, subst, suits_same, summed, sym, times, wal_log, ℕ, ◌*◌, ◌+◌, ◌<◌, ◌∙◌, ◌≡◌, ◌≤◌}
use Rattle.walcore.proofs.log.DurableFrames.{holds_elsewhere}
use Rattle.walcore.proofs.disk.DiskInvariantUnderCalls.{stands_by}
use Rattle.walcore.proofs.sync.LogWithRepeatedFrame.{behind_same}

-- ---- the disk

module _ (s t : DiskState) (still : SameFiles s t) where
  image_of_log : (tears : Bool) (w : List ℕ) → IsImage t.sector tears t.log w → IsImage s.sector tears s.log w
  image_of_log tears w image = subst (λ (n : ℕ). IsImage n tears s.log w) still.sector (subst (λ (x : FileState). IsImage t.sector tears x w) still.log image)

  pub may_still : (w : List ℕ) → MayBeRead wal_log t w → MayBeRead wal_log s w
  may_still w (inl image) = inl (image_of_log false w image)
  may_still w (inr left) = inr (record {
    image = subst (λ (b : Bool). IsImage s.sector b s.log w) still.tears (image_of_log t.tears w left.image);
    whole = λ torn. subst (λ (k : List ℕ). AreWhole k s.handed w) still.kept (subst (λ (h : List (ℕ × List ℕ)). AreWhole t.kept h w) still.handed (left.whole (still.tears ∙ torn)));
  })

  left_still : (size : ℕ) (logs : List (List ℕ)) (h : List Database) (floor : ℕ) → IsLeft size logs h floor s → IsLeft size logs h floor t
  left_still size logs h floor (inl both) = inl (λ w may chance. (let was = both.0 w (may_still w may) chance in (was.0, was.1, was.2, λ db image. was.3 db (image_same s t still db image))), λ w may. both.1 w (may_still w may))
  left_still size logs h floor (inr one) = inr (one.0, one.1, one.2, λ db w image may. one.3 db w (image_same s t still db image) (may_still w may))

  pub fits_disk_still : (past : Past) → FitsDisk past s → FitsDisk past t
  fits_disk_still past fits = record {
    suits = suits_same past.state.page_size s t fits.suits still;
    floor = fits.floor;
    held = fits.held;
    made = fits.made;
    left = left_still past.state.page_size past.made.logs past.state.history past.state.floor fits.left;
    present = λ opened files are. fits.present opened files (record { db = present_in t.db s.db files.db (sym still.db) are.db; log = present_in t.log s.log files.log (sym still.log) are.log });
  }

  pub stands_still : (size : ℕ) (logs : List (List ℕ)) (e : List ℕ) (n : ℕ) (h : List Database) (index : ℕ → ℕ) (mark d c : ℕ) → Stands size logs e n h index mark d c s → Stands size logs e n h index mark d c t
  stands_still size logs e n h index mark d c stands = stands_by size logs e n h index mark d c s t stands d (suits_same size s t stands.suits still) stands.marks
      (holds_elsewhere size e d s t still.sector still.tears still.log (still.kept, still.handed) stands.log)
      (image_same s t still)

-- ---- the core

-- two cores that differ in nothing but their readers' marks and what stands in their buffers
pub record SameCore (a b : Core) : Type 0 where
  pub page_size : b.page_size ≡ a.page_size
  pub is_open : b.is_open ≡ a.is_open
  pub drained : b.drained ≡ a.drained
  pub header : b.header ≡ a.header
  pub sum : b.sum ≡ a.sum
  pub frames : b.frames ≡ a.frames
  pub mark : b.mark ≡ a.mark
  pub last_page : b.last_page ≡ a.last_page
  pub size : b.size ≡ a.size
  pub used : b.used ≡ a.used
  pub unsynced : b.unsynced ≡ a.unsynced
  pub index : b.index ≡ a.index

pub same_core : (a : Core) → SameCore a a
same_core a = record { page_size = refl; is_open = refl; drained = refl; header = refl; sum = refl; frames = refl; mark = refl; last_page = refl; size = refl; used = refl; unsynced = refl; index = refl }

-- the same log, on a disk of which no byte has changed
module _ (past : Past) (e : List ℕ) (index : ℕ → ℕ) (d c : ℕ) (a b : Core) (s t : DiskState) (same : SameCore a b) (still : SameFiles s t) where
  at_size : (P : ℕ → Type 0) → P a.page_size → P b.page_size
  at_size P = subst P (sym same.page_size)

  at_frames : (P : ℕ → Type 0) → P a.frames → P b.frames
  at_frames P = subst P (sym same.frames)

  at_mark : (P : ℕ → Type 0) → P a.mark → P b.mark
  at_mark P = subst P (sym same.mark)

  pub core_same : IsCore past e index d c a s → IsCore past e index d c b t
  core_same is = record {
    newest_log = is.newest_log;
    stands = at_size (λ x. Stands x past.made.logs e b.frames past.state.history index b.mark d c t) (at_frames (λ x. Stands a.page_size past.made.logs e x past.state.history index b.mark d c t)
        (at_mark (λ x. Stands a.page_size past.made.logs e a.frames past.state.history index x d c t) (stands_still s t still a.page_size past.made.logs e a.frames past.state.history index a.mark d c is.stands)));
    floor = is.floor;
    begun = at_mark (λ x. c ≤ x) is.begun;
    behind = at_size (λ x. IsBehind x d (frame_end x b.frames) t) (at_frames (λ x. IsBehind a.page_size d (frame_end a.page_size x) t) (behind_same a.page_size d (frame_end a.page_size a.frames) s t still.sector still.tears is.behind));
    present = at_size (λ x. IsPresent x e b.frames t) (at_frames (λ x. IsPresent a.page_size e x t) (present_by a.page_size e s t a.frames still.log is.present));
    header = subst (λ (x : WalHeader). IsHeaderOf e x) (sym same.header) is.header;
    sum = subst (λ (x : WalHeader). IsSumOf x.order (summed b.page_size e b.frames) b.sum) (sym same.header) (subst (λ (x : Sum). IsSumOf a.header.order (summed b.page_size e b.frames) x) (sym same.sum)
        (at_size (λ x. IsSumOf a.header.order (summed x e b.frames) a.sum) (at_frames (λ x. IsSumOf a.header.order (summed a.page_size e x) a.sum) is.sum)));
    table = at_size (λ x. IsIndexed x e b.frames b.index) (at_frames (λ x. IsIndexed a.page_size e x b.index) (subst (λ (x : FrameTable). IsIndexed a.page_size e a.frames x) (sym same.index) is.table));
    last = at_size (λ x. 1 ≤ b.frames → b.last_page ≡ page_of x e b.frames) (at_frames (λ x. 1 ≤ x → b.last_page ≡ page_of a.page_size e x) (λ some. same.last_page ∙ is.last some));
    room = subst (λ (x : FrameTable). b.frames + cond b.unsynced 1 0 ≤ x.room) (sym same.index) (at_frames (λ x. x + cond b.unsynced 1 0 ≤ a.index.room) (subst (λ (x : Bool). a.frames + cond x 1 0 ≤ a.index.room) (sym same.unsynced) is.room));
    size = same.size ∙ is.size;
    used = same.used ∙ is.used;
    few = subst (λ (x : ℕ). (b.frames + cond b.unsynced 1 0 ≤ 2 * x) × (x ≤ most_pages)) (sym same.used) (at_frames (λ x. (x + cond b.unsynced 1 0 ≤ 2 * a.used) × (a.used ≤ most_pages))
        (subst (λ (x : Bool). (a.frames + cond x 1 0 ≤ 2 * a.used) × (a.used ≤ most_pages)) (sym same.unsynced) is.few));
    unsynced = same.unsynced ∙ is.unsynced;
    drained = same.drained ∙ is.drained;
    some = λ yes. at_frames (λ x. 1 ≤ x) (is.some (sym same.unsynced ∙ yes));
    durable = λ synced. let was = is.durable (sym same.unsynced ∙ synced) in
        record { commit = at_mark (λ x. x ≤ d) was.commit; all = λ whole. was.all (sym still.tears ∙ whole) ∙ sym same.frames };
    filed = λ drained. let was = is.filed (subst (λ (x : Bool). IsTrue x) same.drained drained) in
        (same.unsynced ∙ was.0, λ db image. at_size (λ x. IsJust x (newest past.state.history) db) (was.1 db (image_same s t still db image)));
    readers = λ number. at_size (λ x. AreTogether (IsBound x e index b.mark c past.state) (reader_at past.state number) (get_or past.tokens number None))
        (at_mark (λ x. AreTogether (IsBound a.page_size e index x c past.state) (reader_at past.state number) (get_or past.tokens number None)) (is.readers number));
    page = b.framed;
  }

-- ---- the whole

module _ (a b : Core) (s t : DiskState) (same : SameCore a b) (still : SameFiles s t) where
  pub fits_same : (past : Past) → b.marks.items ≡ a.marks.items → FitsCore past a s → FitsCore past b t
  fits_same past marks fits = record {
    disk = fits_disk_still s t still past fits.disk;
    page_size = same.page_size ∙ fits.page_size;
    is_open = same.is_open ∙ fits.is_open;
    core = λ opened. let was = fits.core (subst (λ (x : Bool). IsTrue x) same.is_open opened) in
        (was.0, was.1, was.2, was.3, core_same past was.0 was.1 was.2 was.3 a b s t same still was.4);
    count = fits.count;
    together = fits.together;
    marks = λ m. ap (times m) marks ∙ fits.marks m;
  }

module _ (a b : Core) (s t : DiskState) (same : SameCore a b) (still : Still s t) where
  -- a row of the machine that doesn't step
  pub stays : (past : Past) (act : Act) (answer : Answer) → b.marks.items ≡ a.marks.items → FitsCore past a s → (s.refused < t.refused → answer ≡ Refused 15)
      → Step past.state act answer s.refused t.refused past.state
      → Makes past.state.page_size s.sector s.tears past.made act answer past.made
      → StepsTo past past.tokens act answer b s t
  stays past act answer marks fits told step makes = record { next = past.state; made = past.made; same = record { sector = still.sector; tears = still.tears; calls = nothing_may s t still.calls }; refused = still.refused; told = told; row = step; makes = makes; fits = fits_same a b s t same (same_files s t still) past marks fits }
