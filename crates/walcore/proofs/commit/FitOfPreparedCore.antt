-- A core in which memory was taken fits what it fitted.
use Rattle.walcore.proofs.Below.{All, AreTogether, Bool, Bor, Core, DiskState, FitsCore, FrameTable, IsBehind, IsBound, IsCore, IsFaultless, IsHeaderOf, IsIndexed, IsJust, IsPresent, IsReady, IsSumOf, IsTrue, List, None, Past, Prepares, Stands, Sum, WalHeader, [], ap, arith, frame_end, get_or, get_or-map, granted, length, lent, lent_length, newest, page_of, reader_at, room_enough, subst, summed, sym, times, ℕ, ◌+◌, ◌-◌, ◌<◌, ◌∙◌, ◌≡◌, ◌≤◌}

module _ (past : Past) (e : List ℕ) (index : ℕ → ℕ) (d c : ℕ) (a b : Core) (s : DiskState) (same : Prepares a b) where
  at_size : (P : ℕ → Type 0) → P a.page_size → P b.page_size
  at_size P = subst P (sym same.log.page_size)

  at_frames : (P : ℕ → Type 0) → P a.frames → P b.frames
  at_frames P = subst P (sym same.log.frames)

  at_mark : (P : ℕ → Type 0) → P a.mark → P b.mark
  at_mark P = subst P (sym same.marks.mark)

  table_wider : (size n : ℕ) (t u : FrameTable) → u.pages ≡ t.pages → t.bound ≤ u.bound → IsIndexed size e n t → IsIndexed size e n u
  table_wider size n t u pages wider table = record {
    count = ap length pages ∙ table.count;
    each = λ i x y. let was = table.each i x y in (ap (λ (z : List ℕ). get_or z (i - 1) 0) pages ∙ was.0, omega (arith, was.1));
  }

  pub core_prepared : IsCore past e index d c a s → IsCore past e index d c b s
  core_prepared is = record {
    newest_log = is.newest_log;
    stands = at_size (λ x. Stands x past.made.logs e b.frames past.state.history index b.mark d c s) (at_frames (λ x. Stands a.page_size past.made.logs e x past.state.history index b.mark d c s)
        (at_mark (λ x. Stands a.page_size past.made.logs e a.frames past.state.history index x d c s) is.stands));
    floor = is.floor;
    begun = at_mark (λ x. c ≤ x) is.begun;
    behind = at_size (λ x. IsBehind x d (frame_end x b.frames) s) (at_frames (λ x. IsBehind a.page_size d (frame_end a.page_size x) s) is.behind);
    present = at_size (λ x. IsPresent x e b.frames s) (at_frames (λ x. IsPresent a.page_size e x s) is.present);
    header = subst (λ (x : WalHeader). IsHeaderOf e x) (sym same.log.header) is.header;
    sum = subst (λ (x : WalHeader). IsSumOf x.order (summed b.page_size e b.frames) b.sum) (sym same.log.header) (subst (λ (x : Sum). IsSumOf a.header.order (summed b.page_size e b.frames) x) (sym same.log.sum)
        (at_size (λ x. IsSumOf a.header.order (summed x e b.frames) a.sum) (at_frames (λ x. IsSumOf a.header.order (summed a.page_size e x) a.sum) is.sum)));
    table = at_size (λ x. IsIndexed x e b.frames b.index) (at_frames (λ x. IsIndexed a.page_size e x b.index) (table_wider a.page_size a.frames a.index b.index same.log.pages same.log.bound is.table));
    last = at_size (λ x. 1 ≤ b.frames → b.last_page ≡ page_of x e b.frames) (at_frames (λ x. 1 ≤ x → b.last_page ≡ page_of a.page_size e x) (λ some. same.log.last_page ∙ is.last some));
    room = b.room;
    size = same.marks.size ∙ is.size;
    used = same.used ∙ is.used;
    few = (b.few, b.most);
    unsynced = same.unsynced ∙ is.unsynced;
    drained = same.marks.drained ∙ is.drained;
    filed = λ drained. let was = is.filed (subst (λ (x : Bool). IsTrue x) same.marks.drained drained) in
        (same.unsynced ∙ was.0, λ db image. at_size (λ x. IsJust x (newest past.state.history) db) (was.1 db image));
    some = λ yes. at_frames (λ x. 1 ≤ x) (is.some (sym same.unsynced ∙ yes));
    durable = λ z. let was = is.durable (sym same.unsynced ∙ z) in record { commit = at_mark (λ x. x ≤ d) was.commit; all = λ whole. was.all whole ∙ sym same.log.frames };
    readers = λ number. at_size (λ x. AreTogether (IsBound x e index b.mark c past.state) (reader_at past.state number) (get_or past.tokens number None))
        (at_mark (λ x. AreTogether (IsBound a.page_size e index x c past.state) (reader_at past.state number) (get_or past.tokens number None)) (is.readers number));
    page = b.framed;
  }

pub fits_prepared : (past : Past) (a b : Core) (s : DiskState) → Prepares a b → FitsCore past a s → FitsCore past b s
fits_prepared past a b s same fits = record {
  disk = fits.disk;
  page_size = same.log.page_size ∙ fits.page_size;
  is_open = same.marks.is_open ∙ fits.is_open;
  core = λ opened. let was = fits.core (subst (λ (x : Bool). IsTrue x) same.marks.is_open opened) in
      (was.0, was.1, was.2, was.3, core_prepared past was.0 was.1 was.2 was.3 a b s same was.4);
  count = fits.count;
  together = fits.together;
  marks = λ m. ap (λ (x : List ℕ). times m x) (ap (λ x. x.items) same.marks.marks) ∙ fits.marks m;
}

-- ---- what is ready

module _ (pages : List (ℕ × Bor (List ℕ))) (size : ℕ) (core : Core) (ready : IsReady pages size core) where
  pub ready_granted : IsFaultless core.size core.page_size (lent pages) size
  ready_granted = granted core.size core.page_size core.used (lent pages) size ready.granted

  pub ready_pages : All (λ x. (length x.1.now ≡ core.page_size) × (x.0 ≤ core.index.bound)) pages
  ready_pages k d lt =
      let within : k < length (lent pages) = omega (arith, lent_length pages) in
      let at : get_or {A = ℕ × List ℕ} (lent pages) k (0, []) ≡ ((get_or pages k d).0, (get_or pages k d).1.now) = get_or-map (λ p. (p.0, p.1.now)) pages k d (0, []) lt in (
        ap (λ (p : ℕ × List ℕ). length p.1) (sym at) ∙ ready_granted.full k within,
        omega (arith, ap (λ (p : ℕ × List ℕ). p.0) at, ready_granted.within k within, ready.bound),
      )

  pub ready_most : core.used + length pages ≤ 1048576
  ready_most = omega (arith, room_enough core.size core.page_size core.used (lent pages) size ready.granted, lent_length pages)
