-- A checkpoint: the pages that frames name are written into the file, and what stands on the disk stands still.
use Rattle.walcore.proofs.Between.{ArePages, ArePresent, Database, Db, DiskState, Filling, IsBoundary, IsCommit, IsDurable, IsImage, IsJust, IsOver, IsValidFrame, IsView, KeepsLog, List, Ok, Stands, Still, Syncs, Unnamed, all_same, ap, arith, byte, file_page, filled_just, filling_other, frame_end, get_or, get_or-file_page, image_still, inl, length, one_synced, over_same, page, present_image, present_list, refl, shown, size_of, size_same, subst, suits_still, sym, table, take, unnamed_same, ℕ, ⊎_elim, ◌∙◌, ◌≡◌, ◌≤◌}
use Rattle.walcore.proofs.log.DurableFrames.{holds_elsewhere}

module _ (size : ℕ) (logs : List (List ℕ)) (e : List ℕ) (n : ℕ) (h : List Database) (index : ℕ → ℕ) (mark d c : ℕ) (s : DiskState) (stands : Stands size logs e n h index mark d c s) where
  -- calls that changed no byte
  pub stands_still : (t : DiskState) → Still s t → Stands size logs e n h index mark d c t
  stands_still t still = record {
    suits = suits_still size s t stands.suits still;
    are_made = stands.are_made;
    in_made = stands.in_made;
    era = stands.era;
    marks = stands.marks;
    log = holds_elsewhere size e d s t still.sector still.tears still.log (still.kept, still.handed) stands.log;
    file = λ db image. stands.file db (image_still s t still db image);
  }

  -- up to frame m, which no checkpoint went beyond, from a log w that has the frames up to it
  module _ (m : ℕ) (later : c ≤ m) (some : 1 ≤ m) (within : m ≤ d) (ends : IsBoundary size e m) (w : List ℕ) (durable : IsDurable size e m w) where
    within_n : m ≤ n
    within_n = omega (arith, stands.marks.durable)

    same : take (frame_end size m) e ≡ take (frame_end size m) w
    same = sym durable.same

    commit : IsCommit size e m
    commit = ⊎_elim (λ z. absurd (omega arith)) (λ is. is) ends

    over : IsOver size (page (shown h index 0)) w m (shown h index m)
    over = over_same size (page (shown h index 0)) e w (frame_end size m) m (shown h index m) same (omega arith) (stands.era.shows m within_n ends)

    unnamed : (p : ℕ) → Unnamed size w m p → Unnamed size e m p
    unnamed p un = unnamed_same size w e (frame_end size m) m p durable.same (omega arith) un

    -- a page that no frame up to m names has its bytes in each file that a crash may leave
    other : (p : ℕ) → 1 ≤ p → p ≤ length (shown h index m) → Unnamed size w m p → (db : List ℕ) → IsImage s.sector s.tears s.db db → page (shown h index m) p ≡ file_page size db p
    other p a b un db image =
        over.other p a b un
        ∙ (stands.file db image).rest p a
        (stands.era.grows 0 m p (omega arith) within_n (inl refl) ends a b (λ i x y. unnamed p un i x y))
        (stands.era.grows c m p later within_n stands.marks.begun_ends ends a b (λ i x y. unnamed p un i (omega arith) y))
        (λ i x y. unnamed p un i x (omega arith))

    pub stands_valid : IsValidFrame size w m
    stands_valid = record { first = some; each = all_same size e w (frame_end size m) m same (omega arith) durable.long (λ j a b. stands.era.log.all j a (omega (arith, within_n))) }

    pub stands_count : length (shown h index m) ≡ size_of size w m
    stands_count = stands.era.sizes m some within_n commit ∙ size_same size e w (frame_end size m) m same some (omega arith)

    -- the view of the present file
    pub stands_view : (db : List ℕ) → ArePresent s.db db → IsView size db w m (shown h index m)
    stands_view db are = record {
      none = λ z. absurd (omega arith);
      some = λ one. stands_count;
      over = record { logged = over.logged; other = λ p a b un. other p a b un db (present_image s.sector s.tears s.db db stands.suits.sound.db are) };
    }

    -- Where it begins the file has the pages that it leaves alone.
    pub stands_filling : Filling size (shown h index m) (Unnamed size w m) s
    stands_filling = record {
      suits = stands.suits;
      full = λ p a b. (stands.era.held (index m) (omega (arith, stands.era.last, stands.era.rises m n within_n (omega arith)))).full p a b;
      steady = λ p i a b un lt db image. sym (get_or-file_page size db p i lt) ∙ ap (λ (x : List ℕ). get_or x i 0) (sym (other p a b un db image));
    }

    -- While it goes on, and whatever it answers, what stood on the disk stands, with checkpoints begun up to m.
    pub filling_stands : (t : DiskState) → KeepsLog s t → Filling size (shown h index m) (Unnamed size w m) t → Stands size logs e n h index mark d m t
    filling_stands t keeps filling = record {
      suits = filling.suits;
      are_made = stands.are_made;
      in_made = stands.in_made;
      era = stands.era;
      marks = record { durable = stands.marks.durable; durable_ends = stands.marks.durable_ends; begun = within; begun_ends = ends };
      log = holds_elsewhere size e d s t keeps.sector keeps.tears keeps.log (keeps.kept, keeps.handed) stands.log;
      file = λ db image. record {
        untouched = λ z. absurd (omega arith);
        rest = λ p a b b_m un.
            let un_w : Unnamed size w m p = unnamed_same size e w (frame_end size m) m p same (omega arith) un in
            sym (over.other p a b_m un_w) ∙ filling_other size (shown h index m) (Unnamed size w m) t db filling image p a b_m un_w;
      };
    }

-- A sync of the file that succeeds, when all its pages are there, leaves just the database.
pub settled_just : {T : Type 0} {u : T} (size : ℕ) (w : List ℕ) (m : ℕ) (d : Database) (s t : DiskState) → Filling size d (Unnamed size w m) s → ArePages size d s.db → Syncs Db (Ok u) s t → (db : List ℕ) → IsImage t.sector t.tears t.db db → IsJust size d db
settled_just size w m d s t filling pages synced db image =
    let bytes : List ℕ = table s.db.len (byte s.db) in
    let are : ArePresent s.db bytes = present_list s.db in
    let is : db ≡ bytes = one_synced Db s t bytes filling.suits.sound.db synced are db image in
    subst (λ (x : List ℕ). IsJust size d x) (sym is) (filled_just size d (Unnamed size w m) s bytes filling pages are)
