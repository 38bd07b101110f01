-- A core over a log without frames fits.
use Rattle.walcore.proofs.Between.{AreTogether, Bool, Core, Database, DiskState, FitsCore, FitsDisk, IsBound, IsCore, IsHeaderOf, IsImage, IsJust, IsNewCore, IsPresent, IsSumOf, List, NewLog, None, Option, Past, Reader, Some, Stands, ap, arith, cond, false, frame_end, frame_end-le, get_or, has_mark, inl, length, newest, present_image, present_last, reader_at, refl, stands_shows, subst, summed, sym, times, true, ℕ, ◌+◌, ◌-◌, ◌<◌, ◌∙◌, ◌∷◌, ◌≡◌}
use Rattle.std.proofs.Common.{sum_by}
use Rattle.walcore.proofs.sync.LogWithRepeatedFrame.{behind_none}

-- the place of the last database
abbrev pub at_last : List Database → ℕ → ℕ
at_last h i = length h - 1

none_of : (Reads : ℕ → Reader → Type 0) (i : Option ℕ) (r : Option Reader) → i ≡ None → r ≡ None → AreTogether Reads i r
none_of Reads None None a b = tt
none_of Reads (Some x) r a b = absurd (cc a)
none_of Reads None (Some y) a b = absurd (cc b)

-- no reader is open
pub record HasNoReader (past : Past) : Type 0 where
  pub readers : (number : ℕ) → reader_at past.state number ≡ None
  pub tokens : (number : ℕ) → get_or past.tokens number None ≡ None
  pub marks : (m : ℕ) → sum_by (has_mark m) past.tokens ≡ 0
  pub count : length past.tokens ≡ length past.state.readers

module _ (past : Past) (f : List ℕ) (t : DiskState) (low : past.state.floor < length past.state.history) (stands : Stands past.state.page_size past.made.logs f 0 past.state.history (at_last past.state.history) 0 0 0 t) (present : IsPresent past.state.page_size f 0 t) where
  fresh_disk : FitsDisk past t
  fresh_disk = record {
    suits = stands.suits;
    floor = low;
    held = stands.era.held;
    made = stands.are_made;
    left = inl (stands_shows past.state.page_size past.made.logs f 0 past.state.history (at_last past.state.history) 0 0 0 t stands past.state.floor (omega (arith, low)));
    present = λ opens files are chance.
        present_last past.state.page_size past.made.logs f 0 past.state.history (at_last past.state.history) 0 0 0 t stands present files.log are.log chance files.db
        (present_image t.sector t.tears t.db files.db stands.suits.sound.db are.db);
  }

  module _ (earlier : List (List ℕ)) (newest_log : past.made.logs ≡ f ∷ earlier) (unsynced : past.made.unsynced ≡ false) (opens : past.state.is_open ≡ true) (drained : past.state.drained ≡ true) (used : past.state.used ≡ 0) (none : HasNoReader past)
      (n : ℕ) (count : n ≡ length (newest past.state.history)) (l : NewLog) (core : Core) (is_new : IsNewCore past.state.page_size n l core) (header : IsHeaderOf f core.header) (sum : IsSumOf core.header.order (summed past.state.page_size f 0) core.sum) where
    empty : core.frames + cond core.unsynced 1 0 ≡ 0
    empty = ap (λ (k : ℕ). k + cond core.unsynced 1 0) is_new.frames ∙ ap (λ (b : Bool). 0 + cond b 1 0) is_new.unsynced

    at_mark : Stands past.state.page_size past.made.logs f 0 past.state.history (at_last past.state.history) core.mark 0 0 t
    at_mark = subst (λ (k : ℕ). Stands past.state.page_size past.made.logs f 0 past.state.history (at_last past.state.history) k 0 0 t) (sym is_new.mark) stands

    at_frames : Stands past.state.page_size past.made.logs f core.frames past.state.history (at_last past.state.history) core.mark 0 0 t
    at_frames = subst (λ (k : ℕ). Stands past.state.page_size past.made.logs f k past.state.history (at_last past.state.history) core.mark 0 0 t) (sym is_new.frames) at_mark

    at_size : Stands core.page_size past.made.logs f core.frames past.state.history (at_last past.state.history) core.mark 0 0 t
    at_size = subst (λ (k : ℕ). Stands k past.made.logs f core.frames past.state.history (at_last past.state.history) core.mark 0 0 t) (sym is_new.page_size) at_frames

    just_newest : (db : List ℕ) → IsImage t.sector t.tears t.db db → IsJust core.page_size (newest past.state.history) db
    just_newest db image = subst (λ (k : ℕ). IsJust k (newest past.state.history) db) (sym is_new.page_size) ((stands.file db image).untouched refl)

    core_held : IsCore past f (at_last past.state.history) 0 0 core t
    core_held = record {
      newest_log = (earlier, newest_log);
      stands = at_size;
      floor = omega (arith, low);
      begun = omega arith;
      behind = behind_none core.page_size 0 t (frame_end core.page_size core.frames) refl (frame_end-le core.page_size 0 core.frames (omega arith));
      present = subst (λ (k : ℕ). IsPresent k f core.frames t) (sym is_new.page_size) (subst (λ (k : ℕ). IsPresent past.state.page_size f k t) (sym is_new.frames) present);
      header = header;
      sum = subst (λ (k : ℕ). IsSumOf core.header.order (summed k f core.frames) core.sum) (sym is_new.page_size) (subst (λ (k : ℕ). IsSumOf core.header.order (summed past.state.page_size f k) core.sum) (sym is_new.frames) sum);
      table = record { count = ap (λ (xs : List ℕ). length xs) is_new.no_pages ∙ sym is_new.frames; each = λ i one le. absurd (omega (arith, is_new.frames)) };
      last = λ one. absurd (omega (arith, is_new.frames));
      room = omega (arith, empty);
      size = is_new.size ∙ count;
      used = is_new.used ∙ sym used;
      few = (omega (arith, empty), omega (arith, is_new.used));
      unsynced = is_new.unsynced ∙ sym unsynced;
      some = λ yes. absurd (let bad : true ≡ false = sym yes ∙ is_new.unsynced in cc);
      drained = is_new.drained ∙ sym drained;
      durable = λ z. record { commit = omega (arith, is_new.mark); all = λ whole. sym is_new.frames };
      filed = λ is. (is_new.unsynced, just_newest);
      readers = λ number. none_of (IsBound core.page_size f (at_last past.state.history) core.mark 0 past.state) (reader_at past.state number) (get_or past.tokens number None) (none.readers number) (none.tokens number);
      page = is_new.frame ∙ ap (λ (k : ℕ). 24 + k) (sym is_new.page_size);
    }

    pub fresh_core : FitsCore past core t
    fresh_core = record {
      disk = fresh_disk;
      page_size = is_new.page_size;
      is_open = is_new.is_open ∙ sym opens;
      core = λ is. (f, at_last past.state.history, 0, 0, core_held);
      count = none.count;
      together = λ number. none_of (λ i r. Unit {0}) (reader_at past.state number) (get_or past.tokens number None) (none.readers number) (none.tokens number);
      marks = λ m. ap (λ (xs : List ℕ). times m xs) is_new.marks ∙ sym (none.marks m);
    }
