-- A sync steps to all commits being durable.
use Rattle.walcore.proofs.Facts.{AreFiles, AreTogether, Bool, CallSyncs, Closes, Core, Device, DiskError, DiskState, Done, Err, Files, FitsCore, FramesAnswer, Going, HadRefusal, IsBehind, IsBound, IsCore, IsImage, IsIndexed, IsJust, IsNewestDurable, IsPresent, IsRepeated, IsSameDisk, IsSumOf, IsTrue, KnowsLast, KnowsLog, List, Log, Made, MadeByCopy, MadeBySync, MayChange, NoChance, None, Ok, Option, Past, Reader, Refused, Refuses, RestAnswer, Rests, Result, ShowsWhole, Some, Stands, StepsTo, SyncStep, SyncsBehind, SyncsBy, SyncsCopy, WalError, [], answered, ap, arith, behind_copy, behind_even, behind_same, behind_whole, boundary_same, call_refusal, calls_then, closed, cond, content_of, copies_may, counted_grows, disk_by, extended_front, facts_stand, false, frame_end, frame_end-le, get_or, had_refusal, image_elsewhere, index_to, index_to-low, inl, inr, is_due, knows_same, last, length, lit≤, most_frames, nat_tests, newest, not, number_of, one_sync, page_of, present_bytes, present_image, present_last, present_syncs, reader_at, refl, refusal_after, repeated_stands, sector_some, size_of, stands_fewer, stands_synced, stands_syncs, subst, suc, summed, sym, synced, take, times, told_err, told_ok, true, wal_log, ℕ, ⊎_elim, ◌%◌, ◌&&◌, ◌*◌, ◌+◌, ◌-◌, ◌/◌, ◌==◌, ◌∙◌, ◌∷◌, ◌≡◌, ◌≤◌, ◌⊎◌}
use Rattle.walcore.specs.Machine.{Syncs}
use Rattle.walcore.specs.internal.Syncing.{Repeats}
use Rattle.walcore.proofs.sync.CopyOfLastFrame.{repeated_exists}
use Rattle.walcore.proofs.commit.FitAfterCommit.{together_map}

-- what is present shows the newest database
pub present_newest : (past : Past) (e : List ℕ) (n : ℕ) (index : ℕ → ℕ) (mark d c size : ℕ) (s : DiskState) → Stands size past.made.logs e n past.state.history index mark d c s → IsPresent size e n s
    → (files : Files) → AreFiles s files → NoChance past.made.logs files.log → ShowsWhole wal_log size files.db files.log (newest past.state.history)
present_newest past e n index mark d c size s stands present files are chance =
    let shows = present_last size past.made.logs e n past.state.history index mark d c s stands present files.log are.log chance files.db (present_image s.sector s.tears s.db files.db stands.suits.sound.db are.db) in
    subst (λ (k : ℕ). ShowsWhole wal_log size files.db files.log (get_or past.state.history k [])) (let k : index n ≡ length past.state.history - 1 = omega (arith, stands.era.last) in k) shows

-- of the log f the frames 1 to d are durable, and the next one goes behind the n frames that a core knows
record Lies (core mid : Core) (f : List ℕ) (n d : ℕ) (t : DiskState) : Type 0 where
  newest : IsNewestDurable core.mark n d t.tears
  behind : IsBehind core.page_size d (frame_end core.page_size n) t
  knows : KnowsLog f n mid t

-- what a sync leaves as it was
record Stays (past : Past) (core : Core) (f : List ℕ) (index : ℕ → ℕ) (c : ℕ) (t : DiskState) : Type 0 where
  begun : c ≤ core.mark
  size_is : core.size ≡ length (newest past.state.history)
  used : core.used ≡ past.state.used
  drained : core.drained ≡ past.state.drained
  filed : IsTrue core.drained → (db : List ℕ) → IsImage t.sector t.tears t.db db → IsJust core.page_size (newest past.state.history) db
  readers : (number : ℕ) → AreTogether (IsBound core.page_size f index core.mark c past.state) (reader_at past.state number) (get_or past.tokens number None)

-- ---- the step, where the log is f with n frames from then on

module _ (past : Past) (core mid then : Core) (s t : DiskState) (fits : FitsCore past core s) (opened : IsTrue core.is_open) (repeats : Repeats core mid) (f : List ℕ) (rest : List (List ℕ)) (n : ℕ) (index : ℕ → ℕ) (d c : ℕ)
    (made : MadeBySync past.state.page_size s.sector s.tears past.made.logs past.made (record { logs = f ∷ rest; unsynced = false })) (same : IsSameDisk (MayChange Syncs past.state.page_size (f ∷ rest)) s t) (refused : s.refused ≤ t.refused)
    (stands : Stands core.page_size (f ∷ rest) f n past.state.history index core.mark d c t) where
  granted : call_refusal past.state ≡ None
  granted = ap (λ (b : Bool). cond (not b) (Some 1) (let none : Option ℕ = None in none)) (sym fits.is_open ∙ opened)

  logs_new : Made
  logs_new = record { logs = f ∷ rest; unsynced = false }

  reads_on : (size mark i : ℕ) (r : Reader) → IsBound size f index mark c past.state i r → IsBound size f index mark c (synced past.state) i r
  reads_on size mark i r bound = record { within = bound.within; boundary = bound.boundary; begun = bound.begun; place = bound.place; size_is = bound.size_is }

  sync_done : t.refused ≡ s.refused → Lies core mid f n d t → Stays past core f index c t → Rests mid then → StepsTo past past.tokens Syncs Done then s t
  unfolding logs_new
  sync_done quiet durable stays rests =
      let knows : KnowsLog f n then t = knows_same f n mid then t rests.log durable.knows in
      let low : last past.state.history ≤ index d = omega (arith, stands.era.last, stands.era.marked.2, stands.era.rises core.mark d durable.newest.commit stands.marks.durable) in
      let new : Past = record { state = synced past.state; made = logs_new; tokens = past.tokens } in
      let at_size : then.page_size ≡ core.page_size = rests.log.page_size ∙ repeats.page_size in
      let at_mark : then.mark ≡ core.mark = rests.marks.mark ∙ repeats.marks.mark in
      let at_drained : then.drained ≡ core.drained = rests.marks.drained ∙ repeats.marks.drained in
      let to_page : (P : ℕ → Type 0) → P core.page_size → P then.page_size = λ P. subst P (sym at_size) in
      let to_frames : (P : ℕ → Type 0) → P n → P then.frames = λ P. subst P (sym knows.frames) in
      let to_mark : (P : ℕ → Type 0) → P core.mark → P then.mark = λ P. subst P (sym at_mark) in
      record {
        next = synced past.state;
        made = logs_new;
        same = same;
        refused = refused;
        told = λ more. absurd (omega (arith, quiet, more));
        row = (granted, refl);
        makes = made;
        fits = record {
          disk = disk_by new core.page_size past.state.history (last past.state.history) t (facts_stand core.page_size (f ∷ rest) f n past.state.history index core.mark d c t stands (last past.state.history) low) fits.page_size refl refl
              (λ yes files are chance. subst (λ (x : ℕ). ShowsWhole wal_log x files.db files.log (newest past.state.history)) fits.page_size
              (present_newest new f n index core.mark d c core.page_size t stands (subst (λ (x : ℕ). IsPresent x f n t) repeats.page_size durable.knows.present) files are chance));
          page_size = at_size ∙ fits.page_size;
          is_open = rests.marks.is_open ∙ repeats.marks.is_open ∙ fits.is_open;
          core = λ yes. (
            f,
            index,
            d,
            c,
            record {
              newest_log = (rest, refl);
              stands = to_page (λ x. Stands x (f ∷ rest) f then.frames past.state.history index then.mark d c t) (to_frames (λ x. Stands core.page_size (f ∷ rest) f x past.state.history index then.mark d c t)
                  (to_mark (λ x. Stands core.page_size (f ∷ rest) f n past.state.history index x d c t) stands));
              floor = low;
              begun = to_mark (λ x. c ≤ x) stays.begun;
              behind = to_page (λ x. IsBehind x d (frame_end x then.frames) t) (to_frames (λ x. IsBehind core.page_size d (frame_end core.page_size x) t) durable.behind);
              present = to_frames (λ x. IsPresent then.page_size f x t) knows.present;
              header = knows.header;
              sum = to_frames (λ x. IsSumOf then.header.order (summed then.page_size f x) then.sum) knows.sum;
              table = to_frames (λ x. IsIndexed then.page_size f x then.index) knows.table;
              last = to_frames (λ x. 1 ≤ x → then.last_page ≡ page_of then.page_size f x) knows.last;
              room = then.room;
              size = rests.marks.size ∙ repeats.marks.size ∙ stays.size_is;
              used = rests.used ∙ repeats.used ∙ stays.used;
              few = (then.few, then.most);
              unsynced = rests.unsynced;
              some = λ yes. absurd (let bad : true ≡ false = sym yes ∙ rests.unsynced in cc);
              drained = at_drained ∙ stays.drained;
              durable = λ z. to_mark (λ x. IsNewestDurable x then.frames d t.tears) (to_frames (λ x. IsNewestDurable core.mark x d t.tears) durable.newest);
              filed = λ is_drained. (rests.unsynced, λ db image. to_page (λ x. IsJust x (newest past.state.history) db) (stays.filed (subst (λ (x : Bool). IsTrue x) at_drained is_drained) db image));
              readers = λ number. together_map (IsBound then.page_size f index then.mark c past.state) (IsBound then.page_size f index then.mark c (synced past.state)) (reads_on then.page_size then.mark) (reader_at past.state number) (get_or past.tokens number None)
                  (to_page (λ x. AreTogether (IsBound x f index then.mark c past.state) (reader_at past.state number) (get_or past.tokens number None))
                  (to_mark (λ x. AreTogether (IsBound core.page_size f index x c past.state) (reader_at past.state number) (get_or past.tokens number None)) (stays.readers number)));
              page = then.framed;
            },
          );
          count = fits.count;
          together = fits.together;
          marks = λ k. ap (λ (x : List ℕ). times k x) (ap (λ x. x.items) (rests.marks.marks ∙ repeats.marks.marks)) ∙ fits.marks k;
        };
      }

  sync_failed : past.state.floor ≤ index d → HadRefusal s t → Closes mid then → StepsTo past past.tokens Syncs (Refused 15) then s t
  unfolding logs_new
  sync_failed low had closes =
      let new : Past = record { state = closed past.state; made = logs_new; tokens = past.tokens } in
      record {
        next = closed past.state;
        made = logs_new;
        same = same;
        refused = refused;
        told = λ more. refl;
        row = subst (λ (y : Option ℕ). Refuses y false (closed past.state) s.refused t.refused past.state 15 (closed past.state)) (sym granted) (inr (refl, had, refl));
        makes = made;
        fits = record {
          disk = disk_by new core.page_size past.state.history past.state.floor t
              (facts_stand core.page_size (f ∷ rest) f n past.state.history index core.mark d c t stands past.state.floor low) fits.page_size refl refl (λ yes. absurd (cc yes));
          page_size = closes.page_size ∙ repeats.page_size ∙ fits.page_size;
          is_open = closes.is_open;
          core = λ yes. absurd (let bad : true ≡ false = sym yes ∙ closes.is_open in cc);
          count = fits.count;
          together = fits.together;
          marks = λ k. ap (λ (y : List ℕ). times k y) (ap (λ y. y.items) (closes.marks ∙ repeats.marks.marks)) ∙ fits.marks k;
        };
      }

-- ---- whether a copy is due

not_due : (tears unsynced even : Bool) → (tears && (unsynced && not even)) ≡ false → (tears ≡ false) ⊎ ((unsynced ≡ false) ⊎ (even ≡ true))
not_due false unsynced even is = inl refl
not_due true false even is = inr (inl refl)
not_due true true true is = inr (inr refl)
not_due true true false is = absurd (cc is)

due : (tears unsynced even : Bool) → (tears && (unsynced && not even)) ≡ true → (tears ≡ true) × (unsynced ≡ true)
due true true even is = (refl, refl)
due false unsynced even is = absurd (cc is)
due true false even is = absurd (cc is)

even_of : (n k : ℕ) → (n % k == 0) ≡ true → 1 ≤ k → n ≡ n / k * k
even_of n k is pos = let z : n % k ≡ 0 = grind (arith, nat_tests) in omega arith

module _ (past : Past) (core : Core) (s : DiskState) (fits : FitsCore past core s) (opened : IsTrue core.is_open) (e : List ℕ) (index : ℕ → ℕ) (d c : ℕ) (is : IsCore past e index d c core s) where
  stands_here : Stands core.page_size (e ∷ is.newest_log.0) e core.frames past.state.history index core.mark d c s
  stands_here = subst (λ (x : List (List ℕ)). Stands core.page_size x e core.frames past.state.history index core.mark d c s) is.newest_log.1 is.stands

  due_is : (s.tears && (past.made.unsynced && not (length e % s.sector == 0))) ≡ is_due core s
  due_is = ap (λ (b : Bool). s.tears && (b && not (length e % s.sector == 0))) (sym is.unsynced) ∙ ap (λ (k : ℕ). s.tears && (core.unsynced && not (k % s.sector == 0))) is.stands.era.log.whole

  -- what a sync makes of the log
  row_made : (b : Bool) → is_due core s ≡ b → (new : Made) → MadeByCopy b core.page_size e is.newest_log.0 new → MadeBySync past.state.page_size s.sector s.tears past.made.logs past.made new
  row_made b same new makes = subst (λ (x : List (List ℕ)). MadeBySync past.state.page_size s.sector s.tears x past.made new) (sym is.newest_log.1)
      (subst (λ (x : Bool). MadeByCopy x past.state.page_size e is.newest_log.0 new) (sym (due_is ∙ same))
      (subst (λ (k : ℕ). MadeByCopy b k e is.newest_log.0 new) fits.page_size makes))

  positive : 1 ≤ s.sector
  positive = omega (arith, sector_some s.sector is.stands.suits.sectors)

  -- ---- without a copy

  module _ (then : Core) (t : DiskState) (undue : is_due core s ≡ false) where
    itself : Repeats core core
    itself = record { page_size = refl; marks = record { is_open = refl; drained = refl; mark = refl; size = refl; marks = refl }; used = refl }

    made_same : MadeBySync past.state.page_size s.sector s.tears past.made.logs past.made (record { logs = e ∷ is.newest_log.0; unsynced = false })
    made_same = row_made false undue (record { logs = e ∷ is.newest_log.0; unsynced = false }) refl

    -- how far the log is durable then
    Down : ℕ → Type 0
    Down k = Stands core.page_size (e ∷ is.newest_log.0) e core.frames past.state.history index core.mark k c t × Lies core core e core.frames k t

    module _ {T : Type 0} {u : T} (call : CallSyncs Log (Ok u) s t) where
      knows_then : KnowsLog e core.frames core t
      knows_then = record { frames = refl; header = is.header; sum = is.sum; table = is.table; last = is.last; present = present_syncs core.page_size e s t core.frames call is.present }

      all_down : IsBehind core.page_size core.frames (frame_end core.page_size core.frames) t → Down core.frames
      unfolding Down
      all_down behind = (
        stands_synced core.page_size (e ∷ is.newest_log.0) e core.frames past.state.history index core.mark d c s t stands_here call is.present,
        record { newest = record { commit = is.stands.era.marked.0; all = λ whole. refl }; behind = behind; knows = knows_then },
      )

      same_down : IsNewestDurable core.mark core.frames d s.tears → Down d
      unfolding Down
      same_down was = (
        stands_syncs core.page_size (e ∷ is.newest_log.0) e core.frames past.state.history index core.mark d c s t stands_here Log (Ok u) call,
        record {
          newest = record { commit = was.commit; all = λ whole. was.all (sym call.elsewhere.tears ∙ whole) };
          behind = behind_same core.page_size d (frame_end core.page_size core.frames) s t call.elsewhere.sector call.elsewhere.tears is.behind;
          knows = knows_then;
        },
      )

      down_then : (k : ℕ) × Down k
      down_then = ⊎_elim
          (λ whole. (core.frames, all_down (behind_whole core.page_size core.frames t (frame_end core.page_size core.frames) (call.elsewhere.tears ∙ whole) (omega arith))))
          (λ torn. ⊎_elim
          (λ synced_before. (d, same_down (is.durable synced_before)))
          (λ even. (
            core.frames,
            all_down (behind_same core.page_size core.frames (frame_end core.page_size core.frames) s t call.elsewhere.sector call.elsewhere.tears
                (behind_even core.page_size core.frames s (frame_end core.page_size core.frames / s.sector) (frame_end core.page_size core.frames) is.stands.suits (even_of (frame_end core.page_size core.frames) s.sector even positive) (omega arith))),
          ))
          torn)
          (not_due s.tears core.unsynced (frame_end core.page_size core.frames % s.sector == 0) undue)

      stays_then : Stays past core e index c t
      stays_then = record {
        begun = is.begun;
        size_is = is.size;
        used = is.used;
        drained = is.drained;
        filed = λ yes db image. (is.filed yes).1 db (image_elsewhere Log (Ok u) s t call.elsewhere db image);
        readers = is.readers;
      }

      plain_done : Rests core then → StepsTo past past.tokens Syncs Done then s t
      unfolding Down
      plain_done rests =
          sync_done past core core then s t fits opened itself e is.newest_log.0 core.frames index down_then.0 c made_same (record { sector = call.elsewhere.sector; tears = call.elsewhere.tears; calls = one_sync Log (Ok u) s t (inr tt) call }) (omega (arith, call.elsewhere.refused))
          down_then.1.0 (let quiet : t.refused ≡ s.refused = call.elsewhere.refused in quiet) down_then.1.1 stays_then rests

    plain_failed : {T : Type 0} → (called : Result T DiskError) (x : DiskError) → called ≡ Err x → CallSyncs Log called s t → Closes core then → StepsTo past past.tokens Syncs (Refused 15) then s t
    plain_failed called x was call closes =
        sync_failed past core core then s t fits opened itself e is.newest_log.0 core.frames index d c made_same (record { sector = call.elsewhere.sector; tears = call.elsewhere.tears; calls = one_sync Log called s t (inr tt) call })
        (omega (arith, counted_grows called s.refused is.stands.suits.sound.refused, call.elsewhere.refused))
        (stands_syncs core.page_size (e ∷ is.newest_log.0) e core.frames past.state.history index core.mark d c s t stands_here Log called call) is.floor
        (had_refusal called x 0 s t is.stands.suits.sound.refused was call.within (lit≤ tt) call.elsewhere.refused) closes

    plain_step : {T : Type 0} → (r : Result T WalError) → SyncStep Device Log r s t → RestAnswer r core then → StepsTo past past.tokens Syncs (answered number_of (λ _. Done) r) then s t
    plain_step {T = T} (Ok v) step rests = let ok = told_ok Device step.0 (Ok v) v refl step.1 in plain_done (subst (λ (q : Result T DiskError). CallSyncs Log q s t) ok.1 step.2) rests
    plain_step {T = T} (Err x) step closes = let bad = told_err Device step.0 (Err x) x refl step.1 in
        subst (λ (y : WalError). StepsTo past past.tokens Syncs (Refused (number_of y)) then s t) (sym bad.0) (plain_failed step.0 bad.1.0 bad.1.1 step.2 closes)

  -- ---- with a copy

  module _ (mid then : Core) (t : DiskState) (yes : is_due core s ≡ true) where
    torn : s.tears ≡ true
    torn = (due s.tears core.unsynced (frame_end core.page_size core.frames % s.sector == 0) yes).0

    unsynced : core.unsynced ≡ true
    unsynced = (due s.tears core.unsynced (frame_end core.page_size core.frames % s.sector == 0) yes).1

    some : 1 ≤ core.frames
    some = is.some unsynced

    few : core.frames + 1 ≤ most_frames
    few = let least = subst (λ (b : Bool). core.frames + cond b 1 0 ≤ 2 * core.used) unsynced is.few.0 in omega (arith, least, is.few.1)

    -- the log with its last frame once more
    repeated : (f : List ℕ) × IsRepeated core.page_size e core.frames f
    repeated = repeated_exists core.page_size e core.frames (present_bytes core.page_size e core.frames s is.stands.era.log is.present is.stands.suits.sound) is.stands.era.log some

    f : List ℕ
    f = repeated.0

    more : IsRepeated core.page_size e core.frames f
    unfolding f
    more = repeated.1

    newest_size : core.size ≡ size_of core.page_size e core.frames
    newest_size =
        let place : index core.frames ≡ length past.state.history - 1 = omega (arith, is.stands.era.last) in
        is.size ∙ ap (λ (k : ℕ). length (get_or past.state.history k [])) (sym place)
        ∙ is.stands.era.sizes core.frames some (omega arith) (⊎_elim (λ z. absurd (omega (arith, some))) (λ commit. commit) is.stands.era.ends)

    last_known : KnowsLast e f core s
    last_known = record {
      some = some;
      log = is.stands.era.log;
      more = more;
      few = few;
      knows = record { frames = refl; header = is.header; sum = is.sum; table = is.table; last = is.last; present = is.present };
      size_is = newest_size;
    }

    made_copy : MadeBySync past.state.page_size s.sector s.tears past.made.logs past.made (record { logs = f ∷ is.newest_log.0; unsynced = false })
    made_copy = row_made true yes (record { logs = f ∷ is.newest_log.0; unsynced = false }) (core.frames, is.stands.era.log, (f, core.frames, is.stands.era.log, more, refl))

    to : ℕ → ℕ
    to = index_to index core.frames

    at_down : to d ≡ index d
    unfolding to
    at_down = index_to-low index core.frames d is.stands.marks.durable

    module _ (g : DiskState) (going : Going core.page_size f (core.frames + 1) core.frames s g) (repeats : Repeats core mid) where
      -- what stands on the disk when the copy was written, or wasn't
      stands_copy : Stands core.page_size (f ∷ is.newest_log.0) f (core.frames + 1) past.state.history to core.mark d c g
      unfolding to
      stands_copy = going.stands (f ∷ is.newest_log.0) past.state.history (index_to index core.frames) core.mark d c
          (repeated_stands core.page_size is.newest_log.0 e core.frames past.state.history index core.mark d c s f stands_here some more few) is.behind

      copy_failed : HadRefusal s g → Closes mid then → StepsTo past past.tokens Syncs (Refused 15) then s g
      copy_failed had closes =
          sync_failed past core mid then s g fits opened repeats f is.newest_log.0 (core.frames + 1) to d c made_copy (record { sector = going.sector; tears = going.tears; calls = copies_may core.page_size past.state.page_size f is.newest_log.0 s g fits.page_size going.calls }) going.refused stands_copy (omega (arith, at_down, is.floor)) had closes

      copy_unsynced : {T : Type 0} → (called : Result T DiskError) (x : DiskError) → called ≡ Err x → CallSyncs Log called g t → Closes mid then → StepsTo past past.tokens Syncs (Refused 15) then s t
      copy_unsynced called x was call closes =
          sync_failed past core mid then s t fits opened repeats f is.newest_log.0 (core.frames + 1) to d c made_copy (record {
            sector = call.elsewhere.sector ∙ going.sector;
            tears = call.elsewhere.tears ∙ going.tears;
            calls = calls_then s g t (copies_may core.page_size past.state.page_size f is.newest_log.0 s g fits.page_size going.calls) (one_sync Log called g t (inr tt) call);
          })
          (omega (arith, going.refused, counted_grows called g.refused going.sound.refused, call.elsewhere.refused))
          (stands_syncs core.page_size (f ∷ is.newest_log.0) f (core.frames + 1) past.state.history to core.mark d c g t stands_copy Log called call) (omega (arith, at_down, is.floor))
          (refusal_after s g t going.refused (had_refusal called x 0 g t going.sound.refused was call.within (lit≤ tt) call.elsewhere.refused)) closes

      -- the frame that was copied is durable, and its copy apart from what comes next
      module _ {T : Type 0} {u : T} (quiet : g.refused ≡ s.refused) (call : CallSyncs Log (Ok u) g t) (knows : KnowsLog f (core.frames + 1) mid g) where
        tears_then : t.tears ≡ true
        tears_then = call.elsewhere.tears ∙ going.tears ∙ torn

        present_mid : IsPresent core.page_size f (core.frames + 1) g
        present_mid = subst (λ (k : ℕ). IsPresent k f (core.frames + 1) g) repeats.page_size knows.present

        stands_all : Stands core.page_size (f ∷ is.newest_log.0) f (core.frames + 1) past.state.history to core.mark (core.frames + 1) c t
        stands_all = stands_synced core.page_size (f ∷ is.newest_log.0) f (core.frames + 1) past.state.history to core.mark d c g t stands_copy call present_mid

        front : take (frame_end core.page_size core.frames) f ≡ take (frame_end core.page_size core.frames) e
        front = extended_front core.page_size e core.frames ((page_of core.page_size e core.frames, content_of core.page_size e core.frames) ∷ []) (size_of core.page_size e core.frames) f is.stands.era.log more

        stands_last : Stands core.page_size (f ∷ is.newest_log.0) f (core.frames + 1) past.state.history to core.mark core.frames c t
        stands_last = stands_fewer core.page_size (f ∷ is.newest_log.0) f (core.frames + 1) past.state.history to core.mark (core.frames + 1) core.frames c t stands_all (omega arith)
            (omega (arith, is.stands.marks.begun, is.stands.marks.durable)) (boundary_same core.page_size e f core.frames core.frames front (omega arith) is.stands.era.ends)

        lies_copy : Lies core mid f (core.frames + 1) core.frames t
        lies_copy = record {
          newest = record { commit = is.stands.era.marked.0; all = λ whole. absurd (let bad : true ≡ false = sym tears_then ∙ whole in cc) };
          behind = behind_copy core.page_size core.frames t (frame_end core.page_size (core.frames + 1)) stands_all.suits (let le : frame_end core.page_size (suc core.frames) ≤ frame_end core.page_size (core.frames + 1) = frame_end-le core.page_size (suc core.frames) (core.frames + 1) (omega arith) in le);
          knows = record { frames = knows.frames; header = knows.header; sum = knows.sum; table = knows.table; last = knows.last; present = present_syncs mid.page_size f g t (core.frames + 1) call knows.present };
        }

        reads_same : (i : ℕ) (r : Reader) → IsBound core.page_size e index core.mark c past.state i r → IsBound core.page_size f to core.mark c past.state i r
        unfolding to
        reads_same i r bound =
            let le : r.mark ≤ core.frames = omega (arith, bound.within, is.stands.era.marked.0) in
            record {
              within = bound.within;
              boundary = boundary_same core.page_size e f core.frames r.mark front le bound.boundary;
              begun = bound.begun;
              place = index_to-low index core.frames r.mark le ∙ bound.place;
              size_is = bound.size_is;
            }

        stays_copy : Stays past core f to c t
        stays_copy = record {
          begun = is.begun;
          size_is = is.size;
          used = is.used;
          drained = is.drained;
          filed = λ drained. absurd (let bad : true ≡ false = sym unsynced ∙ (is.filed drained).0 in cc);
          readers = λ number. together_map (IsBound core.page_size e index core.mark c past.state) (IsBound core.page_size f to core.mark c past.state) reads_same (reader_at past.state number) (get_or past.tokens number None) (is.readers number);
        }

        copy_done : Rests mid then → StepsTo past past.tokens Syncs Done then s t
        copy_done rests =
            sync_done past core mid then s t fits opened repeats f is.newest_log.0 (core.frames + 1) to core.frames c made_copy (record {
              sector = call.elsewhere.sector ∙ going.sector;
              tears = call.elsewhere.tears ∙ going.tears;
              calls = calls_then s g t (copies_may core.page_size past.state.page_size f is.newest_log.0 s g fits.page_size going.calls) (one_sync Log (Ok u) g t (inr tt) call);
            })
            (omega (arith, going.refused, call.elsewhere.refused)) stands_last (let same : t.refused ≡ s.refused = omega (arith, quiet, call.elsewhere.refused) in same) lies_copy stays_copy rests

      copy_synced : {T : Type 0} → (r : Result T WalError) → KnowsLog f (core.frames + 1) mid g → g.refused ≡ s.refused → SyncStep Device Log r g t → RestAnswer r mid then → StepsTo past past.tokens Syncs (answered number_of (λ _. Done) r) then s t
      copy_synced {T = T} (Ok v) knows quiet step rests = let ok = told_ok Device step.0 (Ok v) v refl step.1 in copy_done quiet (subst (λ (q : Result T DiskError). CallSyncs Log q g t) ok.1 step.2) knows rests
      copy_synced {T = T} (Err x) knows quiet step closes = let bad = told_err Device step.0 (Err x) x refl step.1 in
          subst (λ (y : WalError). StepsTo past past.tokens Syncs (Refused (number_of y)) then s t) (sym bad.0) (copy_unsynced step.0 bad.1.0 bad.1.1 step.2 closes)

    copy_by : {T : Type 0} → (copied r : Result T WalError) (g : DiskState) → Repeats core mid → FramesAnswer core.page_size f (core.frames + 1) core.frames copied mid s g → SyncsBehind copied r g t → RestAnswer r mid then
        → StepsTo past past.tokens Syncs (answered number_of (λ _. Done) r) then s t
    copy_by {T = T} (Ok v) r g repeats frames synced answer = copy_synced g frames.0 repeats r frames.1 frames.2 synced answer
    copy_by {T = T} (Err x) r g repeats frames synced answer =
        subst (λ (q : Result T WalError). StepsTo past past.tokens Syncs (answered number_of (λ _. Done) q) then s t) (sym synced.0)
        (subst (λ (y : WalError). StepsTo past past.tokens Syncs (Refused (number_of y)) then s t) (sym frames.1)
        (subst (λ (z : DiskState). StepsTo past past.tokens Syncs (Refused 15) then s z) (sym synced.1)
        (copy_failed g frames.0 repeats frames.2 (subst (λ (q : Result T WalError). RestAnswer q mid then) synced.0 answer))))

    copy_step : {T : Type 0} → (r : Result T WalError) → SyncsCopy r core mid s t → RestAnswer r mid then → StepsTo past past.tokens Syncs (answered number_of (λ _. Done) r) then s t
    copy_step r by answer = copy_by by.copied r by.mid by.core (by.frame e f last_known) by.synced answer

  step_by : {T : Type 0} (b : Bool) → is_due core s ≡ b → (mid then : Core) (t : DiskState) (r : Result T WalError) → SyncsBy b r core mid s t → RestAnswer r mid then → StepsTo past past.tokens Syncs (answered number_of (λ _. Done) r) then s t
  step_by {T = T} false same mid then t r durable answer = plain_step then t same r durable.1 (subst (λ (x : Core). RestAnswer r x then) durable.0 answer)
  step_by true same mid then t r durable answer = copy_step mid then t same r durable answer

pub sync_step : {T : Type 0} (past : Past) (core mid then : Core) (s t : DiskState) → FitsCore past core s → IsTrue core.is_open → (r : Result T WalError) → SyncsBy (is_due core s) r core mid s t → RestAnswer r mid then
    → StepsTo past past.tokens Syncs (answered number_of (λ _. Done) r) then s t
sync_step past core mid then s t fits opened r durable answer =
    let held = fits.core opened in
    step_by past core s fits opened held.0 held.1 held.2 held.3 held.4 (is_due core s) refl mid then t r durable answer
