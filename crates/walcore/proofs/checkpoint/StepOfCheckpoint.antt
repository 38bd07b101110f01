-- A checkpoint as a step of the machine.
use Rattle.walcore.proofs.Facts.{AreFiles, AreTogether, Bool, Brings, BroughtOver, BroughtTo, CheckpointStep, Checkpointed, Checkpoints, ClosedBy, Core, Database, Device, DiskState, Done, Err, Files, FitsCore, FitsDisk, HasCalls, HasCause, IsBound, IsCore, IsJust, IsLeast, IsLeft, IsNewestDurable, IsOldest, IsPresent, IsSameDisk, IsTrue, KeepsLog, LeavesJust, List, Made, MadeByCopy, MadeBySync, Makes, MayFill, NoChance, None, Ok, OnOk, Option, Past, Reader, Refused, Refuses, Result, SameCore, ShowsWhole, Some, Stands, State, StepsTo, TellsRefusal, WalError, [], all_are_newest, all_newest, answer_of, answered, ap, arith, at, behind_same, call_refusal, cases_eq, checkpointed, closed, core_same, drop, false, filled_same, first_true, frame_end, get_or, if◌then◌else◌, inl, inr, last, least_begun, least_ends, length, length-drop, length-take-le, nat_tests, newest, not, number_of, oldest_place, present_by, present_image, present_last, quiet_same, reader_above, reader_at, refl, same_files, shown, some_is_older, stands_shows, still, subst, sym, synced, synced_same, take, times, true, wal_log, ℕ, ⊎_elim, ◌+◌, ◌-◌, ◌<◌, ◌==◌, ◌∙◌, ◌∷◌, ◌≡◌, ◌≢◌, ◌≤◌}
use Rattle.walcore.specs.Machine.{Syncs}
use Rattle.walcore.specs.declared.wal.Checkpointed.TheVariants.{Complete as AllOfIt, Partial as PartOfIt}
use Rattle.walcore.proofs.read.StepsOfReaders.{open_refusal}

-- ---- a disk on which the log stands

-- What stands on a disk fits it, for whatever floor the frames that are durable reach.
pub disk_of : (past : Past) (e : List ℕ) (n : ℕ) (index : ℕ → ℕ) (mark d c : ℕ) (t : DiskState) → Stands past.state.page_size past.made.logs e n past.state.history index mark d c t → past.state.floor < length past.state.history
    → past.state.floor ≤ index d
    → (IsTrue past.state.is_open → (files : Files) → AreFiles t files → NoChance past.made.logs files.log → ShowsWhole wal_log past.state.page_size files.db files.log (newest past.state.history)) → FitsDisk past t
disk_of past e n index mark d c t stands floor low present = record {
  suits = stands.suits;
  floor = floor;
  held = stands.era.held;
  made = stands.are_made;
  left = inl (stands_shows past.state.page_size past.made.logs e n past.state.history index mark d c t stands past.state.floor low);
  present = present;
}

-- a lower floor
lower_left : (size : ℕ) (logs : List (List ℕ)) (h : List Database) (low high : ℕ) (t : DiskState) → low ≤ high → IsLeft size logs h high t → IsLeft size logs h low t
lower_left size logs h low high t le (inl both) = inl (λ w may chance. (let is = both.0 w may chance in (is.0, (let x : low ≤ is.0 = omega (arith, is.1) in x), is.2, is.3)), both.1)
lower_left size logs h low high t le (inr one) = inr (one.0, (let x : low ≤ one.0 = omega (arith, one.1) in x), one.2, one.3)

-- ---- rows of the machine

row_of : (all : Bool) (s : State) (x y : ℕ) → all ≡ all_newest s → call_refusal s ≡ None → CheckpointStep s (answer_of (if all then AllOfIt else PartOfIt)) x y (checkpointed s)
row_of true s x y e none = (none, sym e, refl)
row_of false s x y e none = (none, sym e, refl)

row_moves : (v : Checkpointed) (s : State) (x y x_new y_new : ℕ) → CheckpointStep (synced s) (answer_of v) x y (checkpointed (synced s)) → CheckpointStep s (answer_of v) x_new y_new (checkpointed s)
row_moves AllOfIt s x y x_new y_new h = h
row_moves PartOfIt s x y x_new y_new h = h

pub refuses_device : (s : State) (before after : ℕ) → call_refusal s ≡ None → HasCause before after → Refuses (call_refusal s) false (closed s) before after s 15 (closed s)
refuses_device s before after e cause = subst (λ (o : Option ℕ). Refuses o false (closed s) before after s 15 (closed s)) (sym e) (inr (refl, cause, refl))

-- ---- bringing durable

test_true : (m n : ℕ) (all : Bool) → all ≡ (m == n) → m ≡ n → all ≡ true
test_true m n all e same = e ∙ grind (arith, nat_tests)

test_false : (m n : ℕ) (all : Bool) → all ≡ (m == n) → m ≢ n → all ≡ false
test_false m n all e ne = e ∙ grind (arith, nat_tests)

module _ (past : Past) (a : Core) (s t : DiskState) (fits : FitsCore past a s) (opened : IsTrue a.is_open) (floor : past.state.floor ≡ last past.state.history) (none : past.made.unsynced ≡ false)
    (least : ℕ) (low : IsLeast a.marks.items a.mark least) (keeps : KeepsLog s t) where
  abbrev e : List ℕ
  e = (fits.core opened).0

  abbrev index : ℕ → ℕ
  index = (fits.core opened).1

  abbrev d : ℕ
  d = (fits.core opened).2

  abbrev c : ℕ
  c = (fits.core opened).3

  is : IsCore past e index d c a s
  is = (fits.core opened).4

  newest_down : IsNewestDurable a.mark a.frames d s.tears
  newest_down = is.durable (is.unsynced ∙ none)

  newest_frame : index a.frames ≡ last past.state.history
  newest_frame = omega (arith, is.stands.era.last)

  newest_mark : index a.mark ≡ last past.state.history
  newest_mark = is.stands.era.marked.2 ∙ newest_frame

  -- the newest database is one of those that are durable
  down_place : index d ≡ last past.state.history
  down_place = omega (arith, newest_mark, newest_frame, is.stands.era.rises a.mark d newest_down.commit is.stands.marks.durable, is.stands.era.rises d a.frames is.stands.marks.durable (omega arith))

  open_state : past.state.is_open ≡ true
  open_state = sym fits.is_open ∙ opened

  brought : {T : Type 0} (n : ℕ) (r : Result T WalError) → n ≡ a.page_size → Brings n least a.index r s t
      → BroughtTo a.page_size past.made.logs e a.frames past.state.history index a.mark d least r s t × HasCalls (MayFill a.page_size) s t
  brought n r same brings = subst (λ (x : ℕ). Brings x least a.index r s t) same brings past.made.logs e a.frames past.state.history index a.mark d c
      (record { stands = is.stands; present = is.present; table = is.table })
      (least_ends past e index d c a s is fits.marks least low) (least_begun past e index d c a s is fits.marks least low)
      (omega (arith, low.low, newest_down.commit))

  filled : {T : Type 0} (n : ℕ) (r : Result T WalError) → n ≡ a.page_size → Brings n least a.index r s t → IsSameDisk (MayFill past.state.page_size) s t
  filled n r same brings = record { sector = keeps.sector; tears = keeps.tears; calls = subst (λ (k : ℕ). HasCalls (MayFill k) s t) fits.page_size (brought n r same brings).1 }

  pub down_refused : {T : Type 0} (b : Core) (n : ℕ) (r : Result T WalError) (q : Result Checkpointed WalError) (x : WalError) → n ≡ a.page_size → Brings n least a.index r s t → r ≡ Err x → q ≡ Err x
      → b.page_size ≡ a.page_size → b.marks.items ≡ a.marks.items → BroughtOver past q a b s t
  down_refused {T = T} b n r q x same brings was is_err size marks =
      let got = subst (λ (y : Result T WalError). BroughtTo a.page_size past.made.logs e a.frames past.state.history index a.mark d least y s t) was (brought n r same brings).0 in
      let stands = subst (λ (k : ℕ). Stands k past.made.logs e a.frames past.state.history index a.mark d got.2.0 t) fits.page_size got.2.1 in
      let shut : Past = record { state = closed past.state; made = past.made; tokens = past.tokens } in
      subst (λ (y : Result Checkpointed WalError). BroughtOver past y a b s t) (sym is_err) (
        keeps.refused,
        got.0,
        got.1,
        disk_of shut e a.frames index a.mark d got.2.0 t stands fits.disk.floor is.floor (λ opened_shut. absurd (let no : false ≡ true = opened_shut in cc)),
        size,
        marks,
        filled n r same brings,
      )

  module _ {T : Type 0} (n : ℕ) (r : Result T WalError) (v : T) (same : n ≡ a.page_size) (brings : Brings n least a.index r s t) (was : r ≡ Ok v) (told : TellsRefusal Device r s t) (all : Bool) (all_is : all ≡ (least == a.mark)) where
    got : Stands a.page_size past.made.logs e a.frames past.state.history index a.mark d least t × LeavesJust a.page_size (shown past.state.history index least) t
    got = let answer = subst (λ (y : Result T WalError). BroughtTo a.page_size past.made.logs e a.frames past.state.history index a.mark d least y s t) was (brought n r same brings).0 in answer

    all_newest_is : all ≡ all_newest past.state
    all_newest_is = ⊎_elim
        (λ eq. test_true least a.mark all all_is eq ∙ sym (all_are_newest past e index d c a s is fits.marks least low eq))
        (λ ne. test_false least a.mark all all_is ne ∙ sym (some_is_older past e index d c a s is fits.marks least low ne))
        (cases_eq least a.mark)

    newest_least : all ≡ true → least ≡ a.mark
    newest_least yes_all = ⊎_elim (λ eq. eq) (λ ne. absurd (let no : all ≡ false = test_false least a.mark all all_is ne in cc)) (cases_eq least a.mark)

    after : Past
    after = record { state = checkpointed past.state; made = past.made; tokens = past.tokens }

    present : IsPresent a.page_size e a.frames t
    present = present_by a.page_size e s t a.frames keeps.log is.present

    shows : (files : Files) → AreFiles t files → NoChance past.made.logs files.log → ShowsWhole wal_log past.state.page_size files.db files.log (newest past.state.history)
    shows files are chance = subst (λ (k : ℕ). ShowsWhole wal_log k files.db files.log (newest past.state.history)) fits.page_size
        (subst (λ (k : ℕ). ShowsWhole wal_log a.page_size files.db files.log (at past.state.history k)) newest_frame
        (present_last a.page_size past.made.logs e a.frames past.state.history index a.mark d least t got.0 present files.log are.log chance files.db
        (present_image t.sector t.tears t.db files.db got.0.suits.sound.db are.db)))

    disk : FitsDisk after t
    unfolding after
    disk = disk_of after e a.frames index a.mark d least t (subst (λ (k : ℕ). Stands k past.made.logs e a.frames past.state.history index a.mark d least t) fits.page_size got.0)
        (omega (arith, fits.disk.floor)) (omega (arith, down_place)) (λ opened_after files are chance. shows files are chance)

    bound_by : (number : ℕ) (place : Option ℕ) (slot : Option Reader) → get_or past.tokens number None ≡ slot → AreTogether (IsBound a.page_size e index a.mark c past.state) place slot
        → AreTogether (IsBound a.page_size e index a.mark least (checkpointed past.state)) place slot
    bound_by number None None there h = tt
    bound_by number (Some i) (Some x) there h = record { within = h.within; boundary = h.boundary; begun = reader_above past e index d c a s is fits.marks least low number x there; place = h.place; size_is = h.size_is }
    bound_by number None (Some x) there h = absurd h
    bound_by number (Some i) None there h = absurd h

    core_at : IsCore after e index d least (record a { drained = all }) t
    unfolding after
    core_at = record {
      newest_log = is.newest_log;
      stands = got.0;
      floor = omega (arith, down_place);
      begun = low.low;
      behind = behind_same a.page_size d (frame_end a.page_size a.frames) s t keeps.sector keeps.tears is.behind;
      present = present;
      header = is.header;
      sum = is.sum;
      table = is.table;
      last = is.last;
      room = is.room;
      size = is.size;
      used = is.used;
      few = is.few;
      unsynced = is.unsynced;
      some = is.some;
      drained = all_newest_is;
      durable = λ z. let was = is.durable z in record { commit = was.commit; all = λ whole. was.all (sym keeps.tears ∙ whole) };
      filed = λ yes_all. (
        is.unsynced ∙ none,
        λ db image. subst (λ (k : ℕ). IsJust a.page_size (at past.state.history k) db) (ap index (newest_least yes_all) ∙ newest_mark) (got.1 db image),
      );
      readers = λ number. bound_by number (reader_at past.state number) (get_or past.tokens number None) refl (is.readers number);
      page = is.page;
    }

    pub down_done : (b : Core) (x : Checkpointed) → x ≡ (if all then AllOfIt else PartOfIt) → SameCore (record a { drained = all }) b → b.marks.items ≡ a.marks.items → BroughtOver past (Ok x) a b s t
    unfolding after
    down_done b x is_x core marks = subst (λ (y : Checkpointed). BroughtOver past (Ok y) a b s t) (sym is_x) (
      quiet_same Device r v s t was keeps.refused told,
      row_of all past.state s.refused t.refused all_newest_is (open_refusal past.state open_state),
      record {
        disk = disk;
        page_size = core.page_size ∙ fits.page_size;
        is_open = core.is_open ∙ fits.is_open;
        core = λ opened_b. (e, index, d, least, core_same after e index d least (record a { drained = all }) b t t core (same_files t t (still t keeps.sound)) core_at);
        count = fits.count;
        together = fits.together;
        marks = λ m. ap (times m) marks ∙ fits.marks m;
      },
      λ i oldest db image. subst (λ (k : ℕ). IsJust k (at past.state.history i) db) fits.page_size
          (subst (λ (k : ℕ). IsJust a.page_size (at past.state.history k) db) (oldest_place past e index d c a s is fits.marks least low i oldest) (got.1 db image)),
      filled n r same brings,
    )

-- the room for a page behind that for a frame's head
pub page_room : (xs ys : List ℕ) (n size : ℕ) → n ≡ size → xs ≡ ys → length ys ≡ 24 + size → length (take (24 + n - 24) (drop 24 xs)) ≡ size
page_room xs ys n size e same is = length-take-le (24 + n - 24) (drop 24 xs) (omega (arith, length-drop 24 xs, ap (λ (l : List ℕ). length l) same)) ∙ omega arith

-- ---- the whole call

made_synced : (copies : Bool) (size : ℕ) (e : List ℕ) (rest : List (List ℕ)) (new : Made) → MadeByCopy copies size e rest new → new.unsynced ≡ false
made_synced true size e rest new copies = ap (λ (m : Made). m.unsynced) copies.2.4
made_synced false size e rest new same = ap (λ (m : Made). m.unsynced) same

logs_synced : (size sector : ℕ) (tears : Bool) (e : List ℕ) (rest logs : List (List ℕ)) (old new : Made) → logs ≡ e ∷ rest → MadeBySync size sector tears logs old new → new.unsynced ≡ false
logs_synced size sector tears e rest logs old new is makes =
    made_synced _ size e rest new (let got = subst (λ (l : List (List ℕ)). MadeBySync size sector tears l old new) is makes in got)

open_of : (s : State) → call_refusal s ≡ None → s.is_open ≡ true
open_of s none = by s.is_open none
  where
    by : (b : Bool) → first_true ((not b, 1) ∷ []) ≡ None → b ≡ true
    by true e = refl
    by false e = absurd (cc e)

module _ (past : Past) (a : Core) (s : DiskState) (fits : FitsCore past a s) where
  -- the sync was refused
  pub checkpoint_unsynced : {T : Type 0} (b : Core) (t : DiskState) (r : Result T WalError) (q : Result Checkpointed WalError) (x : WalError) → r ≡ Err x → q ≡ Err x
      → StepsTo past past.tokens Syncs (answered number_of (λ (v : T). Done) r) b s t → StepsTo past past.tokens Checkpoints (answered number_of answer_of q) b s t
  checkpoint_unsynced {T = T} b t r q x was is_err steps =
      let got : StepsTo past past.tokens Syncs (Refused (number_of x)) b s t = subst (λ (y : Result T WalError). StepsTo past past.tokens Syncs (answered number_of (λ (v : T). Done) y) b s t) was steps in
      subst (λ (y : Result Checkpointed WalError). StepsTo past past.tokens Checkpoints (answered number_of answer_of y) b s t) (sym is_err)
      (record { next = got.next; made = got.made; same = synced_same past.state.page_size got.made.logs s t got.same; refused = got.refused; told = got.told; row = got.row; makes = got.makes; fits = got.fits })

  module _ {T : Type 0} (m : Core) (g : DiskState) (r : Result T WalError) (v : T) (was : r ≡ Ok v) (steps : StepsTo past past.tokens Syncs (answered number_of (λ (x : T). Done) r) m s g) where
    pub done : StepsTo past past.tokens Syncs Done m s g
    done = subst (λ (y : Result T WalError). StepsTo past past.tokens Syncs (answered number_of (λ (x : T). Done) y) m s g) was steps

    abbrev pub between : Past
    between = record { state = synced past.state; made = done.made; tokens = past.tokens }

    opened : past.state.is_open ≡ true
    opened = open_of past.state done.row.0

    pub fits_between : FitsCore between m g
    fits_between = subst (λ (x : State). FitsCore (record { state = x; made = done.made; tokens = past.tokens }) m g) done.row.1 done.fits

    pub open_between : IsTrue m.is_open
    open_between = fits_between.is_open ∙ opened

    pub none_between : between.made.unsynced ≡ false
    none_between =
        let core = fits.core (fits.is_open ∙ opened) in
        logs_synced past.state.page_size s.sector s.tears core.0 core.4.newest_log.0 past.made.logs past.made done.made core.4.newest_log.1 done.makes

    pub oldest_between : (i : ℕ) → IsOldest past.state i → IsOldest between.state i
    oldest_between i oldest = record { least = oldest.least; is = oldest.is }

    module _ (b f : Core) (t : DiskState) where
      step_by : (q : Result Checkpointed WalError) → BroughtOver between q m b g t → ClosedBy q b f → StepsTo past past.tokens Checkpoints (answered number_of answer_of q) f s t
      step_by (Ok x) durable same = record {
        next = checkpointed past.state;
        made = done.made;
        same = filled_same past.state.page_size done.made.logs s g done.same t durable.4;
        refused = omega (arith, done.refused, durable.0);
        told = λ more. absurd (let bad : Done ≡ Refused 15 = done.told (omega (arith, durable.0, more)) in cc);
        row = row_moves x past.state g.refused t.refused s.refused t.refused durable.1;
        makes = made_by x;
        fits = subst (λ (core : Core). FitsCore (record { state = checkpointed past.state; made = done.made; tokens = past.tokens }) core t) (sym same) durable.2;
      }
        where
          made_by : (y : Checkpointed) → Makes past.state.page_size s.sector s.tears past.made Checkpoints (answer_of y) done.made
          made_by AllOfIt = done.makes
          made_by PartOfIt = done.makes
      step_by (Err x) durable shut = subst (λ (y : WalError). StepsTo past past.tokens Checkpoints (Refused (number_of y)) f s t) (sym durable.1) (record {
        next = closed past.state;
        made = done.made;
        same = filled_same past.state.page_size done.made.logs s g done.same t durable.6;
        refused = omega (arith, done.refused, durable.0);
        told = λ more. refl;
        row = refuses_device past.state s.refused t.refused done.row.0 (⊎_elim (λ lt. inl (omega (arith, done.refused))) (λ most. inr most) durable.2);
        makes = done.makes;
        fits = record {
          disk = record {
            suits = durable.3.suits;
            floor = fits.disk.floor;
            held = durable.3.held;
            made = durable.3.made;
            left = lower_left past.state.page_size done.made.logs past.state.history past.state.floor (last past.state.history) t (omega (arith, fits.disk.floor)) durable.3.left;
            present = λ opened_shut. absurd (let no : false ≡ true = opened_shut in cc);
          };
          page_size = shut.1 ∙ durable.4 ∙ fits_between.page_size;
          is_open = shut.0;
          core = λ opened_shut. absurd (let no : false ≡ true = sym shut.0 ∙ opened_shut in cc);
          count = fits.count;
          together = fits.together;
          marks = λ k. ap (times k) (shut.2 ∙ durable.5) ∙ fits_between.marks k;
        };
      })

      pub checkpoint_steps : (q z : Result Checkpointed WalError) → z ≡ q → BroughtOver between q m b g t → ClosedBy q b f → StepsTo past past.tokens Checkpoints (answered number_of answer_of z) f s t
      checkpoint_steps q z same durable shut = subst (λ (y : Result Checkpointed WalError). StepsTo past past.tokens Checkpoints (answered number_of answer_of y) f s t) (sym same) (step_by q durable shut)

      just_by : (q : Result Checkpointed WalError) (i : ℕ) → IsOldest past.state i → BroughtOver between q m b g t → OnOk q (LeavesJust past.state.page_size (at past.state.history i) t)
      just_by (Ok x) i oldest durable = durable.3 i (oldest_between i oldest)
      just_by (Err x) i oldest durable = tt

      pub checkpoint_leaves : (q z : Result Checkpointed WalError) (i : ℕ) → z ≡ q → IsOldest past.state i → BroughtOver between q m b g t → OnOk z (LeavesJust past.state.page_size (at past.state.history i) t)
      checkpoint_leaves q z i same oldest durable = subst (λ (y : Result Checkpointed WalError). OnOk y (LeavesJust past.state.page_size (at past.state.history i) t)) (sym same) (just_by q i oldest durable)
