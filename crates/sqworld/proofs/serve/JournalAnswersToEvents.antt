-- An event of a run over a rollback journal, with an engine and without one.
use Rattle.sqworld.proofs.Words.{Answer, Answers, AreFiles, Bool, Choice, Crashed, CrashedLog, Db, DiskState, Done, Err, Files, Fits, FitsDisk, Found, Global, HasCalls, IfOk, IsAlone, IsLeftAt, IsLeftBy, JEvent, JournalEngine, List, Log, ModelDisk, None, Ok, OnOk, Option, Refused, Refuses, Reply, ReplyDone, Result, SameFiles, SaysLeft, Some, Vec, [], answer_of, ap, arith, chosen, closed, cond, false, files_of, first_true, inl, length, nat_lt, newest, no_stops, not, numbered, read_refusal, refl, state_of, subst, sym, true, ℕ, ◌&&◌, ◌==◌, ◌∙◌, ◌∷◌, ◌≡◌}
use Rattle.rollcore.specs.Alone.{AreWhole}
use Rattle.rollcore.specs.Machine.{State, Act, Opens, Sets, Step, commit_refusal, refusal_of}
use Rattle.rollcore.specs.Changes.{MayChange}
use Rattle.rollcore.specs.Premises.{Permits}
use Rattle.rollcore.specs.Refusal.{number_of}
use Rattle.rollcore.specs.Fits.{FitsCore, StepsTo, GivenUpTo}
use Rattle.rollcore.specs.declared.error.RollError.{RollError}
use Rattle.rollcore.specs.declared.roll.Roll.{Roll}
use Rattle.rollcore.specs.declared.state.Core.{Core}
use Rattle.sqworld.specs.JournalRun.{act_of, is_opening, is_crash}
use Rattle.sqworld.specs.JournalEngines.{IsSetTo, IsCalm, Happens, Rests, OnlyCalls, ServesTo, Serves, FitsEngine, model_of, disk_of, EngineServes}
use Rattle.sqworld.specs.internal.JournalEngines.{RollServes, closed_answer}
use Rattle.sqworld.specs.declared.engine.Given.{Given}
use Rattle.sqworld.specs.declared.journal_engine.JournalEngine.TheVariants.{Closed, Open}
use Rattle.sqworld.specs.declared.journal_event.JEvent.TheVariants.{Open as Opening, Commit, Read, StopAfter, StopAtSync, Fail, Crash, CrashAt}
use Rattle.rollcore.proofs.crash.FitAfterCrash.{fits_crash}
use Rattle.rollcore.proofs.read.ContentOfReadPage.{fits_disk_still, fits_still}
use Rattle.sqworld.proofs.serve.AnswersToEvents.{and_is}
use Rattle.sqworld.proofs.serve.FilesUnderSettings.{same_model, stopped_after, stopped_at_sync, failing, same_count, stopped_after_count, stopped_at_sync_count, failing_count, untold}

-- what fits an engine fits its disk
engine_disk : (past : State) (engine : JournalEngine) → FitsEngine past engine → FitsDisk past (disk_of engine)
engine_disk past (Closed disk) fits = fits.disk
engine_disk past (Open roll) fits = fits.disk

-- a call's step is an event's
pub stepped : (page_size : ℕ) (old new : Roll ModelDisk) (act : Act) (told answer : Answer) → told ≡ answer
    → ((size sector : ℕ) → HasCalls (MayChange act size sector) (state_of old.disk) (state_of new.disk) → OnlyCalls size sector act (state_of old.disk) (state_of new.disk))
    → ((past : State) → past.page_size ≡ page_size → Fits state_of old past → StepsTo past act told new.core (state_of old.disk) (state_of new.disk))
    → RollServes page_size old new act answer
stepped page_size old new act told answer same only h past size fits may = let steps = h past size fits in record {
  next = steps.next;
  refused = steps.refused;
  told = λ more. sym same ∙ steps.told more;
  row = subst (λ a. Step past act a (state_of old.disk).refused (state_of new.disk).refused steps.next) same steps.row;
  fits = steps.fits;
  sector = steps.same.sector;
  tears = steps.same.tears;
  calls = only past.page_size (state_of old.disk).sector steps.same.calls;
}

-- ---- Rest.

opening_rests : (old new : JournalEngine) → Rests Opening old new
opening_rests (Closed disk) new = λ o k. absurd (cc o)
opening_rests (Open roll) new = tt

crash_rests : (event : JEvent) (old new : JournalEngine) → is_crash event ≡ true → Rests event old new
crash_rests event (Closed disk) new is = λ o k. absurd (cc (is, k))
crash_rests event (Open roll) new is = tt

pub closed_rests : {E : Type 0} (r : Result Reply E) (event : JEvent) (old new : ModelDisk) → OnOk r (IsCalm event old new) → OnOk r (Rests event (Closed old) (Closed new))
closed_rests (Err e) event old new calm = tt
closed_rests (Ok reply) event old new calm = λ o k. calm

pub open_rests : {E : Type 0} (r : Result Reply E) (event : JEvent) (old : Roll ModelDisk) (new : JournalEngine) → OnOk r (Rests event (Open old) new)
open_rests (Err e) event old new = tt
open_rests (Ok reply) event old new = tt

-- ---- Openings.

pub opened : (past : State) (found : Files) (s : DiskState) (roll : Roll ModelDisk) → StepsTo past (Opens found) Done roll.core s (state_of roll.disk)
    → ServesTo past (Opens found) Done (λ next. FitsEngine next (Open roll)) s (state_of roll.disk)
opened past found s roll steps = record { next = steps.next; refused = steps.refused; told = steps.told; row = steps.row; fits = steps.fits; sector = steps.same.sector; tears = steps.same.tears; calls = steps.same.calls }

pub given_up : (past : State) (found : Files) (error : RollError) (n : ℕ) (s : DiskState) (disk : ModelDisk) → n ≡ number_of error → GivenUpTo past found error s (state_of disk)
    → ServesTo past (Opens found) (Refused n) (λ next. FitsEngine next (Closed disk)) s (state_of disk)
given_up past found error n s disk is up = record {
  next = up.next;
  refused = up.refused;
  told = λ more. ap Refused (is ∙ ap number_of (up.told more));
  row = subst (λ k. Step past (Opens found) (Refused k) s.refused (state_of disk).refused up.next) (sym is) up.row;
  fits = record { disk = up.fits; is_closed = ap (λ (x : State). x.is_open) up.row.1 };
  sector = up.same.sector;
  tears = up.same.tears;
  calls = up.same.calls;
}

no_left : (b : Bool) → false ≡ (b && false)
no_left true = refl
no_left false = refl

pub open_answers : (page_size : ℕ) (tears : Bool) (old new : JournalEngine) (reply : Reply) (found : Found) (s : DiskState) → s ≡ disk_of old → AreFiles s (files_of found)
    → ((past : State) (files : Files) → AreFiles s files → past.page_size ≡ page_size → FitsDisk past s → ServesTo past (Opens files) (answer_of reply) (λ next. FitsEngine next new) s (disk_of new))
    → Answers page_size tears Opening old (record { reply = reply; found = Some found; crashed = None }) new
open_answers page_size tears old new reply found s same files serves = record {
  found = refl;
  present = subst (λ t. AreFiles t (files_of found)) same files;
  crashed = no_left tears;
  happens = tt;
  rests = opening_rests old new;
  serves = λ torn. subst (λ t. Serves page_size (λ past. FitsEngine past old) (λ past. FitsEngine past new) t (disk_of new) (Opens (files_of found)) (answer_of reply)) same
      (λ past size fits may. serves past (files_of found) files size (subst (λ t. FitsDisk past t) (sym same) (engine_disk past old fits)));
}

-- ---- Crashes.

permitted : (tears : Bool) (s : DiskState) (log : List ℕ) (crashed : Option CrashedLog) (event : JEvent) → s.tears ≡ tears → SaysLeft tears crashed (record { log = log; kept = s.kept; handed = s.handed })
    → is_crash event ≡ true → Permits (act_of event None crashed) → s.tears ≡ true → AreWhole s.kept s.handed log
permitted true s log (Some crashed) (Crash choice) e says is may torn = subst (λ (c : Crashed). AreWhole c.kept c.handed c.log) says may
permitted true s log (Some crashed) (CrashAt number) e says is may torn = subst (λ (c : Crashed). AreWhole c.kept c.handed c.log) says may
permitted true s log None event e says is may torn = absurd says
permitted false s log crashed event e says is may torn = absurd (cc (e, torn))
permitted true s log (Some crashed) event e says is may torn = absurd (cc is)

crash_row : (s : State) (event : JEvent) (crashed : Option CrashedLog) (n m : ℕ) → is_crash event ≡ true → Step s (act_of event None crashed) Done n m (closed s)
crash_row s (Crash choice) (Some crashed) n m is = refl
crash_row s (Crash choice) None n m is = refl
crash_row s (CrashAt number) (Some crashed) n m is = refl
crash_row s (CrashAt number) None n m is = refl
crash_row s event crashed n m is = absurd (cc is)

crash_only : (size sector : ℕ) (event : JEvent) (crashed : Option CrashedLog) (s t : DiskState) → is_crash event ≡ true → OnlyCalls size sector (act_of event None crashed) s t
crash_only size sector (Crash choice) (Some crashed) s t is = tt
crash_only size sector (Crash choice) None s t is = tt
crash_only size sector (CrashAt number) (Some crashed) s t is = tt
crash_only size sector (CrashAt number) None s t is = tt
crash_only size sector Opening crashed s t is = absurd (cc is)
crash_only size sector (Commit pages n nonces) crashed s t is = absurd (cc is)
crash_only size sector (Read page) crashed s t is = absurd (cc is)
crash_only size sector (StopAfter calls) crashed s t is = absurd (cc is)
crash_only size sector (StopAtSync syncs) crashed s t is = absurd (cc is)
crash_only size sector (Fail call part) crashed s t is = absurd (cc is)

not_opening : (event : JEvent) → is_crash event ≡ true → false ≡ is_opening event
not_opening Opening is = absurd (cc is)
not_opening event is = refl

crashed_answers : (page_size : ℕ) (tears : Bool) (event : JEvent) (choice : Choice) (old : JournalEngine) (disk : ModelDisk) (crashed : Option CrashedLog) (s : DiskState) → is_crash event ≡ true → s ≡ disk_of old
    → IsLeftBy tears choice crashed s (state_of disk) → Happens tears event crashed (model_of old) disk
    → Answers page_size tears event old (record { reply = ReplyDone; found = None; crashed = crashed }) (Closed disk)
crashed_answers page_size tears event choice old disk crashed s is same left happens = record {
  found = not_opening event is;
  present = tt;
  crashed = left.some ∙ and_is tears (is_crash event) is;
  happens = happens;
  rests = crash_rests event old (Closed disk) is;
  serves = λ torn past size fits may.
      let e : s.tears ≡ tears = ap (λ (t : DiskState). t.tears) same ∙ torn in
      let fit : FitsDisk past s = subst (λ t. FitsDisk past t) (sym same) (engine_disk past old fits) in
      let c = left.crash in
      subst (λ t. ServesTo past (act_of event None crashed) Done (λ next. FitsEngine next (Closed disk)) t (state_of disk)) same (record {
        next = closed past;
        refused = let r = c.refused in omega (arith, r);
        told = untold s.refused (state_of disk).refused c.refused;
        row = crash_row past event crashed s.refused (state_of disk).refused is;
        fits = record {
          disk = fits_crash past (chosen choice.db Db s) (chosen choice.log Log s) s (state_of disk) c (permitted tears s (chosen choice.log Log s) crashed event e (left.says e) is may) fit;
          is_closed = refl;
        };
        sector = c.sector;
        tears = c.tears;
        calls = crash_only past.page_size s.sector event crashed s (state_of disk) is;
      });
}

pub crash_answers : (page_size : ℕ) (tears : Bool) (choice : Choice) (old : JournalEngine) (disk : ModelDisk) (crashed : Option CrashedLog) (s : DiskState) → s ≡ disk_of old → IsLeftBy tears choice crashed s (state_of disk) → disk.stops ≡ no_stops
    → Answers page_size tears (Crash choice) old (record { reply = ReplyDone; found = None; crashed = crashed }) (Closed disk)
crash_answers page_size tears choice old disk crashed s same left cleared =
    crashed_answers page_size tears (Crash choice) choice old disk crashed s refl same left (subst (λ t. IsLeftBy tears choice crashed t (state_of disk)) same left, cleared)

pub crash_at_answers : (page_size : ℕ) (tears : Bool) (number : ℕ) (old : JournalEngine) (disk : ModelDisk) (crashed : Option CrashedLog) (s : DiskState) → s ≡ disk_of old → IsLeftAt tears number crashed s (state_of disk) → disk.stops ≡ no_stops
    → Answers page_size tears (CrashAt number) old (record { reply = ReplyDone; found = None; crashed = crashed }) (Closed disk)
crash_at_answers page_size tears number old disk crashed s same left cleared =
    crashed_answers page_size tears (CrashAt number) left.choice old disk crashed s refl same left.left_by (subst (λ t. IsLeftAt tears number crashed t (state_of disk)) same left, cleared)

-- ---- Without an engine.

refused_row : (r : Option ℕ) (memory : Bool) (failed s : State) (n m : ℕ) → r ≡ Some 1 → Refuses r memory failed n m s 1 s
refused_row r memory failed s n m e = subst (λ x. Refuses x memory failed n m s 1 s) (sym e) (refl, refl)

closed_row : (s : State) (event : JEvent) (n m : ℕ) → s.is_open ≡ false → is_opening event ≡ false → is_crash event ≡ false → Step s (act_of event None None) (closed_answer event) n m s
closed_row s Opening n m is o k = absurd (cc o)
closed_row s (Crash choice) n m is o k = absurd (cc k)
closed_row s (CrashAt number) n m is o k = absurd (cc k)
closed_row s (Commit pages size nonces) n m is o k = refused_row (commit_refusal s (numbered pages.items) size nonces.items) true _ s n m
    (ap (λ b. cond b (refusal_of (length (newest s.history)) s.page_size (numbered pages.items) size (length nonces.items)) (Some 1)) is)
closed_row s (Read page) n m is o k = refused_row (read_refusal s page) false _ s n m (ap (λ b. first_true ((not b, 1) ∷ (page == 0, 4) ∷ (nat_lt (length (newest s.history)) page, 5) ∷ [])) is)
closed_row s (StopAfter calls) n m is o k = refl
closed_row s (StopAtSync syncs) n m is o k = refl
closed_row s (Fail call part) n m is o k = refl

closed_files : (event : JEvent) (old new : ModelDisk) → IsSetTo event old new → IsCalm event old new → SameFiles (state_of old) (state_of new)
closed_files Opening old new set calm = same_model old new calm
closed_files (Crash choice) old new set calm = same_model old new calm
closed_files (CrashAt number) old new set calm = same_model old new calm
closed_files (Commit pages size nonces) old new set calm = same_model old new calm
closed_files (Read page) old new set calm = same_model old new calm
closed_files (StopAfter calls) old new set calm = stopped_after old new calls set
closed_files (StopAtSync syncs) old new set calm = stopped_at_sync old new syncs set
closed_files (Fail call part) old new set calm = failing old new call part set

closed_count : (event : JEvent) (old new : ModelDisk) → IsSetTo event old new → IsCalm event old new → (state_of new).refused ≡ (state_of old).refused
closed_count Opening old new set calm = same_count old new calm
closed_count (Crash choice) old new set calm = same_count old new calm
closed_count (CrashAt number) old new set calm = same_count old new calm
closed_count (Commit pages size nonces) old new set calm = same_count old new calm
closed_count (Read page) old new set calm = same_count old new calm
closed_count (StopAfter calls) old new set calm = stopped_after_count old new calls set
closed_count (StopAtSync syncs) old new set calm = stopped_at_sync_count old new syncs set
closed_count (Fail call part) old new set calm = failing_count old new call part set

closed_only : (size sector : ℕ) (event : JEvent) (old new : ModelDisk) → IsCalm event old new → OnlyCalls size sector (act_of event None None) (state_of old) (state_of new)
closed_only size sector Opening old new calm = tt
closed_only size sector (Crash choice) old new calm = tt
closed_only size sector (CrashAt number) old new calm = tt
closed_only size sector (Commit pages n nonces) old new calm = record { states = []; each = ap state_of calm }
closed_only size sector (Read page) old new calm = inl (ap state_of calm)
closed_only size sector (StopAfter calls) old new calm = tt
closed_only size sector (StopAtSync syncs) old new calm = tt
closed_only size sector (Fail call part) old new calm = tt

pub closed_serves : {E : Type 0} (r : Result Reply E) (page_size : ℕ) (event : JEvent) (old new : ModelDisk) → IfOk r (λ reply. answer_of reply ≡ closed_answer event) → OnOk r (IsSetTo event old new) → OnOk r (IsCalm event old new)
    → IfOk r (λ reply. is_opening event ≡ false → is_crash event ≡ false → EngineServes page_size (Closed old) (Closed new) (act_of event None None) (answer_of reply))
closed_serves (Err e) page_size event old new told set calm = tt
closed_serves (Ok reply) page_size event old new told set calm = λ o k past size fits may.
    let files = closed_files event old new set calm in
    subst (λ a. ServesTo past (act_of event None None) a (λ next. FitsEngine next (Closed new)) (state_of old) (state_of new)) (sym told) (record {
      next = past;
      refused = files.refused;
      told = untold (state_of old).refused (state_of new).refused (closed_count event old new set calm);
      row = closed_row past event (state_of old).refused (state_of new).refused fits.is_closed o k;
      fits = record { disk = fits_disk_still past (state_of old) (state_of new) files fits.disk; is_closed = fits.is_closed };
      sector = files.sector;
      tears = files.tears;
      calls = closed_only past.page_size (state_of old).sector event old new calm;
    })

-- ---- Calls of an engine.

pub guarded : {E : Type 0} (r : Result Reply E) (page_size : ℕ) (old new : Roll ModelDisk) (event : JEvent) (act : Act) → act ≡ act_of event None None → IfOk r (λ reply. RollServes page_size old new act (answer_of reply))
    → IfOk r (λ reply. is_opening event ≡ false → is_crash event ≡ false → RollServes page_size old new (act_of event None None) (answer_of reply))
guarded (Err x) page_size old new event act e h = tt
guarded (Ok reply) page_size old new event act e h = λ o k. subst (λ a. RollServes page_size old new a (answer_of reply)) e h

event_files : (event : JEvent) (old new : ModelDisk) → is_opening event ≡ false → act_of event None None ≡ Sets → IsSetTo event old new → SameFiles (state_of old) (state_of new)
event_files Opening old new o is set = absurd (cc o)
event_files (Crash choice) old new o is set = absurd (cc is)
event_files (CrashAt number) old new o is set = absurd (cc is)
event_files (Commit pages size nonces) old new o is set = absurd (cc is)
event_files (Read page) old new o is set = absurd (cc is)
event_files (StopAfter calls) old new o is set = stopped_after old new calls set
event_files (StopAtSync syncs) old new o is set = stopped_at_sync old new syncs set
event_files (Fail call part) old new o is set = failing old new call part set

event_count : (event : JEvent) (old new : ModelDisk) → is_opening event ≡ false → act_of event None None ≡ Sets → IsSetTo event old new → (state_of new).refused ≡ (state_of old).refused
event_count Opening old new o is set = absurd (cc o)
event_count (Crash choice) old new o is set = absurd (cc is)
event_count (CrashAt number) old new o is set = absurd (cc is)
event_count (Commit pages size nonces) old new o is set = absurd (cc is)
event_count (Read page) old new o is set = absurd (cc is)
event_count (StopAfter calls) old new o is set = stopped_after_count old new calls set
event_count (StopAtSync syncs) old new o is set = stopped_at_sync_count old new syncs set
event_count (Fail call part) old new o is set = failing_count old new call part set

pub set_serves : (page_size : ℕ) (old new : Roll ModelDisk) (event : JEvent) → is_opening event ≡ false → act_of event None None ≡ Sets → new.core ≡ old.core → IsSetTo event old.disk new.disk
    → RollServes page_size old new (act_of event None None) Done
set_serves page_size old new event o is core set past size fits may =
    let files = event_files event old.disk new.disk o is set in
    subst (λ act. ServesTo past act Done (λ next. Fits state_of new next) (state_of old.disk) (state_of new.disk)) (sym is) (record {
      next = past;
      refused = files.refused;
      told = untold (state_of old.disk).refused (state_of new.disk).refused (event_count event old.disk new.disk o is set);
      row = refl;
      fits = subst (λ (x : Core). FitsCore past x (state_of new.disk)) (sym core) (fits_still past old.core (state_of old.disk) (state_of new.disk) files fits);
      sector = files.sector;
      tears = files.tears;
      calls = tt;
    })

-- an event of no other kind sets a stop or a failure
pub others_set : (event : JEvent) → ((pages : Vec (ℕ × Vec ℕ Global) Global) (size : ℕ) (nonces : Vec ℕ Global) → event ≡ Commit pages size nonces → ⊥) → ((page : ℕ) → event ≡ Read page → ⊥)
    → is_opening event ≡ false → is_crash event ≡ false → act_of event None None ≡ Sets
others_set Opening a b o k = absurd (cc o)
others_set (Crash choice) a b o k = absurd (cc k)
others_set (CrashAt number) a b o k = absurd (cc k)
others_set (Commit pages size nonces) a b o k = absurd (a pages size nonces refl)
others_set (Read page) a b o k = absurd (b page refl)
others_set (StopAfter calls) a b o k = refl
others_set (StopAtSync syncs) a b o k = refl
others_set (Fail call part) a b o k = refl

pub open_serves : {E : Type 0} (r : Result Reply E) (page_size : ℕ) (event : JEvent) (old new : Roll ModelDisk)
    → IfOk r (λ reply. is_opening event ≡ false → is_crash event ≡ false → RollServes page_size old new (act_of event None None) (answer_of reply))
    → IfOk r (λ reply. is_opening event ≡ false → is_crash event ≡ false → EngineServes page_size (Open old) (Open new) (act_of event None None) (answer_of reply))
open_serves (Err e) page_size event old new h = tt
open_serves (Ok reply) page_size event old new h = h

set_happens : (tears : Bool) (event : JEvent) (old new : ModelDisk) → is_crash event ≡ false → IsSetTo event old new → Happens tears event None old new
set_happens tears (Crash choice) old new k set = absurd (cc k)
set_happens tears (CrashAt number) old new k set = absurd (cc k)
set_happens tears event old new k set = set

no_crashed : (tears : Bool) (event : JEvent) → is_crash event ≡ false → false ≡ (tears && is_crash event)
no_crashed true event k = sym k
no_crashed false event k = refl

pub call_answers : {E : Type 0} (r : Result Reply E) (given : Result Given E) (page_size : ℕ) (tears : Bool) (event : JEvent) (old new : JournalEngine) → is_opening event ≡ false → is_crash event ≡ false → IsAlone r given
    → IfOk r (λ reply. is_opening event ≡ false → is_crash event ≡ false → EngineServes page_size old new (act_of event None None) (answer_of reply))
    → OnOk r (IsSetTo event (model_of old) (model_of new)) → OnOk r (Rests event old new)
    → IfOk given (λ g. Answers page_size tears event old g new)
call_answers (Err e) (Err f) page_size tears event old new o k alone h set rests = tt
call_answers (Err e) (Ok g) page_size tears event old new o k alone h set rests = absurd alone
call_answers (Ok reply) (Err f) page_size tears event old new o k alone h set rests = absurd alone
call_answers (Ok reply) (Ok g) page_size tears event old new o k alone h set rests =
    subst (λ x. Answers page_size tears event old x new) (sym alone) (record {
      found = sym o;
      present = tt;
      crashed = no_crashed tears event k;
      happens = set_happens tears event (model_of old) (model_of new) k set;
      rests = rests;
      serves = λ torn. h o k;
    })

pub not_open : (event : JEvent) → (event ≡ Opening → ⊥) → is_opening event ≡ false
not_open Opening h = absurd (h refl)
not_open event h = refl

pub not_crash : (event : JEvent) → ((choice : Choice) → event ≡ Crash choice → ⊥) → ((number : ℕ) → event ≡ CrashAt number → ⊥) → is_crash event ≡ false
not_crash (Crash choice) h g = absurd (h choice refl)
not_crash (CrashAt number) h g = absurd (g number refl)
not_crash event h g = refl
