-- An event, with an engine and without one.
use Rattle.sqworld.proofs.Words.{Act, Answer, AreFiles, Bool, Change, Choice, Closed, Crashed, CrashedLog, Db, DiskState, Done, EndStep, EngineServes, Err, Event, Files, FitsAlone, FitsCore, FitsEngine, FitsSession, Found, GivenUpTo, Global, Happens, HasCalls, IfOk, IsAlone, IsCalm, IsLeftAt, IsLeftBy, IsSetTo, List, Log, Made, Makes, ModelDisk, NoReader, None, Ok, OnOk, OnlyCalls, Open, Opens, Option, Past, Permits, ReadStep, Reader, Refused, Refuses, Reply, ReplyDone, Rests, Result, SameFiles, SaysLeft, Serves, ServesTo, Session, SessionServes, Sets, Some, State, Step, StepsTo, Vec, Wal, WalEngine, [], act_of, answer_of, ap, append-nil, arith, begun_of, call_refusal, chosen, closed_answer, commit_refusal, cond, disk_of, false, files_of, first_true, forgotten, get_or, gone, inl, is_crash, is_opening, is_some, length, length-replicate, list_any, model_of, newest, no_stops, none_open, not, number_of, numbered, refl, replicate, restart_refusal, state_of, subst, suc, sym, true, zero, ℕ, ◌&&◌, ◌++◌, ◌+◌, ◌∙◌, ◌∷◌, ◌≡◌}
use Rattle.walcore.specs.Alone.{AreWhole}
use Rattle.walcore.specs.CommitRefusals.{refusal_of}
use Rattle.walcore.specs.declared.state.Core.{Core}
use Rattle.walcore.specs.declared.error.WalError.{WalError}
use Rattle.sqworld.specs.Engines.{Answers}
use Rattle.sqworld.specs.declared.engine.Given.{Given}
use Rattle.sqworld.specs.declared.event.Event.TheVariants.{Open as OpenEvent, Commit, Sync, Checkpoint, Restart, Begin, Read, End, StopAfter, StopAtSync, Fail, Crash, CrashAt}
use Rattle.walcore.proofs.machine.FitUnderUnchangedFiles.{same_core, fits_disk_still, fits_same}
use Rattle.walcore.proofs.crash.FitAfterCrash.{fits_crash}
use Rattle.sqworld.proofs.serve.FilesUnderSettings.{same_model, stopped_after, stopped_at_sync, failing, same_count, stopped_after_count, stopped_at_sync_count, failing_count, untold}

-- ---- Tokens.

all_none : (tokens : List (Option Reader)) (n : ℕ) → length tokens ≡ n → none_open tokens ≡ replicate n None
all_none [] zero h = refl
all_none [] (suc n) h = absurd (omega arith)
all_none (x ∷ tokens) zero h = absurd (omega arith)
all_none (x ∷ tokens) (suc n) h = ap (λ t. None ∷ t) (all_none tokens n (omega arith))

forgotten_twice : (readers : List (Option ℕ)) → forgotten readers ≡ forgotten (forgotten readers)
forgotten_twice [] = refl
forgotten_twice (x ∷ readers) = ap (λ r. None ∷ r) (forgotten_twice readers)

none_at : (readers : List (Option ℕ)) (reader : ℕ) → readers ≡ forgotten readers → get_or readers reader None ≡ None
none_at readers reader h = ap (λ r. get_or r reader None) h ∙ of readers reader
  where
    of : (rs : List (Option ℕ)) (n : ℕ) → get_or (forgotten rs) n None ≡ None
    of [] n = refl
    of (x ∷ rs) zero = refl
    of (x ∷ rs) (suc n) = of rs n

-- ---- What fits an engine fits its disk.

pub engine_disk : (past : Past) (engine : WalEngine) → FitsEngine past engine → FitsAlone past (disk_of engine)
engine_disk past (Closed disk begun) fits = fits.alone
engine_disk past (Open session) fits = record { disk = fits.core.disk; count = fits.core.count }

pub engine_tokens : (past : Past) (engine : WalEngine) → FitsEngine past engine → length past.tokens ≡ begun_of engine
engine_tokens past (Closed disk begun) fits = ap length fits.tokens ∙ length-replicate begun None
engine_tokens past (Open session) fits = ap length fits.tokens ∙ tokens_long session.first session.slots.items
  where
    tokens_long : (first : ℕ) (slots : List (Option Reader)) → length (replicate first None ++ slots) ≡ first + length slots
    tokens_long zero slots = omega arith
    tokens_long (suc first) slots = ap suc (tokens_long first slots) ∙ omega arith

-- ---- Rest.

opening_rests : (event : Event) (old new : WalEngine) → is_opening event ≡ true → Rests event old new
opening_rests event (Closed disk begun) new is = λ o k. absurd (cc (is, o))
opening_rests event (Open session) new is = tt

crash_rests : (event : Event) (old new : WalEngine) → is_crash event ≡ true → Rests event old new
crash_rests event (Closed disk begun) new is = λ o k. absurd (cc (is, k))
crash_rests event (Open session) new is = tt

pub closed_rests : {E : Type 0} (r : Result Reply E) (event : Event) (old new : ModelDisk) (begun : ℕ) → OnOk r (IsCalm event old new) → OnOk r (Rests event (Closed old begun) (Closed new begun))
closed_rests (Err e) event old new begun calm = tt
closed_rests (Ok reply) event old new begun calm = λ o k. calm

pub open_rests : {E : Type 0} (r : Result Reply E) (event : Event) (old : Session) (new : WalEngine) → OnOk r (Rests event (Open old) new)
open_rests (Err e) event old new = tt
open_rests (Ok reply) event old new = tt

-- ---- Openings.

pub opened_session : (past : Past) (salts : ℕ × ℕ) (found : Files) (s : DiskState) (wal : Wal ModelDisk) (session : Session) (begun : ℕ)
    → session.wal ≡ wal → session.first ≡ begun → session.slots.items ≡ [] → length past.tokens ≡ begun
    → StepsTo past (none_open past.tokens) (Opens salts found) Done wal.core s (state_of wal.disk)
    → ServesTo past (Opens salts found) Done (λ next. FitsEngine next (Open session)) s (state_of session.wal.disk)
opened_session past salts found s wal session begun same first slots count steps =
    let is : StepsTo past (none_open past.tokens) (Opens salts found) Done session.wal.core s (state_of session.wal.disk) =
    subst (λ (w : Wal ModelDisk). StepsTo past (none_open past.tokens) (Opens salts found) Done w.core s (state_of w.disk)) (sym same) steps in
    record {
      next = record { state = is.next; made = is.made; tokens = none_open past.tokens };
      refused = is.refused;
      told = is.told;
      row = is.row;
      makes = is.makes;
      fits = record {
        core = is.fits;
        tokens = all_none past.tokens begun count ∙ (ap (λ n. replicate n None) (sym first) ∙ (sym (append-nil (replicate session.first None)) ∙ ap (λ x. replicate session.first None ++ x) (sym slots)));
      };
      sector = is.same.sector;
      tears = is.same.tears;
      calls = is.same.calls;
    }

pub given_up : (past : Past) (salts : ℕ × ℕ) (found : Files) (error : WalError) (number : ℕ) (s : DiskState) (disk : ModelDisk) (begun : ℕ) → number ≡ number_of error → length past.tokens ≡ begun
    → GivenUpTo past salts found error s (state_of disk)
    → ServesTo past (Opens salts found) (Refused number) (λ next. FitsEngine next (Closed disk begun)) s (state_of disk)
given_up past salts found error number s disk begun is count up = record {
  next = record { state = up.next; made = up.made; tokens = none_open past.tokens };
  refused = up.refused;
  told = λ more. ap Refused (is ∙ ap number_of (up.told more));
  row = subst (λ n. Step past.state (Opens salts found) (Refused n) s.refused (state_of disk).refused up.next) (sym is) up.row;
  makes = subst (λ n. Makes past.state.page_size s.sector s.tears past.made (Opens salts found) (Refused n) up.made) (sym is) up.makes;
  fits = record {
    alone = up.fits;
    is_closed = ap (λ (x : State). x.is_open) up.row.1;
    readers = ap (λ (x : State). x.readers) up.row.1 ∙ (forgotten_twice past.state.readers ∙ ap (λ (x : State). forgotten x.readers) (sym up.row.1));
    tokens = all_none past.tokens begun count;
  };
  sector = up.same.sector;
  tears = up.same.tears;
  calls = up.same.calls;
}

pub open_answers : (page_size : ℕ) (tears : Bool) (event : Event) (old new : WalEngine) (salts : ℕ × ℕ) (reply : Reply) (found : Found) (s : DiskState) → event ≡ OpenEvent salts → s ≡ disk_of old → AreFiles s (files_of found)
    → ((past : Past) (files : Files) → AreFiles s files → past.state.page_size ≡ page_size → FitsAlone past s → length past.tokens ≡ begun_of old → Permits past.made (Opens salts files) (answer_of reply)
    → ServesTo past (Opens salts files) (answer_of reply) (λ next. FitsEngine next new) s (disk_of new))
    → Answers page_size tears event old (record { reply = reply; found = Some found; crashed = None }) new
open_answers page_size tears event old new salts reply found s is same files serves = record {
  found = ap is_opening (sym is);
  present = subst (λ t. AreFiles t (files_of found)) same files;
  crashed = none_left tears ∙ ap (λ e. tears && is_crash e) (sym is);
  happens = subst (λ e. Happens tears e None (model_of old) (model_of new)) (sym is) tt;
  rests = opening_rests event old new (ap is_opening is);
  serves = λ torn. subst (λ e. EngineServes page_size old new (act_of e (Some found) None) (answer_of reply)) (sym is)
      (subst (λ t. Serves page_size (λ past. FitsEngine past old) (λ past. FitsEngine past new) t (disk_of new) (Opens salts (files_of found)) (answer_of reply)) same
      (λ past size fits may. serves past (files_of found) files size (subst (λ t. FitsAlone past t) (sym same) (engine_disk past old fits)) (engine_tokens past old fits) may));
}
  where
    none_left : (b : Bool) → false ≡ (b && false)
    none_left true = refl
    none_left false = refl

-- ---- Crashes.

permitted : (tears : Bool) (s : DiskState) (log : List ℕ) (crashed : Option CrashedLog) (made : Made) → s.tears ≡ tears → SaysLeft tears crashed (record { log = log; kept = s.kept; handed = s.handed })
    → (choice : Event) → is_crash choice ≡ true → Permits made (act_of choice None crashed) Done → s.tears ≡ true → AreWhole s.kept s.handed log
permitted true s log (Some crashed) made e says (Crash choice) is may torn = subst (λ (c : Crashed). AreWhole c.kept c.handed c.log) says may
permitted true s log (Some crashed) made e says (CrashAt number) is may torn = subst (λ (c : Crashed). AreWhole c.kept c.handed c.log) says may
permitted true s log None made e says choice is may torn = absurd says
permitted false s log crashed made e says choice is may torn = absurd (cc (e, torn))
permitted true s log (Some crashed) made e says event is may torn = absurd (cc is)

pub and_is : (t b : Bool) → b ≡ true → t ≡ (t && b)
and_is true b h = sym h
and_is false b h = refl

crash_row : (s : State) (event : Event) (crashed : Option CrashedLog) (n m : ℕ) → is_crash event ≡ true → Step s (act_of event None crashed) Done n m (gone s)
crash_row s (Crash choice) (Some crashed) n m is = refl
crash_row s (CrashAt number) (Some crashed) n m is = refl
crash_row s (Crash choice) None n m is = refl
crash_row s (CrashAt number) None n m is = refl
crash_row s event crashed n m is = absurd (cc is)

crash_makes : (size sector : ℕ) (tears : Bool) (made : Made) (event : Event) (crashed : Option CrashedLog) → is_crash event ≡ true → Makes size sector tears made (act_of event None crashed) Done made
crash_makes size sector tears made (Crash choice) (Some crashed) is = refl
crash_makes size sector tears made (CrashAt number) (Some crashed) is = refl
crash_makes size sector tears made (Crash choice) None is = refl
crash_makes size sector tears made (CrashAt number) None is = refl
crash_makes size sector tears made event crashed is = absurd (cc is)

not_opening : (event : Event) → is_crash event ≡ true → false ≡ is_opening event
not_opening (OpenEvent salts) is = absurd (cc is)
not_opening event is = refl

crash_only : (size : ℕ) (logs : List (List ℕ)) (event : Event) (crashed : Option CrashedLog) (s t : DiskState) → is_crash event ≡ true → OnlyCalls size logs (act_of event None crashed) s t
crash_only size logs (Crash choice) (Some crashed) s t is = tt
crash_only size logs (CrashAt number) (Some crashed) s t is = tt
crash_only size logs (Crash choice) None s t is = tt
crash_only size logs (CrashAt number) None s t is = tt
crash_only size logs (OpenEvent salts) crashed s t is = absurd (cc is)
crash_only size logs (Commit pages n) crashed s t is = absurd (cc is)
crash_only size logs Sync crashed s t is = absurd (cc is)
crash_only size logs Checkpoint crashed s t is = absurd (cc is)
crash_only size logs (Restart salt2) crashed s t is = absurd (cc is)
crash_only size logs Begin crashed s t is = absurd (cc is)
crash_only size logs (Read reader page) crashed s t is = absurd (cc is)
crash_only size logs (End reader) crashed s t is = absurd (cc is)
crash_only size logs (StopAfter calls) crashed s t is = absurd (cc is)
crash_only size logs (StopAtSync syncs) crashed s t is = absurd (cc is)
crash_only size logs (Fail call part) crashed s t is = absurd (cc is)

crashed_answers : (page_size : ℕ) (tears : Bool) (event : Event) (choice : Choice) (old : WalEngine) (disk : ModelDisk) (begun : ℕ) (crashed : Option CrashedLog) (s : DiskState) → is_crash event ≡ true → s ≡ disk_of old → begun ≡ begun_of old
    → IsLeftBy tears choice crashed s (state_of disk) → Happens tears event crashed (model_of old) disk
    → Answers page_size tears event old (record { reply = ReplyDone; found = None; crashed = crashed }) (Closed disk begun)
crashed_answers page_size tears event choice old disk begun crashed s is same count left happens = record {
  found = not_opening event is;
  present = tt;
  crashed = left.some ∙ and_is tears (is_crash event) is;
  happens = happens;
  rests = crash_rests event old (Closed disk begun) is;
  serves = λ torn past size fits may.
      let e : s.tears ≡ tears = ap (λ (t : DiskState). t.tears) same ∙ torn in
      let fit : FitsAlone past s = subst (λ t. FitsAlone past t) (sym same) (engine_disk past old fits) in
      let c = left.crash in
      subst (λ t. ServesTo past (act_of event None crashed) Done (λ next. FitsEngine next (Closed disk begun)) t (state_of disk)) same (record {
        next = record { state = gone past.state; made = past.made; tokens = none_open past.tokens };
        refused = let r = c.refused in omega (arith, r);
        told = untold s.refused (state_of disk).refused c.refused;
        row = crash_row past.state event crashed s.refused (state_of disk).refused is;
        makes = crash_makes past.state.page_size s.sector s.tears past.made event crashed is;
        fits = record {
          alone = fits_crash past (chosen choice.db Db s) (chosen choice.log Log s) s (state_of disk) c (permitted tears s (chosen choice.log Log s) crashed past.made e (left.says e) event is may) fit;
          is_closed = refl;
          readers = forgotten_twice past.state.readers;
          tokens = all_none past.tokens begun (engine_tokens past old fits ∙ sym count);
        };
        sector = c.sector;
        tears = c.tears;
        calls = crash_only past.state.page_size past.made.logs event crashed s (state_of disk) is;
      });
}

pub crash_answers : (page_size : ℕ) (tears : Bool) (event : Event) (choice : Choice) (old : WalEngine) (disk : ModelDisk) (begun : ℕ) (crashed : Option CrashedLog) (s : DiskState) → event ≡ Crash choice → s ≡ disk_of old → begun ≡ begun_of old
    → IsLeftBy tears choice crashed s (state_of disk) → disk.stops ≡ no_stops
    → Answers page_size tears event old (record { reply = ReplyDone; found = None; crashed = crashed }) (Closed disk begun)
crash_answers page_size tears event choice old disk begun crashed s named same count left cleared =
    crashed_answers page_size tears event choice old disk begun crashed s (ap is_crash named) same count left
    (subst (λ e. Happens tears e crashed (model_of old) disk) (sym named) (subst (λ t. IsLeftBy tears choice crashed t (state_of disk)) same left, cleared))

pub crash_at_answers : (page_size : ℕ) (tears : Bool) (event : Event) (number : ℕ) (old : WalEngine) (disk : ModelDisk) (begun : ℕ) (crashed : Option CrashedLog) (s : DiskState) → event ≡ CrashAt number → s ≡ disk_of old → begun ≡ begun_of old
    → IsLeftAt tears number crashed s (state_of disk) → disk.stops ≡ no_stops
    → Answers page_size tears event old (record { reply = ReplyDone; found = None; crashed = crashed }) (Closed disk begun)
crash_at_answers page_size tears event number old disk begun crashed s named same count left cleared =
    crashed_answers page_size tears event left.choice old disk begun crashed s (ap is_crash named) same count left.left_by
    (subst (λ e. Happens tears e crashed (model_of old) disk) (sym named) (subst (λ t. IsLeftAt tears number crashed t (state_of disk)) same left, cleared))

-- ---- Without an engine.

refused_row : (r : Option ℕ) (memory : Bool) (failed s : State) (n m : ℕ) → r ≡ Some 1 → Refuses r memory failed n m s 1 s
refused_row r memory failed s n m e = subst (λ x. Refuses x memory failed n m s 1 s) (sym e) (refl, refl)

closed_row : (s : State) (event : Event) (n m : ℕ) → s.is_open ≡ false → s.readers ≡ forgotten s.readers → is_opening event ≡ false → is_crash event ≡ false → Step s (act_of event None None) (closed_answer event) n m s
closed_row s (OpenEvent salts) n m is none o k = absurd (cc o)
closed_row s (Crash choice) n m is none o k = absurd (cc k)
closed_row s (CrashAt number) n m is none o k = absurd (cc k)
closed_row s (Commit pages size) n m is none o k = refused_row (commit_refusal s (numbered pages.items) size) true _ s n m (ap (λ b. cond b (refusal_of (length (newest s.history)) s.page_size s.used (numbered pages.items) size) (Some 1)) is)
closed_row s Sync n m is none o k = refused_row (call_refusal s) false _ s n m (ap (λ b. first_true ((not b, 1) ∷ [])) is)
closed_row s Checkpoint n m is none o k = refused_row (call_refusal s) false _ s n m (ap (λ b. first_true ((not b, 1) ∷ [])) is)
closed_row s (Restart salt2) n m is none o k = refused_row (restart_refusal s) false _ s n m (ap (λ b. first_true ((not b, 1) ∷ (not s.drained, 11) ∷ (list_any is_some s.readers, 12) ∷ [])) is)
closed_row s Begin n m is none o k = refused_row (call_refusal s) true _ s n m (ap (λ b. first_true ((not b, 1) ∷ [])) is)
closed_row s (Read reader page) n m is none o k = subst (λ place. ReadStep place s page NoReader n m s) (sym (none_at s.readers reader none)) refl
closed_row s (End reader) n m is none o k = subst (λ place. EndStep place s reader NoReader s) (sym (none_at s.readers reader none)) refl
closed_row s (StopAfter calls) n m is none o k = refl
closed_row s (StopAtSync syncs) n m is none o k = refl
closed_row s (Fail call part) n m is none o k = refl

closed_makes : (size sector : ℕ) (tears : Bool) (made : Made) (event : Event) → is_opening event ≡ false → is_crash event ≡ false → Makes size sector tears made (act_of event None None) (closed_answer event) made
closed_makes size sector tears made (OpenEvent salts) o k = absurd (cc o)
closed_makes size sector tears made (Crash choice) o k = absurd (cc k)
closed_makes size sector tears made (CrashAt number) o k = absurd (cc k)
closed_makes size sector tears made (Commit pages s) o k = refl
closed_makes size sector tears made Sync o k = refl
closed_makes size sector tears made Checkpoint o k = refl
closed_makes size sector tears made (Restart salt2) o k = refl
closed_makes size sector tears made Begin o k = refl
closed_makes size sector tears made (Read reader page) o k = refl
closed_makes size sector tears made (End reader) o k = refl
closed_makes size sector tears made (StopAfter calls) o k = refl
closed_makes size sector tears made (StopAtSync syncs) o k = refl
closed_makes size sector tears made (Fail call part) o k = refl

closed_files : (event : Event) (old new : ModelDisk) → IsSetTo event old new → IsCalm event old new → SameFiles (state_of old) (state_of new)
closed_files (OpenEvent salts) old new set calm = same_model old new calm
closed_files (Crash choice) old new set calm = same_model old new calm
closed_files (CrashAt number) old new set calm = same_model old new calm
closed_files (Commit pages s) old new set calm = same_model old new calm
closed_files Sync old new set calm = same_model old new calm
closed_files Checkpoint old new set calm = same_model old new calm
closed_files (Restart salt2) old new set calm = same_model old new calm
closed_files Begin old new set calm = same_model old new calm
closed_files (Read reader page) old new set calm = same_model old new calm
closed_files (End reader) old new set calm = same_model old new calm
closed_files (StopAfter calls) old new set calm = stopped_after old new calls set
closed_files (StopAtSync syncs) old new set calm = stopped_at_sync old new syncs set
closed_files (Fail call part) old new set calm = failing old new call part set

closed_count : (event : Event) (old new : ModelDisk) → IsSetTo event old new → IsCalm event old new → (state_of new).refused ≡ (state_of old).refused
closed_count (OpenEvent salts) old new set calm = same_count old new calm
closed_count (Crash choice) old new set calm = same_count old new calm
closed_count (CrashAt number) old new set calm = same_count old new calm
closed_count (Commit pages s) old new set calm = same_count old new calm
closed_count Sync old new set calm = same_count old new calm
closed_count Checkpoint old new set calm = same_count old new calm
closed_count (Restart salt2) old new set calm = same_count old new calm
closed_count Begin old new set calm = same_count old new calm
closed_count (Read reader page) old new set calm = same_count old new calm
closed_count (End reader) old new set calm = same_count old new calm
closed_count (StopAfter calls) old new set calm = stopped_after_count old new calls set
closed_count (StopAtSync syncs) old new set calm = stopped_at_sync_count old new syncs set
closed_count (Fail call part) old new set calm = failing_count old new call part set

uncalled : {May : Change → Type 0} (old new : ModelDisk) → new ≡ old → HasCalls May (state_of old) (state_of new)
uncalled old new same = record { states = []; each = ap state_of same }

closed_only : (size : ℕ) (logs : List (List ℕ)) (event : Event) (old new : ModelDisk) → IsCalm event old new → OnlyCalls size logs (act_of event None None) (state_of old) (state_of new)
closed_only size logs (OpenEvent salts) old new calm = tt
closed_only size logs (Crash choice) old new calm = tt
closed_only size logs (CrashAt number) old new calm = tt
closed_only size logs (Commit pages s) old new calm = uncalled old new calm
closed_only size logs Sync old new calm = uncalled old new calm
closed_only size logs Checkpoint old new calm = uncalled old new calm
closed_only size logs (Restart salt2) old new calm = uncalled old new calm
closed_only size logs Begin old new calm = ap state_of calm
closed_only size logs (Read reader page) old new calm = inl (ap state_of calm)
closed_only size logs (End reader) old new calm = ap state_of calm
closed_only size logs (StopAfter calls) old new calm = tt
closed_only size logs (StopAtSync syncs) old new calm = tt
closed_only size logs (Fail call part) old new calm = tt

pub closed_serves : {E : Type 0} (r : Result Reply E) (page_size : ℕ) (event : Event) (old new : ModelDisk) (begun : ℕ) → IfOk r (λ reply. answer_of reply ≡ closed_answer event) → OnOk r (IsSetTo event old new) → OnOk r (IsCalm event old new)
    → IfOk r (λ reply. is_opening event ≡ false → is_crash event ≡ false → EngineServes page_size (Closed old begun) (Closed new begun) (act_of event None None) (answer_of reply))
closed_serves (Err e) page_size event old new begun told set calm = tt
closed_serves (Ok reply) page_size event old new begun told set calm = λ o k past size fits may.
    let files = closed_files event old new set calm in
    subst (λ a. ServesTo past (act_of event None None) a (λ next. FitsEngine next (Closed new begun)) (state_of old) (state_of new)) (sym told) (record {
      next = past;
      refused = files.refused;
      told = untold (state_of old).refused (state_of new).refused (closed_count event old new set calm);
      row = closed_row past.state event (state_of old).refused (state_of new).refused fits.is_closed fits.readers o k;
      makes = closed_makes past.state.page_size (state_of old).sector (state_of old).tears past.made event o k;
      fits = record {
        alone = record { disk = fits_disk_still (state_of old) (state_of new) files past fits.alone.disk; count = fits.alone.count };
        is_closed = fits.is_closed;
        readers = fits.readers;
        tokens = fits.tokens;
      };
      sector = files.sector;
      tears = files.tears;
      calls = closed_only past.state.page_size past.made.logs event old new calm;
    })

-- ---- Calls of an engine.

pub guarded : {E : Type 0} (r : Result Reply E) (page_size : ℕ) (old new : Session) (event : Event) (a : Act) → a ≡ act_of event None None → IfOk r (λ reply. SessionServes page_size old new a (answer_of reply))
    → IfOk r (λ reply. is_opening event ≡ false → is_crash event ≡ false → SessionServes page_size old new (act_of event None None) (answer_of reply))
guarded (Err x) page_size old new event a e h = tt
guarded (Ok reply) page_size old new event a e h = λ o k. subst (λ act. SessionServes page_size old new act (answer_of reply)) e h

pub told_act : (page_size : ℕ) (old new : Session) (event : Event) (a : Act) (answer : Answer) → a ≡ act_of event None None → SessionServes page_size old new a answer
    → is_opening event ≡ false → is_crash event ≡ false → SessionServes page_size old new (act_of event None None) answer
told_act page_size old new event a answer e h o k = subst (λ act. SessionServes page_size old new act answer) e h

event_files : (event : Event) (old new : ModelDisk) → is_opening event ≡ false → act_of event None None ≡ Sets → IsSetTo event old new → SameFiles (state_of old) (state_of new)
event_files (OpenEvent salts) old new o is set = absurd (cc o)
event_files (Crash choice) old new o is set = absurd (cc is)
event_files (CrashAt number) old new o is set = absurd (cc is)
event_files (Commit pages s) old new o is set = absurd (cc is)
event_files Sync old new o is set = absurd (cc is)
event_files Checkpoint old new o is set = absurd (cc is)
event_files (Restart salt2) old new o is set = absurd (cc is)
event_files Begin old new o is set = absurd (cc is)
event_files (Read reader page) old new o is set = absurd (cc is)
event_files (End reader) old new o is set = absurd (cc is)
event_files (StopAfter calls) old new o is set = stopped_after old new calls set
event_files (StopAtSync syncs) old new o is set = stopped_at_sync old new syncs set
event_files (Fail call part) old new o is set = failing old new call part set

event_count : (event : Event) (old new : ModelDisk) → is_opening event ≡ false → act_of event None None ≡ Sets → IsSetTo event old new → (state_of new).refused ≡ (state_of old).refused
event_count (OpenEvent salts) old new o is set = absurd (cc o)
event_count (Crash choice) old new o is set = absurd (cc is)
event_count (CrashAt number) old new o is set = absurd (cc is)
event_count (Commit pages s) old new o is set = absurd (cc is)
event_count Sync old new o is set = absurd (cc is)
event_count Checkpoint old new o is set = absurd (cc is)
event_count (Restart salt2) old new o is set = absurd (cc is)
event_count Begin old new o is set = absurd (cc is)
event_count (Read reader page) old new o is set = absurd (cc is)
event_count (End reader) old new o is set = absurd (cc is)
event_count (StopAfter calls) old new o is set = stopped_after_count old new calls set
event_count (StopAtSync syncs) old new o is set = stopped_at_sync_count old new syncs set
event_count (Fail call part) old new o is set = failing_count old new call part set

pub set_serves : (page_size : ℕ) (old new : Session) (event : Event) → is_opening event ≡ false → act_of event None None ≡ Sets → new.wal.core ≡ old.wal.core → IsSetTo event old.wal.disk new.wal.disk → new.first ≡ old.first → new.slots ≡ old.slots
    → SessionServes page_size old new (act_of event None None) Done
set_serves page_size old new event o is core set first slots past size fits may =
    let files = event_files event old.wal.disk new.wal.disk o is set in
    subst (λ act. ServesTo past act Done (λ next. FitsSession next new) (state_of old.wal.disk) (state_of new.wal.disk)) (sym is) (record {
      next = past;
      refused = files.refused;
      told = untold (state_of old.wal.disk).refused (state_of new.wal.disk).refused (event_count event old.wal.disk new.wal.disk o is set);
      row = refl;
      makes = refl;
      fits = record {
        core = subst (λ (x : Core). FitsCore past x (state_of new.wal.disk)) (sym core) (fits_same old.wal.core old.wal.core (state_of old.wal.disk) (state_of new.wal.disk) (same_core old.wal.core) files past refl fits.core);
        tokens = fits.tokens ∙ (ap (λ n. replicate n None ++ old.slots.items) (sym first) ∙ ap (λ (x : Vec (Option Reader) Global). replicate new.first None ++ x.items) (sym slots));
      };
      sector = files.sector;
      tears = files.tears;
      calls = tt;
    })

-- an event of no other kind sets a stop or a failure
pub others_set : (event : Event) → ((pages : Vec (ℕ × Vec ℕ Global) Global) (size : ℕ) → event ≡ Commit pages size → ⊥) → (event ≡ Sync → ⊥) → (event ≡ Checkpoint → ⊥) → ((salt2 : ℕ) → event ≡ Restart salt2 → ⊥) → (event ≡ Begin → ⊥)
    → ((reader page : ℕ) → event ≡ Read reader page → ⊥) → ((reader : ℕ) → event ≡ End reader → ⊥) → is_opening event ≡ false → is_crash event ≡ false → act_of event None None ≡ Sets
others_set (OpenEvent salts) a b c d e f g o k = absurd (cc o)
others_set (Crash choice) a b c d e f g o k = absurd (cc k)
others_set (CrashAt number) a b c d e f g o k = absurd (cc k)
others_set (Commit pages size) a b c d e f g o k = absurd (a pages size refl)
others_set Sync a b c d e f g o k = absurd (b refl)
others_set Checkpoint a b c d e f g o k = absurd (c refl)
others_set (Restart salt2) a b c d e f g o k = absurd (d salt2 refl)
others_set Begin a b c d e f g o k = absurd (e refl)
others_set (Read reader page) a b c d e f g o k = absurd (f reader page refl)
others_set (End reader) a b c d e f g o k = absurd (g reader refl)
others_set (StopAfter calls) a b c d e f g o k = refl
others_set (StopAtSync syncs) a b c d e f g o k = refl
others_set (Fail call part) a b c d e f g o k = refl

pub open_serves : {E : Type 0} (r : Result Reply E) (page_size : ℕ) (event : Event) (old new : Session)
    → IfOk r (λ reply. is_opening event ≡ false → is_crash event ≡ false → SessionServes page_size old new (act_of event None None) (answer_of reply))
    → IfOk r (λ reply. is_opening event ≡ false → is_crash event ≡ false → EngineServes page_size (Open old) (Open new) (act_of event None None) (answer_of reply))
open_serves (Err e) page_size event old new h = tt
open_serves (Ok reply) page_size event old new h = h

set_happens : (tears : Bool) (event : Event) (old new : ModelDisk) → is_crash event ≡ false → IsSetTo event old new → Happens tears event None old new
set_happens tears (Crash choice) old new k set = absurd (cc k)
set_happens tears (CrashAt number) old new k set = absurd (cc k)
set_happens tears event old new k set = set

no_crash : (tears : Bool) (event : Event) → is_crash event ≡ false → false ≡ (tears && is_crash event)
no_crash true event k = sym k
no_crash false event k = refl

pub call_answers : {E : Type 0} (r : Result Reply E) (given : Result Given E) (page_size : ℕ) (tears : Bool) (event : Event) (old new : WalEngine) → is_opening event ≡ false → is_crash event ≡ false → IsAlone r given
    → IfOk r (λ reply. is_opening event ≡ false → is_crash event ≡ false → EngineServes page_size old new (act_of event None None) (answer_of reply))
    → OnOk r (IsSetTo event (model_of old) (model_of new)) → OnOk r (Rests event old new)
    → IfOk given (λ g. Answers page_size tears event old g new)
call_answers (Err e) (Err f) page_size tears event old new o k alone h set rests = tt
call_answers (Err e) (Ok g) page_size tears event old new o k alone h set rests = absurd alone
call_answers (Ok reply) (Err f) page_size tears event old new o k alone h set rests = absurd alone
call_answers (Ok reply) (Ok g) page_size tears event old new o k alone h set rests =
    subst (λ x. Answers page_size tears event old x new) (sym alone) (record {
      found = sym o;
      present = tt;
      crashed = no_crash tears event k;
      happens = set_happens tears event (model_of old) (model_of new) k set;
      rests = rests;
      serves = λ torn. h o k;
    })

pub not_open : (event : Event) → ((salts : ℕ × ℕ) → event ≡ OpenEvent salts → ⊥) → is_opening event ≡ false
not_open (OpenEvent salts) h = absurd (h salts refl)
not_open event h = refl

pub not_crash : (event : Event) → ((choice : Choice) → event ≡ Crash choice → ⊥) → ((number : ℕ) → event ≡ CrashAt number → ⊥) → is_crash event ≡ false
not_crash (Crash choice) h g = absurd (h choice refl)
not_crash (CrashAt number) h g = absurd (g number refl)
not_crash event h g = refl
