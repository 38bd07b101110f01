-- A run over a rollback journal goes on.
use Rattle.std.proofs.Common.{◌≡◌, inl, inr, ℕ, true, false, cond, Bool, List, [], ◌∷◌, ◌++◌, length, Option, Some, None, refl, sym, ◌∙◌, ap, subst, arith}
use Rattle.std.specs.List.{count_by}
use Rattle.crashdisk.specs.Model.{state_of}
use Rattle.crashdisk.specs.declared.model.ModelDisk.{ModelDisk}
use Rattle.crashdisk.proofs.sector.SolidityOfSoundFiles.{size_is}
use Rattle.sqval.specs.Answers.{Answer, Done, Page, Refused, Refuses}
use Rattle.sqval.specs.Runs.{Moment}
use Rattle.rollcore.specs.Machine.{State, start, Act, Opens, Commits, Reads, Crashes, Sets, Step, commit_refusal, read_refusal}
use Rattle.rollcore.specs.Premises.{Permits, Holds}
use Rattle.rollcore.proofs.machine.FitOfSettledFiles.{base_fits}
use Rattle.sqworld.specs.Pages.{pages_of}
use Rattle.sqworld.specs.JournalRun.{is_crash}
use Rattle.sqworld.specs.JournalEngines.{disk_of}
use Rattle.sqworld.specs.WorldKinds.{moments, moments_of, IsComplete}
use Rattle.sqworld.specs.Worlds.{BeginsOn, AnswersOn}
use Rattle.sqworld.specs.JournalWorlds.{FitsJournal, journal_kind}
use Rattle.sqworld.specs.internal.FitAtBeginning.{just_pages, held_pages}
use Rattle.sqworld.specs.internal.Worlds.{given_moment, GoesTo, IsLawful}
use Rattle.sqworld.specs.declared.base.Base.{Base}
use Rattle.sqworld.specs.declared.engine.Given.{Given}
use Rattle.sqworld.specs.declared.journal_engine.JournalEngine.{JournalEngine}
use Rattle.sqworld.specs.declared.journal_engine.JournalEngine.TheVariants.{Closed}
use Rattle.sqworld.specs.declared.journal_event.JEvent.{JEvent}
use Rattle.sqworld.specs.declared.journal_event.JEvent.TheVariants.{Open, Commit, Read, StopAfter, StopAtSync, Fail, Crash, CrashAt}
use Rattle.sqworld.specs.declared.reply.Reply.{Reply}
use Rattle.sqworld.specs.declared.reply.Found.{Found}
use Rattle.sqworld.specs.declared.reply.Run.{Run}

-- ---- The page size of a run stays.

refuses_stays : (size : ℕ) (r : Option ℕ) (memory : Bool) (failed old : State) (before after number : ℕ) (new : State)
    → failed.page_size ≡ size → old.page_size ≡ size → Refuses r memory failed before after old number new → new.page_size ≡ size
refuses_stays size (Some first) memory failed old before after number new f o row = ap (λ (x : State). x.page_size) row.1 ∙ o
refuses_stays size None memory failed old before after number new f o (inl row) = ap (λ (x : State). x.page_size) row.2 ∙ o
refuses_stays size None memory failed old before after number new f o (inr row) = ap (λ (x : State). x.page_size) row.2 ∙ f

page_size_stays : (s : State) (act : Act) (answer : Answer) (before after : ℕ) (t : State) → Step s act answer before after t → t.page_size ≡ s.page_size
page_size_stays s (Opens found) Done before after t row = ap (λ (x : State). x.page_size) row.5
page_size_stays s (Opens found) (Refused number) before after t row = ap (λ (x : State). x.page_size) row.1
page_size_stays s (Opens found) _ before after t row = absurd row
page_size_stays s (Commits pages size nonces) Done before after t row = ap (λ (x : State). x.page_size) row.1
page_size_stays s (Commits pages size nonces) (Refused number) before after t row =
    refuses_stays s.page_size (commit_refusal s pages size nonces) _ _ s before after number t refl refl row
page_size_stays s (Commits pages size nonces) _ before after t row = absurd row
page_size_stays s (Reads number) (Page bytes) before after t row = ap (λ (x : State). x.page_size) row.2
page_size_stays s (Reads number) (Refused refusal) before after t row = refuses_stays s.page_size (read_refusal s number) _ s s before after refusal t refl refl row
page_size_stays s (Reads number) _ before after t row = absurd row
page_size_stays s (Crashes left) Done before after t row = ap (λ (x : State). x.page_size) row
page_size_stays s (Crashes left) _ before after t row = absurd row
page_size_stays s Sets Done before after t row = ap (λ (x : State). x.page_size) row
page_size_stays s Sets _ before after t row = absurd row

-- ---- One moment more.

holds_less : (ms : List (Moment Act)) (m : Moment Act) → Holds (ms ++ m ∷ []) → Holds ms
holds_less [] m h = tt
holds_less (x ∷ ms) m h = (h.0, holds_less ms m h.1)

holds_last : (ms : List (Moment Act)) (m : Moment Act) → Holds (ms ++ m ∷ []) → Permits m.act
holds_last [] m h = h.0
holds_last (x ∷ ms) m h = holds_last ms m h.1

-- ---- What fits.

fits_new : (base : Base) (disk : ModelDisk) → BeginsOn base disk → FitsJournal base [] (start base.page_size (pages_of base.pages.items)) (Closed disk)
fits_new base disk begins = record {
  page_size = refl;
  fits = record {
    disk = base_fits base.page_size base.sector base.tears (pages_of base.pages.items) _ (state_of disk) begins.is_size (size_is base.sector base.is_base.sector_size) base.is_base.whole
        (held_pages base.page_size base.sector base.tears (pages_of base.pages.items) base.is_base) (just_pages base.page_size (pages_of base.pages.items) base.is_base.pages_are.each) begins.new;
    is_closed = refl;
  };
}

goes_on : (base : Base) (ms : List (Moment Act)) (state : State) (event : JEvent) (old new : JournalEngine) (given : Given) → AnswersOn journal_kind base event old given new → (disk_of old).sector ≡ base.sector → (disk_of old).tears ≡ base.tears
    → FitsJournal base ms state old → Holds (ms ++ given_moment journal_kind event given new ∷ []) → GoesTo journal_kind base ms (given_moment journal_kind event given new) state old new
goes_on base ms state event old new given answers sector tears was holds =
    let m : Moment Act = given_moment journal_kind event given new in
    let served = answers.serves tears state was.page_size was.fits (holds_last ms m holds) in
    record {
      next = served.next;
      refused = served.refused;
      row = served.row;
      fits = record {
        page_size = page_size_stays state m.act m.answer (disk_of old).refused (disk_of new).refused served.next served.row ∙ was.page_size;
        fits = served.fits;
      };
      sector = served.sector;
      tears = served.tears;
    }

-- ---- A disk that doesn't tear meets each premise.

no_items : {X : Type 0} (xs : List X) → length xs ≡ 0 → xs ≡ []
no_items [] h = refl
no_items (x ∷ xs) h = absurd (omega arith)

untorn_permits : (event : JEvent) (found : Option Found) → Permits (journal_kind.act_of event found None)
untorn_permits Open None = tt
untorn_permits Open (Some found) = tt
untorn_permits (Commit pages size nonces) found = tt
untorn_permits (Read page) found = tt
untorn_permits (StopAfter n) found = tt
untorn_permits (StopAtSync n) found = tt
untorn_permits (Fail call part) found = tt
untorn_permits (Crash choice) found = tt
untorn_permits (CrashAt n) found = tt

holds_or : (none : Bool) (m : Moment Act) (ms : List (Moment Act)) → Permits m.act → Holds ms → Holds (cond none [] (m ∷ ms))
holds_or true m ms h i = tt
holds_or false m ms h i = (h, i)

untorn_holds : (events : List JEvent) (replies : List Reply) (refused : List ℕ) (founds : List Found) → Holds (moments journal_kind events replies refused founds [])
untorn_holds [] replies refused founds = tt
untorn_holds (event ∷ events) [] refused founds = tt
untorn_holds (event ∷ events) (reply ∷ replies) [] founds = tt
untorn_holds (event ∷ events) (reply ∷ replies) (n ∷ refused) founds = holds_or _ _ _ (untorn_permits event _) (untorn_holds events replies refused _)

needs_nothing : (base : Base) (events : List JEvent) (run : Run) → base.tears ≡ false → IsComplete journal_kind base.tears events run → Holds (moments_of journal_kind events run)
needs_nothing base events run untorn complete =
    let none : run.crashed.items ≡ [] = no_items run.crashed.items (complete.crashed ∙ ap (λ b. cond b (count_by is_crash events) 0) untorn) in
    subst (λ ks. Holds (moments journal_kind events run.replies.items run.refused.items run.found.items ks)) (sym none) (untorn_holds events run.replies.items run.refused.items run.found.items)

pub journal_lawful : IsLawful journal_kind
journal_lawful = record {
  found = λ page_size tears event old new given answers. answers.found;
  crashed = λ page_size tears event old new given answers. answers.crashed;
  is_disk = λ disk. refl;
  begins = fits_new;
  prefix = λ base ms m holds. holds_less ms m holds;
  goes = goes_on;
  needs_nothing = needs_nothing;
}
