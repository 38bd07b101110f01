-- A run over a write-ahead log goes on.
use Rattle.std.proofs.Common.{◌≡◌, ℕ, Bool, List, [], ◌∷◌, ◌++◌, refl, sym, ◌∙◌, subst}
use Rattle.crashdisk.specs.Model.{state_of}
use Rattle.crashdisk.specs.declared.model.ModelDisk.{ModelDisk}
use Rattle.crashdisk.proofs.sector.SolidityOfSoundFiles.{size_is}
use Rattle.sqval.specs.Answers.{Answer}
use Rattle.sqval.specs.Runs.{Moment}
use Rattle.walcore.specs.Machine.{State, start, Act, Step}
use Rattle.walcore.specs.Making.{Made, Makes, Permits, Holds, nothing}
use Rattle.walcore.specs.Fits.{beginning}
use Rattle.walcore.proofs.machine.FitOfNewDisk.{base_fits}
use Rattle.walcore.proofs.machine.StepTargets.{Targets, step_in}
use Rattle.sqworld.specs.Pages.{pages_of}
use Rattle.sqworld.specs.Engines.{disk_of}
use Rattle.sqworld.specs.Worlds.{BeginsOn, AnswersOn}
use Rattle.sqworld.specs.WalWorlds.{MakesAll, FitsWal, wal_kind}
use Rattle.sqworld.specs.internal.FitAtBeginning.{just_pages, held_pages}
use Rattle.sqworld.specs.internal.Worlds.{given_moment, GoesTo, IsLawful}
use Rattle.sqworld.specs.declared.base.Base.{Base}
use Rattle.sqworld.specs.declared.engine.Given.{Given}
use Rattle.sqworld.specs.declared.event.Event.{Event}
use Rattle.sqworld.specs.declared.wal_engine.WalEngine.{WalEngine}
use Rattle.sqworld.specs.declared.wal_engine.WalEngine.TheVariants.{Closed}

-- ---- The page size of a run stays.

targets : (s : State) → Targets (λ t. t.page_size ≡ s.page_size) s
targets s = record {
  stays = refl;
  opens = λ k from within. refl;
  goes = refl;
  closes = refl;
  commits = λ pages size none. (refl, refl);
  syncs = refl;
  checkpoints = refl;
  restarts = refl;
  begins = refl;
  ends = λ reader. refl;
}

page_size_stays : (s : State) (act : Act) (answer : Answer) (before after : ℕ) (t : State) → Step s act answer before after t → t.page_size ≡ s.page_size
page_size_stays s act answer before after t step = step_in (λ u. u.page_size ≡ s.page_size) s act answer before after t (targets s) step

-- ---- One moment more.

module _ (size sector : ℕ) (tears : Bool) where
  holds_less : (made : Made) (ms : List (Moment Act)) (m : Moment Act) → Holds size sector tears made (ms ++ m ∷ []) → Holds size sector tears made ms
  holds_less made [] m h = tt
  holds_less made (x ∷ ms) m h = (h.0, λ new makes. holds_less new ms m (h.1 new makes))

  holds_last : (made : Made) (ms : List (Moment Act)) (m : Moment Act) (after : Made) → Holds size sector tears made (ms ++ m ∷ []) → MakesAll size sector tears made ms after → Permits after m.act m.answer
  holds_last made [] m after h e = subst (λ x. Permits x m.act m.answer) (sym e) h.0
  holds_last made (x ∷ ms) m after h all = holds_last all.0 ms m after (h.1 all.0 all.1) all.2

  makes_more : (made : Made) (ms : List (Moment Act)) (m : Moment Act) (mid new : Made) → MakesAll size sector tears made ms mid → Makes size sector tears mid m.act m.answer new → MakesAll size sector tears made (ms ++ m ∷ []) new
  makes_more made [] m mid new e makes = (new, subst (λ x. Makes size sector tears x m.act m.answer new) e makes, refl)
  makes_more made (x ∷ ms) m mid new all makes = (all.0, all.1, makes_more all.0 ms m mid new all.2 makes)

-- ---- What fits.

fits_new : (base : Base) (disk : ModelDisk) → BeginsOn base disk → FitsWal base [] (start base.page_size (pages_of base.pages.items)) (Closed disk 0)
fits_new base disk begins = record {
  past = beginning base.page_size (pages_of base.pages.items);
  state_is = refl;
  page_size = refl;
  fits = record {
    alone = base_fits base.page_size base.sector base.tears (pages_of base.pages.items) _ (state_of disk) begins.is_size (held_pages base.page_size base.sector base.tears (pages_of base.pages.items) base.is_base)
        (just_pages base.page_size (pages_of base.pages.items) base.is_base.pages_are.each) begins.new (size_is base.sector base.is_base.sector_size) base.is_base.whole;
    is_closed = refl;
    readers = refl;
    tokens = refl;
  };
  made = refl;
}

goes_on : (base : Base) (ms : List (Moment Act)) (state : State) (event : Event) (old new : WalEngine) (given : Given) → AnswersOn wal_kind base event old given new → (disk_of old).sector ≡ base.sector → (disk_of old).tears ≡ base.tears
    → FitsWal base ms state old → Holds base.page_size base.sector base.tears nothing (ms ++ given_moment wal_kind event given new ∷ []) → GoesTo wal_kind base ms (given_moment wal_kind event given new) state old new
goes_on base ms state event old new given answers sector tears was holds =
    let m : Moment Act = given_moment wal_kind event given new in
    let past = was.past in
    let served = answers.serves tears past was.page_size was.fits (holds_last base.page_size base.sector base.tears nothing ms m past.made holds was.made) in
    record {
      next = served.next.state;
      refused = served.refused;
      row = subst (λ (s : State). Step s m.act m.answer (disk_of old).refused (disk_of new).refused served.next.state) was.state_is served.row;
      fits = record {
        past = served.next;
        state_is = refl;
        page_size = page_size_stays past.state m.act m.answer (disk_of old).refused (disk_of new).refused served.next.state served.row ∙ was.page_size;
        fits = served.fits;
        made = makes_more base.page_size base.sector base.tears nothing ms m past.made served.next.made was.made
            (subst (λ n. Makes n base.sector base.tears past.made m.act m.answer served.next.made) was.page_size
            (subst (λ n. Makes past.state.page_size n base.tears past.made m.act m.answer served.next.made) sector
            (subst (λ b. Makes past.state.page_size (disk_of old).sector b past.made m.act m.answer served.next.made) tears served.makes)));
      };
      sector = served.sector;
      tears = served.tears;
    }

pub wal_lawful : IsLawful wal_kind
wal_lawful = record {
  found = λ page_size tears event old new given answers. answers.found;
  crashed = λ page_size tears event old new given answers. answers.crashed;
  is_disk = λ disk. refl;
  begins = fits_new;
  prefix = λ base ms m holds. holds_less base.page_size base.sector base.tears nothing ms m holds;
  goes = goes_on;
  needs_nothing = λ base events run none complete. absurd none;
}
