-- Where rows stand, of the files that are asked for.
use Rattle.std.proofs.Common.{◌≡◌, ◌≤◌, ◌-◌, ℕ, List, Option, Result, Ok, Err, OnOk, length, take, sym, subst, arith}
use Rattle.std.specs.Prelude.{IfErr, MatchResult}
use Rattle.std.proofs.lemmas.List.{get_or-take, length-take-le}
use Rattle.sqval.specs.Database.{Database}
use Rattle.sqval.specs.Limits.{Bounds}
use Rattle.sqview.specs.LogView.{pages_of}
use Rattle.sqview.specs.Origins.{AreFramePlaces, IsFramePlace}
use Rattle.sqview.specs.declared.view.View.{View}
use Rattle.sqview.proofs.openings.PagesOfView.{length_laid}
use Rattle.cli_words.specs.declared.requests.Commit.{Commit}
use Rattle.cli_words.specs.declared.requests.Commit.TheVariants.{Last, Front, At}
use Rattle.sqpast.specs.Used.{IsUsedPart}
use Rattle.cli_show.specs.Views.{IsAskedView, IsWholeView}
use Rattle.cli_show_places.specs.Frames.{AreFrames, ArePlacesFramed, IsFramed}
use Rattle.cli_dump.specs.Places.{AskedStands}

-- the frame at which a view stands, and its frames
stands_whole : {F : Type 0} (limits : Bounds) (bytes : F → List ℕ) (at : Commit) (db wal journal : List ℕ) (v : View F)
    → IsWholeView limits bytes at db wal journal v → AskedStands at wal journal v.front
stands_whole limits bytes Last db wal journal v shown = shown.stands
stands_whole limits bytes (Front m) db wal journal v shown = shown.stands
stands_whole limits bytes (At m) db wal journal v shown = shown.stands

framed_whole : {F : Type 0} (limits : Bounds) (bytes : F → List ℕ) (at : Commit) (db wal journal : List ℕ) (v : View F)
    → IsWholeView limits bytes at db wal journal v → IsFramed wal v
framed_whole limits bytes Last db wal journal v shown = shown.framed
framed_whole limits bytes (Front m) db wal journal v shown =
    subst (λ (n : ℕ). 1 ≤ n → AreFramePlaces v.page_size wal n v.count v.places.items) (sym shown.stands) shown.framed
framed_whole limits bytes (At m) db wal journal v shown =
    subst (λ (n : ℕ). 1 ≤ n → AreFramePlaces v.page_size wal n v.count v.places.items) (sym shown.stands) shown.framed

-- of fewer pages they are the same
short_places : (size : ℕ) (w : List ℕ) (m most count : ℕ) (places : List ℕ) → count ≤ most → AreFramePlaces size w m most places
    → AreFramePlaces size w m count (take count places)
short_places size w m most count places le are = record {
  long = length-take-le count places (omega (arith, are.long));
  each = λ p one within. subst (λ (at : ℕ). IsFramePlace size w m p at) (sym (get_or-take count places (p - 1) 0 (omega arith)))
      (are.each p one (omega arith));
}

-- those of the pages that SQLite would use
framed_part : {F : Type 0} (bytes : F → List ℕ) (wal : List ℕ) (whole v : View F) → IsUsedPart bytes whole v → IsFramed wal whole → IsFramed wal v
framed_part bytes wal whole v part framed one =
    let here : 1 ≤ whole.front = omega (arith, one, part.sizes.1) in
    let short = short_places whole.page_size wal whole.front whole.count v.count whole.places.items part.within (framed here) in
    let placed = subst (λ (l : List ℕ). AreFramePlaces whole.page_size wal whole.front v.count l) (sym part.places) short in
    subst (λ (n : ℕ). AreFramePlaces v.page_size wal n v.count v.places.items) (sym part.sizes.1)
    (subst (λ (n : ℕ). AreFramePlaces n wal whole.front v.count v.places.items) (sym part.sizes.0) placed)

pub stands_asked : {F : Type 0} (limits : Bounds) (bytes : F → List ℕ) (at : Commit) (db wal journal : List ℕ) (v : View F)
    → IsAskedView limits bytes at db wal journal v → AskedStands at wal journal v.front
stands_asked limits bytes at db wal journal v asked =
    subst (λ (n : ℕ). AskedStands at wal journal n) (sym asked.2.sizes.1) (stands_whole limits bytes at db wal journal asked.0 asked.1)

pub framed_asked : {F : Type 0} (limits : Bounds) (bytes : F → List ℕ) (at : Commit) (db wal journal : List ℕ) (v : View F)
    → IsAskedView limits bytes at db wal journal v → IsFramed wal v
framed_asked limits bytes at db wal journal v asked = framed_part bytes wal asked.0 v asked.2 (framed_whole limits bytes at db wal journal asked.0 asked.1)

-- the frames of the pages that a view has
pub frames_shown : {F : Type 0} (bytes : F → List ℕ) (wal : List ℕ) (v : View F) (frames : ℕ → Option ℕ) → AreFrames v.page_size wal v.front v.count frames
    → AreFrames v.page_size wal v.front (length (pages_of bytes v)) frames
frames_shown bytes wal v frames are =
    subst (λ (n : ℕ). AreFrames v.page_size wal v.front n frames) (sym (length_laid v.page_size v.count (bytes v.db) (bytes v.log) v.places.items)) are

-- what was printed, to its end or not, with the frames by which it was
pub ended_framed : {F : Type 0} {E : Type 0} (wal : List ℕ) (v : View F) (ended : Result (Unit {0}) E) (P : (ℕ → Option ℕ) → Type 0) (R : (ℕ → Option ℕ) → E → Type 0)
    → OnOk ended (ArePlacesFramed wal v P) → IfErr ended (λ stop. ArePlacesFramed wal v (λ frames. R frames stop))
    → (frames : ℕ → Option ℕ) × AreFrames v.page_size wal v.front v.count frames × MatchResult ended (λ _. P frames) (λ stop. R frames stop)
ended_framed wal v (Ok done) P R ok err = ok
ended_framed wal v (Err stop) P R ok err = err
