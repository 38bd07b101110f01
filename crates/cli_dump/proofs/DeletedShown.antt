-- The deleted cells of the files that are asked for.
use Rattle.std.proofs.Common.{◌≡◌, ◌≢◌, ◌⊎◌, ◌≤◌, ℕ, Bool, true, false, List, [], ◌∷◌, Option, Result, Ok, Err, OnOk, length, inl, inr, ⊎_elim, refl, sym, ap, subst, arith}
use Rattle.std.specs.Prelude.{IfErr, MatchResult}
use Rattle.sqval.specs.Bytes.{word}
use Rattle.sqval.specs.Database.{Database}
use Rattle.sqval.specs.Limits.{Bounds}
use Rattle.sqwal.specs.Header.{IsHeader}
use Rattle.sqwal.proofs.log.DependenceOnPrefix.{word_same}
use Rattle.sqjournal.specs.Header.{magic}
use Rattle.sqjournal.specs.Journal.{IsHot}
use Rattle.sqview.specs.LogView.{IsLogged}
use Rattle.sqview.specs.Origins.{AreFramePlaces}
use Rattle.sqview.specs.declared.view.View.{View}
use Rattle.cli_words.specs.declared.requests.Style.{Style}
use Rattle.cli_words.specs.declared.requests.Commit.{Commit}
use Rattle.cli_words.specs.declared.requests.Commit.TheVariants.{Last, Front, At}
use Rattle.cli_show.specs.Views.{IsAskedView, IsWholeView, ReadsLog}
use Rattle.cli_show_frames.specs.Frames.{AreFramesPrinted, IsFramed}
use Rattle.cli_dump.specs.Deleted.{AreCellsPrinted}
use Rattle.cli_dump.proofs.PlacesShown.{framed_asked}

-- a hot journal is no write-ahead log
no_wal : (size : ℕ) (b : List ℕ) → IsHot b → ¬ IsHeader size b
no_wal size b hot header =
    let first : word b 0 ≡ 3654616569 = word_same b magic 8 0 hot.first.magic (omega arith) in
    ⊎_elim (λ e. omega (arith, first, e)) (λ e. omega (arith, first, e)) header.magic

empty_by : (l : List ℕ) → ¬ (l ≢ []) → l ≡ []
empty_by [] none = refl
empty_by (x ∷ l) none = absurd (none (λ e. cc))

-- The log that a view reads is the write-ahead log, or a hot journal beside which there is none.
abbrev pub IsLogOf : (wal journal log : List ℕ) → Type 0
IsLogOf wal journal log = (log ≡ wal) ⊎ (IsHot journal × (log ≡ journal) × (wal ≡ []))

log_whole : {F : Type 0} (limits : Bounds) (bytes : F → List ℕ) (at : Commit) (db wal journal log : List ℕ) (v : View F) → IsWholeView limits bytes at db wal journal v
    → ReadsLog at wal journal log → IsLogOf wal journal log
log_whole limits bytes Last db wal journal log v answer reads = ⊎_elim
    (λ hot. inr (hot.0, reads.0 hot.0, empty_by wal (λ some. answer.one (hot.0, some))))
    (λ rest. ⊎_elim (λ logged. inl (reads.1 logged.1.cold)) (λ alone. inl (reads.1 alone.0.cold)) rest) answer.shows
log_whole limits bytes (Front m) db wal journal log v answer reads = inl reads
log_whole limits bytes (At m) db wal journal log v answer reads = inl reads

pub log_asked : {F : Type 0} (limits : Bounds) (bytes : F → List ℕ) (at : Commit) (db wal journal : List ℕ) (v : View F) → IsAskedView limits bytes at db wal journal v
    → ReadsLog at wal journal (bytes v.log) → IsLogOf wal journal (bytes v.log)
log_asked limits bytes at db wal journal v asked reads = log_whole limits bytes at db wal journal (bytes v.log) asked.0 asked.1 reads

-- at a frame the log is the write-ahead log
wal_whole : {F : Type 0} (limits : Bounds) (bytes : F → List ℕ) (at : Commit) (db wal journal log : List ℕ) (v : View F) → IsWholeView limits bytes at db wal journal v
    → ReadsLog at wal journal log → 1 ≤ v.front → log ≡ wal
wal_whole limits bytes Last db wal journal log v answer reads one = ⊎_elim
    (λ (here : IsLogged wal journal v.front). reads.1 here.cold)
    (λ none. absurd (omega (arith, one, none.0))) answer.stands
wal_whole limits bytes (Front m) db wal journal log v answer reads one = reads
wal_whole limits bytes (At m) db wal journal log v answer reads one = reads

-- its places are those of its own frames
pub framed_as : {F : Type 0} (limits : Bounds) (bytes : F → List ℕ) (at : Commit) (db wal journal : List ℕ) (v : View F) → IsAskedView limits bytes at db wal journal v
    → ReadsLog at wal journal (bytes v.log) → IsFramed bytes v
framed_as limits bytes at db wal journal v asked reads one =
    let here : 1 ≤ asked.0.front = omega (arith, one, asked.2.sizes.1) in
    let same = wal_whole limits bytes at db wal journal (bytes v.log) asked.0 asked.1 reads here in
    subst (λ (l : List ℕ). AreFramePlaces v.page_size l v.front v.count v.places.items) (sym same) (framed_asked limits bytes at db wal journal v asked one)

frames_as : (size front : ℕ) (d : Database) (style : Style) (before after : Option (List ℕ)) (wal journal log : List ℕ) → IsLogOf wal journal log
    → AreFramesPrinted size log front d style before after → AreFramesPrinted size wal front d style before after
frames_as size front d style before after wal journal log (inl same) printed = subst (λ (l : List ℕ). AreFramesPrinted size l front d style before after) same printed
frames_as size front d style before after wal journal log (inr (hot, same, none)) (inl (nothing, kept)) =
    inl (inr (λ (header : IsHeader size wal). omega (arith, header.whole, ap length none)), kept)
frames_as size front d style before after wal journal log (inr (hot, same, none)) (inr (t, readable, header, told, written)) =
    absurd (no_wal size journal hot (subst (λ (l : List ℕ). IsHeader size l) same header))

-- what was printed by the log that a view reads is by the write-ahead log
pub cells_as : (all : Bool) (size front : ℕ) (d : Database) (style : Style) (before after : Option (List ℕ)) (wal journal log : List ℕ) → IsLogOf wal journal log
    → AreCellsPrinted all size log front d style before after → AreCellsPrinted all size wal front d style before after
cells_as false size front d style before after wal journal log of printed = printed
cells_as true size front d style before after wal journal log of (mid, pages, frames) = (mid, pages, frames_as size front d style mid after wal journal log of frames)

pub both : {T E : Type 0} (r : Result T E) (P Q : Type 0) (R : E → Type 0) → (P → Q) → OnOk r P → IfErr r R → MatchResult r (λ _. Q) R
both (Ok _) P Q R follows ok err = follows ok
both (Err _) P Q R follows ok err = err
