-- The cells in the frames of a log that a view doesn't show (own).
use Rattle.std.specs.Prelude.{◌≡◌, ◌⊎◌, ℕ, zero, suc, ◌+◌, ◌-◌, ◌/◌, ◌≤◌, List, [], ◌++◌, length, take, Option}
use Rattle.std.specs.Io.KnownBytes.{Appends}
use Rattle.sqval.specs.Database.{Database}
use Rattle.sqwal.specs.Frames.{content_of, page_of}
use Rattle.sqwal.specs.Header.{IsHeader}
use Rattle.sqwal.specs.View.{IsLast}
use Rattle.sqpage.specs.Freelist.{IsPage, usable_size}
use Rattle.sqcheck.specs.Places.{used_in}
use Rattle.sqdeep.specs.Records.{encoding_of}
use Rattle.sqview.specs.Origins.{AreFramePlaces}
use Rattle.sqview.specs.declared.view.View.{View}
use Rattle.cli_words.specs.declared.requests.Style.{Style}
use Rattle.cli_row_text.specs.declared.form.Form.{Form}
use Rattle.cli_row_text.specs.Lines.{form_of}
use Rattle.cli_show_rows.specs.declared.stop.Stop.{Stop}
use Rattle.cli_show_deleted.specs.Images.{IsTextOfImage}
use Rattle.cli_show_deleted.specs.Opening.{IsUnlaid}
use Rattle.cli_show_deleted.specs.Printed.{AreDeletedPrinted, AreDeletedStopped, IsReadable, IsRunOut, notation_in}
use Rattle.sqval.specs.Database.{page}

-- how many whole frame slots a log has
abbrev pub slot_count : (size : ℕ) → (w : List ℕ) → ℕ
slot_count size w = (length w - 32) / (24 + size)

-- A database at a frame of a log shows a frame: its page is a page of the database and stands in it.
abbrev pub IsShown : (size : ℕ) → (w : List ℕ) → (front : ℕ) → Database → (i : ℕ) → Type 0
IsShown size w front d i = IsPage d (page_of size w i) × IsLast size w front (page_of size w i) i

-- what is used of the page of a number; of one that the database hasn't nothing
abbrev pub IsUsedOf : Database → (n : ℕ) → List ℕ → Type 0
IsUsedOf d n used = (IsPage d n × (used ≡ used_in d n)) ⊎ ((¬ IsPage d n) × (used ≡ []))

-- The text of a frame slot: the cells of its image that the page as it is shown doesn't have, and none where the frame is shown.
abbrev pub IsTextOfSlot : Form → (size : ℕ) → (w : List ℕ) → (front : ℕ) → Database → (i : ℕ) → List ℕ → Type 0
IsTextOfSlot form size w front d i t =
    (IsShown size w front d i × (t ≡ []))
    ⊎ ((¬ IsShown size w front d i) × ((shown : List ℕ) × IsUsedOf d (page_of size w i) shown
    × IsTextOfImage form i (page_of size w i) (take (usable_size d) (content_of size w i)) shown t))

-- The texts of the first slots, so many, one behind the other.
abbrev pub AreTextsOfSlots : Form → (size : ℕ) → (w : List ℕ) → (front : ℕ) → Database → (n : ℕ) → List ℕ → Type 0
AreTextsOfSlots form size w front d zero t = t ≡ []
AreTextsOfSlots form size w front d (suc n) t =
    (before own : List ℕ) × AreTextsOfSlots form size w front d n before × IsTextOfSlot form size w front d (suc n) own × (t ≡ before ++ own)

-- A log can't be one of this database, which has pages of this size: it has no valid header that names that size, or the database
-- has no pages.
abbrev pub IsNoLogOf : (size : ℕ) → (w : List ℕ) → Database → Type 0
IsNoLogOf size w d = (length d ≡ 0) ⊎ ¬ IsHeader size w

-- The cells of all whole slots of its log were printed, valid or not, as the database at this frame doesn't show them; nothing
-- of a log that can't be its own.
abbrev pub AreFramesPrinted : (size : ℕ) → (w : List ℕ) → (front : ℕ) → Database → Style → (before after : Option (List ℕ)) → Type 0
AreFramesPrinted size w front d style before after =
    (IsNoLogOf size w d × (before ≡ after))
    ⊎ ((t : List ℕ) × IsReadable d × IsHeader size w
    × AreTextsOfSlots (form_of (notation_in style) (encoding_of d)) size w front d (slot_count size w) t × Appends before after t)

-- Why they weren't to their end: memory ran out or the writer failed, or nothing was printed by what page 1 says.
abbrev pub AreFramesStopped : Database → Stop → (before after : Option (List ℕ)) → Type 0
AreFramesStopped d stop before after = IsRunOut stop ⊎ (IsUnlaid (page d 1) stop × (before ≡ after))

-- The places of a view are those of the frames of its own log up to the one at which it stands.
abbrev pub IsFramed : {F : Type 0} → (bytes : F → List ℕ) → View F → Type 0
IsFramed bytes v = 1 ≤ v.front → AreFramePlaces v.page_size (bytes v.log) v.front v.count v.places.items

-- The deleted cells of its pages were printed, and behind them those of its log's frames that it doesn't show.
abbrev pub AreAllPrinted : (size : ℕ) → (w : List ℕ) → (front : ℕ) → Database → Style → (before after : Option (List ℕ)) → Type 0
AreAllPrinted size w front d style before after =
    (mid : Option (List ℕ)) × AreDeletedPrinted d size style before mid × AreFramesPrinted size w front d style mid after

-- Why not all of them were: those of its pages, or behind these those of the frames.
abbrev pub AreAllStopped : (size : ℕ) → Database → Style → Stop → (before after : Option (List ℕ)) → Type 0
AreAllStopped size d style stop before after =
    AreDeletedStopped d size stop before after
    ⊎ ((mid : Option (List ℕ)) × AreDeletedPrinted d size style before mid × AreFramesStopped d stop mid after)
