-- The changes between two databases as they are printed, and why they aren't (own).
use Rattle.std.specs.Prelude.{◌≡◌, ◌≢◌, ◌⊎◌, ◌<◌, ◌≤◌, ◌+◌, ◌++◌, ℕ, Bool, true, false, List, [], ◌∷◌, length, map, take, slice_get, Option, Some, None, All}
use Rattle.std.specs.Borrow.{Bor}
use Rattle.std.specs.Io.KnownBytes.{Appends}
use Rattle.sqval.specs.Bytes.{word}
use Rattle.sqval.specs.Database.{Database, page}
use Rattle.sqtables.specs.declared.list.Object.{Object}
use Rattle.sqtables.specs.Objects.{IsTableNamed}
use Rattle.sqdeep.specs.declared.text.Encoding.{Encoding}
use Rattle.sqdeep.specs.declared.text.Encoding.TheVariants.{Utf8}
use Rattle.sqdeep.specs.Records.{encoding_of}
use Rattle.cli_show_rows.specs.declared.stop.Stop.{Stop}
use Rattle.cli_show_rows.specs.declared.stop.Stop.TheVariants.{Encoding as Encodings, LeftOut, NoSuchTable}
use Rattle.cli_show_rows.specs.Schemas.{HasObjectsRead}
use Rattle.cli_show_rows.specs.Strays.{HasStrays}
use Rattle.cli_show_rows.specs.Stops.{IsUnheaded, SchemaRefused}
use Rattle.cli_show_diff.specs.declared.changes.Schemas.{Schemas}
use Rattle.cli_show_diff.specs.declared.form.ChangeForm.{ChangeForm}
use Rattle.cli_show_diff.specs.declared.pair.Pair.{Pair}
use Rattle.cli_show_diff.specs.declared.turn.Turn.{Turn}
use Rattle.cli_show_diff.specs.declared.turn.Side.TheVariants.{Old, New}
use Rattle.cli_show_diff.specs.Frames.{IsClosingText, IsOpeningText, IsStopToldIn, left_text_of, strays_in}
use Rattle.cli_show_diff.specs.LeftOut.{LeavesOut}
use Rattle.cli_show_diff.specs.Pairs.{IsPairPrinted, IsPairStopped}
use Rattle.cli_show_diff.specs.Turns.{AreTurnsPrinted, AreTurnsStopped, IsFound}

-- a database has pages, and its texts are in this encoding
abbrev pub IsEncoded : Database → Encoding → Type 0
IsEncoded d encoding = (length d ≢ 0) × (encoding ≡ encoding_of d)

-- the objects of a database and the encoding of its texts; one without pages has neither
abbrev pub HasObjectsOf : Database → Option Encoding → List Object → Type 0
HasObjectsOf d None objects = (length d ≡ 0) × (objects ≡ [])
HasObjectsOf d (Some encoding) objects = IsEncoded d encoding × HasObjectsRead d objects × (word (page d 1) 56 ≤ 3)

-- The encoding that two databases have in common; where neither has one that of a new database.
abbrev pub IsCommon : (old new : Option Encoding) → Encoding → Type 0
IsCommon None None encoding = encoding ≡ Utf8
IsCommon None (Some is) encoding = encoding ≡ is
IsCommon (Some was) None encoding = encoding ≡ was
IsCommon (Some was) (Some is) encoding = (encoding ≡ was) × (encoding ≡ is)

-- the rows of its schema that describe no object
abbrev pub HasStraysOf : Database → Option Encoding → List (List ℕ) → Type 0
HasStraysOf d None strays = strays ≡ []
HasStraysOf d (Some encoding) strays = HasStrays d encoding strays

-- the tables of the old database in their turn, and those of the new one that it lacks
abbrev pub turn_old : Schemas → (internal : Bool) → Turn
turn_old schemas internal = record { side = Old; internal = internal; objects = schemas.old; others = schemas.new }

abbrev pub turn_new : Schemas → (internal : Bool) → Turn
turn_new schemas internal = record { side = New; internal = internal; objects = schemas.new; others = schemas.old }

-- The changes of the user's tables were printed, or of SQLite's own: first of those that the old database has.
abbrev pub AreTablesPrinted : Database → Database → Schemas → (internal : Bool) → ChangeForm → (before after : Option (List ℕ)) → Type 0
AreTablesPrinted d e schemas internal form before after =
    (mid : Option (List ℕ)) × AreTurnsPrinted d e (turn_old schemas internal) form schemas.old.now before mid
    × AreTurnsPrinted d e (turn_new schemas internal) form schemas.new.now mid after

abbrev pub AreTablesStopped : Database → Database → Schemas → (internal : Bool) → ChangeForm → Stop → (before after : Option (List ℕ)) → Type 0
AreTablesStopped d e schemas internal form stop before after =
    AreTurnsStopped d e (turn_old schemas internal) form schemas.old.now stop before after
    ⊎ ((mid : Option (List ℕ)) × AreTurnsPrinted d e (turn_old schemas internal) form schemas.old.now before mid
    × AreTurnsStopped d e (turn_new schemas internal) form schemas.new.now stop mid after)

-- Those of all tables were, SQLite's own last.
abbrev pub AreAllPrinted : Database → Database → Schemas → ChangeForm → (before after : Option (List ℕ)) → Type 0
AreAllPrinted d e schemas form before after =
    (mid : Option (List ℕ)) × AreTablesPrinted d e schemas false form before mid × AreTablesPrinted d e schemas true form mid after

abbrev pub AreAllStopped : Database → Database → Schemas → ChangeForm → Stop → (before after : Option (List ℕ)) → Type 0
AreAllStopped d e schemas form stop before after =
    AreTablesStopped d e schemas false form stop before after
    ⊎ ((mid : Option (List ℕ)) × AreTablesPrinted d e schemas false form before mid × AreTablesStopped d e schemas true form stop mid after)

-- the tables of this name in both databases
abbrev pub IsPairNamed : Schemas → (name : List ℕ) → Pair → Type 0
IsPairNamed schemas name pair = IsFound name schemas.old.now pair.old × IsFound name schemas.new.now pair.new

-- The changes of the table of this name were printed.
abbrev pub IsNamedPrinted : Database → Database → Schemas → (name : List ℕ) → ChangeForm → (before after : Option (List ℕ)) → Type 0
IsNamedPrinted d e schemas name form before after = (pair : Pair) × IsPairNamed schemas name pair × IsPairPrinted d e pair form before after

abbrev pub IsNamedStopped : Database → Database → Schemas → (name : List ℕ) → ChangeForm → Stop → (before after : Option (List ℕ)) → Type 0
IsNamedStopped d e schemas name form stop before after =
    (All (λ o. ¬ IsTableNamed name o) schemas.old.now × All (λ o. ¬ IsTableNamed name o) schemas.new.now × (stop ≡ NoSuchTable) × (before ≡ after))
    ⊎ ((pair : Pair) × IsPairNamed schemas name pair × IsPairStopped d e pair form stop before after)

-- Those of the tables of these names were, in their order.
abbrev pub AreNamedPrinted : Database → Database → Schemas → (names : List (List ℕ)) → ChangeForm → (before after : Option (List ℕ)) → Type 0
AreNamedPrinted d e schemas [] form before after = before ≡ after
AreNamedPrinted d e schemas (name ∷ names) form before after =
    (mid : Option (List ℕ)) × IsNamedPrinted d e schemas name form before mid × AreNamedPrinted d e schemas names form mid after

-- They were up to name i, at which the printing stopped.
abbrev pub AreNamedStopped : Database → Database → Schemas → (names : List (List ℕ)) → ChangeForm → Stop → (before after : Option (List ℕ)) → Type 0
AreNamedStopped d e schemas names form stop before after =
    (i : ℕ) × (name : List ℕ) × (mid : Option (List ℕ)) × (slice_get names i ≡ Some name) × AreNamedPrinted d e schemas (take i names) form before mid
    × IsNamedStopped d e schemas name form stop mid after

-- the bytes of names
abbrev pub texts_of : List (Bor (List ℕ)) → List (List ℕ)
texts_of names = map (λ n. n.now) names

-- Those of the tables that are asked for were, or of all where none is.
abbrev pub AreAskedPrinted : Database → Database → Schemas → (names : List (List ℕ)) → ChangeForm → (before after : Option (List ℕ)) → Type 0
AreAskedPrinted d e schemas [] form before after = AreAllPrinted d e schemas form before after
AreAskedPrinted d e schemas (name ∷ names) form before after = AreNamedPrinted d e schemas (name ∷ names) form before after

abbrev pub AreAskedStopped : Database → Database → Schemas → (names : List (List ℕ)) → ChangeForm → Stop → (before after : Option (List ℕ)) → Type 0
AreAskedStopped d e schemas [] form stop before after = AreAllStopped d e schemas form stop before after
AreAskedStopped d e schemas (name ∷ names) form stop before after = AreNamedStopped d e schemas (name ∷ names) form stop before after

-- They were printed between what stands before and behind them, and so many objects, or texts, are left out.
pub record AreFramed (d e : Database) (schemas : Schemas) (names : List (List ℕ)) (form : ChangeForm) (encoding : Encoding) (left : ℕ) (before after : Option (List ℕ)) : Type 0 where
  pub opening : List ℕ
  pub opens : IsOpeningText form encoding schemas.old.now schemas.new.now opening
  pub begun : Option (List ℕ)
  pub first : Appends before begun opening
  pub ended : Option (List ℕ)
  pub asked : AreAskedPrinted d e schemas names form begun ended
  pub closing : List ℕ
  pub closes : IsClosingText form schemas.old.now schemas.new.now closing
  pub last : Appends ended after closing
  pub counted : LeavesOut form names schemas.old.now schemas.new.now left

-- They were, and none is left out; beside these rows of both schemas, which describe no object.
abbrev pub AreFramedPrinted : Database → Database → Schemas → (names : List (List ℕ)) → ChangeForm → Encoding → (strays : List (List ℕ)) → (before after : Option (List ℕ)) → Type 0
AreFramedPrinted d e schemas names form encoding strays before after = AreFramed d e schemas names form encoding 0 before after × (strays ≡ [])

-- All were printed but what is left out, those rows with it, which the last line of a script counts.
abbrev pub AreSomeLeftOut : Database → Database → Schemas → (names : List (List ℕ)) → ChangeForm → Encoding → (strays : List (List ℕ)) → Stop → (before after : Option (List ℕ)) → Type 0
AreSomeLeftOut d e schemas names form encoding strays (LeftOut n) before after =
    (out : ℕ) × (mid : Option (List ℕ)) × AreFramed d e schemas names form encoding out before mid × (n ≡ out + length strays) × (0 < n)
    × Appends mid after (left_text_of form strays n)
AreSomeLeftOut d e schemas names form encoding strays _ before after = ⊥

-- They weren't: the writer failed, or memory ran out before anything was written; the printing stopped behind what stands before,
-- which a script tells; or something is left out.
abbrev pub AreFramedStopped : Database → Database → Schemas → (names : List (List ℕ)) → ChangeForm → Encoding → (strays : List (List ℕ)) → Stop → (before after : Option (List ℕ)) → Type 0
AreFramedStopped d e schemas names form encoding strays stop before after =
    IsUnheaded stop before after
    ⊎ ((opening : List ℕ) × (begun mid : Option (List ℕ)) × IsOpeningText form encoding schemas.old.now schemas.new.now opening × Appends before begun opening
    × AreAskedStopped d e schemas names form stop begun mid × IsStopToldIn form mid after)
    ⊎ AreSomeLeftOut d e schemas names form encoding strays stop before after

-- The changes between two databases were printed, whose texts are in one encoding.
abbrev pub AreChangesPrinted : Database → Database → (names : List (List ℕ)) → ChangeForm → (before after : Option (List ℕ)) → Type 0
AreChangesPrinted d e names form before after =
    (schemas : Schemas) × (was is : Option Encoding) × (encoding : Encoding) × HasObjectsOf d was schemas.old.now × HasObjectsOf e is schemas.new.now
    × IsCommon was is encoding × (olds news : List (List ℕ)) × HasStraysOf d was olds × HasStraysOf e is news × AreFramedPrinted d e schemas names form encoding (strays_in form (olds ++ news)) before after

-- They weren't to their end: the objects of one of both aren't listed, their texts are in two encodings, or the printing stopped.
abbrev pub AreChangesStopped : Database → Database → (names : List (List ℕ)) → ChangeForm → Stop → (before after : Option (List ℕ)) → Type 0
AreChangesStopped d e names form stop before after =
    ((SchemaRefused d stop ⊎ SchemaRefused e stop) × (before ≡ after))
    ⊎ ((was is : Encoding) × IsEncoded d was × IsEncoded e is × (was ≢ is) × (stop ≡ Encodings) × (before ≡ after))
    ⊎ ((schemas : Schemas) × (was is : Option Encoding) × (encoding : Encoding) × HasObjectsOf d was schemas.old.now × HasObjectsOf e is schemas.new.now
    × IsCommon was is encoding × (olds news : List (List ℕ)) × HasStraysOf d was olds × HasStraysOf e is news × AreFramedStopped d e schemas names form encoding (strays_in form (olds ++ news)) stop before after)
