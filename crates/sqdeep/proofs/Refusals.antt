-- What a refusal tells, and that none stands in a sound database.
use Rattle.std.proofs.Common.{◌≡◌, ◌∙◌, ℕ, suc, ◌+◌, List, [], ◌∷◌, Bool, refl, sym, ap, subst, inl, inr, arith}
use Rattle.std.specs.Prelude.{Option, Some, None}
use Rattle.sqval.specs.Database.{Database}
use Rattle.sqval.specs.Datum.{Datum}
use Rattle.sqval.specs.Record.{IsRecord}
use Rattle.sqval.proofs.payload.UniquenessOfReading.{record_only}
use Rattle.sqpage.specs.declared.cell.Cell.{Cell}
use Rattle.sqpage.specs.declared.fault.CheckError.{CheckError}
use Rattle.sqpage.specs.Header.{half}
use Rattle.sqpage.specs.Layout.{Span, AreFreeblocks}
use Rattle.sqpage.specs.Page.{Page}
use Rattle.sqpage.specs.Source.{UnlessUnread}
use Rattle.sqcheck.specs.Places.{IsCellAt, page_as}
use Rattle.sqcheck.specs.Stands.{StandsWith}
use Rattle.sqcheck.specs.WellFormed.{WellFormedWith}
use Rattle.sqcheck.proofs.checks.EndsOfCheck.{memory_stands}
use Rattle.sqcheck.proofs.checks.RefutationOfWellFormedness.{none_stands}
use Rattle.sqcheck.proofs.checks.RowsOfSchema.{row_once}
use Rattle.sqdeep.specs.declared.fault.DeepError.{DeepError}
use Rattle.sqdeep.specs.declared.fault.DeepError.TheVariants.{Check, Inner}
use Rattle.sqdeep.specs.declared.fault.InnerFault.{InnerFault}
use Rattle.sqdeep.specs.declared.fault.InnerFault.TheVariants as faults
use Rattle.sqdeep.specs.Headers.{HasKnownNumbers, HeaderRefused}
use Rattle.sqdeep.specs.Pages.{IsTidyPage, AreSpaced, PageRefused}
use Rattle.sqdeep.specs.Records.{IsSoundCell, CellRefused}
use Rattle.sqdeep.specs.Inside.{IsSoundInside, StandsInside, DeepRefused, RefutesSound}
use Rattle.sqdeep.specs.internal.Judging.{IsCutOff, Tells}

-- A page couldn't be read, or memory ran out.
pub cut_off : (given : Type 0) (maps : Bool) (d : Database) (size : ℕ) (e : CheckError) → IsCutOff given e → UnlessUnread given e.fault (StandsWith maps d size e.fault e.page)
cut_off given maps d size e h = (h.1, λ read. subst (λ f. StandsWith maps d size f e.page) (sym (h.0 read)) (memory_stands maps d size e.page))

-- What is told of a part refuses the whole.
pub refused_by : (given : Type 0) (maps : Bool) (d : Database) (size : ℕ) (e : DeepError) → WellFormedWith maps d size → Tells given d e → DeepRefused given maps d size e
refused_by given maps d size (Check e) w h = cut_off given maps d size e h
refused_by given maps d size (Inner e) w h = (w, h)

span_once : (x y : Span) → x.start ≡ y.start → x.size ≡ y.size → x ≡ y
span_once x y e f = ap (λ n. record { start = n; size = x.size }) e ∙ ap (λ n. record { start = y.start; size = n }) f

-- The freeblocks of a page are determined.
blocks_once : (used : List ℕ) (least at : ℕ) (xs ys : List Span) → AreFreeblocks used least at xs → AreFreeblocks used least at ys → xs ≡ ys
blocks_once used least at [] [] h k = refl
blocks_once used least at [] (y ∷ ys) h k = absurd (k.0 h)
blocks_once used least at (x ∷ xs) [] h k = absurd (h.0 k)
blocks_once used least at (x ∷ xs) (y ∷ ys) h k =
    let start : x.start ≡ y.start = h.1 ∙ sym k.1 in
    let size : x.size ≡ y.size = h.2.size ∙ ap (λ n. half used (n + 2)) start ∙ sym k.2.size in
    ap (λ b. b ∷ xs) (span_once x y start size) ∙ ap (λ bs. y ∷ bs) (blocks_once used (suc at) (half used at) xs ys h.3 k.3)

pub values_once : (bytes : List ℕ) (u v : List Datum) → IsRecord u bytes → IsRecord v bytes → u ≡ v
values_once bytes u v h k = sym (record_only h.types h.bodies bytes u h.reads h) ∙ record_only h.types h.bodies bytes v h.reads k

header_none : (d : Database) (fault : InnerFault) → HasKnownNumbers d → HeaderRefused d fault → ⊥
header_none d faults.Version h (inl r) = r h.write
header_none d faults.Version h (inr r) = r h.read
header_none d faults.SchemaFormat h r = r h.format
header_none d faults.TextEncoding h r = r h.encoding
header_none d _ h r = r

page_none : (b : Page) (root : ℕ) (fault : InnerFault) → IsTidyPage b root → PageRefused b root fault → ⊥
page_none b root faults.EmptyPage h r = r h.filled
page_none b root faults.FreeblockGap h (blocks, has, never) =
    never (subst (AreSpaced (suc (Rattle.sqpage.specs.Page.content_start_in b.used b.number))) (blocks_once b.used (Rattle.sqpage.specs.Page.content_start_in b.used b.number) (half b.used (Rattle.sqpage.specs.Page.head_at b.number + 1)) h.spaced.0 blocks h.spaced.1 has) h.spaced.2)
page_none b root _ h r = r

cell_none : (d : Database) (b : Page) (i : ℕ) (cell : Cell) (fault : InnerFault) → IsCellAt b i cell → IsSoundCell d cell → CellRefused d cell fault → ⊥
cell_none d b i cell faults.ShortCell at h r = let room = h.room in omega (arith, room, r)
cell_none d b i cell faults.TooLong at h (some, more) = let short = (h.holds some).short in omega (arith, short, more)
cell_none d b i cell faults.NotRecord at h (some, bytes, payload, never) =
    let has = h.holds some in
    let same : has.bytes ≡ bytes = row_once d b i has.bytes bytes (record { cell = cell; is = at; payload = has.payload }) (record { cell = cell; is = at; payload = payload }) in
    never has.values (subst (IsRecord has.values) same has.read)
cell_none d b i cell _ at h r = r

-- No fault stands in a sound database.
pub none_inside : (d : Database) (fault : InnerFault) (p : ℕ) (cell : Option ℕ) → IsSoundInside d → StandsInside d fault p cell → ⊥
none_inside d fault p None h (inl r) = header_none d fault h.header r.1
none_inside d fault p None h (inr (inl (kind, root, of_tree, r))) = page_none (page_as d kind p) root fault (h.pages kind root p of_tree) r
none_inside d fault p None h (inr (inr (e, (auto, root, q, none, behind)))) = (let first = h.roots auto p q root none in omega (arith, first, behind))
none_inside d fault p (Some i) h (kind, root, cell, of_tree, at, r) = cell_none d (page_as d kind p) i cell fault at (h.cells kind root p i cell of_tree at) r

-- So a refusal refutes that the database is sound.
pub refuted : (given : Type 0) (maps : Bool) (d : Database) (size : ℕ) (e : DeepError) → DeepRefused given maps d size e → RefutesSound maps d size e
refuted given maps d size (Check e) h = λ read other w. none_stands maps d size w e.fault e.page (h.1 read) other
refuted given maps d size (Inner e) h = λ s. none_inside d e.fault e.page e.cell s h.1

-- It stands too where fewer sources give their pages.
pub tells_of : (given now : Type 0) (d : Database) (e : DeepError) → (given → now) → Tells now d e → Tells given d e
tells_of given now d (Check e) f h = (h.0, λ is g. h.1 is (f g))
tells_of given now d (Inner e) f h = h
