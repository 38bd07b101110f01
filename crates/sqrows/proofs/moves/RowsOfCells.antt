-- The rows in the cells that are left.
use Rattle.std.proofs.Common.{◌≡◌, ◌↔◌, inl, inr, ℕ, true, List, [], ◌∷◌, ◌++◌, length, take, Option, ℤ, unwrap_or, refl, sym, ap, ◌∙◌, subst, arith}
use Rattle.sqval.specs.Record.{IsRecord}
use Rattle.sqpage.specs.declared.cell.Cell.{Cell}
use Rattle.sqval.specs.Database.{Database, page}
use Rattle.sqpage.specs.Freelist.{Leads, next_in}
use Rattle.sqpage.specs.declared.fault.Fault.{Fault}
use Rattle.sqpage.specs.declared.fault.Fault.TheVariants as faults
use Rattle.sqpage.specs.Chain.{IsPayload, ChainRefused, ChainBroken, links, payload_size, contents}
use Rattle.sqrows.specs.declared.cells.Cells.{Cells}
use Rattle.sqrows.specs.declared.rows.Rows.{Rows}
use Rattle.sqval.specs.Datum.{Datum}
use Rattle.sqrows.specs.declared.payload.PayloadError.{PayloadError}
use Rattle.sqrows.specs.declared.payload.PayloadError.TheVariants.{TooLong, Chain}
use Rattle.sqrows.specs.declared.rows.RowsError.{RowsError}
use Rattle.sqrows.specs.declared.rows.RowsError.TheVariants.{Tree, Payload}
use Rattle.sqrows.specs.Payloads.{PayloadRefused}
use Rattle.sqrows.specs.Trees.{Entry, entry_of, IsTree}
use Rattle.sqrows.specs.Cursor.{page_of, IsLeft, IsAt, Moves}
use Rattle.sqrows.specs.Rows.{Row, IsPayloadIn, AreRows, HasRows}
use Rattle.sqrows.specs.RowCursor.{RowsLeft, RowsMove, CellsMove, HasLoaded, HasNoPayload, IsAbove, RowsRefused}
use Rattle.sqrows.specs.internal.Loading.{LoadRefused}
use Rattle.sqrows.proofs.moves.StepsOfPage.{entry_once}

-- A payload is that of what the cell's entry says.
parts_links : (c e : Cell) → c.usable ≡ e.usable → c.payload ≡ e.payload → c.local.now ≡ e.local.now → links c ≡ links e
parts_links c e u p local = let l : length c.local.now ≡ length e.local.now = ap length local in rw (u, p, l) refl

module _ (d : Database) (i j : ℕ) (c e : Cell) (same : entry_of i c ≡ entry_of j e) where
  links_same : links c ≡ links e
  links_same = parts_links c e (ap (λ (x : Entry). x.usable) same) (ap (λ (x : Entry). x.payload) same) (ap (λ (x : Entry). x.local) same)

  content_same : (pages : List ℕ) → take (payload_size c) (c.local.now ++ contents d c.usable pages) ≡ take (payload_size e) (e.local.now ++ contents d e.usable pages)
  content_same pages =
      ap (λ (o : Option ℕ). take (unwrap_or o 0) (c.local.now ++ contents d c.usable pages)) (ap (λ (x : Entry). x.payload) same)
      ∙ ap (λ (l : List ℕ). take (payload_size e) (l ++ contents d c.usable pages)) (ap (λ (x : Entry). x.local) same)
      ∙ ap (λ (u : ℕ). take (payload_size e) (e.local.now ++ contents d u pages)) (ap (λ (x : Entry). x.usable) same)

  pub payload_moves : (x : List ℕ) → IsPayload d c x → IsPayload d e x
  payload_moves x f = record {
    pages = f.pages;
    last = f.last;
    enough = f.enough ∙ links_same;
    follows = record {
      linked = subst (λ o. Leads d e.page o f.pages f.last 0) (ap (λ (x : Entry). x.overflow) same) (subst (λ p. Leads d p c.overflow f.pages f.last 0) (ap (λ (x : Entry). x.page) same) f.follows.linked);
      distinct = f.follows.distinct;
    };
    content_is = f.content_is ∙ content_same f.pages;
  }

pages_once : (d : Database) (h k a at to : ℕ) (ps qs : List ℕ) → Leads d h a ps at 0 → Leads d k a qs to 0 → length ps ≡ length qs → ps ≡ qs
pages_once d h k a at to [] [] l m e = refl
pages_once d h k a at to [] (q ∷ qs) l m e = absurd (omega (arith, e))
pages_once d h k a at to (p ∷ ps) [] l m e = absurd (omega (arith, e))
pages_once d h k a at to (p ∷ ps) (q ∷ qs) l m e =
    let same : p ≡ q = sym l.0 ∙ m.0 in
    let n : length ps ≡ length qs = omega (arith, e) in
    let rest : ps ≡ qs = pages_once d p q (next_in (page d p)) at to ps qs l.2 (subst (λ z. Leads d q (next_in (page d z)) qs to 0) (sym same) m.2) n in
    ap (λ z. z ∷ ps) same ∙ ap (λ l. q ∷ l) rest

payload_once : (d : Database) (c : Cell) (x y : List ℕ) → IsPayload d c x → IsPayload d c y → x ≡ y
payload_once d c x y f g =
    let pages : f.pages ≡ g.pages = pages_once d c.page c.page c.overflow f.last g.last f.pages g.pages f.follows.linked g.follows.linked (f.enough ∙ sym g.enough) in
    f.content_is ∙ ap (λ ps. take (payload_size c) (c.local.now ++ contents d c.usable ps)) pages ∙ sym g.content_is

pub payload_in_once : (d : Database) (e : Entry) (x y : List ℕ) → IsPayloadIn d e x → IsPayloadIn d e y → x ≡ y
payload_in_once d e x y f g = payload_once d g.cell x y (payload_moves d e.index e.index f.cell g.cell (f.is ∙ sym g.is) x f.payload) g.payload

-- The cursor is at one cell.
pub at_once : (cells : Cells) (e f : Entry) → IsAt cells e → IsAt cells f → e ≡ f
at_once cells e f x y = x.entry ∙ entry_once (page_of cells.top) cells.at x.cell y.cell x.is y.is ∙ sym y.entry

pub rows_begin : (d : Database) (root : ℕ) (cursor : Rows) → ((xs : List Entry) → IsTree d root xs ↔ IsLeft d cursor.cells xs) → (all : List Row) → HasRows d root all ↔ RowsLeft d cursor all
rows_begin d root cursor tree all = (λ h. (h.0, (tree h.0).0 h.1, h.2), λ h. (h.0, (tree h.0).1 h.1, h.2))

pub no_row : (d : Database) (old : Rows) → ((xs : List Entry) → IsLeft d old.cells xs ↔ (xs ≡ [])) → (rows : List Row) → RowsLeft d old rows ↔ (rows ≡ [])
no_row d old none rows = (λ h. subst (λ z. AreRows d z rows) ((none h.0).0 h.1) h.2, λ is. ([], (none []).1 refl, is))

pub rows_move : (d : Database) (old new : Rows) (e : Entry) → HasLoaded d new e → ((xs : List Entry) → IsLeft d old.cells xs ↔ Moves d true xs new.cells) → (rows : List Row) → RowsLeft d old rows ↔ RowsMove d true rows new
rows_move d old new e loaded move rows = (on, back)
  where
    on : RowsLeft d old rows → RowsMove d true rows new
    on h =
        let m = (move h.0).0 h.1 in
        let are : AreRows d (m.0 ∷ m.1) rows = subst (λ z. AreRows d z rows) m.2 h.2 in
        let same : m.0 ≡ e = at_once new.cells m.0 e m.3 loaded.at in
        let bytes : are.2.bytes ≡ new.payload.items = payload_in_once d e are.2.bytes new.payload.items (subst (λ z. IsPayloadIn d z are.2.bytes) same are.2.payload) loaded.payload in
        (are.0, are.1, are.4, record { read = subst (λ b. IsRecord are.0.values b) bytes are.2.read; rowid = sym loaded.rowid ∙ ap (λ (z : Entry). z.rowid) (sym same) ∙ are.2.rowid }, (m.1, m.4, are.3))

    back : RowsMove d true rows new → RowsLeft d old rows
    back h =
        let xs = h.4.0 in
        let left = (move (e ∷ xs)).1 (e, xs, refl, loaded.at, h.4.1) in
        (e ∷ xs, left, (h.0, h.1, record { bytes = new.payload.items; payload = loaded.payload; read = h.3.read; rowid = loaded.rowid ∙ h.3.rowid }, h.4.2, h.2))

-- The same of cells.
pub cells_move : (d : Database) (old new : Rows) (e : Entry) → HasLoaded d new e → ((xs : List Entry) → IsLeft d old.cells xs ↔ Moves d true xs new.cells) → (xs : List Entry) → IsLeft d old.cells xs ↔ CellsMove d true xs new
cells_move d old new e loaded move xs = (
  λ left. let m = (move xs).0 left in (m.0, m.1, m.2, subst (λ (z : Entry). HasLoaded d new z) (at_once new.cells e m.0 loaded.at m.3) loaded, m.4),
  λ h. (move xs).1 (h.0, h.1, h.2, h.3.at, h.4),
)

unread : (d : Database) (cell : Cell) (fault : Fault) (at : ℕ) → ChainRefused d cell fault at → ¬ (fault ≡ faults.Source)
unread d cell fault at (inl cut) is = let e = cut.0 in cc
unread d cell fault at (inr broken) is = subst (λ f. ChainBroken d cell f at) is broken.1

pub refused_load : (d : Database) (cells : Cells) (cell : Cell) (limit : ℕ) (refusal : PayloadError) → ((e : Entry) → IsAt cells e → e ≡ entry_of cells.at cell) → PayloadRefused d cell limit refusal → LoadRefused d cells limit (Payload refusal)
refused_load d cells cell limit TooLong only refused = λ e at. subst (IsAbove limit) (sym (only e at)) refused
refused_load d cells cell limit (Chain r) only refused = (
  unread d cell r.fault r.page refused.0,
  λ other e at. subst (HasNoPayload d) (sym (only e at)) (λ bytes p. refused.1 other bytes (payload_moves d cells.at cells.at p.cell cell p.is bytes p.payload)),
)

pub refused_rows : (d : Database) (old : Rows) (cells : Cells) (refusal : RowsError) → LoadRefused d cells old.limit refusal → ((xs : List Entry) → IsLeft d old.cells xs → Moves d true xs cells) → RowsRefused d old refusal
refused_rows d old cells (Payload TooLong) load move = λ xs left. let m = move xs left in (m.0, m.1, m.2, load m.0 m.3)
refused_rows d old cells (Payload (Chain e)) load move = (load.0, λ other xs left. let m = move xs left in (m.0, m.1, m.2, load.1 other m.0 m.3))
refused_rows d old cells (Tree e) load move = (load.0, λ other xs left. let m = move xs left in load.1 m.0 m.3)

-- A row of this rowid and these values.
pub row_is : (row : Row) (id : Option ℤ) (values : List Datum) → id ≡ row.rowid → values ≡ row.values → row ≡ record { rowid = id; values = values }
row_is row id values p q = two (λ a b. record { rowid = a; values = b }) row.rowid id row.values values (sym p) (sym q)
  where
    two : (f : Option ℤ → List Datum → Row) (a a' : Option ℤ) (b b' : List Datum) → a ≡ a' → b ≡ b' → f a b ≡ f a' b'
    two f a a' b b' p q = cc
