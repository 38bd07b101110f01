-- The cells of a page, one after the other.
use Rattle.std.proofs.Common.{◌≡◌, ◌∙◌, ℕ, ◌+◌, ◌<◌, ◌≤◌, ◌++◌, List, length, take, unwrap_or, refl, sym, ap, subst, inl, inr, arith}
use Rattle.std.specs.Prelude.{IsSome, Some, Bool, true, false, Result, Ok, Err, IfErr, IfOk}
use Rattle.std.proofs.lemmas.List.{length-take}
use Rattle.std.proofs.lemmas.Bool.{cases_eq}
use Rattle.sqval.specs.Database.{Database}
use Rattle.sqpage.specs.declared.cell.Cell.{Cell}
use Rattle.sqpage.specs.declared.kind.Kind.{Kind}
use Rattle.sqpage.specs.Freelist.{Leads}
use Rattle.sqpage.specs.Page.{Page}
use Rattle.sqpage.specs.Chain.{IsPayload, links, payload_size, contents}
use Rattle.sqpage.proofs.btree.PartsOfCells.{SameCell, cell_once}
use Rattle.sqcheck.specs.Places.{IsCellAt, page_as}
use Rattle.sqval.specs.Record.{most_bytes}
use Rattle.sqdeep.specs.declared.fault.InnerFault.{InnerFault}
use Rattle.sqdeep.specs.declared.fault.InnerFault.TheVariants as faults
use Rattle.sqdeep.specs.declared.fault.DeepError.{DeepError}
use Rattle.sqdeep.specs.declared.fault.DeepError.TheVariants.{Check, Inner}
use Rattle.sqdeep.specs.Records.{IsSoundCell, CellRefused}
use Rattle.sqdeep.specs.Inside.{IsOfTree, StandsInside}
use Rattle.sqdeep.specs.declared.text.Encoding.{Encoding}
use Rattle.sqdeep.specs.internal.Judging.{AreSoundCells, CellTells, HasForm, PayloadTells, Tells, RecordRefused}
use Rattle.sqdeep.specs.internal.IllFormed.{HasCellForm}

links_same : (c e : Cell) → SameCell c e → links c ≡ links e
links_same c e s = let u = s.usable in let p = s.payload in let l : length c.local.now ≡ length e.local.now = ap length s.local in rw (u, p, l) refl

payload_as : (d : Database) (c e : Cell) (x : List ℕ) → SameCell c e → IsPayload d c x → IsPayload d e x
payload_as d c e x s f = record {
  pages = f.pages;
  last = f.last;
  enough = f.enough ∙ links_same c e s;
  follows = record {
    linked = subst (λ p. Leads d p e.overflow f.pages f.last 0) s.page (subst (λ o. Leads d c.page o f.pages f.last 0) s.overflow f.follows.linked);
    distinct = f.follows.distinct;
  };
  content_is = f.content_is ∙ ap (λ o. take (unwrap_or o 0) (c.local.now ++ contents d c.usable f.pages)) s.payload
      ∙ ap (λ l. take (payload_size e) (l ++ contents d c.usable f.pages)) s.local ∙ ap (λ u. take (payload_size e) (e.local.now ++ contents d u f.pages)) s.usable;
}

-- the same cell is as sound
sound_as : (d : Database) (c e : Cell) → SameCell c e → c.at ≡ e.at → IsSoundCell d c → IsSoundCell d e
sound_as d c e s at is = record {
  room = (let r = is.room in let u = s.usable in omega (arith, r, at, u));
  holds = λ some. let h = is.holds (subst IsSome (sym s.payload) some) in record { short = (let p = s.payload in subst (λ o. unwrap_or o 0 ≤ Rattle.sqval.specs.Record.most_bytes) p h.short); bytes = h.bytes; payload = payload_as d c e h.bytes s h.payload; values = h.values; read = h.read };
}

-- One more.
pub cells_more : (d : Database) (b : Page) (n : ℕ) (cell : Cell) → AreSoundCells d b n → IsCellAt b n cell → IsSoundCell d cell → AreSoundCells d b (n + 1)
cells_more d b n cell before is sound = λ i other lt at. elim (cases_eq i n) [
  | inl e ↦ (
      let there : IsCellAt b n other = subst (λ j. IsCellAt b j other) e at in
      sound_as d cell other (cell_once b n cell other is.1 there.1) (is.1.at ∙ sym there.1.at) sound)
  | inr ne ↦ before i other (omega (arith, lt, ne)) at
]

-- What a cell tells stands at it.
pub cell_told : (given : Type 0) (d : Database) (kind : Kind) (root p i : ℕ) (cell : Cell) (e : DeepError) → IsOfTree d kind root p → IsCellAt (page_as d kind p) i cell → CellTells given d cell i e → Tells given d e
cell_told given d kind root p i cell (Check e) of_tree at h = h
cell_told given d kind root p i cell (Inner e) of_tree at h =
    subst (λ q. StandsInside d e.fault q e.cell) (sym (h.0 ∙ at.1.page)) (subst (λ c. StandsInside d e.fault p c) (sym h.1) (kind, root, cell, of_tree, at, h.2))

-- What is wrong with a payload is told of its cell.
pub record_told : (given : Type 0) (d : Database) (cell : Cell) (i : ℕ) (bytes : List ℕ) (fault : InnerFault) → IsPayload d cell bytes → IsSome cell.payload → payload_size cell ≤ most_bytes → RecordRefused bytes fault
    → CellTells given d cell i (Inner (record { fault = fault; page = cell.page; cell = Some i }))
record_told given d cell i bytes fault payload some short h = (refl, refl, go fault h)
  where
    go : (fault : InnerFault) → RecordRefused bytes fault → CellRefused d cell fault
    go faults.TooLong more =
        let whole : length bytes ≡ Rattle.std.proofs.Common.min (payload_size cell) (length (cell.local.now ++ contents d cell.usable payload.pages)) = ap length payload.content_is ∙ length-take (payload_size cell) (cell.local.now ++ contents d cell.usable payload.pages) in
        absurd (omega (arith, more, short, whole))
    go faults.NotRecord never = (some, bytes, payload, never)
    go _ none = absurd none

-- what is told of its payload is told of a cell
pub payload_told : (given : Type 0) (d : Database) (cell : Cell) (i : ℕ) (bytes : List ℕ) (result : Result Bool DeepError) → IsPayload d cell bytes → IsSome cell.payload → payload_size cell ≤ most_bytes
    → IfErr result (PayloadTells cell i bytes) → IfErr result (λ e. CellTells given d cell i e)
payload_told given d cell i bytes (Ok x) payload some short h = tt
payload_told given d cell i bytes (Err e) payload some short h = subst (CellTells given d cell i) (sym h.1) (record_told given d cell i bytes h.0 payload some short h.2)

-- what is known of its payload is known of a cell
pub payload_form : (encoding : Encoding) (d : Database) (cell : Cell) (bytes : List ℕ) (result : Result Bool DeepError) → IsPayload d cell bytes → IsSome cell.payload
    → IfOk result (λ is_ill. HasForm is_ill encoding bytes) → IfOk result (λ is_ill. HasCellForm is_ill encoding d cell)
payload_form encoding d cell bytes (Ok true) payload some h = record { some = some; bytes = bytes; payload = payload; values = h.0; read = h.1; unformed = h.2 }
payload_form encoding d cell bytes (Ok false) payload some h = λ _. record { bytes = bytes; payload = payload; formed = h }
payload_form encoding d cell bytes (Err e) payload some h = tt
