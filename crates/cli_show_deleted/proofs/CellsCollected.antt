-- The deleted cells of a page with their bytes, one more at the end.
use Rattle.std.proofs.Common.{◌≡◌, ◌↔◌, ◌∙◌, ℕ, ◌+◌, ◌-◌, ◌≤◌, List, [], ◌∷◌, ◌++◌, Some, None, length, inl, inr, refl, sym, ap, subst, append_assoc, append-nil, arith}
use Rattle.std.proofs.lemmas.List.{map-append}
use Rattle.sqval.specs.Bytes.{part}
use Rattle.sqpage.specs.declared.cell.Parts.{Parts}
use Rattle.sqpage.specs.declared.kind.Kind.TheVariants.{TableLeaf}
use Rattle.sqpage.specs.Lists.{In, Every}
use Rattle.sqpage.specs.Page.{HasParts}
use Rattle.sqpage.proofs.btree.PartsOfCells.{parts_once}
use Rattle.sqcheck.specs.declared.role.Role.{Role}
use Rattle.sqcheck.specs.declared.role.Role.TheVariants.{Btree, FreeTrunk, FreeLeaf, Unused}
use Rattle.sqdeleted.specs.Deleted.{BeginsRecord}
use Rattle.sqdeleted.specs.DeletedCursor.{AreLeft, CellsMove, IsLeft}
use Rattle.sqdeleted.specs.declared.cell.DeletedCell.{DeletedCell}
use Rattle.sqdeleted.specs.declared.cursor.DeletedCells.{DeletedCells}
use Rattle.sqdeleted.proofs.CellsOfGaps.{cell_takes}
use Rattle.cli_show_deleted.specs.Cells.{StandsIn, IsCellIn}
use Rattle.cli_show_deleted.specs.Changes.{AreChangesOf, Change, HasCell, IsChangeIn, UsedPage, went, came}
use Rattle.cli_show_deleted.specs.declared.candidate.Candidate.{Candidate}
use Rattle.cli_show_deleted.specs.internal.Candidates.{AreCandidatesOf, AreChangesAmong, AreCollected, AreSound, Holds, IsCandidateIn, IsChangeAmong, place_of, places}
use Rattle.cli_show_deleted.proofs.CellsTold.{begins_cell, cell_in, every_more, left_parts}

-- a cell lies in the bytes of its page
pub cell_within : (old new : DeletedCells) (cell : DeletedCell) → CellsMove old new (Some cell) → cell.at + cell.size ≤ length old.used.now
cell_within old new cell (at, c, left, is, behind) =
    let has : HasParts TableLeaf old.used.now at c = left_parts old at c left in
    let size : cell.at + cell.size ≡ c.end = is.size in
    let within : c.end ≤ length old.used.now = has.within in
    omega (arith, size, within)

-- the cells that were collected, before those that are left
pub record Collecting (start now : DeletedCells) (xs : List Candidate) : Type 0 where
  pub used : now.used.now ≡ start.used.now
  pub number : now.number ≡ start.number
  pub moves : (ps : List ℕ) → AreLeft now ps → AreLeft start (places xs ++ ps)
  pub each : Every (IsCandidateIn start.used.now start.number) xs

pub collecting_none : (start : DeletedCells) → Collecting start start []
collecting_none start = record { used = refl; number = refl; moves = λ ps left. left; each = tt }

pub collecting_more : (start now new : DeletedCells) (xs : List Candidate) (x : Candidate) → Collecting start now xs → CellsMove now new (Some x.cell)
    → new.used.now ≡ now.used.now → new.number ≡ now.number → x.bytes.now ≡ part start.used.now x.cell.at x.cell.size → Collecting start new (xs ++ x ∷ [])
collecting_more start now new xs x w (at, c, left, is, behind) used number bytes =
    let cell = x.cell in
    let one : IsCellIn now.used.now now.number cell = cell_in now at c cell left is in
    let here : IsCellIn start.used.now start.number cell =
    subst (λ (n : ℕ). IsCellIn start.used.now n cell) w.number (subst (λ (u : List ℕ). IsCellIn u now.number cell) w.used one) in
    let begins : BeginsRecord cell.payload cell.local.now = begins_cell now new cell (at, c, left, is, behind) in
    let place : at ≡ cell.at = sym is.at in
    let joined = λ (ps : List ℕ).
    ap (λ (n : ℕ). places xs ++ n ∷ ps) place ∙ sym (append_assoc (places xs) (cell.at ∷ []) ps)
    ∙ ap (λ (l : List ℕ). l ++ ps) (sym (map-append place_of xs (x ∷ []))) in
    record {
      used = used ∙ w.used;
      number = number ∙ w.number;
      moves = λ ps there. subst (λ (l : List ℕ). AreLeft start l) (joined ps) (w.moves (at ∷ ps) (behind ps there));
      each = every_more (IsCandidateIn start.used.now start.number) xs x w.each (record { cell = here; bytes = bytes; begins = begins });
    }

pub collecting_all : (start now new : DeletedCells) (xs : List Candidate) → Collecting start now xs → CellsMove now new None → AreCollected start xs
collecting_all start now new xs w none = (subst (λ (l : List ℕ). AreLeft start l) (append-nil (places xs)) (w.moves [] none), w.each)

-- The cells that a cursor of a page gave are those of the page.
pub collected_of : (role : Role) (used : List ℕ) (number : ℕ) (s : DeletedCells) (xs : List Candidate) → ((at : ℕ) (c : Parts) → IsLeft s at c ↔ StandsIn role used number at c)
    → s.used.now ≡ used → s.number ≡ number → AreCollected s xs → AreCandidatesOf role used number xs
collected_of role used number s xs same used_is number_is are = record {
  rise = are.0.0;
  all = λ at. (
    (λ there. let w = (are.0.1 at).0 there in (w.0, (same at w.0).0 w.1)),
    λ stands. (are.0.1 at).1 (stands.0, (same at stands.0).1 stands.1),
  );
  each = subst (λ (n : ℕ). Every (IsCandidateIn used n) xs) number_is (subst (λ (u : List ℕ). Every (IsCandidateIn u s.number) xs) used_is are.1);
}

pub none_collected : (role : Role) (used : List ℕ) (number : ℕ) → ((at : ℕ) (c : Parts) → ¬ StandsIn role used number at c) → AreCandidatesOf role used number []
none_collected role used number none = record { rise = tt; all = λ at. (λ there. absurd there, λ stands. absurd (none at stands.0 stands.1)); each = tt }

stands_parts : (role : Role) (used : List ℕ) (number at : ℕ) (c : Parts) → StandsIn role used number at c → HasParts TableLeaf used at c
stands_parts (Btree kind root) used number at c w = w.2.3.has
stands_parts FreeTrunk used number at c w = w.has
stands_parts FreeLeaf used number at c w = w.has
stands_parts Unused used number at c w = w.has
stands_parts _ used number at c w = absurd w

-- a page without bytes has none
pub none_without : (role : Role) (used : List ℕ) (number : ℕ) → length used ≡ 0 → (at : ℕ) (c : Parts) → ¬ StandsIn role used number at c
none_without role used number empty at c stands =
    let has : HasParts TableLeaf used at c = stands_parts role used number at c stands in
    let within : c.end ≤ length used = has.within in
    omega (arith, cell_takes used at c has, within, empty)

pub every_in : {A : Type 0} (P : A → Type 0) (xs : List A) (x : A) → Every P xs → In x xs → P x
every_in P [] x all i = absurd i
every_in P (y ∷ ys) x all (inl e) = subst P (sym e) all.0
every_in P (y ∷ ys) x all (inr i) = every_in P ys x all.1 i

pub in_place : (xs : List Candidate) (x : Candidate) → In x xs → In x.cell.at (places xs)
in_place [] x i = absurd i
in_place (y ∷ ys) x (inl e) = inl (ap place_of e)
in_place (y ∷ ys) x (inr i) = inr (in_place ys x i)

of_place : (xs : List Candidate) (at : ℕ) → In at (places xs) → (x : Candidate) × In x xs × (x.cell.at ≡ at)
of_place [] at i = absurd i
of_place (y ∷ ys) at (inl e) = (y, inl refl, sym e)
of_place (y ∷ ys) at (inr i) = let w = of_place ys at i in (w.0, inr w.1, w.2)

-- the bytes of a cell, by its parts
bytes_by : (used : List ℕ) (number : ℕ) (x : Candidate) (c : Parts) → IsCandidateIn used number x → HasParts TableLeaf used x.cell.at c
    → x.bytes.now ≡ part used x.cell.at (c.end - x.cell.at)
bytes_by used number x c is has =
    let same : is.cell.0 ≡ c = parts_once TableLeaf used x.cell.at is.cell.0 c is.cell.1 has in
    let size : x.cell.at + x.cell.size ≡ c.end = is.cell.2.size ∙ ap (λ (p : Parts). p.end) same in
    let many : x.cell.size ≡ c.end - x.cell.at = omega (arith, size) in
    is.bytes ∙ ap (λ (n : ℕ). part used x.cell.at n) many

-- Of the cells of a page one has these bytes at this place just where such a cell stands there.
module _ (role : Role) (used : List ℕ) (number : ℕ) (xs : List Candidate) (are : AreCandidatesOf role used number xs) where
  the_page : UsedPage
  the_page = record { role = role; used = used }

  pub held_stands : (at : ℕ) (bytes : List ℕ) → Holds xs at bytes → HasCell (record { role = role; used = used }) number at bytes
  held_stands at bytes (x, i, is, same) =
      let stands = (are.all x.cell.at).0 (in_place xs x i) in
      let by = bytes_by used number x stands.0 (every_in (IsCandidateIn used number) xs x are.each i) (stands_parts role used number x.cell.at stands.0 stands.1) in
      subst (λ (n : ℕ). HasCell (record { role = role; used = used }) number n bytes) is (stands.0, stands.1, sym same ∙ by)

  pub stands_held : (at : ℕ) (bytes : List ℕ) → HasCell (record { role = role; used = used }) number at bytes → Holds xs at bytes
  stands_held at bytes (c, stands, same) =
      let w = of_place xs at ((are.all at).1 (c, stands)) in
      let has = subst (λ (n : ℕ). HasParts TableLeaf used n c) (sym w.2) (stands_parts role used number at c stands) in
      let by = bytes_by used number w.0 c (every_in (IsCandidateIn used number) xs w.0 are.each w.1) has in
      let there = by ∙ ap (λ (n : ℕ). part used n (c.end - n)) w.2 in
      (w.0, w.1, w.2, there ∙ sym same)

  pub sound : AreSound xs
  sound = record { rise = are.rise; begin = all_begin xs are.each }
    where
      all_begin : (ys : List Candidate) → Every (IsCandidateIn used number) ys → Every (λ x. BeginsRecord x.cell.payload x.cell.local.now) ys
      all_begin [] all = tt
      all_begin (y ∷ ys) all = (all.0.begins, all_begin ys all.1)

  pub cell_stands : (x : Candidate) (cell : DeletedCell) → In x xs → x.cell ≡ cell → IsCellIn used number cell
  cell_stands x cell i e = subst (IsCellIn used number) e (every_in (IsCandidateIn used number) xs x are.each i).cell

every_weaker : (P Q : Change → Type 0) (changes : List Change) → ((c : Change) → P c → Q c) → Every P changes → Every Q changes
every_weaker P Q [] follows all = tt
every_weaker P Q (c ∷ changes) follows all = (follows c all.0, every_weaker P Q changes follows all.1)

-- The changes between the cells of two pages are those of the pages.
pub changes_of : (role : Role) (used : List ℕ) (later : Role) (bytes : List ℕ) (number : ℕ) (xs ys : List Candidate) (changes : List Change)
    → AreCandidatesOf role used number xs → AreCandidatesOf later bytes number ys → AreChangesAmong xs ys changes
    → AreChangesOf (record { role = role; used = used }) (record { role = later; used = bytes }) number changes
changes_of role used later bytes number xs ys changes old new are =
    record {
      rise = are.rise;
      gone = λ at. (
        (λ i. let w = (are.gone at).0 i in (w.0, held_stands role used number xs old at w.0 w.1, λ h. w.2 (stands_held later bytes number ys new at w.0 h))),
        λ only. (are.gone at).1 (only.0, stands_held role used number xs old at only.0 only.1, λ h. only.2 (held_stands later bytes number ys new at only.0 h)),
      );
      fresh = λ at. (
        (λ i. let w = (are.fresh at).0 i in (w.0, held_stands later bytes number ys new at w.0 w.1, λ h. w.2 (stands_held role used number xs old at w.0 h))),
        λ only. (are.fresh at).1 (only.0, stands_held later bytes number ys new at only.0 only.1, λ h. only.2 (held_stands role used number xs old at only.0 h)),
      );
      each = every_weaker (IsChangeAmong xs ys) (IsChangeIn (record { role = role; used = used }) (record { role = later; used = bytes }) number) changes stands are.each;
    }
  where
    stands : (c : Change) → IsChangeAmong xs ys c → IsChangeIn (record { role = role; used = used }) (record { role = later; used = bytes }) number c
    stands (went cell) (x, i, e) = cell_stands role used number xs old x cell i e
    stands (came cell) (x, i, e) = cell_stands later bytes number ys new x cell i e

-- Nothing changes in a page that stays as it is.
pub none_changed : (page : UsedPage) (number : ℕ) → AreChangesOf page page number []
none_changed page number = record {
  rise = tt;
  gone = λ at. (λ i. absurd i, λ only. absurd (only.2 only.1));
  fresh = λ at. (λ i. absurd i, λ only. absurd (only.2 only.1));
  each = tt;
}
