-- The cells with a text that isn't one in the encoding, one after the other.
use Rattle.std.proofs.Common.{◌≡◌, ◌≢◌, ◌∙◌, ℕ, ◌+◌, ◌<◌, ◌≤◌, Bool, true, false, cond, List, [], ◌∷◌, length, refl, sym, ap, subst, inl, inr, ⊎_elim, arith}
use Rattle.std.specs.Prelude.{◌↔◌, ◌*◌, IsSome, Result, Ok, Err, IfOk}
use Rattle.std.proofs.lemmas.Bool.{cases_eq}
use Rattle.sqval.specs.Database.{Database}
use Rattle.sqval.specs.Record.{IsRecord}
use Rattle.sqpage.specs.declared.cell.Cell.{Cell}
use Rattle.sqpage.specs.declared.kind.Kind.{Kind}
use Rattle.sqpage.specs.Freelist.{IsPage}
use Rattle.sqpage.specs.Lists.{In, Every}
use Rattle.sqpage.specs.Page.{Page, cell_count, pointers_end_in}
use Rattle.sqpage.proofs.btree.PartsOfCells.{SameCell, cell_once}
use Rattle.sqpage.proofs.chain.ListsByRecursion.{every_from_in}
use Rattle.sqcheck.specs.declared.role.Role.TheVariants.{Btree}
use Rattle.sqcheck.specs.Places.{IsCellAt, page_as}
use Rattle.sqcheck.proofs.checks.RowsOfSchema.{row_once}
use Rattle.sqdeep.specs.declared.fault.DeepError.{DeepError}
use Rattle.sqdeep.specs.Records.{encoding_of, IsFormed}
use Rattle.sqdeep.specs.Forms.{AreIllFormed, CellPlace, cell_place, IsIllFormedAt}
use Rattle.sqdeep.specs.Inside.{IsOfTree}
use Rattle.sqdeep.specs.internal.Judging.{HasSoundTrees}
use Rattle.sqdeep.specs.internal.IllFormed.{HasCellForm, HasFormed, HasIllFormed, IsBefore}
use Rattle.sqdeep.proofs.Refusals.{values_once}

same_place : (q p j i : ℕ) → q ≡ p → j ≡ i → cell_place q j ≡ cell_place p i
same_place q p j i e f = ap (λ n. cell_place n j) e ∙ ap (λ n. cell_place p n) f

-- what comes before a cell comes before each later one
later : (q j p i k : ℕ) → i ≤ k → IsBefore q j p i → IsBefore q j p k
later q j p i k le (inl lt) = inl lt
later q j p i k le (inr (e, lt)) = inr (e, omega (arith, lt, le))

module _ (d : Database) (trees : HasSoundTrees d) where
  module _ (kind : Kind) (root p : ℕ) (of_tree : IsOfTree d kind root p) where
    -- a cell that is formed isn't the other way
    not_ill : (i : ℕ) (cell : Cell) → IsCellAt (page_as d kind p) i cell → HasCellForm false (encoding_of d) d cell → IsIllFormedAt d p i → ⊥
    not_ill i cell at formed (kind_too, root_too, other, of_too, at_too, ill) =
        let same : kind_too ≡ kind = (trees.once kind kind_too root root_too p of_tree of_too).0 in
        let there : IsCellAt (page_as d kind p) i other = subst (λ (k : Kind). IsCellAt (page_as d k p) i other) same at_too in
        let cells : SameCell cell other = cell_once (page_as d kind p) i cell other at.1 there.1 in
        let has = formed (subst IsSome (sym cells.payload) ill.some) in
        let bytes : has.bytes ≡ ill.bytes = row_once d (page_as d kind p) i has.bytes ill.bytes (record { cell = cell; is = at; payload = has.payload }) (record { cell = other; is = there; payload = ill.payload }) in
        ill.unformed (subst (Every (IsFormed (encoding_of d))) (values_once ill.bytes has.formed.0 ill.values (subst (IsRecord has.formed.0) bytes has.formed.1) ill.read) has.formed.2)

    -- one more cell
    pub ill_more : (i n : ℕ) (cell : Cell) (is_ill : Bool) → IsCellAt (page_as d kind p) i cell → HasCellForm is_ill (encoding_of d) d cell
        → HasIllFormed d p i n → HasIllFormed d p (i + 1) (cond is_ill (n + 1) n)
    ill_more i n cell true at form h = record {
      places = cell_place p i ∷ h.places;
      once = (
        every_from_in (λ y. cell_place p i ≡ y → ⊥) h.places (λ y there e.
            let before = ((h.are p i).0 (subst (λ (z : CellPlace). In z h.places) (sym e) there)).0 in
            ⊎_elim (λ lt. omega (arith, lt)) (λ eq. let lt = eq.1 in omega (arith, lt)) before),
        h.once,
      );
      are = λ q j. (there q j, back q j);
      many = (let m = h.many in omega (arith, m));
    }
      where
        there : (q j : ℕ) → In (cell_place q j) (cell_place p i ∷ h.places) → IsBefore q j p (i + 1) × IsIllFormedAt d q j
        there q j (inl e) =
            let page : q ≡ p = ap (λ (z : CellPlace). z.page) e in
            let number : j ≡ i = ap (λ (z : CellPlace). z.cell) e in
            let ill : IsIllFormedAt d p i = (kind, root, cell, of_tree, at, form) in
            (inr (page, omega (arith, number)), subst (λ (z : ℕ). IsIllFormedAt d z j) (sym page) (subst (IsIllFormedAt d p) (sym number) ill))
        there q j (inr in_rest) = let was = (h.are q j).0 in_rest in (later q j p i (i + 1) (omega arith) was.0, was.1)

        back : (q j : ℕ) → IsBefore q j p (i + 1) × IsIllFormedAt d q j → In (cell_place q j) (cell_place p i ∷ h.places)
        back q j (inl lt, ill) = inr ((h.are q j).1 (inl lt, ill))
        back q j (inr (e, lt), ill) = elim (cases_eq j i) [
          | inl f ↦ inl (same_place q p j i e f)
          | inr ne ↦ inr ((h.are q j).1 (inr (e, omega (arith, lt, ne)), ill))
        ]
    ill_more i n cell false at form h = record {
      places = h.places;
      once = h.once;
      are = λ q j. ((λ there. let was = (h.are q j).0 there in (later q j p i (i + 1) (omega arith) was.0, was.1)), back q j);
      many = h.many;
    }
      where
        back : (q j : ℕ) → IsBefore q j p (i + 1) × IsIllFormedAt d q j → In (cell_place q j) h.places
        back q j (inl lt, ill) = (h.are q j).1 (inl lt, ill)
        back q j (inr (e, lt), ill) = elim (cases_eq j i) [
          | inl f ↦ absurd (not_ill i cell at form (subst (IsIllFormedAt d p) f (subst (λ (z : ℕ). IsIllFormedAt d z j) e ill)))
          | inr ne ↦ (h.are q j).1 (inr (e, omega (arith, lt, ne)), ill)
        ]

    -- all cells of a page
    pub page_done : (n : ℕ) → HasIllFormed d p (cell_count (page_as d kind p)) n → HasIllFormed d (p + 1) 0 n
    page_done n h = record {
      places = h.places;
      once = h.once;
      are = λ q j. (
        (λ there. let was = (h.are q j).0 there in (inl (⊎_elim (λ lt. omega (arith, lt)) (λ eq. let e = eq.0 in omega (arith, e)) was.0), was.1)),
        back q j,
      );
      many = h.many;
    }
      where
        last : (q j : ℕ) → q ≡ p → IsIllFormedAt d q j → j < cell_count (page_as d kind p)
        last q j e (kind_too, root_too, other, of_too, at_too, ill) =
            let of_p : IsOfTree d kind_too root_too p = subst (λ (z : ℕ). IsOfTree d kind_too root_too z) e of_too in
            let same : kind_too ≡ kind = (trees.once kind kind_too root root_too p of_tree of_p).0 in
            subst (λ (k : Kind). j < cell_count (page_as d k p)) same (subst (λ (z : ℕ). j < cell_count (page_as d kind_too z)) e at_too.0)

        back : (q j : ℕ) → IsBefore q j (p + 1) 0 × IsIllFormedAt d q j → In (cell_place q j) h.places
        back q j (inr (e, lt), ill) = absurd (omega (arith, lt))
        back q j (inl lt, ill) = elim (cases_eq q p) [
          | inl e ↦ (h.are q j).1 (inr (e, last q j e ill), ill)
          | inr ne ↦ (h.are q j).1 (inl (omega (arith, lt, ne)), ill)
        ]

    -- what is counted of the cells of a page is counted of the page
    pub all_cells : (b : Page) → b ≡ page_as d kind p → b.number ≡ p → (r : Result ℕ DeepError)
        → IfOk r (λ n. (before : ℕ) → HasIllFormed d b.number 0 before → HasIllFormed d b.number (cell_count b) (before + n))
        → IfOk r (λ n. (before : ℕ) → HasIllFormed d p 0 before → HasIllFormed d (p + 1) 0 (before + n))
    all_cells b same number (Ok n) h = λ before was.
        let there : HasIllFormed d p (cell_count b) (before + n) = subst (λ (q : ℕ). HasIllFormed d q (cell_count b) (before + n)) number
        (h before (subst (λ (q : ℕ). HasIllFormed d q 0 before) (sym number) was)) in
        page_done (before + n) (subst (λ (z : Page). HasIllFormed d p (cell_count z) (before + n)) same there)
    all_cells b same number (Err e) h = tt

  -- a page of no tree
  pub page_skipped : (p n : ℕ) → ((kind : Kind) (root : ℕ) → ¬ IsOfTree d kind root p) → HasIllFormed d p 0 n → HasIllFormed d (p + 1) 0 n
  page_skipped p n none h = record {
    places = h.places;
    once = h.once;
    are = λ q j. (
      (λ there. let was = (h.are q j).0 there in (inl (⊎_elim (λ lt. omega (arith, lt)) (λ eq. let e = eq.0 in omega (arith, e)) was.0), was.1)),
      back q j,
    );
    many = h.many;
  }
    where
      back : (q j : ℕ) → IsBefore q j (p + 1) 0 × IsIllFormedAt d q j → In (cell_place q j) h.places
      back q j (inr (e, lt), ill) = absurd (omega (arith, lt))
      back q j (inl lt, ill) = elim (cases_eq q p) [
        | inl e ↦ absurd (none ill.0 ill.1 (subst (λ (z : ℕ). IsOfTree d ill.0 ill.1 z) e ill.3))
        | inr ne ↦ (h.are q j).1 (inl (omega (arith, lt, ne)), ill)
      ]

  -- each page of a tree is a page of the database
  named : (p i : ℕ) → IsIllFormedAt d p i → IsPage d p
  named p i ill = trees.named p (Btree ill.0 ill.1) ill.3

  -- none before the first page
  pub none_first : HasIllFormed d 1 0 0
  none_first = record {
    places = [];
    once = tt;
    are = λ q j. (
      (λ there. absurd there),
      (λ ill. let first : IsPage d q = named q j ill.1 in let above : 0 < q = first.0 in
          absurd (⊎_elim (λ lt. omega (arith, lt, above)) (λ eq. let lt = eq.1 in omega (arith, lt)) ill.0)),
    );
    many = refl;
  }

  -- all of them, after the last one
  pub all_counted : (n : ℕ) → HasIllFormed d (length d + 1) 0 n → AreIllFormed d n
  all_counted n h = record {
    places = h.places;
    once = h.once;
    are = λ p i. (
      (λ there. ((h.are p i).0 there).1),
      (λ ill. let is : IsPage d p = named p i ill in let within : p ≤ length d = is.1 in (h.are p i).1 (inl (omega (arith, within)), ill)),
    );
    many = h.many;
  }

-- A page has fewer cells than bytes.
pub few_cells : (b : Page) (n : ℕ) → n ≤ cell_count b → pointers_end_in b.kind b.used b.number ≤ length b.used → length b.used ≤ 65536 → n ≤ 65536
few_cells b n le pointers short = omega (arith, le, pointers, short)
