-- Faults that are in the order of their pages.
use Rattle.std.proofs.Common.{◌≡◌, ◌≢◌, ◌∙◌, ⊎_elim, ℕ, ◌+◌, ◌<◌, ◌≤◌, true, false, List, length, get_or, sym, ap, subst, arith}
use Rattle.std.specs.Prelude.{ltb, slice_get, Some, None}
use Rattle.std.specs.List.Sorted.{IsNonDecreasingBy, IsPartitionPoint}
use Rattle.std.proofs.lemmas.Bool.{cases_lt, ltb-true, ltb-false}
use Rattle.std.proofs.lemmas.Option.{get_or_from_slice_get, slice_get_within}
use Rattle.sqpage.specs.declared.fault.CheckError.{CheckError}
use Rattle.sqpage.specs.declared.fault.Fault.TheVariants.{SchemaRecord}
use Rattle.cli_facts.specs.Faults.{IsFirstFault, IsUnsound}
use Rattle.cli_facts.specs.internal.Faults.{IsPlaceOf}

module _ (faults : List CheckError) (page place : ℕ) where
  pub place_of_point : IsPartitionPoint (λ (e : CheckError). ltb e.page page ≡ true) (λ (e : CheckError). ltb e.page page ≡ false) faults place → IsPlaceOf faults page place
  place_of_point point = record {
    before = λ j e lt is. ltb-true e.page page (subst (λ (x : CheckError). ltb x.page page ≡ true) (get_or_from_slice_get faults j e e is) (point.0 j e (omega arith) lt));
    behind = λ j e ge is. ltb-false e.page page (subst (λ (x : CheckError). ltb x.page page ≡ false) (get_or_from_slice_get faults j e e is) (point.1 j e ge (slice_get_within faults j e is)));
  }

  module _ (at : IsPlaceOf faults page place) where
    -- the fault at the place is the first of its page
    pub first_at : (e : CheckError) → slice_get faults place ≡ Some e → e.page ≡ page → IsFirstFault faults page (Some e.fault)
    first_at e here same = (place, here ∙ ap (λ n. Some (record { page = n; fault = e.fault })) same, λ j x lt there eq. omega (arith, at.before j x lt there, eq))

    -- behind a fault of a higher page is none of the page
    pub higher : IsNonDecreasingBy (λ (e : CheckError). e.page) faults → (i : ℕ) (e : CheckError) → place ≤ i → slice_get faults i ≡ Some e → e.page ≢ page
        → (j : ℕ) (x : CheckError) → i ≤ j → slice_get faults j ≡ Some x → x.page ≢ page
    higher sorted i e ge here other j x le there eq =
        let rises : (get_or faults i x).page ≤ (get_or faults j x).page = sorted i j x le (slice_get_within faults j x there) in
        let low : (get_or faults i x).page ≡ e.page = ap (λ (y : CheckError). y.page) (get_or_from_slice_get faults i e x here) in
        let high : (get_or faults j x).page ≡ x.page = ap (λ (y : CheckError). y.page) (get_or_from_slice_get faults j x x there) in
        let least = at.behind i e ge here in
        other (omega (arith, rises, low, high, least, eq))

    pub none_behind : IsNonDecreasingBy (λ (e : CheckError). e.page) faults → (e : CheckError) → slice_get faults place ≡ Some e → e.page ≢ page → IsFirstFault faults page None
    none_behind sorted e here other j x there eq =
        ⊎_elim (λ lt. omega (arith, at.before j x lt there, eq)) (λ ge. higher sorted place e (omega arith) here other j x ge there eq) (cases_lt j place)

    pub none_past : length faults ≤ place → IsFirstFault faults page None
    none_past past j x there eq = let lt = slice_get_within faults j x there in omega (arith, at.before j x (omega arith) there, eq)

-- up to here the page has faults of rows alone
abbrev pub AreOfRows : (faults : List CheckError) (page end : ℕ) → Type 0
AreOfRows faults page end = (j : ℕ) (e : CheckError) → j < end → slice_get faults j ≡ Some e → e.page ≡ page → e.fault ≡ SchemaRecord

module _ (faults : List CheckError) (page : ℕ) where
  pub rows_before : (place : ℕ) → IsPlaceOf faults page place → AreOfRows faults page place
  rows_before place at j e lt is eq = absurd (omega (arith, at.before j e lt is, eq))

  pub row_more : (i : ℕ) (e : CheckError) → slice_get faults i ≡ Some e → e.fault ≡ SchemaRecord → AreOfRows faults page i → AreOfRows faults page (i + 1)
  row_more i e here row are j x lt there eq =
      ⊎_elim (λ below. are j x below there eq)
      (λ ge. let same : j ≡ i = omega arith in
      let is_it : x ≡ e = some_same (sym there ∙ ap (slice_get faults) same ∙ here) in
      ap (λ (y : CheckError). y.fault) is_it ∙ row) (cases_lt j i)
    where
      some_same : {x y : CheckError} → Some x ≡ Some y → x ≡ y
      some_same h = cc

  pub all_rows : (end : ℕ) → AreOfRows faults page end → ((j : ℕ) (x : CheckError) → end ≤ j → slice_get faults j ≡ Some x → x.page ≢ page) → ¬ IsUnsound faults page
  all_rows end are none (j, x, there, eq, other) =
      ⊎_elim (λ lt. other (are j x lt there eq)) (λ ge. none j x ge there eq) (cases_lt j end)
