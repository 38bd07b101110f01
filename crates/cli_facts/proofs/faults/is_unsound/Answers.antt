use Rattle.std.proofs.Common.{◌≡◌, ◌∙◌, true, false, refl, sym, arith}
use Rattle.std.proofs.lemmas.Option.{slice_get_within}
use Rattle.cli_facts.proofs.FaultsInOrder.{rows_before, row_more, all_rows, higher}
use Rattle.cli_facts.proofs.faults.is_unsound.Goals as goal

pub faults-init : goal.faults-init
faults-init c = λ sorted. rows_before c.args.faults.now c.args.page c.place_of-i.result (c.place_of-i.ensures.place sorted)

pub returns-then-error-page : goal.returns-then-error-page
returns-then-error-page c = λ sorted. (
  (λ bad. absurd (let e : false ≡ true = bad in cc)),
  (λ unsound. absurd (all_rows c.args.faults.now c.args.page c.faults.i (c.faults.invariant sorted)
      (higher c.args.faults.now c.args.page c.place_of-i.result (c.place_of-i.ensures.place sorted) sorted c.faults.i c.fault_at-error.result (omega (arith, c.faults.auto.i)) c.fault_at-error.ensures c.if-error-page.true) unsound)),
)

pub returns-then-not-is_of_row : goal.returns-then-not-is_of_row
returns-then-not-is_of_row c = λ sorted. (
  (λ _. (c.faults.i, c.fault_at-error.result, c.fault_at-error.ensures, c.if-error-page.false, λ row. (let e : false ≡ true = sym c.if-not-is_of_row.true ∙ c.is_of_row.ensures.1 row in cc))),
  (λ _. refl),
)

pub faults-preserved : goal.faults-preserved
faults-preserved c = λ sorted. row_more c.args.faults.now c.args.page c.faults.i c.fault_at-error.result c.fault_at-error.ensures (c.is_of_row.ensures.0 c.if-not-is_of_row.false) (c.faults.invariant sorted)

pub returns : goal.returns
returns c = λ sorted. (
  (λ bad. absurd (let e : false ≡ true = bad in cc)),
  (λ unsound. absurd (all_rows c.args.faults.now c.args.page c.faults.i (c.faults.invariant sorted)
      (λ j x le there eq. (let within = slice_get_within c.args.faults.now j x there in omega (arith, within, le, c.faults-test.false))) unsound)),
)
