use Rattle.std.proofs.Common.{◌≡◌, List, ℕ, Bool, [], length, ap, ◌∙◌, subst, arith, rules}
use Rattle.std.specs.Prelude.{◌≢◌, Result, Ok, Err, IfOk, IfErr}
use Rattle.std.specs.List.Sorted.{IsPermutation}
use Rattle.std.proofs.lemmas.List.{nil_from_length}
use Rattle.std.proofs.lemmas.List.Sorted.{IsNonDecreasingBy-from_sort_by_key}
use Rattle.sqval.specs.Database.{Database}
use Rattle.sqpage.specs.declared.fault.CheckError.{CheckError}
use Rattle.sqpage.specs.declared.fault.Fault.TheVariants.{NoMemory}
use Rattle.sqcheck.specs.Stands.{StandsWith}
use Rattle.sqcheck.specs.Surveys.{AreAllRoles, AreFoundRoles, AreFoundFaults}
use Rattle.sqcheck.specs.WellFormed.{WellFormedWith, IsReport}
use Rattle.sqcheck.specs.declared.report.Report.{Report}
use Rattle.sqcheck.specs.declared.role.Role.{Role}
use Rattle.sqcheck.specs.declared.survey.Survey.{Survey}
use Rattle.cli_show.specs.Pages.{IsSurveyed}
use Rattle.cli_show.proofs.FaultsInOrder.{faults_again}
use Rattle.cli_show.proofs.surveys.sorted_survey.Goals as goal

-- no fault in another order is no fault
clean_anew : (maps : Bool) (d : Database) (size : ℕ) (answer : Result Report CheckError) (roles : List Role) (faults again : List CheckError) → length again ≡ length faults
    → IfOk answer (λ report. (w : WellFormedWith maps d size) × IsReport d w.places report × AreAllRoles d size roles × (faults ≡ []))
    → IfOk answer (λ report. (w : WellFormedWith maps d size) × IsReport d w.places report × AreAllRoles d size roles × (again ≡ []))
clean_anew maps d size (Ok report) roles faults again long clean = (clean.0, clean.1, clean.2, nil_from_length again (long ∙ ap (λ (l : List CheckError). length l) clean.3))
clean_anew maps d size (Err e) roles faults again long clean = tt

-- and of a damaged one the same faults
damaged_anew : (maps : Bool) (d : Database) (size : ℕ) (answer : Result Report CheckError) (roles : List Role) (faults again : List CheckError) → IsPermutation faults again
    → IfErr answer (λ e. StandsWith maps d size e.fault e.page × (¬ WellFormedWith maps d size) × (e.fault ≢ NoMemory) × AreFoundRoles d size roles × AreFoundFaults maps d size roles faults)
    → IfErr answer (λ e. StandsWith maps d size e.fault e.page × (¬ WellFormedWith maps d size) × (e.fault ≢ NoMemory) × AreFoundRoles d size roles × AreFoundFaults maps d size roles again)
damaged_anew maps d size (Ok report) roles faults again p h = tt
damaged_anew maps d size (Err e) roles faults again p h = (h.0, h.1, h.2, h.3, faults_again maps d size roles faults again p h.4)

pub returns-in-Ok-sort_by_key-clause-found : goal.returns-in-Ok-sort_by_key-clause-found
returns-in-Ok-sort_by_key-clause-found g c = λ gives.
    let d = g.S.PageSource.pages c.args.source.now in
    let size = g.S.PageSource.size c.args.source.now in
    let survey = c.in-Ok.survey in
    let again = c.sort_by_key.new.self in
    let long : length again.items ≡ length survey.faults.items = omega (arith, c.sort_by_key.ensures.len, again.ok.0, survey.faults.ok.0) in
    let before = subst (λ (r : Result Survey CheckError). IsSurveyed c.args.maps.pointer_maps d size r) c.in-Ok.is (c.in_ok-survey.ensures.found gives) in
    (clean_anew c.args.maps.pointer_maps d size survey.answer survey.roles.items survey.faults.items again.items long before.0, damaged_anew c.args.maps.pointer_maps d size survey.answer survey.roles.items survey.faults.items again.items c.sort_by_key.ensures.permutation before.1, before.2)

pub returns-in-Ok-sort_by_key-clause-ordered : goal.returns-in-Ok-sort_by_key-clause-ordered
returns-in-Ok-sort_by_key-clause-ordered g c = IsNonDecreasingBy-from_sort_by_key (λ (e : CheckError). e.page) _ c.in-Ok-sort_by_key.ensures.sorted (λ a r q k. search rules)
