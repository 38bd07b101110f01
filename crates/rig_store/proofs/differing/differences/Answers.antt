use Rattle.std.proofs.Common.{◌≡◌, ◌≢◌, ℕ, ◌+◌, List, get_or, Option, None, sym, ◌∙◌, subst, arith}
use Rattle.std.specs.Option.{option_map}
use Rattle.rig_store.specs.Differing.{AreDifferences, IsDifference, IsDifferenceIn}
use Rattle.rig_store.specs.Left.{image_of}
use Rattle.rig_store.specs.Stores.{store_of}
use Rattle.rig_store.specs.declared.differing.Difference.{Difference}
use Rattle.rig_store.proofs.DifferingNames.{differ_none, differ_same, differ_more}
use Rattle.rig_store.proofs.differing.differences.Goals as goal

pub loop-name-init : goal.loop-name-init
loop-name-init c =
    let sector = (store_of c.args.store.now).sector in
    let image = image_of c.args.image.now in
    let now = image_of c.in_ok-now.now in
    subst (λ (l : List Difference). AreDifferences sector 0 image now l) (sym c.new-found.ensures.items) (differ_none sector image now)

pub loop-name-preserved-then-are_same : goal.loop-name-preserved-then-are_same
loop-name-preserved-then-are_same c =
    let sector = (store_of c.args.store.now).sector in
    let image = image_of c.args.image.now in
    let now = image_of c.in_ok-now.now in
    let n = c.loop-name.name in
    differ_same sector image now n c.loop-name.found.items c.loop-name.invariant (sym c.file_of-there.ensures ∙ c.are_same.ensures.0 c.if-are_same.true ∙ c.file_of-here.ensures)

pub loop-name-preserved : goal.loop-name-preserved
loop-name-preserved c =
    let sector = (store_of c.args.store.now).sector in
    let image = image_of c.args.image.now in
    let now = image_of c.in_ok-now.now in
    let n = c.loop-name.name in
    let d = c.in_ok-difference.difference in
    let there = option_map (λ b. b.now) c.file_of-there.result in
    let here = option_map (λ b. b.now) c.file_of-here.result in
    let differ : get_or image n None ≢ get_or now n None = λ e.
    let yes = c.are_same.ensures.1 (c.file_of-there.ensures ∙ e ∙ sym c.file_of-here.ensures) in
    let no = c.if-are_same.false in
    cc in
    let name : d.name ≡ n = c.in_ok-difference.ensures.name in
    let is : IsDifferenceIn sector image now d =
    subst (λ (k : ℕ). IsDifference sector (get_or image k None) (get_or now k None) d) (sym name)
    (subst (λ (x : Option (List ℕ)). IsDifference sector x (get_or now n None) d) c.file_of-there.ensures
    (subst (λ (y : Option (List ℕ)). IsDifference sector there y d) c.file_of-here.ensures
    (subst (λ (z : ℕ). IsDifference z there here d) c.sector-size.ensures.same c.in_ok-difference.ensures.is))) in
    subst (λ (l : List Difference). AreDifferences sector (n + 1) image now l) (sym c.in_ok-push.ensures.items)
    (differ_more sector image now n c.loop-name.found.items d c.loop-name.invariant differ name is)

pub returns : goal.returns
returns c =
    let s = store_of c.args.store.now in
    let image = image_of c.args.image.now in
    let now = image_of c.in_ok-now.now in
    let all : c.loop-name.name ≡ s.names = omega (arith, c.loop-name-test.false, c.loop-name.auto.name-end) in (
      now,
      c.in_ok-now.ensures,
      subst (λ (k : ℕ). AreDifferences s.sector k image now c.loop-name.found.items) all c.loop-name.invariant,
    )
