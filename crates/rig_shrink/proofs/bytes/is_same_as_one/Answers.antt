use Rattle.std.proofs.Common.{◌≡◌, ℕ, ◌<◌, List, [], length, get_or, map, true, false, refl, sym, ◌∙◌, subst, below_more, arith}
use Rattle.std.proofs.lemmas.List.{length-map}
use Rattle.rig_shrink.specs.internal.Values.{IsSameIn}
use Rattle.rig_shrink.proofs.SectorsByValue.{item_at}
use Rattle.rig_shrink.proofs.bytes.is_same_as_one.Goals as goal

pub returns-then-same : goal.returns-then-same
returns-then-same c =
    let sector = c.args.sector in
    let k = c.args.k in
    let all = c.args.all.now in
    let bytes = c.args.bytes.now in
    let n = c.loop-n.n in
    let at = item_at (λ v. v.items) all n c.index-all-n.result c.deref.result.now c.loop-n-test.true c.index-all-n.is c.deref.ensures.value in
    let less : n < length (map (λ v. v.items) all) = omega (arith, length-map all (λ v. v.items), c.loop-n-test.true) in
    (λ yes. (n, less, subst (λ (b : List ℕ). IsSameIn sector k b bytes) (sym at) (c.is_same_in-same.ensures.0 c.if-same.true)), λ has. refl)

pub loop-n-preserved : goal.loop-n-preserved
loop-n-preserved c =
    let sector = c.args.sector in
    let k = c.args.k in
    let all = c.args.all.now in
    let bytes = c.args.bytes.now in
    let n = c.loop-n.n in
    let at = item_at (λ v. v.items) all n c.index-all-n.result c.deref.result.now c.loop-n-test.true c.index-all-n.is c.deref.ensures.value in
    below_more (λ (m : ℕ). ¬ IsSameIn sector k (get_or (map (λ v. v.items) all) m []) bytes) n c.loop-n.invariant
    (λ same. let no : true ≡ false = sym (c.is_same_in-same.ensures.1 (subst (λ (b : List ℕ). IsSameIn sector k b bytes) at same)) ∙ c.if-same.false in absurd (cc no))

pub returns : goal.returns
returns c = (
  λ no. absurd (cc no),
  λ has. absurd (c.loop-n.invariant has.0 (omega (arith, has.1, length-map c.args.all.now (λ v. v.items), c.loop-n-test.false)) has.2),
)
