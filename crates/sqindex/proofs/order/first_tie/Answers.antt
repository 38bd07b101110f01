use Rattle.std.proofs.Common.{◌≡◌, ◌<◌, ◌≤◌, ◌+◌, ◌-◌, ⊎_elim, ℕ, Some, slice_get, ℤ, ◌<ℤ◌, ◌≤ℤ◌, int_le, true, false, FitsSigned, w64, to_z, of_z, rules, sym, ap₂, ◌∙◌, subst, arith}
use Rattle.std.proofs.lemmas.Bool.{cases_lt}
use Rattle.std.proofs.lemmas.Int.{ints, to_z-of_z}
use Rattle.std.proofs.lemmas.Option.{slice_get_within}
use Rattle.sqindex.specs.declared.entries.Held.{Held}
use Rattle.sqindex.proofs.EntriesJudged.{tie_of}
use Rattle.sqindex.proofs.order.first_tie.Goals as goal

le_of : (x y : ℤ) → FitsSigned w64 x → FitsSigned w64 y → int_le (to_z w64 (of_z w64 x)) (to_z w64 (of_z w64 y)) ≡ true → x ≤ℤ y
le_of x y f g h = let e : int_le x y ≡ true = sym (ap₂ int_le (to_z-of_z w64 x f) (to_z-of_z w64 y g)) ∙ h in grind (arith, ints)

lt_of : (x y : ℤ) → FitsSigned w64 x → FitsSigned w64 y → int_le (to_z w64 (of_z w64 x)) (to_z w64 (of_z w64 y)) ≡ false → y <ℤ x
lt_of x y f g h = let e : int_le x y ≡ false = sym (ap₂ int_le (to_z-of_z w64 x f) (to_z-of_z w64 y g)) ∙ h in grind (arith, ints)

pub returns-then-before-entry : goal.returns-then-before-entry
returns-then-before-entry c =
    let low = c.pairs.auto.i in
    let high = c.pairs-test.true in
    let same : c.pairs.i - 1 + 1 ≡ c.pairs.i = omega (arith, low) in
    let fits : FitsSigned w64 c.rowid_at-before.result = search rules in
    let fits' : FitsSigned w64 c.rowid_at-entry.result = search rules in
    let h = c.if-before-entry.true in
    let below : c.rowid_at-entry.result ≤ℤ c.rowid_at-before.result = le_of c.rowid_at-entry.result c.rowid_at-before.result fits' fits h in
    tie_of c.args.list.now (c.pairs.i - 1) c.rowid_at-before.result c.rowid_at-entry.result (omega (arith, same, high)) c.rowid_at-before.ensures
    (subst (λ (n : ℕ). (p : Held) → slice_get c.args.list.now n ≡ Some p → c.rowid_at-entry.result ≡ p.rowid) (sym same) c.rowid_at-entry.ensures) below

pub pairs-preserved : goal.pairs-preserved
pairs-preserved c = λ j p q less at next.
    let low = c.pairs.auto.i in
    ⊎_elim
    (λ (before : j + 1 < c.pairs.i). c.pairs.invariant j p q before at next)
    (λ (here : c.pairs.i ≤ j + 1).
    let second : j + 1 ≡ c.pairs.i = omega (arith, less, here) in
    let first : j ≡ c.pairs.i - 1 = omega (arith, second) in
    let a : c.rowid_at-before.result ≡ p.rowid = c.rowid_at-before.ensures p (subst (λ (n : ℕ). slice_get c.args.list.now n ≡ Some p) first at) in
    let b : c.rowid_at-entry.result ≡ q.rowid = c.rowid_at-entry.ensures q (subst (λ (n : ℕ). slice_get c.args.list.now n ≡ Some q) second next) in
    let fits : FitsSigned w64 c.rowid_at-before.result = search rules in
    let fits' : FitsSigned w64 c.rowid_at-entry.result = search rules in
    let up : c.rowid_at-before.result <ℤ c.rowid_at-entry.result = lt_of c.rowid_at-entry.result c.rowid_at-before.result fits' fits c.if-before-entry.false in
    omega (arith, ints, a, b, up))
    (cases_lt (j + 1) c.pairs.i)

pub returns : goal.returns
returns c = λ i p q at next.
    let within = slice_get_within c.args.list.now (i + 1) q next in
    let end = c.pairs-test.false in
    c.pairs.invariant i p q (omega (arith, within, end)) at next
