use Rattle.rollcore.proofs.Facts.{List, Pages, [], ap, arith, cond, get_or, get_or-map, length, length-map, lent, nat_le, nat_tests, recorded, sum_by_more_le, take, take-map, there, ℕ, ◌+◌, ◌<◌, ◌∙◌, ◌≡◌, ◌≤◌}
use Rattle.std.proofs.Common.{Bor}
use Rattle.rollcore.proofs.changes.count_records.Goals as goal

-- one more page that is there already is one of all
one_of_all : (old_size : ℕ) (pages : List (ℕ × Bor (List ℕ))) (i : ℕ) → i < length pages → (get_or pages i (0, record { ref_ptr = (0, 0); now = [] })).0 ≤ old_size
    → there old_size (lent (take i pages)) + 1 ≤ there old_size (lent pages)
one_of_all old_size pages i lt le =
    let d : ℕ × Bor (List ℕ) = (0, record { ref_ptr = (0, 0); now = [] }) in
    let lend : ℕ × Bor (List ℕ) → ℕ × List ℕ = λ p. (p.0, p.1.now) in
    let f : ℕ × List ℕ → ℕ = λ x. cond (nat_le x.0 old_size) 1 0 in
    let within : i < length (lent pages) = omega (arith, length-map pages lend) in
    let all : there old_size (take i (lent pages)) + f (get_or (lent pages) i (0, [])) ≤ there old_size (lent pages) = sum_by_more_le f (lent pages) i (0, []) within in
    let front : there old_size (take i (lent pages)) ≡ there old_size (lent (take i pages)) = ap (λ (l : Pages). there old_size l) (take-map lend i pages) in
    let at : get_or (lent pages) i (0, []) ≡ lend (get_or pages i d) = get_or-map lend pages i d (0, []) lt in
    let here : ◌≡◌ {A = ℕ} (cond (nat_le (get_or pages i d).0 old_size) 1 0) 1 = grind (arith, nat_tests, le) in
    let one : f (get_or (lent pages) i (0, [])) ≡ 1 = ap f at ∙ here in
    omega (arith, all, front, one)

pub overflow_add-records : goal.overflow_add-records
overflow_add-records c =
    let fits : c.loop-x.records + 1 ≤ recorded (lent c.args.pages.now) c.args.old_size c.args.size =
    omega (arith, one_of_all c.args.old_size c.args.pages.now c.loop-x.x-index c.loop-x-test.true c.if-x-old_size.true, c.loop-x.invariant) in
    omega (arith, fits, c.requires)
