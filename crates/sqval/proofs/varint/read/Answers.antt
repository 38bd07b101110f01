use Rattle.std.proofs.Common.{◌≡◌, ℕ, ◌+◌, ◌-◌, ◌*◌, ◌%◌, ◌<◌, ◌≤◌, take, get_or, arith, below_more}
use Rattle.std.proofs.lemmas.List.{take_more}
use Rattle.sqval.specs.Varint.{Begins}
use Rattle.sqval.proofs.payload.VarintNumbers.{ends_here, ends_ninth, none_begins, some_exactly, sevens_within, sevens-push}
use Rattle.sqval.proofs.varint.read.Goals as goal

ninth : (c : goal.Then-index-eq8) → Begins (c.loop-index.high * 256 + c.from-byte.result) 9 c.args.bytes.now
ninth c =
    let at : c.loop-index.index ≡ 8 = c.if-index-eq8.true in
    let goes_on : (i : ℕ) → i < 8 → 128 ≤ get_or c.args.bytes.now i 0 = λ i h. c.loop-index.invariant.2 i (omega arith) in
    ends_ninth c.args.bytes.now c.loop-index.high c.from-byte.result (omega arith) goes_on (rw at at c.loop-index.invariant.1)
    (rw at at c.from-byte.ensures)

here : (c : goal.Then-byte-lt128) → Begins (c.loop-index.high * 128 + c.from-byte.result) (c.loop-index.index + 1) c.args.bytes.now
here c =
    ends_here c.args.bytes.now c.loop-index.index c.loop-index.high c.from-byte.result (omega arith) (omega arith)
    c.loop-index.invariant.2 c.loop-index.invariant.1 c.from-byte.ensures c.if-byte-lt128.true

pub returns-then-index-eq8-clause-found : goal.returns-then-index-eq8-clause-found
returns-then-index-eq8-clause-found c = some_exactly _ _ c.args.bytes.now (ninth c)

pub returns-then-index-eq8-clause-none : goal.returns-then-index-eq8-clause-none
returns-then-index-eq8-clause-none c = (λ e. (cc), λ none. absurd (none _ _ (ninth c)))

pub overflow_mul-result-then-byte-lt128 : goal.overflow_mul-result-then-byte-lt128
overflow_mul-result-then-byte-lt128 c =
    omega (arith, sevens_within c.args.bytes.now c.loop-index.index 7 c.loop-index.high (omega arith) c.loop-index.invariant.1)

pub overflow_add-result-then-byte-lt128 : goal.overflow_add-result-then-byte-lt128
overflow_add-result-then-byte-lt128 c =
    omega (arith, sevens_within c.args.bytes.now c.loop-index.index 7 c.loop-index.high (omega arith) c.loop-index.invariant.1)

pub returns-then-byte-lt128-clause-found : goal.returns-then-byte-lt128-clause-found
returns-then-byte-lt128-clause-found c = some_exactly _ _ c.args.bytes.now (here c)

pub returns-then-byte-lt128-clause-none : goal.returns-then-byte-lt128-clause-none
returns-then-byte-lt128-clause-none c = (λ e. (cc), λ none. absurd (none _ _ (here c)))

pub overflow_mul-high : goal.overflow_mul-high
overflow_mul-high c =
    omega (arith, sevens_within c.args.bytes.now c.loop-index.index 7 c.loop-index.high (omega arith) c.loop-index.invariant.1)

pub overflow_add-high : goal.overflow_add-high
overflow_add-high c =
    omega (arith, c.type_inv.bytes c.loop-index.index, sevens_within c.args.bytes.now c.loop-index.index 7 c.loop-index.high (omega arith) c.loop-index.invariant.1)

pub loop-index-preserved : goal.loop-index-preserved
loop-index-preserved c =
    let byte : get_or c.args.bytes.now c.loop-index.index 0 < 256 = omega (arith, c.type_inv.bytes c.loop-index.index) in
    let low : get_or c.args.bytes.now c.loop-index.index 0 % 128 ≡ c.from-byte.result - 128 = omega arith in (
      omega arith,
      rw (take_more c.args.bytes.now c.loop-index.index 0 c.loop-index-test.true)
          (omega (arith, sevens-push (take c.loop-index.index c.args.bytes.now) (get_or c.args.bytes.now c.loop-index.index 0))),
      below_more _ _ c.loop-index.invariant.2 (omega arith),
    )

pub returns-clause-found : goal.returns-clause-found
returns-clause-found c =
    let none = none_begins c.args.bytes.now (omega arith) (λ i h. c.loop-index.invariant.2 i (omega arith)) in
    λ n k. (λ e. (cc), λ b. absurd (none n k b))

pub returns-clause-none : goal.returns-clause-none
returns-clause-none c =
    let none = none_begins c.args.bytes.now (omega arith) (λ i h. c.loop-index.invariant.2 i (omega arith)) in
    (λ _. none, λ _. (cc))
