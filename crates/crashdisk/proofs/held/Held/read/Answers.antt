use Rattle.crashdisk.proofs.Between.{List, [], ap, arith, cases_lt, copied_all, copied_more, get_or_default, inl, inr, last_of, length, min, none_copied, sector_end, slice_index_or, ℕ, ⊎_elim, ◌+◌, ◌-◌, ◌/◌, ◌<◌, ◌∙◌, ◌≡◌, ◌≤◌, ◌⊎◌}
use Rattle.crashdisk.proofs.held.Held.read.Goals as goal

pub loop-k-init : goal.loop-k-init
loop-k-init c = none_copied c.args.sector c.args.self.now.len c.args.at (length c.args.out.now) c.args.self.now.sectors.items c.fill.new.self c.requires.held.positive (c.fill.ensures.after (λ y e. e))

-- the end of what is copied is that of the bytes that are read, or of the file
ends : (a n m len end : ℕ) → m ≡ n → end ≡ min (a + m) len → (a + n ≤ end) ⊎ (len ≤ end)
ends a n m len end same is = ⊎_elim (λ lt. inr (omega arith)) (λ le. inl (omega arith)) (cases_lt len (a + n))

far_of : (e k n r m : ℕ) → r ≡ n → m ≡ min (e + 1) r → m ≤ k → (e < k) ⊎ (n ≤ k)
far_of e k n r m same is le = ⊎_elim (λ lt. inl lt) (λ ge. inr (omega arith)) (cases_lt e k)

pub copy_part-requires-clause-room : goal.copy_part-requires-clause-room
copy_part-requires-clause-room c =
    let xs = c.args.self.now.sectors.items in
    let k = c.loop-k.k in
    let there : k < length xs = omega (arith, c.loop-k-test.true, c.min-k-end.ensures, c.len.ensures) in
    let here = c.present.ensures ∙ ap last_of (c.index-values.ensures ∙ get_or_default xs k c.index-values.result.now [] there) in
    let long : length c.present.result.now ≡ c.args.sector = ap (λ (l : List ℕ). length l) here ∙ c.requires.held.whole.long k (length (slice_index_or xs k []) - 1) there (omega (arith, c.requires.held.whole.some k there)) in
    (omega (arith, c.loop-k.invariant.long, c.requires.room), omega (arith, long, sector_end c.args.sector k (length xs) there, c.requires.held.room, c.requires.held.small))

pub loop-k-preserved : goal.loop-k-preserved
loop-k-preserved c =
    let xs = c.args.self.now.sectors.items in
    let k = c.loop-k.k in
    let there : k < length xs = omega (arith, c.loop-k-test.true, c.min-k-end.ensures, c.len.ensures) in
    let here = c.present.ensures ∙ ap last_of (c.index-values.ensures ∙ get_or_default xs k c.index-values.result.now [] there) in
    copied_more c.args.sector c.args.self.now.len c.args.at (length c.args.out.now) c.min-end.result xs c.requires.held.positive c.requires.held.whole (omega (arith, c.min-end.ensures))
    (ends c.args.at (length c.args.out.now) (length c.fill.new.self) c.args.self.now.len c.min-end.result c.fill.ensures.len c.min-end.ensures)
    k c.loop-k.out c.copy_part.new.out c.present.result.now c.loop-k.invariant there here c.copy_part.auto.out c.copy_part.ensures.inside c.copy_part.ensures.outside

pub returns : goal.returns
returns c = λ i lt.
    let xs = c.args.self.now.sectors.items in
    copied_all c.args.sector c.args.self.now.len c.args.at (length c.args.out.now) c.min-end.result xs c.requires.held.positive c.requires.held.whole (omega (arith, c.min-end.ensures))
    (ends c.args.at (length c.args.out.now) (length c.fill.new.self) c.args.self.now.len c.min-end.result c.fill.ensures.len c.min-end.ensures)
    c.loop-k.k c.loop-k.out c.loop-k.invariant
    (far_of (c.min-end.result / c.args.sector) c.loop-k.k (length xs) c.len.result c.min-k-end.result (omega (arith, c.len.ensures)) c.min-k-end.ensures c.loop-k-test.false)
    i (omega (arith, lt, c.loop-k.invariant.long))
