use Rattle.crashdisk.proofs.Facts.{ap, digit, div-div-eq-div-mul, file_by, file_of, length_at, length_count, map, naming_is, range_with_len, sector_count, subst, value_count, ways, ◌%◌, ◌/◌, ◌∙◌, ◌≡◌}
use Rattle.crashdisk.proofs.counting.file_choice.Goals as goal

pub returns-clause-named : goal.returns-clause-named
returns-clause-named c =
    let sector = c.args.sector in
    let held = c.args.held.now in
    let n = c.args.n.now in
    let count = sector_count sector held.greatest in
    let all = length_count sector held.least held.greatest in
    naming_is _ _ _ _ _
    (subst (λ xs. c.in_ok-pick.pick.items ≡ map (digit (value_count (file_by sector xs 0 0 0)) n) (range_with_len 0 count)) c.deref.ensures.value c.in_ok-pick.ensures.named)
    (ap (λ l. map (λ entry. (entry.0, entry.1.items)) l) c.new.ensures.items)
    (c.nth_length-len.ensures
    ∙ ap (λ m. length_at sector held.least held.greatest (m % c.count_lengths-lengths.result)) (subst (λ xs. c.picks.new.n ≡ n / ways (value_count (file_by sector xs 0 0 0)) count) c.deref.ensures.value c.in_ok-pick.ensures.rest)
    ∙ ap (λ m. length_at sector held.least held.greatest (n / ways (value_count (file_of sector held)) count % m)) c.count_lengths-lengths.ensures)

pub returns-clause-rest : goal.returns-clause-rest
returns-clause-rest c =
    let sector = c.args.sector in
    let held = c.args.held.now in
    let n = c.args.n.now in
    let count = sector_count sector held.greatest in
    ap (λ m. m / c.count_lengths-lengths.result) (subst (λ xs. c.picks.new.n ≡ n / ways (value_count (file_by sector xs 0 0 0)) count) c.deref.ensures.value c.in_ok-pick.ensures.rest)
    ∙ ap (λ m. n / ways (value_count (file_of sector held)) count / m) c.count_lengths-lengths.ensures
    ∙ div-div-eq-div-mul n (ways (value_count (file_of sector held)) count) (length_count sector held.least held.greatest)
