use Rattle.crashdisk.proofs.Between.{List, [], ap, arith, drop, is_past, last_of, length, length-drop, min, past_is, slice_index_or, take, take_all, ℕ, ◌-◌, ◌∙◌, ◌≡◌}
use Rattle.crashdisk.proofs.held.holds_past.Goals as goal

pub returns-in-Some : goal.returns-in-Some
returns-in-Some c =
    let p : List ℕ = c.present-present.result.now in
    let n : ℕ = c.min.result in
    let part : List ℕ = take (length p - n) (drop n p) in
    let same : part ≡ drop n p = take_all (length p - n) (drop n p) (omega (arith, length-drop n p)) in
    let there = c.in-Some.ensures.lookup.3 in
    let here : p ≡ last_of (slice_index_or c.args.sectors.now c.args.k []) = c.present-present.ensures ∙ ap last_of (there.1 []) in
    let is_n = c.min.ensures ∙ ap (λ (m : ℕ). min m (length p)) c.saturating_sub.ensures in (
      λ yes. past_is c.args.sector c.args.k c.args.place n c.args.sectors.now p part c.requires.positive c.requires.whole there.0 here same is_n (c.has_bytes.ensures.0 yes),
      λ held. c.has_bytes.ensures.1 (is_past c.args.sector c.args.k c.args.place n c.args.sectors.now p part c.requires.positive c.requires.whole there.0 here same is_n held),
    )
