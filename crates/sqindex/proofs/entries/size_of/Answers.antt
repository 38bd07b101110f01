use Rattle.std.proofs.Common.{◌∙◌, ◌≤◌, ℕ, List, length, take, drop, ap, arith, length-drop, w32}
use Rattle.std.specs.Int.{from_le_bytes}
use Rattle.std.proofs.lemmas.List.{take_all}
use Rattle.sqindex.proofs.BodiesOfEntries.{size_is}
use Rattle.sqindex.proofs.entries.size_of.Goals as goal

pub returns : goal.returns
returns c =
    let body = c.args.body.now in
    let few : length (drop 4 body) ≤ 12 = omega (arith, length-drop 4 body, c.told-body) in
    size_is body c.word.result (c.word.ensures ∙ ap (λ (l : List ℕ). from_le_bytes w32 (take 4 l)) (take_all 12 (drop 4 body) few))
