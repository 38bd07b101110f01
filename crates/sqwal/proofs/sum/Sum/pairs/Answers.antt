use Rattle.std.proofs.Common.{◌≡◌, List, ℕ, [], take, drop, ◌*◌, ◌<◌, ◌/◌, length, get_or, arith, sym, ◌∙◌, ap, lit≤}
use Rattle.std.proofs.lemmas.List.{take-take}
use Rattle.sqwal.specs.Sums.{number}
use Rattle.sqwal.proofs.checksum.Sums.{get_or-first_chunks, goes_on_pair}
use Rattle.sqwal.proofs.sum.Sum.pairs.Goals as goal

pub loop-pair-preserved : goal.loop-pair-preserved
loop-pair-preserved g c order same =
    let bytes : List ℕ = c.args.bytes.now in
    let i : ℕ = c.loop-pair.pair-index in
    let pair : List ℕ = get_or c.as_chunks.result.0.now i [] in
    let count : length c.as_chunks.result.0.now ≡ length bytes / 8 = c.as_chunks.ensures.front_len in
    let here : i < length bytes / 8 = omega arith in
    let is : pair ≡ take 8 (drop (8 * i) bytes) = ap (λ (ps : List (List ℕ)). get_or ps i []) c.as_chunks.ensures.front ∙ get_or-first_chunks 8 (length bytes / 8) i bytes [] here in
    let one : c.read_u32.result ≡ number order (take 4 pair) = c.read_u32.ensures ∙ sym (same pair) in
    let two : c.read_u32-in-loop-pair.result ≡ number order (take 4 (drop 4 pair)) = c.read_u32-in-loop-pair.ensures ∙ sym (same (take 4 (drop 4 pair))) ∙ ap (number order) (take-take 4 4 (drop 4 pair) (lit≤ tt)) in
    goes_on_pair order bytes pair i c.args.self c.loop-pair.sum c.next-sum.result (omega arith) is (c.loop-pair.invariant order same)
    (record { first = cc; second = cc })
