use Rattle.std.proofs.Common.{◌≡◌, ℕ, ◌+◌, ◌*◌, ◌/◌, ◌<◌, List, [], take, drop, get_or, length, refl, ◌∙◌, ap, arith, subst}
use Rattle.sqwal.specs.Sums.{words}
use Rattle.sqwal.specs.internal.Lanes.{AreLanes}
use Rattle.sqwal.proofs.checksum.Sums.{get_or-first_chunks}
use Rattle.sqwal.proofs.checksum.Lanes.{lanes_none, lanes_more}
use Rattle.sqwal.proofs.sum.Sum.lanes.Goals as goal

pub loop-i-init : goal.loop-i-init
loop-i-init g c = λ order same. lanes_none order c.args.bytes.now _ c.args.self _ _ refl refl

pub loop-i-preserved : goal.loop-i-preserved
loop-i-preserved g c order same =
    let bytes : List ℕ = c.args.bytes.now in
    let pieces : List (List ℕ) = c.as_chunks.result.0.now in
    let i : ℕ = c.loop-i.i in
    let count : ℕ = length pieces / 4 in
    let total : length pieces ≡ length bytes / 16 = c.as_chunks.ensures.front_len in
    let whole : length bytes ≡ 64 * count = omega arith in
    let within : i < count = omega arith in
    let piece : (j : ℕ) → j < length bytes / 16 → words order (get_or pieces j []) ≡ words order (take 16 (drop (16 * j) bytes)) = λ j h.
    ap (words order) (ap (λ (ps : List (List ℕ)). get_or ps j []) c.as_chunks.ensures.front ∙ get_or-first_chunks 16 (length bytes / 16) j bytes [] h) in
    lanes_more order bytes count i c.args.self c.four_words-a.result c.four_words-b.result c.four_words-c.result c.four_words-d.result
    c.loop-i.first c.loop-i.second c.turned.result.0 c.turned.result.1 c.turned.result.2 c.turned.result.3 c.lanes_next.result.0 c.lanes_next.result.1 c.lanes_next-in-loop-i.result.0 c.lanes_next-in-loop-i.result.1
    (record {
      whole = whole;
      within = within;
      first = c.four_words-a.ensures order same ∙ piece i (omega arith);
      second = c.four_words-b.ensures order same ∙ piece (count + i) (omega arith);
      third = c.four_words-c.ensures order same ∙ piece (2 * count + i) (omega arith);
      fourth = c.four_words-d.ensures order same ∙ piece (3 * count + i) (omega arith);
    })
    (record { first = c.turned.ensures.first; second = c.turned.ensures.second; third = c.turned.ensures.third; fourth = c.turned.ensures.fourth })
    (record { first_long = omega arith; second_long = omega arith; x_long = omega arith; y_long = omega arith; first = c.lanes_next.ensures.first; second = c.lanes_next.ensures.second })
    (record { first_long = omega arith; second_long = omega arith; x_long = omega arith; y_long = omega arith; first = c.lanes_next-in-loop-i.ensures.first; second = c.lanes_next-in-loop-i.ensures.second })
    (c.loop-i.invariant order same)

pub returns : goal.returns
returns g c order same =
    let bytes : List ℕ = c.args.bytes.now in
    let i : ℕ = c.loop-i.i in
    let total : length c.as_chunks.result.0.now ≡ length bytes / 16 = c.as_chunks.ensures.front_len in
    let count : length c.as_chunks.result.0.now / 4 ≡ length bytes / 64 = omega arith in
    let done : i ≡ length bytes / 64 = omega arith in
    subst (λ (j : ℕ). AreLanes order bytes (length bytes / 64) j c.args.self c.loop-i.first c.loop-i.second) done
    (subst (λ (n : ℕ). AreLanes order bytes n i c.args.self c.loop-i.first c.loop-i.second) count (c.loop-i.invariant order same))
