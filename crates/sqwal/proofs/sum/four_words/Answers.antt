use Rattle.std.proofs.Common.{◌≡◌, ℕ, List, [], ◌∷◌, length, take, drop, ◌∙◌, sym, ap, arith, lit≤}
use Rattle.std.proofs.lemmas.List.{take-take}
use Rattle.sqwal.specs.Sums.{number, words}
use Rattle.sqwal.proofs.checksum.Lanes.{four_words}
use Rattle.sqwal.proofs.sum.four_words.Goals as goal

pub returns : goal.returns
returns g c = λ order same.
    let x : List ℕ = c.args.piece.now in
    let long : length x ≡ 16 = omega arith in
    let e0 : c.read_u32.result ≡ number order (take 4 x) = c.read_u32.ensures ∙ sym (same x) in
    let e1 : c.read_u32-2.result ≡ number order (take 4 (drop 4 x)) = c.read_u32-2.ensures ∙ sym (same (take 12 (drop 4 x))) ∙ ap (number order) (take-take 4 12 (drop 4 x) (lit≤ tt)) in
    let e2 : c.read_u32-3.result ≡ number order (take 4 (drop 8 x)) = c.read_u32-3.ensures ∙ sym (same (take 8 (drop 8 x))) ∙ ap (number order) (take-take 4 8 (drop 8 x) (lit≤ tt)) in
    let e3 : c.read_u32-4.result ≡ number order (take 4 (drop 12 x)) = c.read_u32-4.ensures ∙ sym (same (take 4 (drop 12 x))) ∙ ap (number order) (take-take 4 4 (drop 12 x) (lit≤ tt)) in
    let all : words order x ≡ number order (take 4 x) ∷ number order (take 4 (drop 4 x)) ∷ number order (take 4 (drop 8 x)) ∷ number order (take 4 (drop 12 x)) ∷ [] = four_words order x long in
    cc
