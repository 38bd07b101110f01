use Rattle.std.proofs.Common.{◌≡◌, ℕ, ◌*◌, ◌+◌, min, take, List, [], ◌∷◌, ◌++◌, length, sym, ap, subst, ◌∙◌, add-one, arith}
use Rattle.std.specs.Fork.{slice_chunk}
use Rattle.std.specs.Io.KnownBytes.{Appends}
use Rattle.std.specs.List.{flat_map, range_with_len}
use Rattle.std.proofs.lemmas.List.{take_min}
use Rattle.cli_text.specs.HexLines.{bytes_line}
use Rattle.cli_text.proofs.WrittenTexts.{appends_line, range_with_len-more}
use Rattle.cli_text.proofs.hex_lines.write_bytes.Goals as goal

-- no more than there are
take-min : (n : ℕ) (xs : List ℕ) → take (min (length xs) n) xs ≡ take n xs
take-min n xs = let least : min (length xs) n ≡ min n (length xs) = omega arith in ap (λ (k : ℕ). take k xs) least ∙ take_min n xs

pub loop-k-preserved : goal.loop-k-preserved
loop-k-preserved g c =
    let old = g.W.Write.contents c.args.out.now in
    let new = g.W.Write.contents c.write_bytes_line.new.out in
    let k = c.loop-k.k in
    let line : ℕ → List ℕ = λ n. bytes_line c.args.style (n * 16) (slice_chunk c.args.page.now 16 n) in
    let rest = c.split_at.result.1.now in
    let chunk : take c.min.result rest ≡ slice_chunk c.args.page.now 16 k =
    ap (λ (n : ℕ). take n rest) c.min.ensures ∙ take-min 16 rest ∙ ap (λ (l : List ℕ). take 16 l) c.split_at.ensures.back in
    let here = subst (λ (l : List ℕ). Appends (g.W.Write.contents c.loop-k.out) new (bytes_line c.args.style (k * 16) l)) chunk c.in_ok-write_bytes_line.ensures in
    let next : range_with_len 0 (k + 1) ≡ range_with_len 0 k ++ k ∷ [] =
    ap (λ (n : ℕ). range_with_len 0 n) (add-one k) ∙ range_with_len-more 0 k ∙ ap (λ (n : ℕ). range_with_len 0 k ++ n ∷ []) (omega arith) in
    subst (λ (l : List ℕ). Appends old new (flat_map line l)) (sym next)
    (appends_line old (g.W.Write.contents c.loop-k.out) new line (range_with_len 0 k) k c.loop-k.invariant here)
