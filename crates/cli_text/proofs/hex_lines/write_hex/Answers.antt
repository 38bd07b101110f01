use Rattle.std.proofs.Common.{◌≡◌, ℕ, ◌*◌, ◌/◌, ◌%◌, List, [], ◌∷◌, ◌++◌, length, drop, refl, sym, ap, subst, ◌∙◌, append_assoc, arith}
use Rattle.std.proofs.lemmas.List.{append-nil, length-append, length-drop}
use Rattle.std.proofs.lemmas.Grind.{common_steps}
use Rattle.std.specs.List.{slice_index}
use Rattle.std.specs.Io.KnownBytes.{Appends}
use Rattle.std.proofs.KnownBytes.{Appends-nil}
use Rattle.hex.specs.Hex.{encode_lower, encode_with, lower_digits}
use Rattle.hex.proofs.HexLemmas.{length-encode_with}
use Rattle.cli_text.proofs.WrittenTexts.{appends_more}
use Rattle.cli_text.proofs.hex_lines.write_hex.Goals as goal

encode_with-append : (t xs ys : List ℕ) → encode_with t (xs ++ ys) ≡ encode_with t xs ++ encode_with t ys
unfolding encode_with
encode_with-append t [] ys = refl
encode_with-append t (x ∷ xs) ys =
    ap (λ (l : List ℕ). slice_index t (x / 16) ∷ slice_index t (x % 16) ∷ l) (encode_with-append t xs ys)

pub loop-rest-init : goal.loop-rest-init
unfolding encode_with
loop-rest-init g c = (refl, ([], refl, Appends-nil (g.W.Write.contents c.args.out.now)))

pub loop-rest-preserved : goal.loop-rest-preserved
loop-rest-preserved g c =
    let held = c.loop-rest.invariant.1 in
    let piece = c.split_at.result.0.now in
    let digits : c.encode_to_slice.new.output ≡ encode_lower piece = rw c.unwrap.ensures at c.encode_to_slice.ensures.written in
    let long : length c.encode_to_slice.new.output ≡ 2 * length piece = ap length digits ∙ length-encode_with lower_digits piece in (
      omega (arith, length-append c.encode_to_slice.new.output (drop (2 * length piece) c.loop-rest.text), length-drop (2 * length piece) c.loop-rest.text, long),
      (
        held.0 ++ piece,
        append_assoc held.0 piece c.split_at.result.1.now ∙ ap (λ (l : List ℕ). held.0 ++ l) (sym c.split_at.ensures.by_index.0) ∙ held.1,
        appends_more (g.W.Write.contents c.args.out.now) (g.W.Write.contents c.loop-rest.out) (g.W.Write.contents c.write_all.new.self)
            (encode_lower held.0) c.encode_to_slice.new.output (encode_lower (held.0 ++ piece)) held.2 c.in_ok-write_all.ensures.bytes
            (encode_with-append lower_digits held.0 piece ∙ ap (λ (l : List ℕ). encode_lower held.0 ++ l) (sym digits)),
      ),
    )

pub returns : goal.returns
returns g c =
    let held = c.loop-rest.invariant.1 in
    let over : c.loop-rest.rest.now ≡ [] = grind (arith, common_steps) in
    let whole : held.0 ≡ c.args.bytes.now = sym (append-nil held.0) ∙ ap (λ (l : List ℕ). held.0 ++ l) (sym over) ∙ held.1 in
    subst (λ (l : List ℕ). Appends (g.W.Write.contents c.args.out.now) (g.W.Write.contents c.loop-rest.out) (encode_lower l)) whole held.2
