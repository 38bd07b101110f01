use Rattle.std.proofs.Common.{◌≡◌, ℕ, ◌+◌, ◌<◌, ◌++◌, List, [], ◌∷◌, map, take, get_or, length, sym, ap, subst, ◌∙◌, add-one, arith}
use Rattle.std.proofs.KnownBytes.{Appends-trans}
use Rattle.std.proofs.Math.Seq.{take-suc}
use Rattle.std.proofs.lemmas.List.{map-append, length-map, length-take-le}
use Rattle.sqval.specs.Datum.{Datum, row_of, datum_of}
use Rattle.sqval.specs.declared.value.Value.{Value}
use Rattle.sqval.specs.declared.value.Value.TheVariants.{Null}
use Rattle.cli_row_text.specs.Lines.{AreTexts, mark_before, label}
use Rattle.cli_row_text.proofs.TextsOfValues.{texts_snoc}
use Rattle.cli_row_text.proofs.line.write_values.Goals as goal

row_more : (values : List Value) (i : ℕ) → i < length values → row_of (take (i + 1) values) ≡ row_of (take i values) ++ datum_of (get_or values i Null) ∷ []
row_more values i within =
    ap (λ n. row_of (take n values)) (add-one i) ∙ ap row_of (take-suc values i Null within) ∙ map-append datum_of (take i values) (get_or values i Null ∷ [])

row_count : (values : List Value) (i : ℕ) → i < length values → i ≡ 0 + length (row_of (take i values))
row_count values i within =
    let all : length (row_of (take i values)) ≡ length (take i values) = length-map (take i values) datum_of in
    let some : length (take i values) ≡ i = length-take-le i values (omega arith) in
    omega (arith, all, some)

pub loop-i-preserved : goal.loop-i-preserved
loop-i-preserved g c =
    let h = c.loop-i.invariant in
    let e = c.in_ok-write_part.ensures in
    let values = c.args.values.now in
    let i = c.loop-i.i in
    let names = map (λ n. n.items) c.args.names.now in
    let more = texts_snoc c.args.form names 0 i (row_of (take i values)) (datum_of (get_or values i Null)) h.0 e.0 (row_count values i c.loop-i-test.true) h.1 e.1 in (
      h.0 ++ (mark_before i ++ (label c.args.form.notation names i ++ e.0)),
      subst (λ (vs : List Datum). AreTexts c.args.form names 0 vs (h.0 ++ (mark_before i ++ (label c.args.form.notation names i ++ e.0)))) (sym (row_more values i c.loop-i-test.true)) more,
      Appends-trans (g.W.Write.contents c.args.out.now) (g.W.Write.contents c.loop-i.out) (g.W.Write.contents c.write_part.new.out) h.0 (mark_before i ++ (label c.args.form.notation names i ++ e.0)) h.2 e.2,
    )
