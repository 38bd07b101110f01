use Rattle.std.proofs.Common.{◌≡◌, ℕ, ◌≤◌, List, Vec, Global, true, false, length, sym, ap, ◌∙◌, subst, arith}
use Rattle.std.specs.Prelude.{All}
use Rattle.std.specs.Str.{str_eq_ignore_ascii_case}
use Rattle.std.proofs.lemmas.List.{take_all}
use Rattle.std.proofs.lemmas.List.Elements.{All-more}
use Rattle.std.proofs.lemmas.List.Folds.{list_any_at, list_any_none}
use Rattle.cli_show_rows.proofs.table.is_among.Goals as goal

pub returns-then-is_name : goal.returns-then-is_name
returns-then-is_name c =
    let name = c.args.name.now in
    let column = c.column-item.result in
    let value = c.as_slice.ensures.value in
    let bytes = c.as_bytes.ensures.value in
    let test = c.is_name.ensures in
    let is = c.if-is_name.true in
    let same : str_eq_ignore_ascii_case column.items name ≡ true = ap (λ (l : List ℕ). str_eq_ignore_ascii_case l name) (sym value) ∙ ap (λ (l : List ℕ). str_eq_ignore_ascii_case c.as_slice.result.now l) (sym bytes) ∙ sym test ∙ is in
    let at = subst (λ (n : Vec ℕ Global). str_eq_ignore_ascii_case n.items name ≡ true) c.column-item.is same in
    sym (list_any_at (λ (n : Vec ℕ Global). str_eq_ignore_ascii_case n.items name) c.args.names.now c.loop-column.column-index column c.loop-column-test.true at)

pub loop-column-preserved : goal.loop-column-preserved
loop-column-preserved c =
    let name = c.args.name.now in
    let column = c.column-item.result in
    let value = c.as_slice.ensures.value in
    let bytes = c.as_bytes.ensures.value in
    let test = c.is_name.ensures in
    let other = c.if-is_name.false in
    let differs : str_eq_ignore_ascii_case column.items name ≡ false = ap (λ (l : List ℕ). str_eq_ignore_ascii_case l name) (sym value) ∙ ap (λ (l : List ℕ). str_eq_ignore_ascii_case c.as_slice.result.now l) (sym bytes) ∙ sym test ∙ other in
    let at = subst (λ (n : Vec ℕ Global). str_eq_ignore_ascii_case n.items name ≡ false) c.column-item.is differs in
    All-more (λ (n : Vec ℕ Global). str_eq_ignore_ascii_case n.items name ≡ false) c.args.names.now c.loop-column.column-index column c.loop-column-test.true c.loop-column.invariant at

pub returns : goal.returns
returns c =
    let name = c.args.name.now in
    let names = c.args.names.now in
    let over : length names ≤ c.loop-column.column-index = omega (arith, c.loop-column-test.false) in
    let none = subst (λ (ns : List (Vec ℕ Global)). All (λ n. str_eq_ignore_ascii_case n.items name ≡ false) ns) (take_all c.loop-column.column-index names over) c.loop-column.invariant in
    sym (list_any_none (λ (n : Vec ℕ Global). str_eq_ignore_ascii_case n.items name) names none)
