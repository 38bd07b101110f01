use Rattle.std.proofs.Common.{◌≡◌, ◌∙◌, ◌<◌, ◌-◌, Bool, true, false, ◌&&◌, List, [], ◌∷◌, length, take, drop, get_or, ap, sym, arith}
use Rattle.std.proofs.lemmas.List.{take_rest}
use Rattle.sqlite_ast.specs.declared.Keyed.{Keyed}
use Rattle.sqlite_ast.specs.declared.TableBody.{TableBody}
use Rattle.sqkeys.specs.Constraints.{is_like, repeats}
use Rattle.sqkeys.proofs.automatic.+repeats.Goals as goal

first_of_all : (xs : List Keyed) (x : Keyed) → 0 < length xs → x ≡ get_or xs 0 x → xs ≡ x ∷ drop 1 xs
first_of_all [] x some e = absurd (omega arith)
first_of_all (y ∷ ys) x some e = ap (λ (z : Keyed). z ∷ ys) (sym e)

-- the first ones decide, or those behind them
by_first : (body : TableBody) (named others : List Keyed) (a b : Keyed) → 0 < length named → 0 < length others → a ≡ get_or named 0 a → b ≡ get_or others 0 b
    → (like : Bool) → is_like body a b ≡ like → (like && repeats body (drop 1 named) (drop 1 others)) ≡ repeats body named others
by_first body named others a b some more e f like is =
    let first = first_of_all named a some e in
    let second = first_of_all others b more f in
    ap (λ (l : Bool). l && repeats body (drop 1 named) (drop 1 others)) (sym is) ∙ ap (λ (ys : List Keyed). repeats body (a ∷ drop 1 named) ys) (sym second) ∙ ap (λ (xs : List Keyed). repeats body xs others) (sym first)

pub returns-then-is_like : goal.returns-then-is_like
returns-then-is_like t c =
    let body = c.args.body.now in
    let named = c.args.named.now in
    let others = c.args.others.now in
    c.repeats.ensures ∙ ap (λ (xs : List Keyed). repeats body xs (take (length others - 1) (drop 1 others))) (take_rest named 1) ∙ ap (λ (ys : List Keyed). repeats body (drop 1 named) ys) (take_rest others 1)
    ∙ by_first body named others c.a-item.result c.b-item.result (omega arith) (omega arith) c.a-item.is c.b-item.is true (sym c.is_like.ensures ∙ c.if-is_like.true)

pub returns-else-is_like : goal.returns-else-is_like
returns-else-is_like t c =
    let body = c.args.body.now in
    c.if-is_like.false ∙ by_first body c.args.named.now c.args.others.now c.a-item.result c.b-item.result (omega arith) (omega arith) c.a-item.is c.b-item.is false (sym c.is_like.ensures ∙ c.if-is_like.false)
