use Rattle.std.proofs.Common.{◌≡◌, ◌∙◌, ◌+◌, ◌*◌, ◌≤◌, ◌<◌, ◌^◌, ℕ, Bool, true, false, nat_lt, List, [], ◌∷◌, length, drop, map, get_or, refl, ap, sym, subst, arith}
use Rattle.std.specs.Prelude.{MatchOption, Option, Some, None, if◌then◌else◌}
use Rattle.std.proofs.lemmas.Bool.{ltb-false}
use Rattle.std.proofs.lemmas.List.{take_rest}
use Rattle.sqlite_ast.specs.declared.Keyed.{Keyed}
use Rattle.sqlite_ast.specs.declared.TableBody.{TableBody}
use Rattle.sqlite_value.specs.declared.keys.Key.{Key}
use Rattle.sqlite_value.specs.declared.keys.Order.{Order}
use Rattle.sqlite_value.specs.Keys.{digit, joined}
use Rattle.sqkeys.specs.Keys.{key_for, order_of}
use Rattle.sqkeys.proofs.order.+order_of.Goals as goal

held : (n : ℕ) (b : Bool) → nat_lt n (2 ^ 64) ≡ b → MatchOption (if b then Some (let o : Order = record { digits = n } in o) else None) (2 ^ 64 ≤ n) (λ order. order ≡ record { digits = n })
held n true e = refl
held n false e = ltb-false n (2 ^ 64) e

whole : (key : Key) (later : Order) (r : Option Order) → r ≡ joined key later → MatchOption r (2 ^ 64 ≤ digit key + 8 * later.digits) (λ order. order ≡ record { digits = digit key + 8 * later.digits })
unfolding joined
whole key later r e = subst (λ (r : Option Order). MatchOption r (2 ^ 64 ≤ digit key + 8 * later.digits) (λ order. order ≡ record { digits = digit key + 8 * later.digits })) (sym e) (held (digit key + 8 * later.digits) (nat_lt (digit key + 8 * later.digits) (2 ^ 64)) refl)

first_of_all : (xs : List Keyed) (x : Keyed) → 0 < length xs → x ≡ get_or xs 0 x → xs ≡ x ∷ drop 1 xs
first_of_all [] x some e = absurd (omega arith)
first_of_all (y ∷ ys) x some e = ap (λ (z : Keyed). z ∷ ys) (sym e)

abbrev Said : TableBody → (format : ℕ) → List Keyed → Option Order → Type 0
Said body format named r = MatchOption r (2 ^ 64 ≤ (order_of (map (key_for body format) named)).digits) (λ order. order ≡ order_of (map (key_for body format) named))

both : (body : TableBody) (format : ℕ) (named others : List Keyed) (first : Keyed) (key : Key) (later : Order) (r : Option Order) → 0 < length named → first ≡ get_or named 0 first
    → others ≡ drop 1 named → key ≡ key_for body format first → later ≡ order_of (map (key_for body format) others) → r ≡ joined key later → Said body format named r
both body format named others first key later r some at rest is was e =
    let keyed = key_for body format first in
    let behind = order_of (map (key_for body format) (drop 1 named)) in
    let same : r ≡ joined keyed behind = e ∙ ap (λ (k : Key). joined k later) is ∙ ap (λ (o : Order). joined keyed o) (was ∙ ap (λ (xs : List Keyed). order_of (map (key_for body format) xs)) rest) in
    subst (λ (xs : List Keyed). Said body format xs r) (sym (first_of_all named first some at)) (whole keyed behind r same)

pub returns-in_ok-later-in-len1-up : goal.returns-in_ok-later-in-len1-up
returns-in_ok-later-in-len1-up t c =
    let named = c.args.named.now in
    both c.args.body.now c.args.format named _ c.first-item.result c.key_for.result c.in_ok-later-in-len1-up.later c.from_parts.result (omega arith) c.first-item.is
    (take_rest named 1) c.key_for.ensures c.in_ok-later-in-len1-up.ensures c.from_parts.ensures
