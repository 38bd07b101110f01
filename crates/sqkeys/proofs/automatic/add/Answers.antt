use Rattle.std.proofs.Common.{◌≡◌, ◌∙◌, Bool, true, false, ◌||◌, List, [], ◌∷◌, ◌++◌, map, refl, ap, sym, Bor}
use Rattle.std.specs.Prelude.{cond, Some}
use Rattle.std.specs.List.{list_any}
use Rattle.std.proofs.lemmas.List.{map-append}
use Rattle.sqlite_ast.specs.declared.Keyed.{Keyed}
use Rattle.sqlite_ast.specs.declared.TableBody.{TableBody}
use Rattle.sqkeys.specs.Constraints.{repeats, with_columns}
use Rattle.sqkeys.proofs.automatic.add.Goals as goal

any_map : {A B : Type 0} (p : B → Bool) (f : A → B) (xs : List A) → list_any p (map f xs) ≡ list_any (λ x. p (f x)) xs
any_map p f [] = refl
any_map p f (x ∷ xs) = ap (λ (b : Bool). p (f x) || b) (any_map p f xs)

of : (body : TableBody) (before : List (Bor (List Keyed))) (named : List Keyed) (b : Bool) → list_any (λ others. repeats body named others.now) before ≡ b
    → with_columns body (map (λ n. n.now) before) (Some named) ≡ cond b (map (λ n. n.now) before) (map (λ n. n.now) before ++ named ∷ [])
of body before named b e = ap (λ (any : Bool). cond any (map (λ n. n.now) before) (map (λ n. n.now) before ++ named ∷ [])) (any_map (repeats body named) (λ (n : Bor (List Keyed)). n.now) before ∙ e)

pub returns : goal.returns
returns c =
    let body = c.args.body.now in
    let before = c.args.before.now.items in
    let named = c.args.named.now in
    let any = ap (λ (xs : List (Bor (List Keyed))). list_any (λ others. repeats body named others.now) xs) (sym c.as_slice.ensures.value) ∙ sym c.repeats_any.ensures ∙ c.if-repeats_any.false in
    ap (map (λ (n : Bor (List Keyed)). n.now)) c.in_ok-push.ensures.items ∙ map-append (λ (n : Bor (List Keyed)). n.now) before (c.args.named ∷ []) ∙ sym (of body before named false any)

pub returns-then-repeats_any : goal.returns-then-repeats_any
returns-then-repeats_any c =
    let body = c.args.body.now in
    let before = c.args.before.now.items in
    let named = c.args.named.now in
    let any = ap (λ (xs : List (Bor (List Keyed))). list_any (λ others. repeats body named others.now) xs) (sym c.as_slice.ensures.value) ∙ sym c.repeats_any.ensures ∙ c.if-repeats_any.true in
    sym (of body before named true any)
