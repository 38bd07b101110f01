use Rattle.std.proofs.Common.{ℕ, List, [], ◌∷◌, ◌++◌, map, sym, ◌∙◌, ap, subst}
use Rattle.std.proofs.lemmas.List.{map-append}
use Rattle.std.specs.String.{string_bytes}
use Rattle.sqcrash_store.specs.Refused.{NamesRefused}
use Rattle.sqcrash_store.proofs.NamesTold.{told_none, told_one}
use Rattle.sqcrash_store.proofs.PassedRefusals.{passed}
use Rattle.sqcrash_store.proofs.states.take_name.Goals as goal

pub returns-then-not-tells : goal.returns-then-not-tells
returns-then-not-tells c =
    told_none c.args.trace.now c.args.call.now (map (λ name. string_bytes name) c.args.names.now.items) (sym c.tells_name-tells.ensures ∙ c.if-not-tells.true)

pub returns : goal.returns
returns c =
    let old = c.args.names.now.items in
    let texts = map (λ name. string_bytes name) old in
    ap (λ l. map (λ name. string_bytes name) l) c.in_ok-push.ensures.items
    ∙ map-append (λ name. string_bytes name) old (c.in_ok-name.name ∷ [])
    ∙ ap (λ (t : List ℕ). texts ++ t ∷ []) c.in_ok-name.ensures
    ∙ ap (λ (l : List (List ℕ)). texts ++ l) (sym (told_one c.args.trace.now c.args.call.now (sym c.tells_name-tells.ensures ∙ c.if-not-tells.false)))

pub returns-in_err-name : goal.returns-in_err-name
returns-in_err-name c =
    let refusal = c.in_err-name.field-0.0 in
    let told = told_one c.args.trace.now c.args.call.now (sym c.tells_name-tells.ensures ∙ c.if-not-tells.false) in
    passed c.from_residual.result _ _ _ c.from_residual.ensures.1
    (subst (λ (l : List (List ℕ)). NamesRefused l refusal) (sym told) c.in_err-name.ensures)
