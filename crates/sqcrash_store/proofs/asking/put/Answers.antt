use Rattle.std.proofs.Common.{ℕ, List, [], ◌∷◌, map, string_bytes, subst}
use Rattle.sqcrash_store.specs.Refused.{PutRefused}
use Rattle.sqcrash_store.proofs.PassedRefusals.{passed}
use Rattle.sqcrash_store.proofs.RefusedNames.{one_of, put_in, text_among}
use Rattle.sqcrash_store.proofs.asking.put.Goals as goal

pub returns-in_err-put_file : goal.returns-in_err-put_file
returns-in_err-put_file g c =
    let names = map (λ n. string_bytes n) c.args.names.now in
    let name = string_bytes c.index-names-k.result in
    let refusal = c.in_err-put_file.field-0.0 in
    let refused = subst (λ (text : List ℕ). PutRefused (text ∷ []) refusal) c.as_str.ensures.value c.in_err-put_file.ensures in
    let there = text_among c.args.names.now c.loop-k.k c.index-names-k.result c.loop-k-test.true c.index-names-k.is in
    passed c.from_residual.result _ _ _ c.from_residual.ensures.1
    (put_in (name ∷ []) names refusal (one_of names name there) refused)
