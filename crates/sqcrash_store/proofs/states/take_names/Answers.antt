use Rattle.std.proofs.Common.{◌≡◌, ℕ, ◌+◌, List, [], ◌∷◌, ◌++◌, get_or, take, drop, map, sym, ◌∙◌, ap, subst}
use Rattle.std.proofs.lemmas.List.{take_all}
use Rattle.std.specs.String.{string_bytes}
use Rattle.rig_store.specs.declared.call.Action.TheVariants.{Base}
use Rattle.rig_store.specs.declared.call.Call.{Call}
use Rattle.sqcrash_store.specs.States.{names_told}
use Rattle.sqcrash_store.proofs.NamesTold.{told_more}
use Rattle.sqcrash_store.proofs.PassedRefusals.{passed}
use Rattle.sqcrash_store.proofs.RefusedNames.{names_in, told_in}
use Rattle.sqcrash_store.proofs.RefusedTraces.{split_at}
use Rattle.sqcrash_store.proofs.states.take_names.Goals as goal

-- what stands for a record behind the last
behind : Call
behind = record { action = Base; file = 0; name = 0; thread = 0; answer = 0; place = 0; length = 0; from = 0 }

pub loop-call-preserved : goal.loop-call-preserved
unfolding behind
loop-call-preserved c =
    let trace = c.args.trace.now in
    let calls = c.args.calls.now in
    let i = c.loop-call.call-index in
    c.in_ok-take_name.ensures
    ∙ ap (λ (l : List (List ℕ)). l ++ names_told trace (get_or calls i behind ∷ [])) c.loop-call.invariant
    ∙ sym (told_more trace calls i behind c.loop-call-test.true)

pub returns : goal.returns
returns c =
    subst (λ (l : List Call). map (λ name. string_bytes name) c.loop-call.names.items ≡ names_told c.args.trace.now l) (take_all c.loop-call.call-index c.args.calls.now c.loop-call-test.false) c.loop-call.invariant

pub returns-in_err-take_name : goal.returns-in_err-take_name
unfolding behind
returns-in_err-take_name c =
    let trace = c.args.trace.now in
    let calls = c.args.calls.now in
    let i = c.loop-call.call-index in
    let r = get_or calls i behind in
    let in_all = told_in trace calls (take i calls) (drop (i + 1) calls) r (split_at calls i behind c.loop-call-test.true) in
    passed c.from_residual.result _ _ _ c.from_residual.ensures.1
    (names_in (names_told trace (r ∷ [])) (names_told trace calls) _ in_all c.in_err-take_name.ensures)
