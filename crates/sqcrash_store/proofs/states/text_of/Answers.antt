use Rattle.std.proofs.Common.{inl, inr, ◌<◌, IsUtf8, refl, subst, arith}
use Rattle.rig_store.specs.Calls.{bytes_of}
use Rattle.sqcrash_store.proofs.states.text_of.Goals as goal

pub returns-in-Err : goal.returns-in-Err
returns-in-Err c =
    let bytes = bytes_of c.args.trace.now c.args.call.now in
    let below : 0 < 1 = omega arith in
    let not_text : ¬ IsUtf8 bytes = subst (λ l. ¬ IsUtf8 l) c.bytes.ensures c.in-Err.ensures.cases.0 in
    inr (refl, (bytes, (0, below, refl), inl not_text))
