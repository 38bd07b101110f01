use Rattle.std.proofs.Common.{inl, ◌-◌, ◌<◌, length, sym, ◌∙◌, arith}
use Rattle.std.proofs.lemmas.List.{get_or_default}
use Rattle.sqcrash.proofs.run.Run.spoken_of.Goals as goal

pub returns-then-index-thread : goal.returns-then-index-thread
returns-then-index-thread c =
    let makers = c.args.self.now.makers.items in
    let k = c.loop-k.k - 1 in
    let within : k < length makers = omega (arith, c.loop-k.auto.k, c.len-k.ensures, c.args.self.now.makers.ok.0) in
    inl (within, get_or_default makers k 0 c.index.result.now within ∙ sym c.index.ensures ∙ c.if-index-thread.true, λ j above below. c.loop-k.invariant j (omega arith) below)
