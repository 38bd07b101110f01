use Rattle.sqrows.proofs.payload.payload_within.Goals as goal

pub returns-in-Err-clause-err : goal.returns-in-Err-clause-err
returns-in-Err-clause-err g c = λ gives.
    let refused = c.in-Err.ensures.err (g.met.S.PageSource.right c.args.source.now gives) in
    refused.1 (λ is. refused.0 is gives)
