use Rattle.std.proofs.Common.{◌≡◌, ◌⊎◌, ◌∙◌, sym, inr}
use Rattle.sqlocks_c.proofs.index.counts.Goals as goal

pub returns-in-Some-first_chunk : goal.returns-in-Some-first_chunk
returns-in-Some-first_chunk c = λ t. inr (λ w header frame.
    (c.names_front.ensures w (header ∙ sym c.in-Some.ensures.cases.same) (frame ∙ sym c.in-Some-first_chunk.ensures.cases.same)).0 t)
