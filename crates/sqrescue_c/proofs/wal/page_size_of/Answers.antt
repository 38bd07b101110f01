use Rattle.std.proofs.Common.{cond, length, sym, ◌∙◌, ap}
use Rattle.std.proofs.lemmas.Bool.{lt-ltb, le-ltb}
use Rattle.sqwal.specs.Header.{named_size}
use Rattle.sqrescue_c.proofs.wal.page_size_of.Goals as goal

pub returns-in-Some : goal.returns-in-Some
returns-in-Some c = λ w took.
    let found = c.in-Some.ensures _ w took in
    c.get.ensures.value ∙ sym found.1.valid.named ∙ ap (λ b. cond b 0 (named_size w)) (sym (le-ltb (length w) 32 found.0))

pub returns-in-None : goal.returns-in-None
returns-in-None c = λ w took. ap (λ b. cond b 0 (named_size w)) (sym (lt-ltb (length w) 32 (c.in-None.ensures _ w took)))
