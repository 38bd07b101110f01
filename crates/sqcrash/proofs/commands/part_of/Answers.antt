use Rattle.std.proofs.Common.{List, ℕ, Some, sym, subst, arith}
use Rattle.std.proofs.lemmas.Str.Pattern.{split_once_first}
use Rattle.sqcrash.specs.Words.{IsNumber}
use Rattle.sqcrash.proofs.commands.part_of.Goals as goal

pub returns-in_err-number_of : goal.returns-in_err-number_of
returns-in_err-number_of c =
    let sides = split_once_first 47 c.args.text.now (Some (c.in_ok-number.number, c.in_ok-number.of)) c.in_ok-number.ensures.cases (omega arith) in
    rw c.from_residual-in_err-number_of.ensures
    (λ p is. c.in_err-number_of.ensures p.number (subst (λ (text : List ℕ). IsNumber text p.number) (sym sides.1) is.number))
