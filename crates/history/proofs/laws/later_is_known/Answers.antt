use Rattle.std.proofs.Common.{⊎_elim, arith}
use Rattle.std.proofs.lemmas.Bool.{cases_lt}
use Rattle.history.proofs.laws.later_is_known.Goals as goal

pub returns : goal.returns
returns c = λ size w front file m n later more le some grows known. record {
  pages = λ p one within gone. ⊎_elim
      (λ above. let x = grows p above within in gone.0 x.0 x.1 x.2 x.3)
      (λ low. known.pages p one low ((λ i a b. gone.0 i a (omega arith)), gone.1))
      (cases_lt n p);
  length_kept = λ short. absurd (omega (arith, short.0));
}
