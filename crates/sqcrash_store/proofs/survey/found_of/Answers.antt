use Rattle.std.proofs.Common.{refl}
use Rattle.sqcrash_store.proofs.survey.found_of.Goals as goal

pub returns-clause-judged : goal.returns-clause-judged
returns-clause-judged g c = record {
  answer = c.in_ok-answer.answer;
  says = c.in_ok-answer.ensures.says;
  line = refl;
  verdict = c.verdict_of-verdict.ensures;
  crash_is = refl;
  differs = c.in_ok-differences.ensures;
}
