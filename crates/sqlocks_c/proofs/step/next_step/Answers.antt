use Rattle.std.proofs.Common.{◌≡◌, ◌∙◌, List, map, subst}
use Rattle.sqlocks.specs.Runs.{IsRun, MayAsk, log_of}
use Rattle.sqlocks.specs.declared.plan.Answer.{Answer}
use Rattle.sqlocks_c.specs.Steps.{answer_of}
use Rattle.sqlocks_c.proofs.step.next_step.Goals as goal

pub returns : goal.returns
returns c =
    let e : c.deref.result.now ≡ map answer_of c.args.numbers.now = c.deref.ensures.value ∙ c.in_ok-answers.ensures in (
      subst (λ (answers : List Answer). IsRun c.args.want (log_of c.args.want answers)) e c.asked.ensures.run,
      subst (λ (answers : List Answer). MayAsk c.args.want (log_of c.args.want answers) c.asked.result) e c.asked.ensures.next,
    )
