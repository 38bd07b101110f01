use Rattle.std.proofs.Common.{rules}
use Rattle.std.proofs.lemmas.Result.{IfOk-weaker}
use Rattle.sqcrash.proofs.commands.command.Goals as goal

pub returns : goal.returns
returns c =
    IfOk-weaker c.command_with.result _ _ (λ made is. (
      c.one_of-sectors.result,
      c.one_of-metas.result,
      c.one_of-promises.result,
      c.one_of-commits.result,
      (_, c.one_of-sectors.ensures, search rules),
      (_, c.one_of-metas.ensures, search rules),
      (_, c.one_of-promises.ensures, search rules),
      (_, c.one_of-commits.ensures, search rules),
      is,
    )) c.command_with.ensures
