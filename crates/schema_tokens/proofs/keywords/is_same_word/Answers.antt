use Rattle.schema_tokens.proofs.SameWord.{from_equal}
use Rattle.schema_tokens.proofs.keywords.is_same_word.Goals as goal

pub returns : goal.returns
returns c = from_equal c.args.a.now c.args.b.now c.eq_ignore_ascii_case.result c.eq_ignore_ascii_case.ensures.test
