-- What a deep check finds behind a check (own). No public contract cites these words.
use Rattle.std.specs.Prelude.{◌≡◌, Result, Ok, Err}
use Rattle.sqdeep.specs.declared.deep.Inside.{Inside}
use Rattle.sqview.specs.declared.judge_error.JudgeError.{JudgeError}
use Rattle.sqview.specs.declared.judge_error.JudgeError.TheVariants as judgments
use Rattle.sqcontents.specs.declared.error.ContentsError.{ContentsError}
use Rattle.sqcontents.specs.declared.error.ContentsError.TheVariants as contents
use Rattle.sqdeepjudge.specs.declared.verdict.Damage.TheVariants.{Schema, Content, Row}
use Rattle.sqdeepjudge.specs.declared.verdict.DeepVerdict.{DeepVerdict}
use Rattle.sqdeepjudge.specs.declared.verdict.DeepVerdict.TheVariants as deep

-- it is one of a database that is sound inside, of which this is told
abbrev pub IsBehind : Inside → DeepVerdict → Type 0
IsBehind r (deep.Sound report schema unjudged) = (report ≡ r.report) × (unjudged.ill_formed ≡ r.ill_formed)
IsBehind r (deep.Damaged (Schema e)) = Unit {0}
IsBehind r (deep.Damaged (Content e)) = Unit {0}
IsBehind r (deep.Damaged (Row e)) = Unit {0}
IsBehind r _ = ⊥

-- what is found where the contents of a schema aren't sound
abbrev pub contents_verdict : ContentsError → Result DeepVerdict JudgeError
contents_verdict (contents.Content e) = Ok (deep.Damaged (Content e))
contents_verdict (contents.Row e) = Ok (deep.Damaged (Row e))
contents_verdict contents.NoMemory = Err judgments.NoMemory
contents_verdict contents.Source = Err judgments.Unread
