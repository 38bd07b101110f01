-- At which commit of its log a database is read (own).
use Rattle.std.specs.Prelude.{ℕ, Option, Some, None}
use Rattle.cli_words.specs.declared.requests.Options.{Options}
use Rattle.cli_words.specs.declared.requests.Commit.{Commit}
use Rattle.cli_words.specs.declared.requests.Commit.TheVariants.{Last, Front, At}

-- the commit that is asked for, otherwise the front by the index, otherwise the last one
abbrev pub commit_of : (at front : Option ℕ) → Commit
commit_of (Some m) front = At m
commit_of None (Some m) = Front m
commit_of None None = Last

abbrev pub commit_named : Options → Commit
commit_named options = commit_of options.at options.front

-- the frame up to which the log is read, if it isn't read to its end
abbrev pub last_of : Commit → Option ℕ
last_of Last = None
last_of (Front m) = Some m
last_of (At m) = Some m
