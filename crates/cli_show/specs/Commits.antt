-- How the commits of a log are printed, and at which of them the database is known (own).
use Rattle.std.specs.Prelude.{ℕ, ◌-◌, Bool, true, false, List, [], ◌∷◌, ◌++◌, get_or, codes}
use Rattle.std.specs.List.{enumerate_from, flat_map}
use Rattle.sqwal.specs.Frames.{IsFront}
use Rattle.sqwal.specs.Header.{named_size}
use Rattle.sqwal.specs.declared.scan.Entry.{Entry}
use Rattle.sqpast.specs.Commits.{AreKnown}
use Rattle.cli_words.specs.declared.requests.Style.{Style}
use Rattle.cli_words.specs.declared.requests.Style.TheVariants.{Lines, Json}
use Rattle.cli_text.specs.Facts.{number_text, object_text, pair_text}
use Rattle.cli_text.specs.Logs.{Log, commits_text, size_at, spans}

-- by frame of a log, from 1: whether it ends a commit, and the database there is known
abbrev pub AreKnownIn : (wal db : List ℕ) → (known : List Bool) → Type 0
AreKnownIn wal db known = (front : ℕ) → IsFront (named_size wal) wal front → AreKnown (named_size wal) wal front db known

-- the word for that
abbrev pub known_word : Style → (known : Bool) → List ℕ
known_word Lines true = codes "yes"
known_word Lines false = codes "no"
known_word Json true = codes "true"
known_word Json false = codes "false"

-- a commit by its number: its frames are those behind the frame before it
abbrev pub commit_text : Style → List Entry → (known : List Bool) → (i before frame : ℕ) → List ℕ
commit_text style entries known i before frame = object_text style (
    number_text style (codes "commit") i
    ∷ number_text style (codes "frame") frame
    ∷ number_text style (codes "pages") (frame - before)
    ∷ number_text style (codes "size") (size_at entries frame)
    ∷ pair_text style (codes "known") (known_word style (get_or known (frame - 1) false)) ∷ [])

-- commits by their numbers, from 1
abbrev pub commits_lines : Style → List Entry → (known : List Bool) → (commits : List ℕ) → List ℕ
commits_lines style entries known commits =
    flat_map (λ c. commit_text style entries known c.0 c.1.0 c.1.1) (enumerate_from 1 (spans commits))

-- the commits of a log, and behind them what is printed of a log without one: its front and where it stops
abbrev pub known_commits_text : Style → Log → (known : List Bool) → (commits : List ℕ) → List ℕ
known_commits_text style log known commits = commits_lines style log.entries known commits ++ commits_text style log []
