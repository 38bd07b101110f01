-- Which words ask for the version or for help, and what those of the command line ask for, as clap reads them (own).
use Rattle.std.specs.Prelude.{◌≡◌, ◌≢◌, ◌⊎◌, ℕ, ◌<◌, ◌≤◌, ◌^◌, nat_eq, length, option_map, Bool, true, false, IsTrue, cond, List, [], ◌∷◌, ◌++◌, map, slice_get, codes, Option, Some, None, unwrap_or, MatchOption, Result, Ok, Err}
use Rattle.std.specs.Borrow.{Bor}
use Rattle.std.specs.Option.{option_map_or}
use Rattle.std.specs.List.{Contains, before_first, after_first, position_or_len}
use Rattle.std.specs.Str.{bytes_eq}
use Rattle.std.specs.Str.Parse.{IsNumeral, digits_value, without_leading_plus}
use Rattle.clap.specs.Words.{App, Row, Rule, Text, IsAmong, fault_of, first_of, kind_of, matches_of, new_app, new_rule, with_rule}
use Rattle.clap.specs.declared.builder.action.ArgAction.TheVariants.{Set, SetTrue}
use Rattle.clap.specs.declared.builder.value_parser.ValueParser.{ValueParser}
use Rattle.clap.specs.declared.builder.value_parser.ValueParser.TheVariants.{Names, Unsigned}
use Rattle.clap.specs.declared.error.Error.{Error}
use Rattle.clap.specs.declared.error.kind.ErrorKind.TheVariants.{DisplayHelp, OutOfMemory}
use Rattle.rig_play.specs.declared.meta.Meta.{Meta}
use Rattle.rig_play.specs.declared.meta.Meta.TheVariants.{Parts, Whole, Ordered}
use Rattle.sqcrash.specs.declared.plan.CommitsAt.{CommitsAt}
use Rattle.sqcrash.specs.declared.plan.CommitsAt.TheVariants.{Marks, Calls}
use Rattle.sqcrash.specs.declared.plan.Part.{Part}
use Rattle.sqcrash.specs.declared.plan.Plan.{Plan}
use Rattle.sqcrash.specs.declared.plan.Style.{Style}
use Rattle.sqcrash.specs.declared.plan.Style.TheVariants.{Lines, Json}
use Rattle.sqcrash.specs.declared.promise.Promise.{Promise}
use Rattle.sqcrash.specs.declared.promise.Promise.TheVariants as known
use Rattle.sqcrash.specs.declared.requests.LineError.{LineError}
use Rattle.sqcrash.specs.declared.requests.LineError.TheVariants.{NotUnderstood, Help, Version, NoMemory}
use Rattle.sqcrash.specs.declared.requests.Request.{Request}

-- a word that asks for it
abbrev pub IsVersion : (word : List ℕ) → Type 0
IsVersion word = (word ≡ codes "--version") ⊎ (word ≡ codes "-V")

-- the first word behind the program's name asks for it
abbrev pub AsksVersion : List (List ℕ) → Type 0
AsksVersion words = (word : List ℕ) × (slice_get words 1 ≡ Some word) × IsVersion word

-- any of them does
abbrev pub HasVersion : List (List ℕ) → Type 0
HasVersion words = (word : List ℕ) × Contains words word × IsVersion word

-- a word by which help may be asked for: its name, or an option with an h
abbrev pub MayAskHelp : (word : List ℕ) → Type 0
MayAskHelp word = (word ≡ codes "help") ⊎ ((rest : List ℕ) × (word ≡ codes "-" ++ rest) × Contains rest 104)

-- there is one
abbrev pub AsksHelp : List (List ℕ) → Type 0
AsksHelp words = (word : List ℕ) × Contains words word × MayAskHelp word

-- the numbers of a part, counted from 1, and of how many
abbrev pub IsPart : (number of : ℕ) → Type 0
IsPart number of = (1 ≤ number) × (number ≤ of) × (of ≤ 2 ^ 32)

-- a word that has to be there, an option without a value, and one with a value
abbrev pub word : (name : Text) → Rule
word name = record (new_rule name) { action = Some Set; required = true }

abbrev pub flag : (name : Text) → Rule
flag name = record (new_rule name) { long = Some name; action = Some SetTrue }

abbrev pub option : (name : Text) → ValueParser → Rule
option name parser = record (new_rule name) { long = Some name; action = Some Set; value_names = 1; parser = Some parser }

-- one with any text
abbrev pub text : (name : Text) → Rule
text name = record (new_rule name) { long = Some name; action = Some Set; value_names = 1 }

-- an option whose value is a number
abbrev pub number : (name : Text) → Rule
number name = option name (Unsigned 0 18446744073709551615)

-- the option without a value that asks for the version, also by its letter, V
abbrev pub version_flag : Rule
version_flag = record (flag (codes "version")) { short = Some 86 }

-- a command with the trace and the version; with what a disk does; with which images are drawn; with where they are judged, and by
-- which commits; with what is told of them; with which points are judged, and which lines are written; and with how, and what is kept
abbrev pub with_trace : App → App
with_trace a = with_rule (with_rule a (word (codes "TRACE"))) version_flag

abbrev pub with_disk : (sectors metas : ValueParser) → App → App
with_disk sectors metas a =
    with_rule (with_rule (with_rule a (option (codes "sector") sectors)) (flag (codes "tears"))) (option (codes "meta") metas)

abbrev pub with_draws : App → App
with_draws a = with_rule (with_rule a (option (codes "images") (Unsigned 1 18446744073709551615))) (number (codes "seed"))

abbrev pub with_points : (promises commits : ValueParser) → App → App
with_points promises commits a =
    with_rule (with_rule (with_rule a (flag (codes "every"))) (option (codes "promise") promises)) (option (codes "commits") commits)

abbrev pub with_why : App → App
with_why a = with_rule (with_rule a (flag (codes "why"))) (flag (codes "shrink"))

abbrev pub with_chosen : App → App
with_chosen a =
    with_rule (with_rule (with_rule (with_rule a (text (codes "part"))) (number (codes "lines"))) (number (codes "point"))) (number (codes "image"))

abbrev pub with_told : App → App
with_told a = with_rule (with_rule (with_rule a (flag (codes "json"))) (flag (codes "time"))) (text (codes "keep"))

-- the command line, with the values that options take
abbrev pub line : (sectors metas promises commits : ValueParser) → App
line sectors metas promises commits =
    with_told (with_chosen (with_why (with_points promises commits (with_draws (with_disk sectors metas (with_trace (new_app (codes "sqcrash"))))))))

-- a value is one of these names
abbrev pub IsOneOf : List Text → ValueParser → Type 0
IsOneOf texts parser = (names : Bor (List (Bor (List ℕ)))) × (parser ≡ Names names) × (map (λ name. name.now) names.now ≡ texts)

-- the program's command line
abbrev pub IsLine : App → Type 0
IsLine a =
    (sectors : ValueParser) × (metas : ValueParser) × (promises : ValueParser) × (commits : ValueParser)
    × IsOneOf (codes "512" ∷ codes "4096" ∷ []) sectors
    × IsOneOf (codes "parts" ∷ codes "whole" ∷ codes "ordered" ∷ []) metas
    × IsOneOf (codes "full" ∷ codes "last" ∷ codes "ordered" ∷ codes "none" ∷ []) promises
    × IsOneOf (codes "marks" ∷ codes "calls" ∷ []) commits
    × (a ≡ line sectors metas promises commits)

-- the option of this name has this value
abbrev pub gives : (name text : Text) → List Row → Bool
gives name text rows = option_map_or (λ given. bytes_eq given text) (first_of name rows) false

-- the option of this name, which has no value, is there
abbrev pub has : (name : Text) → List Row → Bool
has name rows = gives name (codes "true") rows

-- a text is this number, of 64 bits, in decimal digits
abbrev pub IsNumber : (text : Text) → (n : ℕ) → Type 0
IsNumber text n = (n < 2 ^ 64) × IsNumeral 10 (without_leading_plus text) × (digits_value 10 (without_leading_plus text) ≡ n)

-- the number that a text is, if there is one
abbrev pub GivesNumber : Option Text → Option ℕ → Type 0
GivesNumber None number = number ≡ None
GivesNumber (Some text) number = MatchOption number ((n : ℕ) → ¬ IsNumber text n) (IsNumber text)

-- the number of an option, or this one where it isn't there
abbrev pub NumberOr : (or : ℕ) → Option Text → (n : ℕ) → Type 0
NumberOr or given n = (number : Option ℕ) × GivesNumber given number × (n ≡ unwrap_or number or)

-- a text names a part: its number and how many there are, on the two sides of its first slash
pub record NamesPart (text : Text) (p : Part) : Type 0 where
  pub slash : position_or_len (λ b. nat_eq b 47) text < length text
  pub number : IsNumber (before_first (λ b. nat_eq b 47) text) p.number
  pub of : IsNumber (after_first (λ b. nat_eq b 47) text) p.of
  pub within : IsPart p.number p.of

-- the part that is asked for, if one is
abbrev pub GivesPart : Option Text → Option Part → Type 0
GivesPart None part = part ≡ None
GivesPart (Some text) part = MatchOption part ⊥ (NamesPart text)

-- a part is asked for by a text that names none
abbrev pub IsNoPart : Option Text → Type 0
IsNoPart None = ⊥
IsNoPart (Some text) = (p : Part) → ¬ NamesPart text p

-- the size of a disk's sectors, and how names and lengths become durable
abbrev pub sector_by : List Row → ℕ
sector_by rows = cond (gives (codes "sector") (codes "4096") rows) 4096 512

abbrev pub meta_by : List Row → Meta
meta_by rows = cond (gives (codes "meta") (codes "parts") rows) Parts (cond (gives (codes "meta") (codes "ordered") rows) Ordered Whole)

-- what is known at marks, and which databases are commits
abbrev pub promise_by : List Row → Promise
promise_by rows =
    cond (gives (codes "promise") (codes "last") rows) known.Last
    (cond (gives (codes "promise") (codes "ordered") rows) known.Ordered
    (cond (gives (codes "promise") (codes "none") rows) known.Nothing known.Full))

abbrev pub commits_by : List Row → CommitsAt
commits_by rows = cond (gives (codes "commits") (codes "marks") rows) Marks Calls

-- how what is found is printed
abbrev pub style_by : List Row → Style
style_by rows = cond (has (codes "json") rows) Json Lines

-- how a trace is to be judged by what clap found
pub record IsPlan (rows : List Row) (plan : Plan) : Type 0 where
  pub sector : plan.sector ≡ sector_by rows
  pub tears : plan.tears ≡ has (codes "tears") rows
  pub meta : plan.meta ≡ meta_by rows
  pub images : NumberOr 1000 (first_of (codes "images") rows) plan.images
  pub seed : NumberOr 1 (first_of (codes "seed") rows) plan.seed
  pub every : plan.every ≡ has (codes "every") rows
  pub promise : plan.promise ≡ promise_by rows
  pub commits : plan.commits ≡ commits_by rows
  pub why : plan.why ≡ has (codes "why") rows
  pub shrink : plan.shrink ≡ has (codes "shrink") rows
  pub part : GivesPart (first_of (codes "part") rows) plan.part
  pub lines : GivesNumber (first_of (codes "lines") rows) plan.lines
  pub point : GivesNumber (first_of (codes "point") rows) plan.point
  pub image : GivesNumber (first_of (codes "image") rows) plan.image
  pub style : plan.style ≡ style_by rows

-- what is asked for by what clap found
pub record IsRequest (rows : List Row) (request : Request) : Type 0 where
  pub trace : first_of (codes "TRACE") rows ≡ Some request.trace.now
  pub plan : IsPlan rows request.plan
  pub keep : option_map (λ path. path.now) request.keep ≡ first_of (codes "keep") rows
  pub time : request.time ≡ has (codes "time") rows

-- clap found that the version is asked for, and a word asks for it
abbrev pub IsVersionFound : (words : List Text) → List Row → Type 0
IsVersionFound words rows = IsTrue (has (codes "version") rows) × HasVersion words

-- clap answered with help, and a word may ask for it
abbrev pub IsHelpFound : (words : List Text) → Error → Type 0
IsHelpFound words error = (kind_of error ≡ DisplayHelp) × AsksHelp words

-- what is said where clap refused the words by this error
abbrev pub IsFault : (words : List Text) → Error → LineError → Type 0
IsFault words error (Help told) = (told ≡ error) × IsHelpFound words error
IsFault words error Version = ⊥
IsFault words error (NotUnderstood told) = (told ≡ error) × (kind_of error ≢ OutOfMemory) × ¬ IsHelpFound words error
IsFault words error NoMemory = kind_of error ≡ OutOfMemory

-- What words ask for of a command line. Where clap takes them: a request, or the version, or nothing, where the part is none; and
-- where it doesn't: help, or nothing.
abbrev pub AsksOf : App → (words : List Text) → Result Request LineError → Type 0
AsksOf a words (Ok request) = (fault_of a words ≡ []) × ¬ IsVersionFound words (matches_of a words) × IsRequest (matches_of a words) request
AsksOf a words (Err Version) = (fault_of a words ≡ []) × IsVersionFound words (matches_of a words)
AsksOf a words (Err (Help error)) = IsAmong DisplayHelp (fault_of a words) × IsHelpFound words error
AsksOf a words (Err (NotUnderstood error)) =
    (IsAmong (kind_of error) (fault_of a words) × ¬ IsHelpFound words error)
    ⊎ ((fault_of a words ≡ []) × ¬ IsVersionFound words (matches_of a words) × IsNoPart (first_of (codes "part") (matches_of a words)))
AsksOf a words (Err NoMemory) = Unit {0}

-- and of the program's
abbrev pub Asks : (words : List Text) → Result Request LineError → Type 0
Asks words (Err NoMemory) = Unit {0}
Asks words answer = (a : App) × IsLine a × AsksOf a words answer

-- a part is none
abbrev pub IsOfPart : LineError → Type 0
IsOfPart (NotUnderstood text) = Unit {0}
IsOfPart NoMemory = Unit {0}
IsOfPart _ = ⊥
