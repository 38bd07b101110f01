-- What a report shows (own).
use Rattle.std.specs.Prelude.{◌≡◌, ◌⊎◌, ℕ, ◌+◌, ◌<◌, ◌==◌, min, List, [], ◌∷◌, ◌++◌, length, map, slice_get, Option, None, Some, codes}
use Rattle.std.specs.Fmt.{decimal}
use Rattle.std.specs.List.{enumerate_from, flat_map, range_with_len}
use denote.Ref.{Bor}
use Rattle.hex.specs.Hex.{encode_lower}
use Rattle.sqpage.specs.Header.{IsHeader, HeaderRefused}
use Rattle.sqpage.specs.declared.fault.Fault.{Fault}
use Rattle.sqpage.specs.declared.header.DbHeader.{DbHeader}
use Rattle.sqview.specs.Logs.{HasRead}
use Rattle.sqcheck.specs.declared.role.Role.{Role}
use Rattle.cli_words.specs.declared.requests.Style.TheVariants.{Json}
use Rattle.cli_text.specs.Facts.{joined}
use Rattle.cli_text.specs.Headers.{members_text}
use Rattle.cli_text.specs.Logs.{Journal, Log, ShowsJournal, ShowsLog}
use Rattle.cli_text.specs.Reports.{comma, hex_name, journal_object, line_comma, run_text, tree_text, wal_object}
use Rattle.cli_text.specs.declared.pages.Logged.{Logged}
use Rattle.cli_text.specs.declared.pages.Logged.TheVariants.{Frame, Record}
use Rattle.cli_text.specs.declared.report.Tree.{Tree}
use Rattle.cli_facts.specs.declared.runs.Run.{Run}
use Rattle.cli_show.specs.Names.{IsTreeName, names_of}
use Rattle.cli_show.specs.PageLines.{IsLoggedAt}
use Rattle.cli_show.specs.Verdicts.{verdict_text}
use Rattle.cli_show.specs.declared.logs.LogFound.{LogFound}
use Rattle.cli_show.specs.declared.logs.LogFound.TheVariants as found
use Rattle.cli_show.specs.declared.report.LoggedRun.{LoggedRun}
use Rattle.cli_show.specs.declared.report.ReportFacts.{ReportFacts}
use Rattle.cli_show.specs.declared.surveys.Found.{Found}
use Rattle.cli_show.specs.declared.surveys.Found.TheVariants.{Pages, Nothing}
use Rattle.cli_show.specs.declared.surveys.Surveyed.{Surveyed}

-- the roles of the pages that were found
abbrev pub roles_in : {F : Type 0} → Found F → List Role
roles_in (Pages found) = found.survey.roles.items
roles_in (Nothing error) = []

-- the same was found, and at most pages of the view were read
abbrev pub OnlyReads : {F : Type 0} → (old new : Found F) → Type 0
OnlyReads (Pages old) (Pages new) = new ≡ record old { view = new.view }
OnlyReads (Nothing old) (Nothing new) = new ≡ old
OnlyReads (Pages old) (Nothing new) = ⊥
OnlyReads (Nothing old) (Pages new) = ⊥

-- the size of a page, 0 where none was found
abbrev pub size_in : {F : Type 0} → Found F → ℕ
size_in (Pages found) = found.view.page_size
size_in (Nothing error) = 0

-- tree i of a list, from 0, under the name that the schema has for its root
abbrev pub IsTreeText : (names : List (ℕ × List ℕ)) → (trees : List Tree) → (i : ℕ) → (text : List ℕ) → Type 0
IsTreeText names trees i text = (tree : Tree) × (name : Option (Bor (List ℕ))) × (slice_get trees i ≡ Some tree)
    × IsTreeName names tree.root name × (text ≡ tree_text (i == 0) tree (hex_name name))

-- each tree of a list, in its order
pub record AreTreeTexts (names : List (ℕ × List ℕ)) (trees : List Tree) (texts : List (List ℕ)) : Type 0 where
  pub all : length texts ≡ length trees
  pub each : (i : ℕ) (text : List ℕ) → slice_get texts i ≡ Some text → IsTreeText names trees i text

-- the trees of a survey; none where no page was found
abbrev pub IsTreesText : {F : Type 0} → Found F → List Tree → (text : List ℕ) → Type 0
IsTreesText (Pages found) trees text = (texts : List (List ℕ)) × AreTreeTexts (names_of found.names) trees texts × (text ≡ flat_map (λ (t : List ℕ). t) texts)
IsTreesText (Nothing error) trees text = text ≡ []

-- runs of pages, the first of which begins with this page
abbrev pub runs_text : (first : ℕ) → List Run → List ℕ
runs_text first [] = []
runs_text first (run ∷ runs) =
    run_text first run.count run.used.role run.used.fault ++ runs_text (min (first + run.count) 4294967295) runs

-- the fields of a database's header in the first bytes of page 1, none where these are no header
abbrev pub IsHeadText : (head : Option (List ℕ)) → (text : List ℕ) → Type 0
IsHeadText None text = text ≡ []
IsHeadText (Some head) text = ((header : DbHeader) × IsHeader header head × (text ≡ members_text header))
    ⊎ ((fault : Fault) × HeaderRefused fault head × (text ≡ []))

-- the log that was found, of these bytes
abbrev pub IsLogObject : (most : ℕ) → (wal journal : List ℕ) → LogFound → (text : List ℕ) → Type 0
IsLogObject most wal journal found.None text = text ≡ codes "{\"log\":\"none\"}"
IsLogObject most wal journal (found.Wal scan commits length) text =
    (log : Log) × ShowsLog most wal log × (text ≡ wal_object log commits.items length)
IsLogObject most wal journal (found.Journal replay) text =
    (read : HasRead journal replay) × (log : Journal) × ShowsJournal read.front log × (text ≡ journal_object log)

-- the number of a frame or of a record
abbrev pub number_of : Logged → ℕ
number_of (Frame number) = number
number_of (Record number) = number

-- a page with the frame or record in which it stands, if it stands in one
abbrev pub placed : (page : ℕ) → Option Logged → List (ℕ × ℕ)
placed page None = []
placed page (Some place) = (page, number_of place) ∷ []

-- the pages of a run, each with its frame or record
abbrev pub pages_of : LoggedRun → List (ℕ × ℕ)
pages_of run = map (λ k. (run.page + k, run.at + k)) (range_with_len 0 run.count)

-- a run: its first page, the frame or record of that one, and how many pages there are
abbrev pub logged_text : LoggedRun → List ℕ
logged_text run = codes "[" ++ (decimal run.page ++ (comma ++ (decimal run.at ++ (comma ++ (decimal run.count ++ codes "]")))))

-- Runs whose pages, one behind the other, are all those that stand in the log, in the order of their numbers.
pub record AreLogged {F : Type 0} (found : Surveyed F) (runs : List LoggedRun) : Type 0 where
  pub places : List (Option Logged)
  pub all : length places ≡ length found.survey.roles.items
  pub each : (i : ℕ) (place : Option Logged) → slice_get places i ≡ Some place → IsLoggedAt found i place
  pub none_empty : (i : ℕ) (run : LoggedRun) → slice_get runs i ≡ Some run → 0 < run.count
  pub pages : flat_map pages_of runs ≡ flat_map (λ e. placed e.0 e.1) (enumerate_from 1 places)

-- the pages of a survey that stand in the log; none where no page was found
abbrev pub IsLoggedText : {F : Type 0} → Found F → (text : List ℕ) → Type 0
IsLoggedText (Pages found) text = (runs : List LoggedRun) × AreLogged found runs × (text ≡ joined line_comma (map logged_text runs))
IsLoggedText (Nothing error) text = text ≡ []

-- What stands in a report for the facts of a header, of trees, of pages in the log, and of the log.
pub record Parts : Type 0 where
  pub head : List ℕ
  pub trees : List ℕ
  pub logged : List ℕ
  pub log : List ℕ

-- They are those of these facts, whose log was found within this many frames, in these bytes.
pub record ArePartsOf {F : Type 0} (most : ℕ) (wal journal : List ℕ) (facts : ReportFacts F) (parts : Parts) : Type 0 where
  pub head : IsHeadText facts.head parts.head
  pub trees : IsTreesText facts.found facts.trees.items parts.trees
  pub logged : IsLoggedText facts.found parts.logged
  pub log : IsLogObject most wal journal facts.log parts.log

-- what stands before the verdict
abbrev pub front_text : (version file : List ℕ) → (size : ℕ) → List ℕ
front_text version file size =
    codes "{\"version\":\"" ++ (version ++ (codes "\",\"file\":\"" ++ (encode_lower file
    ++ (codes "\",\n\"page size\":" ++ (decimal size ++ codes ",\n\"verdict\":")))))

-- a list under its word
abbrev pub list_text : (word elements : List ℕ) → List ℕ
list_text word elements = codes "\"" ++ (word ++ (codes "\":[" ++ (elements ++ codes "],\n")))

-- The report of a program of this version on a file of this name, as one object: the verdict, the header, the trees, the runs of all
-- pages, those that stand in the log, and the log, each once.
abbrev pub report_text : {F : Type 0} → (version file : List ℕ) → ReportFacts F → Parts → List ℕ
report_text version file facts parts =
    front_text version file (size_in facts.found) ++ (verdict_text Json facts.found
    ++ (codes ",\"header\":{" ++ (parts.head ++ (codes "},\n" ++ (list_text (codes "trees") parts.trees
    ++ (list_text (codes "runs") (runs_text 1 facts.runs.items) ++ (list_text (codes "logged") parts.logged
    ++ (codes "\"log\":" ++ (parts.log ++ codes "}\n")))))))))
