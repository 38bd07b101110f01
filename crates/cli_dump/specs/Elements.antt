-- The changes of commits as an element of a page of HTML (own).
use Rattle.std.specs.Prelude.{ℕ, ◌==◌, if◌then◌else◌, List, [], ◌∷◌, ◌++◌, codes}
use Rattle.std.specs.IoError.{error_kind}
use Rattle.std.specs.List.{flat_map}
use Rattle.std.specs.declared.io.ErrorKind.{ErrorKind}
use Rattle.std.specs.declared.io.ErrorKind.TheVariants.{OutOfMemory}
use Rattle.sqpage.specs.Faults.{number_of, name_of}
use Rattle.sqpast.specs.declared.past_error.PastError.{PastError}
use Rattle.sqpast.specs.declared.past_error.PastError.TheVariants.{Refused, CommitOverwritten}
use Rattle.sqview.specs.declared.view_error.ViewError.TheVariants as views
use Rattle.cli_show_rows.specs.declared.stop.Stop.{Stop}
use Rattle.cli_show_rows.specs.declared.stop.Stop.TheVariants as stops
use Rattle.cli_words.specs.declared.requests.Style.TheVariants.{Json}
use Rattle.cli_text.specs.Facts.{number_text, object_text, word_text}
use Rattle.cli_history.specs.declared.error.HistoryError.{HistoryError}
use Rattle.cli_history.specs.declared.error.HistoryError.TheVariants as errors
use Rattle.cli_dump.specs.declared.kept.Ended.{Ended}
use Rattle.cli_dump.specs.declared.kept.Ended.TheVariants.{Whole, Full, Stopped}
use Rattle.cli_dump.specs.declared.kept.Kept.{Kept}

-- a byte of JSON; `<`, which stands in strings alone, as its escape (RFC 8259, 7)
abbrev pub escaped_byte : ℕ → List ℕ
escaped_byte byte = if byte == 60 then codes "\\u003c" else byte ∷ []

abbrev pub escaped : List ℕ → List ℕ
escaped text = flat_map escaped_byte text

-- a word for why there is no view of a commit
abbrev pub view_word : PastError → List ℕ
view_word (Refused views.TwoLogs) = codes "two logs"
view_word (Refused views.TooLarge) = codes "too large"
view_word (Refused (views.Header fault)) = codes "not a database"
view_word (Refused views.Unread) = codes "file failed"
view_word (Refused views.NoMemory) = codes "no memory"
view_word (Refused views.NoSuchCommit) = codes "no such commit"
view_word CommitOverwritten = codes "commit overwritten"

-- one for why a text of at most so many bytes isn't written
abbrev pub write_word : ErrorKind → List ℕ
write_word OutOfMemory = codes "no memory"
write_word _ = codes "more than a page holds"

-- one for why changes aren't printed
abbrev pub stop_word : Stop → List ℕ
stop_word (stops.Fault error) = name_of error.fault
stop_word (stops.Record error) = codes "a row is no record"
stop_word stops.TooLong = codes "a row is too large"
stop_word stops.NotUnderstood = codes "columns not understood"
stop_word stops.Default = codes "default not understood"
stop_word stops.Behind = codes "more columns than the table has"
stop_word stops.Encoding = codes "text encoding"
stop_word stops.NotNamed = codes "a name with NUL or CR"
stop_word (stops.LeftOut n) = codes "texts or tables left out"
stop_word stops.NoSuchTable = codes "no such table"
stop_word stops.NoMemory = codes "no memory"
stop_word (stops.Write error) = write_word (error_kind error)

-- what is told of why: the word, and of a fault its page and its number
abbrev pub why_parts : HistoryError → List (List ℕ)
why_parts (errors.View error) = word_text Json (codes "left out") (view_word error) ∷ []
why_parts (errors.Stop (stops.Fault error)) =
    word_text Json (codes "left out") (name_of error.fault) ∷ number_text Json (codes "page") error.page
    ∷ number_text Json (codes "fault") (number_of error.fault) ∷ []
why_parts (errors.Stop stop) = word_text Json (codes "left out") (stop_word stop) ∷ []

-- an object for the commit that is left out, if one is
abbrev pub ended_text : Ended → List ℕ
ended_text Whole = []
ended_text (Full frame) =
    object_text Json (number_text Json (codes "frame") frame ∷ word_text Json (codes "left out") (codes "more than a page holds") ∷ [])
ended_text (Stopped frame error) = object_text Json (number_text Json (codes "frame") frame ∷ why_parts error)

-- one for the commits before the one behind which changes are kept, if there are
abbrev pub begun_text : (from : ℕ) → List ℕ
begun_text from =
    if from == 0 then [] else object_text Json (number_text Json (codes "from") from ∷ word_text Json (codes "left out") (codes "commit overwritten") ∷ [])

-- what is kept, as an element of a page
abbrev pub element_text : Kept → List ℕ
element_text kept =
    codes "<script id='changes' type='text/plain'>\n"
    ++ (begun_text kept.from ++ (escaped kept.text.items ++ (ended_text kept.ended ++ codes "</script>\n")))
