-- What `check` prints of what was found (own).
use Rattle.std.specs.Prelude.{ℕ, List, Result, Ok, Err}
use Rattle.sqpage.specs.declared.fault.CheckError.{CheckError}
use Rattle.sqcheck.specs.declared.report.Report.{Report}
use Rattle.cli_words.specs.declared.requests.Style.{Style}
use Rattle.cli_text.specs.Verdicts.{fault_text, report_text}
use Rattle.cli_show.specs.declared.surveys.Found.{Found}
use Rattle.cli_show.specs.declared.surveys.Found.TheVariants.{Pages, Nothing}

-- a survey's answer: how many pages there are of each use, or the first fault
abbrev pub answer_text : Style → Result Report CheckError → List ℕ
answer_text style (Ok report) = report_text style report
answer_text style (Err error) = fault_text style error

-- the answer of the survey, or the fault for which there is none
abbrev pub verdict_text : {F : Type 0} → Style → Found F → List ℕ
verdict_text style (Pages found) = answer_text style found.survey.answer
verdict_text style (Nothing error) = fault_text style error
