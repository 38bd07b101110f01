-- The lines that are printed of what is wrong with images, or the objects (own).
use Rattle.std.specs.Prelude.{ℕ, ◌-◌, Bool, true, cond, ◌&&◌, nat_eq, List, [], ◌∷◌, ◌++◌, codes, length, take, Option, Some, None}
use Rattle.std.specs.List.{flat_map}
use Rattle.std.specs.Fmt.{decimal}
use Rattle.sqpage.specs.Faults.{number_of, name_of}
use Rattle.sqpage.specs.declared.fault.Fault.{Fault}
use Rattle.sqview.specs.declared.view_error.ViewError.{ViewError}
use Rattle.sqview.specs.declared.view_error.ViewError.TheVariants as refusals
use Rattle.rig_judge.specs.declared.judgment.Judgment.{Judgment}
use Rattle.rig_judge.specs.declared.judgment.Judgment.TheVariants as judgments
use Rattle.sqcrash.specs.declared.marked.CommitFault.{CommitFault}
use Rattle.rig_play.specs.declared.trace.Kind.{Kind}
use Rattle.rig_play.specs.declared.trace.Kind.TheVariants as kinds
use Rattle.rig_play.specs.declared.trace.Subject.{Subject}
use Rattle.rig_missing.specs.declared.missing.Missing.{Missing}
use Rattle.sqcrash.specs.Objects.{wrong_members, fault_members, subject_text, call_members, pairs_text}
use Rattle.sqcrash.specs.Told.{Told}
use Rattle.sqcrash.specs.declared.stopped.Stopped.{Stopped}
use Rattle.sqcrash.specs.declared.plan.Plan.{Plan}
use Rattle.sqcrash.specs.declared.plan.Style.{Style}
use Rattle.sqcrash.specs.declared.plan.Style.TheVariants.{Lines, Json}
use Rattle.sqcrash.specs.declared.survey.Tally.{Tally}

-- a fault of a page
abbrev pub fault_text : (page : ℕ) → Fault → List ℕ
fault_text page fault = codes "page " ++ (decimal page ++ (codes ": fault " ++ (decimal (number_of fault) ++ (codes " " ++ name_of fault))))

-- what refuses files that show no database
abbrev pub refusal_text : ViewError → List ℕ
refusal_text refusals.TwoLogs = codes "fault two logs"
refusal_text refusals.TooLarge = codes "fault too large"
refusal_text (refusals.Header fault) = fault_text 1 fault
refusal_text refusals.Unread = codes "fault file failed"
refusal_text refusals.NoMemory = codes "fault no memory"
refusal_text refusals.NoSuchCommit = codes "fault no such commit"

-- what is wrong, where a commit is known to be durable
abbrev pub wrong_text : (known : ℕ) → Judgment → List ℕ
wrong_text known (judgments.Kept k) = codes "kept (commit " ++ (decimal k ++ codes " shown)")
wrong_text known (judgments.Lost k) = codes "lost (commit " ++ (decimal k ++ (codes " shown, " ++ (decimal known ++ codes " known)")))
wrong_text known judgments.Mixed = codes "mixed"
wrong_text known (judgments.Fault e) = fault_text e.page e.fault
wrong_text known (judgments.Refused e) = refusal_text e

-- the line of a finding at a point, without its end
abbrev pub line_text : Style → (point known image : ℕ) → Judgment → List ℕ
line_text Lines point known image j = codes "point " ++ (decimal point ++ (codes " image " ++ (decimal image ++ (codes ": " ++ wrong_text known j))))
line_text Json point known image j = codes "{\"point\":" ++ (decimal point ++ (codes ",\"image\":" ++ (decimal image ++ (codes "," ++ (wrong_members known j ++ codes "}")))))

-- a call: of a write the place and the bytes, of a truncation the length
abbrev pub call_text : Kind → Subject → (place count : ℕ) → List ℕ
call_text kinds.Base s place count = codes "begin " ++ subject_text s
call_text kinds.Open s place count = codes "create " ++ subject_text s
call_text kinds.Close s place count = codes "close " ++ subject_text s
call_text kinds.Write s place count = codes "write " ++ (subject_text s ++ (codes " " ++ (decimal place ++ (codes "+" ++ decimal count))))
call_text kinds.Cut s place count = codes "truncate " ++ (subject_text s ++ (codes " to " ++ decimal place))
call_text kinds.Sync s place count = codes "sync " ++ subject_text s
call_text kinds.Unlink s place count = codes "unlink " ++ subject_text s
call_text kinds.Rename s place count = codes "rename " ++ subject_text s
call_text kinds.FolderSync s place count = codes "sync " ++ subject_text s
call_text kinds.Mark s place count = codes "mark"
call_text kinds.NotHeld s place count = codes "call " ++ subject_text s
call_text kinds.End s place count = codes "end " ++ subject_text s

-- sectors from a first to a last one
abbrev pub range_text : (first last : ℕ) → List ℕ
range_text first last = codes " " ++ cond (nat_eq first last) (decimal first) (decimal first ++ (codes "-" ++ decimal last))

-- the line of a call that isn't down, up to its sectors
abbrev pub down_text : Style → (number : ℕ) → Kind → Subject → (place count : ℕ) → List ℕ
down_text Lines number kind s place count = codes "  not down: record " ++ (decimal number ++ (codes ": " ++ (call_text kind s place count ++ codes ", sectors")))
down_text Json number kind s place count = codes "{\"not down\":" ++ (decimal number ++ (codes "," ++ (call_members kind s place count ++ codes ",\"sectors\":[")))

-- and sectors in ranges
abbrev pub spaced_text : List (ℕ × ℕ) → List ℕ
spaced_text ranges = flat_map (λ r. range_text r.0 r.1) ranges

abbrev pub ranges_text : Style → List (ℕ × ℕ) → List ℕ
ranges_text Lines ranges = spaced_text ranges
ranges_text Json ranges = pairs_text ranges

-- what stands behind them, without the line's end
abbrev pub behind_ranges : Style → List ℕ
behind_ranges Lines = []
behind_ranges Json = codes "]}"

-- the line of a call that isn't down, with its end
abbrev pub missing_text : Style → Missing → List ℕ
missing_text style m = down_text style m.number m.kind m.subject m.place m.count ++ (ranges_text style m.sectors.items ++ (behind_ranges style ++ 10 ∷ []))

-- how many more there are, without the line's end
abbrev pub count_text : Style → ℕ → List ℕ
count_text Lines n = codes "  .. " ++ (decimal n ++ codes " more")
count_text Json n = codes "{\"more not down\":" ++ (decimal n ++ codes "}")

-- with it; nothing where there are none
abbrev pub more_text : Style → ℕ → List ℕ
more_text style n = cond (nat_eq n 0) [] (count_text style n ++ 10 ∷ [])

-- the lines of calls that aren't down, 20 at most
abbrev pub missings_text : Style → List Missing → List ℕ
missings_text style missing = flat_map (missing_text style) (take 20 missing) ++ more_text style (length missing - 20)

-- the line of the record behind which the machine stopped, without its end
abbrev pub stopped_text : Style → Stopped → List ℕ
stopped_text Lines at = codes "  stopped behind record " ++ (decimal at.number ++ (codes ": " ++ call_text at.kind at.subject at.place at.count))
stopped_text Json at = codes "{\"stopped behind\":" ++ (decimal at.number ++ (codes "," ++ (call_members at.kind at.subject at.place at.count ++ codes "}")))

-- why something is wrong: where the machine stopped, and what isn't down
abbrev pub why_text : Style → Stopped → List Missing → List ℕ
why_text style at missing = (stopped_text style at ++ 10 ∷ []) ++ missings_text style missing

-- the lines of a finding: what is wrong, and where it is asked for, why
abbrev pub finding_text : Style → (why : Bool) → Stopped → Told → List ℕ
finding_text style why at f = (line_text style at.point at.known f.image f.judgment ++ 10 ∷ []) ++ cond why (why_text style at f.missing) []

-- a number is the one that is asked for, if one is
abbrev pub is_asked : Option ℕ → (n : ℕ) → Bool
is_asked None n = true
is_asked (Some m) n = nat_eq m n

-- the lines of a finding, if it is asked for
abbrev pub asked_texts : Plan → Stopped → Told → List (List ℕ)
asked_texts plan at f = cond (is_asked plan.point at.point && is_asked plan.image f.image) (finding_text plan.style plan.why at f ∷ []) []

-- the lines of each finding at a point that is asked for
abbrev pub texts_of : Plan → Stopped → List Told → List (List ℕ)
texts_of plan at found = flat_map (asked_texts plan at) found

-- texts, one behind the other
abbrev pub joined : List (List ℕ) → List ℕ
joined texts = flat_map (λ t. t) texts

-- the first texts, as many as may be written; all where there is no limit
abbrev pub first_of : Option ℕ → List (List ℕ) → List (List ℕ)
first_of None texts = texts
first_of (Some n) texts = take n texts

-- how many more may be written, behind so many
abbrev pub limit_behind : Option ℕ → ℕ → Option ℕ
limit_behind None k = None
limit_behind (Some n) k = Some (n - k)

-- how many more there are, without the line's end
abbrev pub left_count : Style → ℕ → List ℕ
left_count Lines n = codes ".. " ++ (decimal n ++ codes " more")
left_count Json n = codes "{\"more\":" ++ (decimal n ++ codes "}")

-- with it; nothing where there are none
abbrev pub left_line : Style → ℕ → List ℕ
left_line style n = cond (nat_eq n 0) [] (left_count style n ++ 10 ∷ [])

-- of so many findings those that aren't written
abbrev pub left_text : Style → Option ℕ → (count : ℕ) → List ℕ
left_text style None count = []
left_text style (Some n) count = left_line style (count - n)

-- the line of a commit that isn't well formed, without its end
abbrev pub commit_text : Style → CommitFault → List ℕ
commit_text Lines f = codes "commit " ++ (decimal f.commit ++ (codes ": " ++ fault_text f.error.page f.error.fault))
commit_text Json f = codes "{\"commit\":" ++ (decimal f.commit ++ (codes "," ++ (fault_members f.error.page f.error.fault ++ codes "}")))

-- the lines of commits, each with its end
abbrev pub commits_text : Style → List CommitFault → List ℕ
commits_text style faults = flat_map (λ f. commit_text style f ++ 10 ∷ []) faults

-- the line of what was counted, without its end
abbrev pub sum_text : Style → Tally → List ℕ
sum_text Lines t = decimal t.points ++ (codes " points, " ++ (decimal t.images ++ (codes " images, " ++ (decimal t.lost ++ (codes " lost, " ++ (decimal t.mixed ++ (codes " mixed, " ++ (decimal t.faults ++ codes " faults"))))))))
sum_text Json t =
    codes "{\"points\":" ++ (decimal t.points ++ (codes ",\"images\":" ++ (decimal t.images ++ (codes ",\"lost\":" ++ (decimal t.lost ++ (codes ",\"mixed\":" ++ (decimal t.mixed ++ (codes ",\"faults\":" ++ (decimal t.faults ++ codes "}")))))))))
