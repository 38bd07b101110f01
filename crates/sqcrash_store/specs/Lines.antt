-- The lines that are printed of images and of their numbers (own).
use Rattle.std.specs.Prelude.{ℕ, Bool, nat_eq, cond, List, [], ◌∷◌, ◌++◌, codes, Option, Some, None}
use Rattle.std.specs.Fmt.{decimal}
use Rattle.std.specs.List.{flat_map}
use Rattle.std.specs.String.{string_bytes}
use Rattle.rig_store.specs.declared.differing.Difference.{Difference}
use Rattle.sqcrash_store.specs.Calls.{call_text, name_of}
use Rattle.sqcrash_store.specs.declared.crash.Crash.{Crash}
use Rattle.sqcrash_store.specs.declared.found.Found.{Found}
use Rattle.sqcrash_store.specs.declared.tally.Tally.{Tally}
use Rattle.sqcrash_store.specs.declared.verdict.Verdict.{Verdict}
use Rattle.sqcrash_store.specs.declared.verdict.Verdict.TheVariants.{Kept, Lost, Mixed, Fault}

-- which state an image shows, and which one is known to be durable
abbrev pub states_text : (shown known : ℕ) → List ℕ
states_text shown known = codes " (state " ++ (decimal shown ++ (codes " shown, " ++ (decimal known ++ codes " known)")))

-- what is to be said of an image
abbrev pub verdict_text : Verdict → (known : ℕ) → (line : List ℕ) → List ℕ
verdict_text (Kept k) known line = codes "kept" ++ states_text k known
verdict_text (Lost k) known line = codes "lost" ++ states_text k known
verdict_text Mixed known line = codes "mixed: " ++ line
verdict_text Fault known line = codes "fault: " ++ line

-- the first line of an image, without its end
abbrev pub head_text : Found → List ℕ
head_text f =
    codes "point " ++ (decimal f.crash.point ++ (codes " image " ++ (decimal f.number ++ (codes ": " ++ verdict_text f.verdict f.crash.known (string_bytes f.line)))))

-- where the crash came, without the line's end
abbrev pub stopped_text : (names : List (List ℕ)) → Crash → List ℕ
stopped_text names c = codes "  stopped behind record " ++ (decimal c.played ++ (codes ": " ++ call_text names c.call))

-- what a name shows, where there is a file of this length, or none, and what it would show
abbrev pub shown_text : (shown now : Option ℕ) → List ℕ
shown_text None None = []
shown_text None (Some n) = codes "not there, of " ++ (decimal n ++ codes " bytes")
shown_text (Some s) None = codes "there still, with " ++ (decimal s ++ codes " bytes")
shown_text (Some s) (Some n) = decimal s ++ (codes " bytes of " ++ (decimal n ++ codes ", sectors"))

-- sectors from a first to a last one
abbrev pub range_text : (first last : ℕ) → List ℕ
range_text first last = codes " " ++ cond (nat_eq first last) (decimal first) (decimal first ++ (codes "-" ++ decimal last))

abbrev pub ranges_text : List (ℕ × ℕ) → List ℕ
ranges_text ranges = flat_map (λ r. range_text r.0 r.1) ranges

-- the line of a name that shows another thing, up to its sectors; and with these
abbrev pub name_text : (names : List (List ℕ)) → (name : ℕ) → (shown now : Option ℕ) → List ℕ
name_text names name shown now = codes "  not down: " ++ (name_of names name ++ (codes ": " ++ shown_text shown now))

abbrev pub difference_text : (names : List (List ℕ)) → Difference → List ℕ
difference_text names d = name_text names d.name d.shown d.now ++ (ranges_text d.sectors.items ++ 10 ∷ [])

abbrev pub differences_text : (names : List (List ℕ)) → List Difference → List ℕ
differences_text names found = flat_map (difference_text names) found

-- why it is so
abbrev pub why_text : (names : List (List ℕ)) → Found → List ℕ
why_text names f = (stopped_text names f.crash ++ 10 ∷ []) ++ differences_text names f.differences.items

-- the lines of an image
abbrev pub found_text : (why : Bool) → (names : List (List ℕ)) → Found → List ℕ
found_text why names f = (head_text f ++ 10 ∷ []) ++ cond why (why_text names f) []

-- the line of a mark that claims a commit that the files don't show, without its end: they show a state of this name
abbrev pub unwritten_text : (point mark : ℕ) → (shown : List ℕ) → List ℕ
unwritten_text point mark shown = codes "point " ++ (decimal point ++ (codes ": unwritten (mark " ++ (decimal mark ++ (codes "): " ++ shown))))

-- the last line, without its end
abbrev pub tally_text : Tally → List ℕ
tally_text t =
    decimal t.points ++ (codes " points, " ++ (decimal t.images ++ (codes " images, " ++ (decimal t.lost ++ (codes " lost, " ++ (decimal t.mixed ++ (codes " mixed, " ++ (decimal t.faults ++ (codes " faults, " ++ (decimal t.unwritten ++ (codes " unwritten of " ++ (decimal t.claims ++ codes " claims"))))))))))))

-- how many images more have something wrong, without the line's end
abbrev pub more_text : ℕ → List ℕ
more_text n = codes ".. " ++ (decimal n ++ codes " more")
