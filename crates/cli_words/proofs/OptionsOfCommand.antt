-- What the options of a command are, and can't be.
use Rattle.std.proofs.Common.{◌≡◌, ◌≢◌, ◌⊎◌, inl, inr, ⊎_elim, ℕ, List, Bor, get_or, sym, refl, ◌∙◌, ap, subst, arith}
use Rattle.std.specs.Prelude.{true, false, Option, None, Some, is_some, codes, nat_eq, slice_get, MatchOption}
use Rattle.std.specs.Cmp.Lexicographic.{bytes_decides, pointwise}
use Rattle.std.proofs.lemmas.Option.{none-some}
use Rattle.cli_words.specs.Line.{AreAmiss, AreNoCheck, AreNoDiff, AreNoReport, AreNoRows, AreNoSalvage, AreOptions, Asks, AsksAt, AsksBesides, AsksNoPart, AsksNothing}
use Rattle.cli_words.specs.Line.{AreKnown, AsksNoCells, AsksNoForm, AsksNothingCompared, AsksText}
use Rattle.cli_words.specs.declared.words.Own.TheVariants.{Prints, Compares}
use Rattle.cli_words.specs.Line.{HasNoText, HasText, IsFile, NamesOfLog}
use Rattle.cli_words.specs.internal.Line.{AskNoDiff, IsBetween, IsCheck, IsCompared, IsDiff, IsFormed, IsPlaced, IsReport, IsRows, IsSalvage}
use Rattle.cli_words.specs.declared.requests.Options.{Options}
use Rattle.cli_words.specs.declared.requests.Request.{Request}

-- what a test whether two words are equal has told
pub others : (xs ys : List ℕ) → false ≡ pointwise nat_eq xs ys → xs ≢ ys
others xs ys e same = let f : false ≡ true = e ∙ (bytes_decides xs ys).1 same in cc

-- a command is no other one
pub not_check : (command : List ℕ) → command ≡ codes "show" → command ≢ codes "check"
not_check command show check =
    let e : 115 ≡ 99 = ap (λ (l : List ℕ). get_or l 0 0) (sym show ∙ check) in omega (arith, e)

pub not_recover : (command : List ℕ) → command ≡ codes "show" → command ≢ codes "recover"
not_recover command show recover =
    let e : 115 ≡ 114 = ap (λ (l : List ℕ). get_or l 0 0) (sym show ∙ recover) in omega (arith, e)

pub not_report : (command : List ℕ) → command ≡ codes "show" → command ≢ codes "report"
not_report command show report =
    let e : 115 ≡ 114 = ap (λ (l : List ℕ). get_or l 0 0) (sym show ∙ report) in omega (arith, e)

pub no_check : (command : List ℕ) → command ≡ codes "report" → command ≢ codes "check"
no_check command report check =
    let e : 114 ≡ 99 = ap (λ (l : List ℕ). get_or l 0 0) (sym report ∙ check) in omega (arith, e)

pub no_recover : (command : List ℕ) → command ≡ codes "report" → command ≢ codes "recover"
no_recover command report recover =
    let e : 112 ≡ 99 = ap (λ (l : List ℕ). get_or l 2 0) (sym report ∙ recover) in omega (arith, e)

pub not_rows : (command : List ℕ) → command ≡ codes "show" → command ≢ codes "rows"
not_rows command show rows =
    let e : 115 ≡ 114 = ap (λ (l : List ℕ). get_or l 0 0) (sym show ∙ rows) in omega (arith, e)

pub no_rows : (command : List ℕ) → command ≡ codes "report" → command ≢ codes "rows"
no_rows command report rows =
    let e : 101 ≡ 111 = ap (λ (l : List ℕ). get_or l 1 0) (sym report ∙ rows) in omega (arith, e)

pub rows_no_check : (command : List ℕ) → command ≡ codes "rows" → command ≢ codes "check"
rows_no_check command rows check =
    let e : 114 ≡ 99 = ap (λ (l : List ℕ). get_or l 0 0) (sym rows ∙ check) in omega (arith, e)

pub rows_no_recover : (command : List ℕ) → command ≡ codes "rows" → command ≢ codes "recover"
rows_no_recover command rows recover =
    let e : 111 ≡ 101 = ap (λ (l : List ℕ). get_or l 1 0) (sym rows ∙ recover) in omega (arith, e)

pub not_diff : (command : List ℕ) → command ≡ codes "show" → command ≢ codes "diff"
not_diff command show diff =
    let e : 115 ≡ 100 = ap (λ (l : List ℕ). get_or l 0 0) (sym show ∙ diff) in omega (arith, e)

pub report_no_diff : (command : List ℕ) → command ≡ codes "report" → command ≢ codes "diff"
report_no_diff command report diff =
    let e : 114 ≡ 100 = ap (λ (l : List ℕ). get_or l 0 0) (sym report ∙ diff) in omega (arith, e)

pub rows_no_diff : (command : List ℕ) → command ≡ codes "rows" → command ≢ codes "diff"
rows_no_diff command rows diff =
    let e : 114 ≡ 100 = ap (λ (l : List ℕ). get_or l 0 0) (sym rows ∙ diff) in omega (arith, e)

pub check_no_diff : (command : List ℕ) → command ≡ codes "check" → command ≢ codes "diff"
check_no_diff command check diff =
    let e : 99 ≡ 100 = ap (λ (l : List ℕ). get_or l 0 0) (sym check ∙ diff) in omega (arith, e)

pub recover_no_diff : (command : List ℕ) → command ≡ codes "recover" → command ≢ codes "diff"
recover_no_diff command recover diff =
    let e : 114 ≡ 100 = ap (λ (l : List ℕ). get_or l 0 0) (sym recover ∙ diff) in omega (arith, e)

pub show_no_salvage : (command : List ℕ) → command ≡ codes "show" → command ≢ codes "salvage"
show_no_salvage command show salvage =
    let e : 104 ≡ 97 = ap (λ (l : List ℕ). get_or l 1 0) (sym show ∙ salvage) in omega (arith, e)

pub report_no_salvage : (command : List ℕ) → command ≡ codes "report" → command ≢ codes "salvage"
report_no_salvage command report salvage =
    let e : 114 ≡ 115 = ap (λ (l : List ℕ). get_or l 0 0) (sym report ∙ salvage) in omega (arith, e)

pub rows_no_salvage : (command : List ℕ) → command ≡ codes "rows" → command ≢ codes "salvage"
rows_no_salvage command rows salvage =
    let e : 114 ≡ 115 = ap (λ (l : List ℕ). get_or l 0 0) (sym rows ∙ salvage) in omega (arith, e)

pub diff_no_salvage : (command : List ℕ) → command ≡ codes "diff" → command ≢ codes "salvage"
diff_no_salvage command diff salvage =
    let e : 100 ≡ 115 = ap (λ (l : List ℕ). get_or l 0 0) (sym diff ∙ salvage) in omega (arith, e)

pub check_no_salvage : (command : List ℕ) → command ≡ codes "check" → command ≢ codes "salvage"
check_no_salvage command check salvage =
    let e : 99 ≡ 115 = ap (λ (l : List ℕ). get_or l 0 0) (sym check ∙ salvage) in omega (arith, e)

pub recover_no_salvage : (command : List ℕ) → command ≡ codes "recover" → command ≢ codes "salvage"
recover_no_salvage command recover salvage =
    let e : 114 ≡ 115 = ap (λ (l : List ℕ). get_or l 0 0) (sym recover ∙ salvage) in omega (arith, e)

pub check_no_recover : (command : List ℕ) → command ≡ codes "check" → command ≢ codes "recover"
check_no_recover command check recover =
    let e : 99 ≡ 114 = ap (λ (l : List ℕ). get_or l 0 0) (sym check ∙ recover) in omega (arith, e)

pub check_amiss : (command : List ℕ) (options : List (List ℕ)) → command ≡ codes "check" → AreNoCheck options
    → AreAmiss command options
check_amiss command options is none = (
  (λ _. none),
  (λ recover. absurd (check_no_recover command is recover)),
  (λ report. absurd (no_check command report is)),
  (λ rows. absurd (rows_no_check command rows is)),
  (λ diff. absurd (check_no_diff command is diff)),
  (λ salvage. absurd (check_no_salvage command is salvage)),
  (λ show. absurd (not_check command show is)),
)

-- what the options of `check` are told of, as what the words ask for
pub check_asks : (words : List (List ℕ)) (command : List ℕ) (file : Bor (List ℕ)) (options : List (List ℕ)) (o : Options)
    (r : Option Request) → command ≡ codes "check" → slice_get words 1 ≡ Some command → IsFile words file.now
    → AreOptions words options → AsksBesides options o
    → MatchOption r (AreNoCheck options) (IsCheck options file o)
    → MatchOption r (AsksNothing words command file.now) (Asks words)
check_asks words command file options o None is second named are besides none =
    λ _ _. (options, are, inr (check_amiss command options is none))
check_asks words command file options o (Some request) is second named are besides (known, (deep, asks, same)) =
    let P : Request → Type 0 = λ r. Asks words r in
    subst P (sym same) (second ∙ ap Some is, named, (options, are, known, besides, asks))

pub report_amiss : (command : List ℕ) (options : List (List ℕ)) → command ≡ codes "report" → AreNoReport options
    → AreAmiss command options
report_amiss command options is none = (
  (λ check. absurd (no_check command is check)),
  (λ recover. absurd (no_recover command is recover)),
  (λ _. none),
  (λ rows. absurd (no_rows command is rows)),
  (λ diff. absurd (report_no_diff command is diff)),
  (λ salvage. absurd (report_no_salvage command is salvage)),
  (λ show. absurd (not_report command show is)),
)

-- what the options of a report are told of, as what the words ask for
pub report_asks : (words : List (List ℕ)) (command : List ℕ) (file : Bor (List ℕ)) (options : List (List ℕ)) (o : Options)
    (r : Option Request) → command ≡ codes "report" → slice_get words 1 ≡ Some command → IsFile words file.now
    → AreOptions words options → AsksBesides options o
    → MatchOption r (AreNoReport options) (IsReport options file o)
    → MatchOption r (AsksNothing words command file.now) (Asks words)
report_asks words command file options o None is second named are besides none =
    λ _ _. (options, are, inr (report_amiss command options is none))
report_asks words command file options o (Some request) is second named are besides (known, (to, changes, text, told, same)) =
    let P : Request → Type 0 = λ r. Asks words r in
    subst P (sym same) (second ∙ ap Some is, named, (options, are, known, text, told, besides))

pub rows_amiss : (command : List ℕ) (options : List (List ℕ)) → command ≡ codes "rows" → AreNoRows options
    → AreAmiss command options
rows_amiss command options is none = (
  (λ check. absurd (rows_no_check command is check)),
  (λ recover. absurd (rows_no_recover command is recover)),
  (λ report. absurd (no_rows command report is)),
  (λ _. none),
  (λ diff. absurd (rows_no_diff command is diff)),
  (λ salvage. absurd (rows_no_salvage command is salvage)),
  (λ show. absurd (not_rows command show is)),
)

-- what options that are all those of `rows` are told of, as what its options ask for
pub rows_told : (options : List (List ℕ)) (file : Bor (List ℕ)) (o : Options) (r : Option Request) → AreKnown Prints options
    → MatchOption r (AsksNoForm options ⊎ AsksNoCells options) (λ request. IsFormed options file o request ⊎ IsPlaced options file o request)
    → MatchOption r (AreNoRows options) (IsRows options file o)
rows_told options file o None known none = inr none
rows_told options file o (Some request) known is = (known, is)

-- the same of the options of `rows`
pub rows_asks : (words : List (List ℕ)) (command : List ℕ) (file : Bor (List ℕ)) (options : List (List ℕ)) (o : Options)
    (r : Option Request) → command ≡ codes "rows" → slice_get words 1 ≡ Some command → IsFile words file.now
    → AreOptions words options → AsksBesides options o
    → MatchOption r (AreNoRows options) (IsRows options file o)
    → MatchOption r (AsksNothing words command file.now) (Asks words)
rows_asks words command file options o None is second named are besides none =
    λ _ _. (options, are, inr (rows_amiss command options is none))
rows_asks words command file options o (Some request) is second named are besides (known, inl (table, form, of, asks, none, same)) =
    let P : Request → Type 0 = λ r. Asks words r in
    subst P (sym same) (second ∙ ap Some is, named, (options, are, known, besides, of, asks, none))
rows_asks words command file options o (Some request) is second named are besides (known, inr (cells, asks, same)) =
    let P : Request → Type 0 = λ r. Asks words r in
    subst P (sym same) (second ∙ ap Some is, named, (options, are, known, besides, asks))

pub diff_amiss : (command : List ℕ) (options : List (List ℕ)) → command ≡ codes "diff" → AreNoDiff options
    → AreAmiss command options
diff_amiss command options is none = (
  (λ check. absurd (check_no_diff command check is)),
  (λ recover. absurd (recover_no_diff command recover is)),
  (λ report. absurd (report_no_diff command report is)),
  (λ rows. absurd (rows_no_diff command rows is)),
  (λ _. none),
  (λ salvage. absurd (diff_no_salvage command is salvage)),
  (λ show. absurd (not_diff command show is)),
)

-- a commit that is named by itself
pub at_told : (options : List (List ℕ)) (at : Option ℕ) → at ≢ None → AsksAt options at
    → (text : List ℕ) × HasText (codes "--at") options text
at_told options None some asks = absurd (some refl)
at_told options (Some n) some asks = (asks.0, asks.1)

-- what options that are all those of `diff` are told of, as what its options ask for
pub diff_told : (options : List (List ℕ)) (file : Bor (List ℕ)) (o : Options) (r : Option Request)
    → AreKnown Compares options → o.at ≡ None
    → MatchOption r (AsksNothingCompared options) (λ request. IsCompared options file o request ⊎ IsBetween options file o request)
    → MatchOption r (AskNoDiff options o) (IsDiff options file o)
diff_told options file o None known last none = inr (inr none)
diff_told options file o (Some request) known last is = (known, last, is)

-- the same of the options of `diff`
pub diff_asks : (words : List (List ℕ)) (command : List ℕ) (file : Bor (List ℕ)) (options : List (List ℕ)) (o : Options)
    (r : Option Request) → command ≡ codes "diff" → slice_get words 1 ≡ Some command → IsFile words file.now
    → AreOptions words options → AsksBesides options o
    → MatchOption r (AskNoDiff options o) (IsDiff options file o)
    → MatchOption r (AsksNothing words command file.now) (Asks words)
diff_asks words command file options o None is second named are besides none =
    λ _ _. (
      options,
      are,
      inr (diff_amiss command options is (elim none [
        | inl unknown ↦ inl unknown
        | inr (inl at) ↦ inr (inl (at_told options o.at at besides.at_commit))
        | inr (inr rest) ↦ inr (inr rest)
      ])),
    )
diff_asks words command file options o (Some request) is second named are besides (known, none, inl (compared, asks, same)) =
    let P : Request → Type 0 = λ r. Asks words r in
    subst P (sym same) (second ∙ ap Some is, named, (options, are, known, besides, asks, none))
diff_asks words command file options o (Some request) is second named are besides (known, none, inr (between, asks, same)) =
    let P : Request → Type 0 = λ r. Asks words r in
    subst P (sym same) (second ∙ ap Some is, named, (options, are, known, besides, asks, none))

pub salvage_amiss : (command : List ℕ) (options : List (List ℕ)) → command ≡ codes "salvage" → AreNoSalvage options
    → AreAmiss command options
salvage_amiss command options is none = (
  (λ check. absurd (check_no_salvage command check is)),
  (λ recover. absurd (recover_no_salvage command recover is)),
  (λ report. absurd (report_no_salvage command report is)),
  (λ rows. absurd (rows_no_salvage command rows is)),
  (λ diff. absurd (diff_no_salvage command diff is)),
  (λ _. none),
  (λ show. absurd (show_no_salvage command show is)),
)

-- the same of the options of `salvage`
pub salvage_asks : (words : List (List ℕ)) (command : List ℕ) (file : Bor (List ℕ)) (options : List (List ℕ)) (o : Options)
    (r : Option Request) → command ≡ codes "salvage" → slice_get words 1 ≡ Some command → IsFile words file.now
    → AreOptions words options → AsksBesides options o
    → MatchOption r (AreNoSalvage options) (IsSalvage options file o)
    → MatchOption r (AsksNothing words command file.now) (Asks words)
salvage_asks words command file options o None is second named are besides none =
    λ _ _. (options, are, inr (salvage_amiss command options is none))
salvage_asks words command file options o (Some request) is second named are besides (known, (to, places, text, told, same)) =
    let P : Request → Type 0 = λ r. Asks words r in
    subst P (sym same) (second ∙ ap Some is, named, (options, are, known, besides, text, told))

pub show_amiss : (command : List ℕ) (options : List (List ℕ)) (at : Option ℕ) → command ≡ codes "show" → AsksAt options at
    → AsksNoPart options ⊎ NamesOfLog options at → AreAmiss command options
show_amiss command options at is asks amiss = (
  (λ check. absurd (not_check command is check)),
  (λ recover. absurd (not_recover command is recover)),
  (λ report. absurd (not_report command is report)),
  (λ rows. absurd (not_rows command is rows)),
  (λ diff. absurd (not_diff command is diff)),
  (λ salvage. absurd (show_no_salvage command is salvage)),
  (λ show. ⊎_elim (λ none. inl none) (λ of. inr (at, asks, of)) amiss),
)

-- ---- a commit

pub at_named : (options : List (List ℕ)) (at : Option ℕ) → true ≡ is_some at → AsksAt options at
    → (frame : Option ℕ) → AsksAt options frame → frame ≢ None
at_named options None some asks frame other same = let e : true ≡ false = some in cc
at_named options (Some n) some asks frame other same =
    let P : Option ℕ → Type 0 = λ f. AsksAt options f in subst P same other asks.0 asks.1

pub at_none : (at : Option ℕ) → false ≡ is_some at → at ≡ None
at_none None e = refl
at_none (Some n) e = absurd (let f : false ≡ true = e in cc)

-- ---- a file that is to be made

pub asks_to : (options : List (List ℕ)) (to : Option (Bor (List ℕ)))
    → MatchOption to (HasNoText (codes "--to") options) (λ text. HasText (codes "--to") options text.now) → AsksText (codes "--to") options to
asks_to options None asks = asks
asks_to options (Some x) asks = asks

pub no_to : (options : List (List ℕ)) (to : Option (Bor (List ℕ))) → is_some to ≡ false → AsksText (codes "--to") options to → HasNoText (codes "--to") options
no_to options None e asks = asks
no_to options (Some x) e asks = absurd (let f : true ≡ false = e in cc)

pub some_to : (to : Option (Bor (List ℕ))) → is_some to ≡ true → to ≢ None
some_to None e none = let f : false ≡ true = e in cc
some_to (Some x) e none = none-some x (sym none)
