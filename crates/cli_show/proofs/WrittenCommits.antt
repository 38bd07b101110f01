-- What is written of the commits of a log.
use Rattle.std.proofs.Common.{◌≡◌, ◌≢◌, ℕ, zero, suc, ◌+◌, ◌<◌, ◌≤◌, List, [], ◌∷◌, ◌++◌, length, get_or, take, inl, inr, ⊎_elim, refl, sym, ap, ◌∙◌, subst, arith}
use Rattle.std.specs.Prelude.{Option, Result, Ok, Err, IfErr, OnOk, codes}
use Rattle.std.specs.Io.KnownBytes.{Appends}
use Rattle.std.specs.List.{enumerate_from, flat_map, zip}
use Rattle.std.proofs.KnownBytes.{Appends-trans}
use Rattle.std.proofs.lemmas.List.{append-nil, ext_get_or, length-take-le, take_more}
use Rattle.std.proofs.lemmas.Grind.{flat_map-append}
use Rattle.sqval.specs.Limits.{Bounds}
use Rattle.sqwal.specs.Answers.{AreEntriesWithin}
use Rattle.sqwal.specs.Header.{HeaderRefused}
use Rattle.sqwal.specs.declared.error.WalFormatError.{WalFormatError}
use Rattle.sqwal.specs.declared.scan.Entry.{Entry}
use Rattle.sqjournal.specs.Journal.{IsHot}
use Rattle.sqview.specs.Logs.{IsRead}
use Rattle.sqview.specs.declared.view_error.ViewError.{ViewError}
use Rattle.sqview.specs.declared.view_error.ViewError.TheVariants as views
use Rattle.sqpast.specs.Past.{IsSource}
use Rattle.cli_facts.specs.Refusals.{refusal_of}
use Rattle.cli_facts.specs.declared.fronts.Front.{Front}
use Rattle.cli_facts.specs.declared.outcome.Refusal.{Refusal}
use Rattle.cli_facts.specs.declared.outcome.Refusal.TheVariants.{NoMemory}
use Rattle.cli_words.specs.declared.requests.Options.{Options}
use Rattle.cli_text.specs.Verdicts.{none_text}
use Rattle.cli_show.specs.Errors.{IfRefused}
use Rattle.cli_show.specs.Limits.{limits_named}
use Rattle.cli_show.specs.Logs.{IsUnreadLog}
use Rattle.cli_show.specs.LogsShown.{IsCommitsText, IsTextOfCommits, refused_text}
use Rattle.cli_show.specs.declared.contents.Contents.{Contents}
use Rattle.cli_show.specs.declared.error.ShowError.{ShowError}
use Rattle.cli_show.specs.declared.error.ShowError.TheVariants.{Refused, Unwritten}
use Rattle.cli_show.proofs.WrittenLogs.{on_ok}

-- a log has one list of valid frames
entry_one : (a b : Entry) → a.page ≡ b.page → a.size ≡ b.size → a ≡ b
entry_one a b page size =
    let first : Entry = record { page = b.page; size = a.size } in
    ap (λ (n : ℕ). let e : Entry = record { page = n; size = a.size } in e) page ∙ ap (λ (n : ℕ). let e : Entry = record { page = b.page; size = n } in e) size

entries_within : (most : ℕ) (b : List ℕ) (xs ys : List Entry) → AreEntriesWithin most b xs → AreEntriesWithin most b ys → length xs ≤ length ys
entries_within most b [] ys are same = omega arith
entries_within most b (x ∷ xs) ys are same =
    same.all (length (x ∷ xs)) (are.valid (length (x ∷ xs)) (omega arith) (omega arith))

pub entries_one : (most : ℕ) (b : List ℕ) (xs ys : List Entry) → AreEntriesWithin most b xs → AreEntriesWithin most b ys → xs ≡ ys
entries_one most b xs ys are same =
    let some : Entry = record { page = 0; size = 0 } in
    let le = entries_within most b xs ys are same in
    let ge = entries_within most b ys xs same are in
    ext_get_or some xs ys (omega (arith, le, ge))
    (λ i less. let other : i < length ys = omega (arith, less, le) in
    entry_one (get_or xs i some) (get_or ys i some) (are.pages i some less ∙ sym (same.pages i some other)) (are.sizes i some less ∙ sym (same.sizes i some other)))

-- each element with the one before it: there are as many
pub length-zip_before : (x : ℕ) (xs : List ℕ) → length (zip (x ∷ xs) xs) ≡ length xs
length-zip_before x [] = refl
length-zip_before x (y ∷ ys) = ap suc (length-zip_before y ys)

-- the pair at a place
pub get_or-zip_before : (x : ℕ) (xs : List ℕ) (i : ℕ) (d : ℕ × ℕ) → i < length xs
    → get_or (zip (x ∷ xs) xs) i d ≡ (get_or (x ∷ xs) i 0, get_or xs i 0)
get_or-zip_before x [] i d within = absurd (omega (arith, within))
get_or-zip_before x (y ∷ ys) zero d within = refl
get_or-zip_before x (y ∷ ys) (suc i) d within = get_or-zip_before y ys i d (omega (arith, within))

-- one more number before a list's elements
enumerate_from-more : {X : Type 0} (n : ℕ) (xs : List X) (x : X) → enumerate_from n (xs ++ x ∷ []) ≡ enumerate_from n xs ++ (n + length xs, x) ∷ []
enumerate_from-more {X = X} n [] x = let here : n + 0 ≡ n = omega arith in ap (λ (k : ℕ). let at : ℕ × X = (k, x) in at ∷ []) (sym here)
enumerate_from-more {X = X} n (y ∷ xs) x =
    let here : n + 1 + length xs ≡ n + length (y ∷ xs) = omega arith in
    let first : ℕ × X = (n, y) in
    ap (λ (l : List (ℕ × X)). first ∷ l)
    (enumerate_from-more (n + 1) xs x ∙ ap (λ (k : ℕ). let at : ℕ × X = (k, x) in enumerate_from (n + 1) xs ++ at ∷ []) here)

-- one more line
appends_line : {X : Type 0} (old mid new : Option (List ℕ)) (text : X → List ℕ) (xs : List X) (x : X)
    → Appends old mid (flat_map text xs) → Appends mid new (text x) → Appends old new (flat_map text (xs ++ x ∷ []))
appends_line old mid new text xs x first more =
    let is : flat_map text (xs ++ x ∷ []) ≡ flat_map text xs ++ text x =
    flat_map-append text xs (x ∷ []) ∙ ap (λ (l : List ℕ). flat_map text xs ++ l) (append-nil (text x)) in
    subst (λ (l : List ℕ). Appends old new l) (sym is) (Appends-trans old mid new (flat_map text xs) (text x) first more)

-- one more numbered line
pub appends_numbered : {X : Type 0} (old mid new : Option (List ℕ)) (text : ℕ → X → List ℕ) (xs : List X) (i : ℕ) (d : X)
    → i < length xs → Appends old mid (flat_map (λ e. text e.0 e.1) (enumerate_from 1 (take i xs)))
    → Appends mid new (text (i + 1) (get_or xs i d))
    → Appends old new (flat_map (λ e. text e.0 e.1) (enumerate_from 1 (take (i + 1) xs)))
appends_numbered {X = X} old mid new text xs i d within first more =
    let line : ℕ × X → List ℕ = λ e. text e.0 e.1 in
    let last : X = get_or xs i d in
    let number : 1 + length (take i xs) ≡ i + 1 = omega (arith, length-take-le i xs (omega (arith, within))) in
    let at : ℕ × X = (1 + length (take i xs), last) in
    let grown : enumerate_from 1 (take (i + 1) xs) ≡ enumerate_from 1 (take i xs) ++ at ∷ [] =
    ap (λ (l : List X). enumerate_from 1 l) (take_more xs i d within) ∙ enumerate_from-more 1 (take i xs) last in
    let here : Appends mid new (line at) = subst (λ (k : ℕ). Appends mid new (text k last)) (sym number) more in
    subst (λ (l : List (ℕ × X)). Appends old new (flat_map line l)) (sym grown) (appends_line old mid new line (enumerate_from 1 (take i xs)) at first here)

-- files that are given are read, so that memory ran out
pub memory_alone : (error : ViewError) (refusal : Refusal) → IsSource error → IsRead {A = List ℕ} (Err error) → refusal ≡ refusal_of error → refusal ≡ NoMemory
memory_alone views.NoMemory refusal source read is = is
memory_alone views.Unread refusal source read is = absurd read
memory_alone views.TwoLogs refusal source read is = absurd (⊎_elim (λ unread. let bad : views.TwoLogs ≡ views.Unread = unread in cc) (λ memory. let bad : views.TwoLogs ≡ views.NoMemory = memory in cc) source)
memory_alone views.TooLarge refusal source read is = absurd (⊎_elim (λ unread. let bad : views.TooLarge ≡ views.Unread = unread in cc) (λ memory. let bad : views.TooLarge ≡ views.NoMemory = memory in cc) source)
memory_alone views.NoSuchCommit refusal source read is = absurd (⊎_elim (λ unread. let bad : views.NoSuchCommit ≡ views.Unread = unread in cc) (λ memory. let bad : views.NoSuchCommit ≡ views.NoMemory = memory in cc) source)
memory_alone (views.Header fault) refusal source read is = absurd (⊎_elim (λ unread. let bad : views.Header fault ≡ views.Unread = unread in cc) (λ memory. let bad : views.Header fault ≡ views.NoMemory = memory in cc) source)

-- out of memory may be what any log is refused by
pub memory_unread : (limits : Bounds) (wal journal : List ℕ) (r : Result (Option Front) ShowError) → IfErr r (IfRefused (λ refusal. refusal ≡ NoMemory))
    → IfErr r (IfRefused (IsUnreadLog limits wal journal))
memory_unread limits wal journal (Ok front) is = tt
memory_unread limits wal journal (Err Unwritten) is = tt
memory_unread limits wal journal (Err (Refused refusal)) is = subst (λ (x : Refusal). IsUnreadLog limits wal journal x) (sym is) tt

module _ (options : Options) (files : Contents (List ℕ)) (old new : Option (List ℕ)) where
  -- the commits of a write-ahead log
  pub commits_written : {T E : Type 0} (answer : Result T E) → (¬ IsHot files.journal) → files.wal ≢ []
      → OnOk answer ((text : List ℕ) × IsTextOfCommits options.style (limits_named options.large).frames files.wal files.db text × Appends old new text)
      → OnOk answer ((text : List ℕ) × IsCommitsText options files text × Appends old new text)
  commits_written answer cold some written =
      on_ok answer ((text : List ℕ) × IsTextOfCommits options.style (limits_named options.large).frames files.wal files.db text × Appends old new text)
      ((text : List ℕ) × IsCommitsText options files text × Appends old new text) (λ w. (w.0, inl (cold, some, w.1), w.2)) written

  -- what refuses its header
  pub refused_written : (error : WalFormatError) → (¬ IsHot files.journal) → (32 ≤ length files.wal) × HeaderRefused files.wal error
      → Appends old new (refused_text options.style error)
      → (text : List ℕ) × IsCommitsText options files text × Appends old new text
  refused_written error cold refused written =
      (refused_text options.style error, inr (inl (cold, (error, refused.0, refused.1, refl))), written)

  -- that there are none
  pub no_commits_written : files.wal ≡ [] → Appends old new (none_text options.style (codes "commits"))
      → (text : List ℕ) × IsCommitsText options files text × Appends old new text
  no_commits_written empty written = (none_text options.style (codes "commits"), inr (inr (empty, refl)), written)
