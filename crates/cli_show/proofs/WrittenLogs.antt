-- What is written of the log that counts.
use Rattle.std.proofs.Common.{◌≡◌, ℕ, List, [], inl, inr, refl, subst}
use Rattle.std.specs.Prelude.{Option, Result, Ok, Err, IfOk, OnOk, codes}
use Rattle.std.specs.Io.KnownBytes.{Appends}
use Rattle.sqval.specs.Limits.{Bounds}
use Rattle.sqjournal.specs.Journal.{IsHot}
use Rattle.cli_words.specs.declared.requests.Options.{Options}
use Rattle.cli_text.specs.Verdicts.{none_text}
use Rattle.cli_show.specs.LogsShown.{IsJournalText, IsLogText, IsWalText}
use Rattle.cli_show.specs.internal.LogsShown.{IsJournalShown, IsShownLog}
use Rattle.cli_show.specs.declared.error.ShowError.{ShowError}
use Rattle.cli_show.specs.declared.logs.Shown.{Shown}
use Rattle.cli_show.specs.declared.logs.Shown.TheVariants.{Neither, Refused, Wal, Journal}

-- a hot journal that was shown is the log that was
pub journal_shown : (limits : Bounds) (wal journal b : List ℕ) (answer : Result Shown ShowError) → IsHot journal → wal ≡ [] → b ≡ journal
    → IfOk answer (IsJournalShown b) → IfOk answer (IsShownLog limits wal journal)
journal_shown limits wal journal b (Ok (Journal replay)) hot bare same is = (hot, subst (λ (l : List ℕ). IsJournalShown l (Journal replay)) same is, bare)
journal_shown limits wal journal b (Ok (Wal scan)) hot bare same is = absurd is
journal_shown limits wal journal b (Ok Refused) hot bare same is = absurd is
journal_shown limits wal journal b (Ok Neither) hot bare same is = absurd is
journal_shown limits wal journal b (Err error) hot bare same is = tt

-- what follows of what was written
pub on_ok : {T E : Type 0} (answer : Result T E) (P Q : Type 0) → (P → Q) → OnOk answer P → OnOk answer Q
on_ok (Ok _) P Q follows p = follows p
on_ok (Err _) P Q follows p = tt

module _ (options : Options) (wal journal : List ℕ) (old new : Option (List ℕ)) where
  -- of a write-ahead log beside no hot journal
  pub wal_written : {T E : Type 0} (answer : Result T E) → (¬ IsHot journal)
      → OnOk answer ((text : List ℕ) × IsWalText options wal text × Appends old new text)
      → OnOk answer ((text : List ℕ) × IsLogText options wal journal text × Appends old new text)
  wal_written answer cold written = on_ok answer ((text : List ℕ) × IsWalText options wal text × Appends old new text)
      ((text : List ℕ) × IsLogText options wal journal text × Appends old new text) (λ w. (w.0, inr (inl (cold, w.1)), w.2)) written

  -- of a hot journal
  pub journal_written : {T E : Type 0} (answer : Result T E) (b : List ℕ) → b ≡ journal → IsHot journal → wal ≡ []
      → OnOk answer ((text : List ℕ) × IsJournalText options.style b text × Appends old new text)
      → OnOk answer ((text : List ℕ) × IsLogText options wal journal text × Appends old new text)
  journal_written answer b same hot bare written = on_ok answer ((text : List ℕ) × IsJournalText options.style b text × Appends old new text)
      ((text : List ℕ) × IsLogText options wal journal text × Appends old new text)
      (λ w. (w.0, inl (hot, subst (λ (l : List ℕ). IsJournalText options.style l w.0) same w.1, λ two. two.1 bare), w.2)) written

  -- that there is none
  pub none_written : (¬ IsHot journal) → wal ≡ [] → Appends old new (none_text options.style (codes "log"))
      → (text : List ℕ) × IsLogText options wal journal text × Appends old new text
  none_written cold empty written = (none_text options.style (codes "log"), inr (inr (cold, empty, refl)), written)
