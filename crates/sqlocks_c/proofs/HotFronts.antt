-- Journals by their first 28 bytes.
use Rattle.std.proofs.Common.{◌≡◌, ℕ, ◌<◌, ◌≤◌, List, take, length, sym, subst, arith}
use Rattle.sqjournal.specs.Header.{IsFirstHeader, IsRefused, Names}
use Rattle.sqjournal.specs.Journal.{IsHot}
use Rattle.sqjournal.specs.declared.error.JournalError.{JournalError}
use Rattle.sqjournal.specs.declared.error.JournalError.TheVariants.{NotAJournal, SectorSize, PageSize, NoMemory, TooLong}
use Rattle.sqjournal.specs.declared.header.JournalHeader.{JournalHeader}
use Rattle.sqjournal.proofs.read.NextStateOfReading.{front_first, front_names, front_refused}
use Rattle.sqlocks_c.specs.Journals.{IsColdIf, IsHotIf}

module _ (front : List ℕ) (len : ℕ) where
  named : (h : JournalHeader) (journal : List ℕ) → take 28 journal ≡ front → Names front h → Names journal h
  named h journal e names = front_names journal h (subst (λ (l : List ℕ). Names l h) (sym e) names)

  pub hot_front : (h : JournalHeader) → IsFirstHeader front → Names front h → h.sector ≤ len → IsHotIf front len
  hot_front h first names le = λ journal l e. record {
    first = front_first journal (subst IsFirstHeader (sym e) first);
    whole = omega (arith, (named h journal e names).sector, l);
  }

  pub cut_front : (h : JournalHeader) → Names front h → len < h.sector → IsColdIf front len
  cut_front h names lt = λ journal l e hot. omega (arith, (named h journal e names).sector, hot.whole, l)

  pub refused_front : (e : JournalError) → IsRefused front e → IsColdIf front len
  refused_front error bad = λ journal l e hot. refuted journal hot error (front_refused journal error (subst (λ (x : List ℕ). IsRefused x error) (sym e) bad))
    where
      refuted : (journal : List ℕ) → IsHot journal → (e : JournalError) → IsRefused journal e → ⊥
      refuted journal hot NotAJournal x = x hot.first.magic
      refuted journal hot SectorSize x = x.1 hot.first.sector
      refuted journal hot PageSize x = x.2 hot.first.size
      refuted journal hot NoMemory x = x
      refuted journal hot TooLong x = x
