-- The frames of a scan in a caller's array.
use Rattle.std.proofs.Common.{◌≡◌, ◌≢◌, ⊎_elim, ℕ, ◌+◌, ◌<◌, ◌≤◌, List, length, get_or, sym, ◌∙◌, ap, arith}
use Rattle.std.proofs.Math.ListN.{set}
use Rattle.std.proofs.lemmas.List.{get_or-set_other}
use Rattle.std.proofs.lemmas.Grind.{get_or-set_at}
use Rattle.std.proofs.lemmas.Bool.{cases_lt}
use Rattle.sqwal.specs.internal.Answers.{AreEntries}
use Rattle.sqwal.specs.declared.scan.Entry.{Entry}
use Rattle.sqrescue_c.specs.Logs.{IsScanned, AreFrames}
use Rattle.sqrescue_c.specs.internal.Logs.{frame_of, no_entry}
use Rattle.sqrescue_c.specs.declared.wal.Frame.{Frame}
use Rattle.sqrescue_c.specs.declared.wal.WalReport.{WalReport}

abbrev pub Copied : (n : ℕ) → List Entry → List Frame → Type 0
Copied n entries frames = (k : ℕ) (d : Frame) → k < n → get_or frames k d ≡ frame_of (get_or entries k no_entry)

pub one_more : (entries : List Entry) (frames : List Frame) (i : ℕ) (v : Frame) → i < length frames → v ≡ frame_of (get_or entries i no_entry)
    → Copied i entries frames → Copied (i + 1) entries (set frames i v)
one_more entries frames i v within is before k d lt = ⊎_elim
    (λ below. let other : k ≢ i = omega arith in get_or-set_other frames i k v d other ∙ before k d below)
    (λ above. let same : k ≡ i = omega arith in get_or-set_at frames i k v d same within ∙ is ∙ ap (λ n. frame_of (get_or entries n no_entry)) (sym same))
    (cases_lt k i)

module _ (w : List ℕ) (entries : List Entry) (out : WalReport) (are : AreEntries w entries) (is : IsScanned w out) where
  pub count_is : out.frames ≡ length entries
  count_is =
      let up : out.frames ≤ length entries = ⊎_elim (λ some. are.all out.frames (is.valid out.frames (omega arith) (omega arith))) (λ none. omega arith) (cases_lt 0 out.frames) in
      let down : length entries ≤ out.frames = ⊎_elim (λ some. is.all (length entries) (are.valid (length entries) (omega arith) (omega arith))) (λ none. omega arith) (cases_lt 0 (length entries)) in
      omega arith

  pub are_frames : (frames : List Frame) → length entries ≤ length frames → Copied (length entries) entries frames → AreFrames w out.frames frames
  are_frames frames room copied = record {
    long = omega (arith, count_is);
    pages = λ i d lt. ap (λ (f : Frame). f.page) (copied i d (omega (arith, count_is))) ∙ are.pages i no_entry (omega (arith, count_is));
    sizes = λ i d lt. ap (λ (f : Frame). f.size) (copied i d (omega (arith, count_is))) ∙ are.sizes i no_entry (omega (arith, count_is));
  }
