-- The parts of a report, written one behind the other.
use Rattle.std.proofs.Common.{◌≡◌, ℕ, List, ◌++◌, Option, append_assoc, subst}
use Rattle.std.specs.Prelude.{Result, OnOk}
use Rattle.std.specs.Io.KnownBytes.{Appends}
use Rattle.std.proofs.KnownBytes.{Appends-trans}
use Rattle.cli_show.proofs.WrittenLogs.{on_ok}

-- a text between two others, the last of which may fail
pub between_two : {T E : Type 0} (answer : Result T E) (old first second new : Option (List ℕ)) (front text back : List ℕ)
    → Appends old first front → Appends first second text → OnOk answer (Appends second new back)
    → OnOk answer (Appends old new (front ++ (text ++ back)))
between_two answer old first second new front text back p q last =
    on_ok answer (Appends second new back) (Appends old new (front ++ (text ++ back)))
    (λ r. Appends-trans old first new front (text ++ back) p (Appends-trans first second new text back q r)) last

-- one of which something holds
pub part_between : {T E : Type 0} (answer : Result T E) (P : List ℕ → Type 0) (old first second new : Option (List ℕ)) (front back : List ℕ)
    → Appends old first front → (text : List ℕ) × P text × Appends first second text → OnOk answer (Appends second new back)
    → OnOk answer ((text : List ℕ) × P text × Appends old new (front ++ (text ++ back)))
part_between answer P old first second new front back p part last =
    on_ok answer (Appends second new back) ((text : List ℕ) × P text × Appends old new (front ++ (text ++ back)))
    (λ r. (
      part.0,
      part.1,
      Appends-trans old first new front (part.0 ++ back) p (Appends-trans first second new part.0 back part.2 r),
    )) last

-- a text of three words and two values
pub values_between : {T E : Type 0} (answer : Result T E) (old first second new : Option (List ℕ)) (a version b file c size d : List ℕ)
    → Appends old first (a ++ (version ++ b)) → Appends first second file → OnOk answer (Appends second new (c ++ (size ++ d)))
    → OnOk answer (Appends old new (a ++ (version ++ (b ++ (file ++ (c ++ (size ++ d)))))))
values_between answer old first second new a version b file c size d p q last =
    let same : (a ++ (version ++ b)) ++ (file ++ (c ++ (size ++ d))) ≡ a ++ (version ++ (b ++ (file ++ (c ++ (size ++ d))))) =
    simp append_assoc in
    subst (λ (l : List ℕ). OnOk answer (Appends old new l)) same
    (between_two answer old first second new (a ++ (version ++ b)) file (c ++ (size ++ d)) p q last)

-- all parts
pub all_parts : (old a b c d new : Option (List ℕ)) (front verdict before head behind trees runs logged word log end : List ℕ)
    → Appends old a front → Appends a b verdict → Appends b c (before ++ (head ++ behind))
    → Appends c d (trees ++ (runs ++ logged)) → Appends d new (word ++ (log ++ end))
    → Appends old new (front ++ (verdict ++ (before ++ (head ++ (behind ++ (trees ++ (runs ++ (logged ++ (word ++ (log ++ end))))))))))
all_parts old a b c d new front verdict before head behind trees runs logged word log end p q r s t =
    let header = before ++ (head ++ behind) in
    let lists = trees ++ (runs ++ logged) in
    let last = word ++ (log ++ end) in
    let same : front ++ (verdict ++ (header ++ (lists ++ last)))
    ≡ front ++ (verdict ++ (before ++ (head ++ (behind ++ (trees ++ (runs ++ (logged ++ (word ++ (log ++ end))))))))) =
    simp append_assoc in
    subst (λ (l : List ℕ). Appends old new l) same
    (Appends-trans old a new front (verdict ++ (header ++ (lists ++ last))) p
    (Appends-trans a b new verdict (header ++ (lists ++ last)) q
    (Appends-trans b c new header (lists ++ last) r (Appends-trans c d new lists last s t))))
