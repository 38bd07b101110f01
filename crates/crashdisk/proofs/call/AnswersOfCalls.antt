-- What a call may answer.
use Rattle.crashdisk.proofs.Below.{Bool, ChangedBy, DiskError, Err, Failed, FileState, Held, Intent, IsAnswered, Left, List, Log, Manner, NoMemory, Ok, Result, Since, Stopped, TooLong, Value, [], ap, arith, before_pushed, by_answer, by_change, cut_to, cutting, false, file_of, handed_writes, kept_bytes, kept_of, max, min, put_byte, refl, subst, true, with_write, ℕ, ◌++◌, ◌+◌, ◌∙◌, ◌∷◌, ◌≡◌, ◌≤◌}
use Rattle.crashdisk.proofs.sector.ValuesOfChangedSectors.{cut_is}

-- a change of the length, as the code has it
pub cut_answered : {T : Type 0} (manner : Manner) (n keep : ℕ) (result : Result T DiskError) (old new : Held) → keep ≡ min n old.len
    → IsAnswered manner (record (cutting (file_of manner.sector old) n) { reach = n + 0; target = λ i. put_byte n keep [] i ((file_of manner.sector old).present i) }) result old new → IsAnswered manner (cutting (file_of manner.sector old) n) result old new
cut_answered manner n keep result old new is answered =
    let s = file_of manner.sector old in
    let target : (λ i. put_byte n keep [] i (s.present i)) ≡ cut_to s n = ap (λ (k : ℕ). λ (i : ℕ). put_byte n k [] i (s.present i)) is ∙ cut_is s n in
    let reach : n + 0 ≡ n = omega arith in
    subst (λ (intent : Intent). IsAnswered manner intent result old new) (λ j. record { from = n; to = s.len; end = n; reach = reach j; target = target j }) answered

-- what a disk keeps of its log after a crash
pub left_since : (tears : Bool) (image : List ℕ) (old new : Since) → (tears ≡ false → (kept_bytes old ≡ []) × (handed_writes old ≡ [])) → Left tears image old new → (kept_bytes new ≡ kept_of tears image) × (handed_writes new ≡ [])
left_since true image old new untorn left = left
left_since false image old new untorn left = (ap (λ s. kept_bytes s) left ∙ (untorn refl).0, ap (λ s. handed_writes s) left ∙ (untorn refl).1)

-- what a change adds to the greatest length
pub greatest_changed : {T : Type 0} (sector : ℕ) (touches : ℕ → Type 0) (target : Value) (end : ℕ) (result : Result T DiskError) (old new : FileState) → ChangedBy sector touches target end result old new → new.greatest ≤ max old.greatest end
greatest_changed sector touches target end result old new = by_change (λ s. s.greatest ≤ max old.greatest end) sector touches target end result old new (λ changed. omega (arith, changed.greatest)) (omega arith)

-- the write that was taken stays where it was made
pub answered_handed : (result : Result (Unit {0}) DiskError) (at : ℕ) (bytes : List ℕ) (handed : List (ℕ × List ℕ)) → by_answer result (handed ++ (at, bytes) ∷ []) ≡ with_write true Log result at bytes handed
answered_handed (Ok v) at bytes handed = refl
answered_handed (Err Failed) at bytes handed = refl
answered_handed (Err Stopped) at bytes handed = before_pushed handed (at, bytes)
answered_handed (Err TooLong) at bytes handed = before_pushed handed (at, bytes)
answered_handed (Err NoMemory) at bytes handed = before_pushed handed (at, bytes)
