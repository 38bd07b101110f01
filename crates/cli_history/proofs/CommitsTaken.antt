-- Commits whose changes are printed one by one.
use Rattle.std.proofs.Common.{◌≡◌, ◌<◌, ◌+◌, List, [], ◌∷◌, ◌++◌, Option, ℕ, length, take, get_or, refl, sym, ap, ◌∙◌, subst, add-one}
use Rattle.std.proofs.Math.Seq.{take-suc}
use Rattle.cli_history.specs.declared.commits.CommitForm.{CommitForm}
use Rattle.cli_history.specs.declared.files.Files.{Files}
use Rattle.cli_history.specs.History.{AreCommitsPrinted, IsCommitPrinted, last_of}

module _ (files : Files (List ℕ)) (front : Option ℕ) (names : List (List ℕ)) (form : CommitForm) where
  -- one more
  commits_snoc : (from : ℕ) (frames : List ℕ) (frame : ℕ) (old mid new : Option (List ℕ))
      → AreCommitsPrinted files front names form from frames old mid → IsCommitPrinted files front names form (last_of from frames) frame mid new
      → AreCommitsPrinted files front names form from (frames ++ frame ∷ []) old new
  commits_snoc from [] frame old mid new are is =
      (new, subst (λ (b : Option (List ℕ)). IsCommitPrinted files front names form from frame b new) (sym are) is, refl)
  commits_snoc from (x ∷ frames) frame old mid new are is = (are.0, are.1, commits_snoc x frames frame are.0 mid new are.2 is)

  -- the same of the first ones of a list
  pub commits_more : (from : ℕ) (frames : List ℕ) (i : ℕ) (before : ℕ) (frame : ℕ) (old mid new : Option (List ℕ)) → i < length frames
      → before ≡ last_of from (take i frames) → frame ≡ get_or frames i 0
      → AreCommitsPrinted files front names form from (take i frames) old mid → IsCommitPrinted files front names form before frame mid new
      → AreCommitsPrinted files front names form from (take (i + 1) frames) old new
  commits_more from frames i before frame old mid new within was at are is =
      let more : take (i + 1) frames ≡ take i frames ++ get_or frames i 0 ∷ [] = ap (λ n. take n frames) (add-one i) ∙ take-suc frames i 0 within in
      let here : IsCommitPrinted files front names form (last_of from (take i frames)) (get_or frames i 0) mid new =
      subst (λ (n : ℕ). IsCommitPrinted files front names form n (get_or frames i 0) mid new) was
      (subst (λ (n : ℕ). IsCommitPrinted files front names form before n mid new) at is) in
      subst (λ (fs : List ℕ). AreCommitsPrinted files front names form from fs old new) (sym more)
      (commits_snoc from (take i frames) (get_or frames i 0) old mid new are here)

-- the last one behind one more
last_snoc : (from : ℕ) (frames : List ℕ) (frame : ℕ) → last_of from (frames ++ frame ∷ []) ≡ frame
last_snoc from [] frame = refl
last_snoc from (x ∷ frames) frame = last_snoc x frames frame

pub last_more : (from : ℕ) (frames : List ℕ) (i : ℕ) (frame : ℕ) → i < length frames → frame ≡ get_or frames i 0 → frame ≡ last_of from (take (i + 1) frames)
last_more from frames i frame within at =
    let more : take (i + 1) frames ≡ take i frames ++ get_or frames i 0 ∷ [] = ap (λ n. take n frames) (add-one i) ∙ take-suc frames i 0 within in
    at ∙ sym (ap (last_of from) more ∙ last_snoc from (take i frames) (get_or frames i 0))
