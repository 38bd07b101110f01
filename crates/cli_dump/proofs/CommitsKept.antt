-- The texts of commits, one behind the other.
use Rattle.std.proofs.Common.{◌≡◌, ℕ, ◌+◌, ◌<◌, List, [], ◌∷◌, ◌++◌, take, length, get_or, refl, sym, ap, ◌∙◌, subst, append_assoc, add-one}
use Rattle.std.specs.Prelude.{Option, Result, Ok, Err, OnOk}
use Rattle.std.specs.Io.KnownBytes.{Appends}
use Rattle.std.proofs.KnownBytes.{Appends-trans}
use Rattle.std.proofs.Math.Seq.{take-suc}
use Rattle.std.proofs.lemmas.List.{append-nil}
use Rattle.cli_history.specs.declared.commits.CommitForm.{CommitForm}
use Rattle.cli_history.specs.declared.files.Files.{Files}
use Rattle.cli_history.specs.History.{last_of}
use Rattle.cli_dump.specs.Kept.{IsTextOfCommit, IsTextOfCommits}

module _ (files : Files (List ℕ)) (front : Option ℕ) (names : List (List ℕ)) (form : CommitForm) where
  -- one more
  text_snoc : (from : ℕ) (frames : List ℕ) (frame : ℕ) (text part : List ℕ) → IsTextOfCommits files front names form from frames text
      → IsTextOfCommit files front names form (last_of from frames) frame part
      → IsTextOfCommits files front names form from (frames ++ frame ∷ []) (text ++ part)
  text_snoc from [] frame text part is more =
      (part, [], more, refl, ap (λ (l : List ℕ). l ++ part) is ∙ sym (append-nil part))
  text_snoc from (x ∷ frames) frame text part is more = (
    is.0,
    is.1 ++ part,
    is.2,
    text_snoc x frames frame is.1 part is.3 more,
    ap (λ (l : List ℕ). l ++ part) is.4 ∙ append_assoc is.0 is.1 part,
  )

  -- the same of the first ones of a list
  pub text_more : (from : ℕ) (frames : List ℕ) (i before frame : ℕ) (text part : List ℕ) → i < length frames
      → before ≡ last_of from (take i frames) → frame ≡ get_or frames i 0
      → IsTextOfCommits files front names form from (take i frames) text → IsTextOfCommit files front names form before frame part
      → IsTextOfCommits files front names form from (take (i + 1) frames) (text ++ part)
  text_more from frames i before frame text part within was at is more =
      let grown : take (i + 1) frames ≡ take i frames ++ get_or frames i 0 ∷ [] = ap (λ n. take n frames) (add-one i) ∙ take-suc frames i 0 within in
      let here : IsTextOfCommit files front names form (last_of from (take i frames)) (get_or frames i 0) part =
      subst (λ (n : ℕ). IsTextOfCommit files front names form n (get_or frames i 0) part) was
      (subst (λ (n : ℕ). IsTextOfCommit files front names form before n part) at more) in
      subst (λ (fs : List ℕ). IsTextOfCommits files front names form from fs (text ++ part)) (sym grown)
      (text_snoc from (take i frames) (get_or frames i 0) text part is here)

-- four texts, the last of which may fail, and five
pub written_four : {T E : Type 0} (answer : Result T E) (old first second third new : Option (List ℕ)) (xs ys zs ws : List ℕ)
    → Appends old first xs → Appends first second ys → Appends second third zs → OnOk answer (Appends third new ws)
    → OnOk answer (Appends old new (xs ++ (ys ++ (zs ++ ws))))
written_four (Ok _) old first second third new xs ys zs ws p q r s =
    Appends-trans old first new xs (ys ++ (zs ++ ws)) p (Appends-trans first second new ys (zs ++ ws) q (Appends-trans second third new zs ws r s))
written_four (Err _) old first second third new xs ys zs ws p q r s = tt

pub written_five : {T E : Type 0} (answer : Result T E) (old next first second third new : Option (List ℕ)) (vs xs ys zs ws : List ℕ)
    → Appends old next vs → Appends next first xs → Appends first second ys → Appends second third zs → OnOk answer (Appends third new ws)
    → OnOk answer (Appends old new (vs ++ (xs ++ (ys ++ (zs ++ ws)))))
written_five {E = E} (Ok x) old next first second third new vs xs ys zs ws o p q r s =
    Appends-trans old next new vs (xs ++ (ys ++ (zs ++ ws))) o (written_four {E = E} (Ok x) next first second third new xs ys zs ws p q r s)
written_five (Err _) old next first second third new vs xs ys zs ws o p q r s = tt
