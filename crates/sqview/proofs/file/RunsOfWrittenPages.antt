-- Pages that are written one after the other.
use Rattle.std.proofs.Common.{◌≡◌, ℕ, ◌+◌, ◌-◌, ◌<◌, List, [], ◌∷◌, ◌++◌, length, get_or, take, refl, arith, sym, ◌∙◌, ap, append_assoc, append-nil}
use Rattle.std.specs.Prelude.{Option, Some, None}
use Rattle.std.specs.List.{concat}
use Rattle.std.specs.Io.KnownBytes.{Appends, Keeps, append_known}
use Rattle.std.proofs.lemmas.List.{take_more}
use Rattle.sqval.specs.Database.{Database, page}

-- the bytes of the pages before one, and of it
pub concat-more : (xs ys : List (List ℕ)) → concat (xs ++ ys) ≡ concat xs ++ concat ys
concat-more [] ys = refl
concat-more (x ∷ xs) ys = ap (λ (l : List ℕ). x ++ l) (concat-more xs ys) ∙ sym (append_assoc x (concat xs) (concat ys))

pub concat-page : (d : Database) (n : ℕ) → n < length d → concat (take (n + 1) d) ≡ concat (take n d) ++ page d (n + 1)
unfolding page
concat-page d n lt =
    ap concat (take_more d n [] lt) ∙ concat-more (take n d) (get_or d n [] ∷ [])
    ∙ ap (λ (l : List ℕ). concat (take n d) ++ l) (append-nil (get_or d n []) ∙ ap (λ (i : ℕ). get_or d i []) (let e : n ≡ n + 1 - 1 = omega arith in e))

-- what was written, and the run behind it
pub run_written : (a b : Option (List ℕ)) (run : List ℕ) → Appends a b run → Appends (append_known a run) (append_known b []) []
run_written None b run is = tt
run_written (Some x) None run is = absurd is
run_written (Some x) (Some y) run is = ap (λ (l : List ℕ). l ++ []) is

pub run_grown : (a : Option (List ℕ)) (run page : List ℕ) → Appends (append_known a run) (append_known a (run ++ page)) page
run_grown None run page = tt
run_grown (Some x) run page = sym (append_assoc x run page)

-- the last run is written, and then flushed
pub run_ended : (a b c e : Option (List ℕ)) (run all : List ℕ) → Appends a (append_known b run) all → Appends b c run → Keeps c e → Appends a e all
run_ended None b c e run all is wrote kept = tt
run_ended (Some x) None c e run all is wrote kept = absurd is
run_ended (Some x) (Some y) None e run all is wrote kept = absurd wrote
run_ended (Some x) (Some y) (Some z) None run all is wrote kept = absurd kept
run_ended (Some x) (Some y) (Some z) (Some u) run all is wrote kept = kept ∙ wrote ∙ is

pub run_none : (a : Option (List ℕ)) (run : List ℕ) → run ≡ [] → Appends a (append_known a run) []
run_none None run none = tt
run_none (Some x) run none = ap (λ (l : List ℕ). x ++ l) none
