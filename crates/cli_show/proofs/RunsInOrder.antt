-- Runs that are written one behind the other.
use Rattle.std.proofs.Common.{◌≡◌, ℕ, ◌+◌, ◌<◌, List, ◌++◌, length, drop, get_or, Option, append_assoc, sym, ap, ◌∙◌}
use Rattle.std.specs.Prelude.{min}
use Rattle.std.specs.Io.KnownBytes.{Appends}
use Rattle.std.proofs.KnownBytes.{Appends-trans}
use Rattle.std.proofs.lemmas.List.{drop_more}
use Rattle.cli_facts.specs.declared.runs.Run.{Run}
use Rattle.cli_text.specs.Reports.{run_text}
use Rattle.cli_show.specs.Reports.{runs_text}

-- the text of a run
abbrev pub text_of : (first : ℕ) → Run → List ℕ
text_of first run = run_text first run.count run.used.role run.used.fault

-- one more run, and those behind it
run_and_rest : (runs : List Run) (i first next : ℕ) (d : Run) → i < length runs → next ≡ min (first + (get_or runs i d).count) 4294967295
    → text_of first (get_or runs i d) ++ runs_text next (drop (i + 1) runs) ≡ runs_text first (drop i runs)
run_and_rest runs i first next d lt step =
    ap (λ (n : ℕ). text_of first (get_or runs i d) ++ runs_text n (drop (i + 1) runs)) step
    ∙ sym (ap (λ (l : List Run). runs_text first l) (drop_more runs i d lt))

-- it is written behind those before it
pub run_more : (runs : List Run) (i first next : ℕ) (d : Run) (old mid new : Option (List ℕ)) → i < length runs
    → next ≡ min (first + (get_or runs i d).count) 4294967295 → Appends mid new (text_of first (get_or runs i d))
    → (text : List ℕ) × Appends old mid text × (text ++ runs_text first (drop i runs) ≡ runs_text 1 runs)
    → (text : List ℕ) × Appends old new text × (text ++ runs_text next (drop (i + 1) runs) ≡ runs_text 1 runs)
run_more runs i first next d old mid new lt step more so_far =
    let run = text_of first (get_or runs i d) in (
      so_far.0 ++ run,
      Appends-trans old mid new so_far.0 run so_far.1 more,
      append_assoc so_far.0 run (runs_text next (drop (i + 1) runs))
          ∙ ap (λ (l : List ℕ). so_far.0 ++ l) (run_and_rest runs i first next d lt step) ∙ so_far.2,
    )
