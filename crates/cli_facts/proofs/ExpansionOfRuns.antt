-- What runs stand for.
use Rattle.std.proofs.Common.{◌≡◌, ℕ, zero, suc, ◌+◌, ◌-◌, ◌<◌, List, [], ◌∷◌, ◌++◌, length, get_or, set, ap, sym, ◌∙◌, arith, append_assoc}
use Rattle.std.specs.Prelude.{replicate}
use Rattle.std.proofs.lemmas.Grind.{flat_map-append, replicate_next, common_steps}
use Rattle.std.proofs.lemmas.List.Concat.{flat_map-cons}
use Rattle.std.proofs.lemmas.List.{get_or_default}
use Rattle.cli_facts.specs.Runs.{expanded}
use Rattle.cli_facts.specs.declared.runs.Run.{Run}
use Rattle.cli_facts.specs.declared.runs.Use.{Use}

pub last_longer : (runs : List Run) (n : ℕ) (r t : Run) → length runs ≡ suc n → get_or runs n t ≡ r
    → expanded (set runs n (record { count = r.count + 1; used = r.used })) ≡ expanded runs ++ r.used ∷ []
last_longer [] n r t long is = absurd (omega (arith, long))
last_longer (x ∷ []) zero r t long is = grind (arith, common_steps, flat_map-cons, replicate_next, is)
last_longer (x ∷ []) (suc n) r t long is = absurd (omega (arith, long))
last_longer (x ∷ y ∷ ys) zero r t long is = absurd (omega (arith, long))
last_longer (x ∷ y ∷ ys) (suc n) r t long is =
    let more = last_longer (y ∷ ys) n r t (omega (arith, long)) is in
    grind (arith, common_steps, flat_map-cons, append_assoc, more)

pub one_more : (runs : List Run) (u : Use) → expanded (runs ++ record { count = 1; used = u } ∷ []) ≡ expanded runs ++ u ∷ []
one_more runs u = flat_map-append (λ (run : Run). replicate run.count run.used) runs (record { count = 1; used = u } ∷ [])

pub longer_run : (runs : List Run) (e : ℕ) (q r : Run) (u : Use) → e ≡ length runs → 0 < e → q ≡ get_or runs (e - 1) q
    → r ≡ get_or runs (e - 1) r → q.used ≡ u
    → expanded (set runs (e - 1) (record { count = r.count + 1; used = r.used })) ≡ expanded runs ++ u ∷ []
longer_run runs e q r u is some at_q at_r same =
    let within : e - 1 < length runs = omega (arith, is, some) in
    let one : q ≡ r = at_q ∙ get_or_default runs (e - 1) q r within ∙ sym at_r in
    let used : r.used ≡ u = ap (λ (x : Run). x.used) (sym one) ∙ same in
    last_longer runs (e - 1) r r (omega (arith, is, some)) (sym at_r) ∙ ap (λ (x : Use). expanded runs ++ x ∷ []) used
