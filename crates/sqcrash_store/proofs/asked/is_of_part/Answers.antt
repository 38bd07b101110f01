use Rattle.std.proofs.Common.{ℕ, ◌-◌, ◌%◌, nat_eq, Option, sym, ◌∙◌, ap}
use Rattle.sqcrash_store.specs.Points.{is_of_part}
use Rattle.sqcrash_store.specs.declared.plan.Part.{Part}
use Rattle.sqcrash_store.proofs.asked.is_of_part.Goals as goal

pub returns-in-Some : goal.returns-in-Some
returns-in-Some c =
    let part = c.in-Some.part in
    let point = c.args.point in
    ap (λ (n : ℕ). nat_eq (n % part.of) c.saturating_sub-in-Some.result) c.saturating_sub.ensures
    ∙ ap (λ (n : ℕ). nat_eq ((point - 1) % part.of) n) c.saturating_sub-in-Some.ensures
    ∙ ap (λ (asked : Option Part). is_of_part asked point) (sym c.in-Some.is)
