use Rattle.std.proofs.Common.{◌≡◌, ℕ, ◌-◌, min, drop, length, ap, ◌∙◌, arith}
use Rattle.std.specs.Prelude.{replicate}
use Rattle.std.proofs.lemmas.List.{drop-replicate}
use Rattle.std.proofs.lemmas.Grind.{common_steps}
use Rattle.cli_text.proofs.header.write_field_line.Goals as goal

-- what is left of twenty spaces
spaces_left : (n : ℕ) → drop {A = ℕ} (min n 20) (replicate 20 32) ≡ replicate (20 - n) 32
spaces_left n =
    let left : 20 - min n 20 ≡ 20 - n = omega arith in
    drop-replicate (min n 20) 20 32 ∙ ap (λ (k : ℕ). replicate k 32) left

pub returns : goal.returns
returns g c = let left = spaces_left (length c.args.name.now) in let a = c.in_ok-write_all.ensures in let b = c.writeln.ensures in grind (arith, common_steps, left)
