use Rattle.std.proofs.Common.{◌≡◌, ◌∙◌, List, ℕ, Bor, Option, subst, sym}
use Rattle.std.specs.Cmp.Lexicographic.{bytes_decides}
use Rattle.std.specs.Prelude.{IsSomeAnd, codes}
use Rattle.sqrescue.proofs.each.asks_locks.Goals as goal

pub returns-in-Some : goal.returns-in-Some
returns-in-Some c = λ yes.
    subst (λ (starter : Option (Bor (List ℕ) × Bor (List ℕ))). IsSomeAnd starter (λ said. said.0.now ≡ codes "--locks")) (sym c.in-Some.is) ((bytes_decides _ _).0 (sym c.eq.ensures ∙ yes))
