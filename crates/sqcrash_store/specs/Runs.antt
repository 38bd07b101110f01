-- What a command's answer says (own).
use Rattle.std.specs.Prelude.{◌≡◌, ℕ, ◌<◌, ◌↔◌, nat_eq, IsTrue, List, [], ◌∷◌, length}
use Rattle.std.specs.List.{before_first, after_first, position_or_len}
use Rattle.std.specs.String.{string_bytes}
use Rattle.sqcrash_store.specs.declared.verdict.Answer.{Answer}

-- A line says an answer: in front of its first space stands the command's status, which is 0 where the files are sound, and
-- behind it the first line that the command wrote.
pub record IsSaid (line : List ℕ) (answer : Answer) : Type 0 where
  pub space : position_or_len (λ b. nat_eq b 32) line < length line
  pub status : IsTrue answer.is_sound ↔ (before_first (λ b. nat_eq b 32) line ≡ 48 ∷ [])
  pub text : string_bytes answer.line ≡ after_first (λ b. nat_eq b 32) line
