-- A byte of a name in quotes.
use Rattle.std.proofs.Common.{◌≡◌, ◌≢◌, ℕ, ◌+◌, ◌<◌, List, [], ◌∷◌, drop, get_or, length, arith}
use Rattle.std.proofs.lemmas.List.{drop_more}
use Rattle.schema_print.specs.Names.{unquoted}

unquoted-other : (q x : ℕ) (s : List ℕ) → (x ≢ q) → unquoted q (x ∷ s) ≡ x ∷ unquoted q s
unquoted-other q x [] h = grind arith
unquoted-other q x (y ∷ s) h = grind arith

pub unquoted_other : (q : ℕ) (s : List ℕ) (n : ℕ) → n < length s → (get_or s n 0 ≢ q) → unquoted q (drop n s) ≡ get_or s n 0 ∷ unquoted q (drop (n + 1) s)
unquoted_other q s n lt h = rw (drop_more s n 0 lt) (unquoted-other q (get_or s n 0) (drop (n + 1) s) h)
