-- What isn't judged, row by row.
use Rattle.std.proofs.Common.{◌≡◌, ℕ, ◌+◌, List, ◌++◌}
use Rattle.std.specs.Prelude.{slice_get, Some}
use native.Mathlib.Numerals.{unary_clauses}
use Rattle.sqschema.specs.Items.{Item}
use Rattle.sqdeepjudge.specs.NotJudged.{parts_of, kind_of, HasWords, AreOfFirst}
use Rattle.sqdeepjudge.specs.declared.words.Words.{Words}
use Rattle.sqdeepjudge.specs.declared.not_judged.NotJudged.{NotJudged}

-- one more object
pub first_more : (xs : List Item) (asides indexes tables : List ℕ) (n : ℕ) (before after : List NotJudged) (x : Item) (w : Words)
    → AreOfFirst xs asides indexes tables n before → slice_get xs n ≡ Some x → HasWords x.sql w
    → after ≡ before ++ parts_of (kind_of x) asides indexes tables n w → AreOfFirst xs asides indexes tables (n + 1) after
first_more xs asides indexes tables n before after x w first at has is = simp unary_clauses (before, x, w, first, at, has, is)
