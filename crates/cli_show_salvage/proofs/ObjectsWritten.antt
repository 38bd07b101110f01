-- Objects, one more at the end.
use Rattle.std.proofs.Common.{◌≡◌, ◌∙◌, ℕ, ◌+◌, ◌<◌, List, [], ◌∷◌, ◌++◌, Bool, Option, length, take, get_or, sym, ap, subst, add-one}
use Rattle.std.proofs.Math.Seq.{take-suc}
use Rattle.sqval.specs.Database.{Database}
use Rattle.sqdeep.specs.declared.text.Encoding.{Encoding}
use Rattle.sqtables.specs.declared.list.Object.{Object}
use Rattle.cli_show_salvage.specs.declared.book.Book.{Book}
use Rattle.cli_show_salvage.specs.Scripts.{AreTurnsSalvaged, IsTurnSalvaged, AreOthersWritten, IsOtherWritten, more, next}

one_more : (objects : List Object) (i : ℕ) (o : Object) → i < length objects → take i objects ++ get_or objects i o ∷ [] ≡ take (i + 1) objects
one_more objects i o within = sym (ap (λ n. take n objects) (add-one i) ∙ take-suc objects i o within)

pub turns_more : (d : Database) (encoding : Encoding) (lost : List ℕ) (places own : Bool) (passed : List Bool) (old : Book) (before : Option (List ℕ)) (objects : List Object) (i : ℕ) (o : Object)
    (mid_passed now_passed : List Bool) (mid new : Book) (at after : Option (List ℕ)) → i < length objects
    → AreTurnsSalvaged d encoding lost places own passed old before (take i objects) mid_passed mid at
    → IsTurnSalvaged d encoding lost places own (get_or objects i o) mid_passed now_passed mid new at after
    → AreTurnsSalvaged d encoding lost places own passed old before (take (i + 1) objects) now_passed new after
turns_more d encoding lost places own passed old before objects i o mid_passed now_passed mid new at after within are is =
    subst (λ (xs : List Object). AreTurnsSalvaged d encoding lost places own passed old before xs now_passed new after) (one_more objects i o within) (more are is)

pub others_more : (virtual : Bool) (encoding : Encoding) (before : Option (List ℕ)) (objects : List Object) (i : ℕ) (o : Object) (mid after : Option (List ℕ)) → i < length objects
    → AreOthersWritten virtual encoding before (take i objects) mid → IsOtherWritten virtual encoding (get_or objects i o) mid after
    → AreOthersWritten virtual encoding before (take (i + 1) objects) after
others_more virtual encoding before objects i o mid after within are is =
    subst (λ (xs : List Object). AreOthersWritten virtual encoding before xs after) (one_more objects i o within) (next (get_or objects i o) are is)
