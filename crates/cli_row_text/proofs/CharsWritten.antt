-- Characters that are written one by one.
use Rattle.std.proofs.Common.{◌≡◌, ℕ, List, ◌++◌, sym, subst, Option}
use Rattle.std.specs.Io.KnownBytes.{Appends}
use Rattle.std.specs.List.{flat_map}
use Rattle.std.proofs.KnownBytes.{Appends-trans}
use Rattle.std.proofs.lemmas.Grind.{flat_map-append}

pub chars_more : (f : ℕ → List ℕ) (done more : List ℕ) (old now new : Option (List ℕ)) → Appends old now (flat_map f done) → Appends now new (flat_map f more) → Appends old new (flat_map f (done ++ more))
chars_more f done more old now new before one =
    subst (λ z. Appends old new z) (sym (flat_map-append f done more)) (Appends-trans old now new (flat_map f done) (flat_map f more) before one)
