-- What a source keeps over no step, and over two.
use Rattle.std.proofs.Common.{◌∙◌, ℕ, refl}
use Rattle.sqval.specs.Database.{Database}
use Rattle.sqpage.specs.Source.{KeepsPages}

pub kept_same : {A : Type 0} (pages : A → Database) (size : A → ℕ) (right gives : A → Type 0) (a : A) → KeepsPages pages size right gives a a
kept_same pages size right gives a = record {
  still_right = λ r. r;
  still_gives = λ g. g;
  same_pages = refl;
  same_size = refl;
}

pub kept_more : {A : Type 0} (pages : A → Database) (size : A → ℕ) (right gives : A → Type 0) (a b c : A)
    → KeepsPages pages size right gives a b → KeepsPages pages size right gives b c → KeepsPages pages size right gives a c
kept_more pages size right gives a b c x y = record {
  still_right = λ r. y.still_right (x.still_right r);
  still_gives = λ g. y.still_gives (x.still_gives g);
  same_pages = y.same_pages ∙ x.same_pages;
  same_size = y.same_size ∙ x.same_size;
}
