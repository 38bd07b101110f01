-- Where a run begins (own).
use Rattle.std.specs.Prelude.{◌≡◌, ℕ, Bool}
use Rattle.sqval.specs.Database.{Database}
use Rattle.sqworld.specs.Pages.{pages_of}
use Rattle.sqworld.specs.declared.base.Base.{Base}

-- what a base is made of
pub record IsBaseOf (size sector : ℕ) (tears : Bool) (pages : Database) (base : Base) : Type 0 where
  pub page_size : base.page_size ≡ size
  pub sector_is : base.sector ≡ sector
  pub tears_is : base.tears ≡ tears
  pub pages_are : pages_of base.pages.items ≡ pages
