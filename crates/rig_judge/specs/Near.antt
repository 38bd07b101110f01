-- Which pages of a database file are known to be as a commit has them (own).
use Rattle.std.specs.Prelude.{◌≡◌, ℕ, ◌+◌, ◌-◌, true, false, List, length, get_or}
use Rattle.sqval.specs.Database.{page, file_page}
use Rattle.rig_judge.specs.Shown.{Commit, nth}
use Rattle.rig_judge.specs.declared.near.Near.{Near}

-- each page that is known to be has the commit's bytes; it is page i + 1
abbrev pub IsNear : Commit → (db : List ℕ) → Near → Type 0
IsNear c db near = (i : ℕ) → get_or near.same.items i false ≡ true → file_page near.size db (i + 1) ≡ page c.pages (i + 1)

-- the last commit; of none the one of no pages
abbrev pub last_of : List Commit → Commit
last_of commits = nth commits (length commits - 1)
