-- Pages of a database file that are known to be as a commit has them.
use Rattle.std.proofs.Common.{◌≡◌, inl, inr, ℕ, ◌+◌, ◌<◌, Bool, true, false, List, [], get_or, set, replicate, sym, ◌∙◌, ap, subst, arith}
use Rattle.std.proofs.lemmas.Bool.{cases_eq, cases_lt}
use Rattle.std.proofs.lemmas.List.{get_or-replicate, get_or_past, get_or-set_other, length-replicate}
use Rattle.sqval.specs.Database.{page, file_page}
use Rattle.sqview.specs.Laid.{place_of, laid}
use Rattle.sqview.proofs.openings.PagesOfView.{page_laid, laid_own}
use Rattle.rig_judge.specs.Near.{IsNear}
use Rattle.rig_judge.specs.Shown.{Commit, AgreesAt}
use Rattle.rig_judge.specs.declared.near.Near.{Near}

-- none is known to be
pub known_none : (items : List Bool) (i : ℕ) → items ≡ [] → get_or items i false ≡ true → ⊥
known_none items i e is =
    let none : List Bool = [] in
    let no : false ≡ true = sym (get_or_past none i false (omega arith)) ∙ sym (ap (λ (l : List Bool). get_or l i false) e) ∙ is in
    cc

none_of : (n i : ℕ) → get_or (replicate n false) i false ≡ false
none_of n i = elim (cases_lt i n) [
  | inl less ↦ get_or-replicate n i false false less
  | inr past ↦ get_or_past (replicate n false) i false (omega (arith, length-replicate n false, past))
]

pub known_new : (items : List Bool) (n i : ℕ) → items ≡ replicate n false → get_or items i false ≡ true → ⊥
known_new items n i e is = let no : false ≡ true = sym (none_of n i) ∙ sym (ap (λ (l : List Bool). get_or l i false) e) ∙ is in cc

-- one more is
pub near_more : (c : Commit) (db : List ℕ) (old new : Near) (i : ℕ) → new.size ≡ old.size → new.same.items ≡ set old.same.items i true → IsNear c db old
    → file_page old.size db (i + 1) ≡ page c.pages (i + 1) → IsNear c db new
near_more c db old new i size made was here j e =
    let Is : ℕ → Type 0 = λ n. file_page n db (j + 1) ≡ page c.pages (j + 1) in
    subst Is (sym size) (elim (cases_eq j i) [
      | inl at ↦ subst (λ (k : ℕ). file_page old.size db (k + 1) ≡ page c.pages (k + 1)) (sym at) here
      | inr other ↦ was j (sym (get_or-set_other old.same.items i j true false other) ∙ sym (ap (λ (l : List Bool). get_or l j false) made) ∙ e)
    ])

-- page i + 1 of a view is the file's where the log has none
own_page : (size count : ℕ) (file log places : List ℕ) (i : ℕ) → i < count → place_of places (i + 1) ≡ 0 → page (laid size count file log places) (i + 1) ≡ file_page size file (i + 1)
own_page size count file log places i less own = page_laid size count file log places (i + 1) (omega arith) (omega arith) ∙ laid_own size file log places (i + 1) own

-- so where it is known to be the commit's it agrees
pub known_agrees : (c : Commit) (near : Near) (size count : ℕ) (file log places : List ℕ) (i : ℕ) → i < count → near.size ≡ size → IsNear c file near → place_of places (i + 1) ≡ 0
    → get_or near.same.items i false ≡ true → AgreesAt c (i + 1) (page (laid size count file log places) (i + 1))
known_agrees c near size count file log places i less same is own flag =
    inl (own_page size count file log places i less own ∙ ap (λ (n : ℕ). file_page n file (i + 1)) (sym same) ∙ is i flag)

-- and where it was read and is the commit's it may be known to be
pub known_too : (c : Commit) (near size count : ℕ) (file log places : List ℕ) (i : ℕ) (bytes : List ℕ) → i < count → near ≡ size → place_of places (i + 1) ≡ 0
    → bytes ≡ page (laid size count file log places) (i + 1) → bytes ≡ page c.pages (i + 1) → file_page near file (i + 1) ≡ page c.pages (i + 1)
known_too c near size count file log places i bytes less same own read is =
    ap (λ (n : ℕ). file_page n file (i + 1)) same ∙ sym (own_page size count file log places i less own) ∙ sym read ∙ is
