-- A tree has one list of cells.
use Rattle.std.proofs.Common.{◌≡◌, ℕ, zero, suc, Bool, List, [], ◌∷◌, ◌++◌, sym, ap, ◌∙◌, subst, arith}
use Rattle.sqval.specs.Database.{Database}
use Rattle.sqpage.specs.Lists.{each_from}
use Rattle.sqpage.specs.Page.{Page, is_table, cell_count}
use Rattle.sqcheck.specs.Places.{page_as}
use Rattle.sqrows.specs.declared.level.Step.{Step}
use Rattle.sqrows.specs.declared.level.Step.TheVariants.{Cell as OwnCell, Child}
use Rattle.sqrows.specs.Trees.{Entry, entry_of, IsTree, step_count, step_of, Along, Lists}
use Rattle.sqrows.proofs.moves.StepsOfPage.{child_once, entry_once, kind_once}
use Rattle.sqrows.proofs.moves.FirstLevel.{root_of}

joined : (a b c e : List Entry) → a ≡ c → b ≡ e → a ++ b ≡ c ++ e
joined a b c e p q = cc

along_once : (B : (p k : ℕ) → List Entry → Type 0) → ((p k m : ℕ) (xs ys : List Entry) → B p k xs → B p m ys → (k ≡ m) × (xs ≡ ys))
    → (b : Page) (steps : List Step) (k m : ℕ) (xs ys : List Entry) → Along B b steps k xs → Along B b steps m ys → (k ≡ m) × (xs ≡ ys)
along_once B once b [] k m xs ys x y = (x.0 ∙ sym y.0, x.1 ∙ sym y.1)
along_once B once b (OwnCell i ∷ steps) k m xs ys x y =
    let e : entry_of i x.0 ≡ entry_of i y.0 = entry_once b i x.0 y.0 x.2 y.2 in
    let r = along_once B once b steps k m x.1 y.1 x.4 y.4 in
    (r.0, x.3 ∙ ap (λ z. z ∷ x.1) e ∙ ap (λ z. entry_of i y.0 ∷ z) r.1 ∙ sym y.3)
along_once B once b (Child i ∷ steps) k m xs ys x y =
    let p = child_once b i x.0 y.0 x.5 y.5 in
    let f = once y.0 x.1 y.1 x.3 y.3 (subst (λ q. B q x.1 x.3) p x.6) y.6 in
    let r = along_once B once b steps x.2 y.2 x.4 y.4 x.7 y.7 in
    let count : k ≡ m = let a = x.8 in let b = y.8 in let c = f.0 in let e = r.0 in omega (arith, a, b, c, e) in
    (count, x.9 ∙ joined x.3 x.4 y.3 y.4 f.1 r.1 ∙ sym y.9)

lists_once : (d : Database) (table : Bool) (levels p k m : ℕ) (xs ys : List Entry) → Lists d table levels p k xs → Lists d table levels p m ys → (k ≡ m) × (xs ≡ ys)
lists_once d table zero p k m xs ys x y = absurd x
lists_once d table (suc levels) p k m xs ys x y =
    let same = kind_once x.0 y.0 (sym x.3 ∙ y.3) in
    let along = subst (λ kind. Along (Lists d table levels) (page_as d kind p) (each_from 0 (step_count kind (cell_count (page_as d kind p))) (step_of kind)) x.1 xs) same x.7 in
    let r = along_once (Lists d table levels) (λ p k m xs ys. lists_once d table levels p k m xs ys) (page_as d y.0 p) (each_from 0 (step_count y.0 (cell_count (page_as d y.0 p))) (step_of y.0)) x.1 y.1 xs ys along y.7 in
    (x.6 ∙ ap (λ n. suc n) r.0 ∙ sym y.6, r.1)

pub tree_once : (d : Database) (root : ℕ) (xs ys : List Entry) → IsTree d root xs → IsTree d root ys → xs ≡ ys
tree_once d root xs ys x y =
    let a = root_of d root xs x in
    let b = root_of d root ys y in
    let same = kind_once a.kind b.kind (sym a.typed ∙ b.typed) in
    let along = subst (λ kind. Along (Lists d a.table 19) (page_as d kind root) (each_from 0 (step_count kind (cell_count (page_as d kind root))) (step_of kind)) a.below xs) same a.along in
    let table : a.table ≡ b.table = sym a.same ∙ ap (λ k. is_table k) same ∙ b.same in
    let along' = subst (λ t. Along (Lists d t 19) (page_as d b.kind root) (each_from 0 (step_count b.kind (cell_count (page_as d b.kind root))) (step_of b.kind)) a.below xs) table along in
    (along_once (Lists d b.table 19) (λ p k m xs ys. lists_once d b.table 19 p k m xs ys) (page_as d b.kind root) (each_from 0 (step_count b.kind (cell_count (page_as d b.kind root))) (step_of b.kind)) a.below b.below xs ys along' b.along).1
