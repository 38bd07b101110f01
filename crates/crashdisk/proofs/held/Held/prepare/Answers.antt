use Rattle.crashdisk.proofs.Between.{FileState, IfOk, IsListOf, List, Touches, [], all_there, ap, arith, file_by, grown_same, held_grown, if_ok, length, replicate, subst, ℕ, ◌++◌, ◌-◌, ◌∙◌, ◌∷◌, ◌≡◌}
use Rattle.crashdisk.proofs.held.Held.prepare.Goals as goal

-- what is listed is the same with more sectors of zeros
same : (sector m len least greatest : ℕ) (xs ys : List (List (List ℕ))) → ys ≡ xs ++ replicate m (replicate sector 0 ∷ []) → file_by sector ys len least greatest ≡ file_by sector xs len least greatest
same sector m len least greatest xs ys is = ap (λ (l : List (List (List ℕ))). file_by sector l len least greatest) is ∙ grown_same sector m len least greatest xs

pub returns-in_err-grow-clause-same : goal.returns-in_err-grow-clause-same
returns-in_err-grow-clause-same c =
    let old = c.args.self.now in
    same c.args.sector (length c.grow.new.sectors.items - length old.sectors.items) old.len old.least old.greatest old.sectors.items c.grow.new.sectors.items c.in_err-grow.ensures.grown

pub returns-in_err-grow-clause-held : goal.returns-in_err-grow-clause-held
returns-in_err-grow-clause-held c = held_grown c.args.sector c.args.change.now.to c.args.self.now _ c.requires.held c.requires.suits.to c.grow.ensures.grown (omega (arith, c.needed.ensures.within, c.grow.ensures.bounded))

pub returns-clause-held : goal.returns-clause-held
returns-clause-held c = held_grown c.args.sector c.args.change.now.to c.args.self.now _ c.requires.held c.requires.suits.to c.grow.ensures.grown (omega (arith, c.needed.ensures.within, c.grow.ensures.bounded))

pub returns-clause-same : goal.returns-clause-same
returns-clause-same c =
    let old = c.args.self.now in
    same c.args.sector (length c.grow.new.sectors.items - length old.sectors.items) old.len old.least old.greatest old.sectors.items c.grow.new.sectors.items c.grow.ensures.grown

pub returns-clause-list : goal.returns-clause-list
returns-clause-list c =
    let old = c.args.self.now in
    let change = c.args.change.now in
    let now = c.grow.new.sectors.items in
    let is = same c.args.sector (length now - length old.sectors.items) old.len 0 0 old.sectors.items now c.grow.ensures.grown in
    if_ok _ _ c.touched.result (λ v all. (
      subst (λ (s : FileState). IsListOf (Touches c.args.sector s change.from change.to change.end) v.items) is all,
      all_there c.args.sector change.from change.to change.end old.len now v.items c.requires.held.positive (λ some. omega (arith, c.in_ok-grow.ensures.enough, c.needed.ensures.enough some)) all,
    )) (subst (λ l. IfOk c.touched.result (λ v. IsListOf (Touches c.args.sector (file_by c.args.sector l old.len 0 0) change.from change.to change.end) v.items)) c.deref.ensures.value c.touched.ensures)
