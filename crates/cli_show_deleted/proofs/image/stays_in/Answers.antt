use Rattle.std.proofs.Common.{◌≡◌, ◌∙◌, ⊎_elim, IsTrue, ℕ, ◌+◌, ◌-◌, min, List, length, take, drop, sym, ap, subst, arith}
use Rattle.std.proofs.lemmas.Bool.{cases_lt}
use Rattle.std.proofs.lemmas.List.{drop_all, take_min}
use Rattle.std.specs.Cmp.Lexicographic.{bytes_decides}
use Rattle.sqval.specs.Bytes.{part}
use Rattle.cli_show_deleted.proofs.TurnsOfCells.{rest_is}
use Rattle.cli_show_deleted.proofs.image.stays_in.Goals as goal

-- as many bytes from a place on as there are
behind : (at : ℕ) (shown : List ℕ) → drop (min at (length shown)) shown ≡ drop at shown
behind at shown = ⊎_elim
    (λ less. let e : min at (length shown) ≡ at = omega (arith, less) in ap (λ (n : ℕ). drop n shown) e)
    (λ most. let e : min at (length shown) ≡ length shown = omega (arith, most) in
    ap (λ (n : ℕ). drop n shown) e ∙ drop_all (length shown) shown (omega arith) ∙ sym (drop_all at shown most))
    (cases_lt at (length shown))

there : (at size from many : ℕ) (shown : List ℕ) → from ≡ min at (length shown) → many ≡ min size (length (take (length shown - from) (drop from shown)))
    → take many (take (length shown - from) (drop from shown)) ≡ part shown at size
there at size from many shown first last =
    let rest : take (length shown - from) (drop from shown) ≡ drop at shown = rest_is from shown ∙ ap (λ (n : ℕ). drop n shown) first ∙ behind at shown in
    ap (λ (n : ℕ). take n (take (length shown - from) (drop from shown))) last
    ∙ ap (λ (l : List ℕ). take (min size (length l)) l) rest ∙ take_min size (drop at shown)

pub returns : goal.returns
returns c =
    let cell = c.args.cell.now in
    let used = c.args.used.now in
    let shown = c.args.shown.now in
    let is = there cell.at cell.size c.min.result c.min-2.result shown c.min.ensures c.min-2.ensures in
    let many : cell.at + cell.size - cell.at ≡ cell.size = omega arith in
    let own = ap (λ (n : ℕ). take n (drop cell.at used)) many in
    let told = bytes_decides (take (cell.at + cell.size - cell.at) (drop cell.at used)) (take c.min-2.result (take (length shown - c.min.result) (drop c.min.result shown))) in (
      λ yes. sym own ∙ told.0 (subst IsTrue c.eq.ensures yes) ∙ is,
      λ same. subst IsTrue (sym c.eq.ensures) (told.1 (own ∙ same ∙ sym is)),
    )
