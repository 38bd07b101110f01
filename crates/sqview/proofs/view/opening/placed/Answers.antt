use Rattle.std.proofs.Common.{◌≡◌, ◌∙◌, ℕ, refl, sym, subst}
use Rattle.std.specs.Prelude.{Ok, Err}
use Rattle.sqwal.specs.Frames.{IsValidFrame}
use Rattle.sqview.specs.internal.ViewParts.{LimitAnswer}
use Rattle.sqview.specs.Origins.{AreFramePlaces}
use Rattle.sqview.proofs.place.FewPlaces.{frames_kept}
use Rattle.sqview.proofs.place.PlacesOfLastFrames.{view_laid}
use Rattle.sqview.proofs.openings.ShownOrRefusedView.{placed_refused}
use Rattle.sqview.proofs.view.opening.placed.Goals as goal

pub returns-in_err-count-clause-answer : goal.returns-in_err-count-clause-answer
returns-in_err-count-clause-answer g c = λ took named valid size.
    let e = c.in_err-count.field-0.0 in
    let bad : LimitAnswer c.args.limits.bytes c.args.commit.page_size c.args.commit.size (Err e) = subst (λ (n : ℕ). LimitAnswer c.args.limits.bytes c.args.commit.page_size n (Err e)) c.from.ensures c.in_err-count.ensures in
    placed_refused c.args.limits g.F.FileBytes.bytes c.args.commit.page_size c.args.commit.frame c.args.commit.size (g.F.FileBytes.bytes c.args.db) (g.F.FileBytes.bytes c.args.log) c.from_residual.result e c.from_residual.ensures.1 bad

pub returns-clause-answer : goal.returns-clause-answer
returns-clause-answer g c = λ took named valid size.
    let w = g.F.FileBytes.bytes c.args.log in
    let n = c.in_ok-count.count in
    let places = c.in_ok-places.places.items in
    let le : LimitAnswer c.args.limits.bytes c.args.commit.page_size c.args.commit.size (Ok n) = subst (λ (k : ℕ). LimitAnswer c.args.limits.bytes c.args.commit.page_size k (Ok n)) c.from.ensures c.in_ok-count.ensures in
    let count : n ≡ c.args.commit.size = le.0 in
    let are = c.in_ok-places.ensures.places _ w took named (subst (λ (k : ℕ). IsValidFrame k w c.args.commit.frame) (sym named) valid) in
    let are_count : AreFramePlaces c.args.commit.page_size w c.args.commit.frame n places = subst (λ (k : ℕ). AreFramePlaces c.args.commit.page_size w c.args.commit.frame k places) (sym count) are in (
      refl,
      refl,
      le,
      view_laid c.args.commit.page_size w c.args.commit.frame n places are_count valid (g.F.FileBytes.bytes c.args.db) (count ∙ size),
      are_count,
      frames_kept c.args.commit.page_size w c.args.commit.frame c.in_ok-places.places.kept valid c.in_ok-places.ensures.few,
    )
