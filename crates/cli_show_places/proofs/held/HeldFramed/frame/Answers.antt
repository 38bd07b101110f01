use Rattle.std.proofs.Common.{◌≡◌, ◌⊎◌, ◌∙◌, ◌≤◌, ◌<◌, Some, None, inl, inr, ⊎_elim, sym, ap, subst, arith}
use Rattle.sqview.proofs.openings.PagesOfView.{length_laid}
use Rattle.sqview.specs.Shapes.{Shape}
use Rattle.cli_show_places.specs.internal.Seen.{IsKnown, frame_told, frames_in}
use Rattle.cli_show_places.proofs.FramesOfView.{none_among, told_frame}
use Rattle.cli_show_places.proofs.held.HeldFramed.frame.Goals as goal
use Rattle.cli_show_places.proofs.held.HeldFramed.frame.Goals.{then-p-eq0-via-then-p-eq0, then-p-eq0-via-else-p-eq0+then-p-count}

pub returns-then-p-eq0 : goal.returns-then-p-eq0
returns-then-p-eq0 g c =
    let v = c.args.self.now.view in
    let bytes = g.F.FileBytes.bytes in
    let all = length_laid v.page_size v.count (bytes v.db) (bytes v.log) v.places.items in
    let out : (c.args.p ≡ 0) ⊎ (v.count < c.args.p) = elim c.then-p-eq0.branch [
      | then-p-eq0-via-then-p-eq0 w ↦ inl w.if-p-eq0.true
      | then-p-eq0-via-else-p-eq0+then-p-count w ↦ inr (omega (arith, w.if-p-count.true, w.count.ensures, all))
    ] in
    subst (λ (s : Shape). IsKnown s → None ≡ frames_in s c.args.p) c.args.self.now.same
    (λ known. sym (none_among v.page_size v.front v.count v.places.items c.args.p (λ one. (known one).1.long) out))

pub returns-in-Frame : goal.returns-in-Frame
returns-in-Frame g c =
    let v = c.args.self.now.view in
    let bytes = g.F.FileBytes.bytes in
    let one : 1 ≤ c.args.p = omega (arith, c.if-p-eq0.false) in
    let most : c.args.p ≤ v.count = omega (arith, c.if-p-count.false, c.count.ensures, length_laid v.page_size v.count (bytes v.db) (bytes v.log) v.places.items) in
    subst (λ (s : Shape). IsKnown s → Some c.in-Frame.frame ≡ frames_in s c.args.p) c.args.self.now.same
    (λ known. ap frame_told (sym c.in-Frame.is) ∙ told_frame v.page_size v.front v.count v.places.items c.args.p c.origin.result one most known c.origin.ensures.frame c.origin.ensures.record)

pub returns-in-File : goal.returns-in-File
returns-in-File g c =
    let v = c.args.self.now.view in
    let bytes = g.F.FileBytes.bytes in
    let one : 1 ≤ c.args.p = omega (arith, c.if-p-eq0.false) in
    let most : c.args.p ≤ v.count = omega (arith, c.if-p-count.false, c.count.ensures, length_laid v.page_size v.count (bytes v.db) (bytes v.log) v.places.items) in
    let none : frame_told c.origin.result ≡ None = ⊎_elim (λ file. ap frame_told file) (λ recorded. ap frame_told recorded.1) c.in-File.is in
    subst (λ (s : Shape). IsKnown s → None ≡ frames_in s c.args.p) c.args.self.now.same
    (λ known. sym none ∙ told_frame v.page_size v.front v.count v.places.items c.args.p c.origin.result one most known c.origin.ensures.frame c.origin.ensures.record)
