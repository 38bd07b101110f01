use Rattle.std.proofs.Common.{◌≡◌, ◌≤◌, ◌⊎◌, length, ⊎_elim, subst, arith}
use Rattle.std.proofs.lemmas.Bool.{eq-eqb, eqb-true}
use Rattle.sqpage.specs.Freelist.{IsPage}
use Rattle.sqwal.specs.View.{IsLast, Unnamed}
use Rattle.sqview.specs.LogView.{pages_of}
use Rattle.sqview.specs.Origins.{IsFrameOrigin}
use Rattle.sqview.proofs.openings.PagesOfView.{length_laid}
use Rattle.cli_show_frames.proofs.FramesShown.{last_shows, none_shows}
use Rattle.cli_show_frames.proofs.SlotsRead.{never}
use Rattle.cli_show_frames.proofs.shown.is_shown.Goals as goal

pub returns-in-Frame : goal.returns-in-Frame
returns-in-Frame g c = λ has names.
    let v = c.args.view.now in
    let bytes = g.F.FileBytes.bytes in
    let d = pages_of bytes v in
    let all : length d ≡ v.count = length_laid v.page_size v.count (bytes v.db) (bytes v.log) v.places.items in
    let one : 1 ≤ v.front = omega (arith, c.if-front-eq0.false, c.front.ensures) in
    let most : c.args.page ≤ v.count = omega (arith, c.if-page-count.false, c.count.ensures, all) in
    let is : IsPage d c.args.page = (omega (arith, c.if-page-eq0.false), omega (arith, most, all)) in
    let last : IsLast v.page_size (bytes v.log) v.front c.args.page c.in-Frame.frame = c.in-Frame.ensures.frame one (bytes v.log) most (has one) in
    let shows = last_shows v.page_size (bytes v.log) v.front d c.args.page c.args.i c.in-Frame.frame names is last in
    (λ yes. shows.0 (eqb-true c.in-Frame.frame c.args.i yes), λ shown. eq-eqb c.in-Frame.frame c.args.i (shows.1 shown))

pub returns-in-File : goal.returns-in-File
returns-in-File g c = λ has names.
    let v = c.args.view.now in
    let bytes = g.F.FileBytes.bytes in
    let w = bytes v.log in
    let d = pages_of bytes v in
    let all : length d ≡ v.count = length_laid v.page_size v.count (bytes v.db) (bytes v.log) v.places.items in
    let one : 1 ≤ v.front = omega (arith, c.if-front-eq0.false, c.front.ensures) in
    let most : c.args.page ≤ v.count = omega (arith, c.if-page-count.false, c.count.ensures, all) in
    let from = c.origin.ensures.frame one w most (has one) in
    let none : Unnamed v.page_size w v.front c.args.page = ⊎_elim
    (λ file. subst (IsFrameOrigin v.page_size w v.front c.args.page) file from)
    (λ recorded. absurd (subst (IsFrameOrigin v.page_size w v.front c.args.page) recorded.1 from)) c.in-File.is in
    (λ yes. absurd (never yes), λ shown. absurd (none_shows v.page_size w v.front d c.args.page c.args.i names none shown))
