use Rattle.std.proofs.Common.{Bool, Option, refl, subst}
use Rattle.std.proofs.lemmas.Result.{MatchResult-weaker}
use Rattle.rig_play.specs.Plays.{files_of}
use Rattle.rig_images.specs.declared.torn.Which.{Which}
use Rattle.rig_families.specs.Versions.{named_of}
use Rattle.rig_families.specs.Families.{without}
use Rattle.rig_families.specs.Members.{IsKept}
use Rattle.rig_families.specs.internal.Puts.{IsMade}
use Rattle.rig_families.proofs.PiecesPut.{piece_one, kept_of}
use Rattle.rig_families.proofs.families.Families.put_piece.Goals as goal

pub returns-then-is_but-clause-made : goal.returns-then-is_but-clause-made
returns-then-is_but-clause-made c = λ kept.
    let s = files_of c.args.player.now in
    let now = named_of c.args.self.now.present in
    let w = c.which_by-which.result in
    let here = subst (λ (o : Option Which). IsKept s now o c.args.image.now) (c.if-is_but.ensures.0 refl) kept in
    MatchResult-weaker c.put_one.result c.put_one.ensures.made (λ made put.
    piece_one s now c.args.m c.args.image.now c.put_one.new.image w c.piece_at-piece.result made c.which_by-which.ensures c.piece_at-piece.ensures (c.if-not-is_open.ensures.0 refl) here put c.put_one.ensures.others)
    (λ e no. tt)

pub returns-then-made-clause-kept : goal.returns-then-made-clause-kept
returns-then-made-clause-kept c = λ kept.
    let s = files_of c.args.player.now in
    let now = named_of c.args.self.now.present in
    let w = c.which_by-which.result in
    let p = c.piece_at-piece.result in
    let image = c.put_without.new.image in
    let is = subst (λ (b : Bool). IsMade s (without w p now) image b) c.if-made.true c.in_ok-made.ensures in
    kept_of s now w p image is.0 is.1
