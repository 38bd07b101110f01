use Rattle.std.proofs.Common.{Bool, [], ◌∷◌, cond, subst}
use Rattle.std.proofs.lemmas.Result.{IfOk-weaker, MatchResult-from_both}
use Rattle.rig_store.specs.Left.{image_of}
use Rattle.sqcrash_store.specs.Judged.{Judged, Keeps}
use Rattle.sqcrash_store.proofs.KeptImages.{keeps_none}
use Rattle.sqcrash_store.proofs.survey.keep_one.Goals as goal

pub returns-then-not-is_kept : goal.returns-then-not-is_kept
returns-then-not-is_kept g c =
    let old = g.J.Judge.kept c.args.judge.now in
    let x : Judged = record { image = image_of c.args.image.now; found = c.args.found.now } in
    subst (λ (b : Bool). Keeps old old (cond b (x ∷ []) [])) c.if-not-is_kept.ensures (keeps_none old)

pub returns : goal.returns
returns g c =
    let old = g.J.Judge.kept c.args.judge.now in
    let new = g.J.Judge.kept c.keep.new.self in
    let x : Judged = record { image = image_of c.args.image.now; found = c.args.found.now } in
    MatchResult-from_both c.keep.result _ _
    (IfOk-weaker c.keep.result _ _ (λ done is. subst (λ (b : Bool). Keeps old new (cond b (x ∷ []) [])) c.if-not-is_kept.ensures is) c.keep.ensures.kept) c.keep.ensures.refused
