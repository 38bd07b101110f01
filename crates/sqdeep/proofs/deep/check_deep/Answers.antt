use Rattle.std.proofs.Common.{refl, sym, subst}
use Rattle.sqval.specs.Database.{Database}
use Rattle.sqcheck.proofs.checks.ResultsOfCalls.{exits}
use Rattle.sqdeep.specs.declared.fault.DeepError.TheVariants.{Check}
use Rattle.sqdeep.specs.Forms.{AreIllFormed}
use Rattle.sqdeep.specs.Inside.{IsSoundInside, DeepRefused, RefutesSound}
use Rattle.sqdeep.specs.internal.Judging.{Tells, HasSoundTrees}
use Rattle.sqdeep.specs.internal.Uses.{AreUses}
use Rattle.sqdeep.proofs.Refusals.{refused_by, refuted, tells_of}
use Rattle.sqdeep.proofs.SoundTrees.{sound_trees}
use Rattle.sqdeep.proofs.deep.check_deep.Goals as goal

pub judge_snapshot-requires : goal.judge_snapshot-requires
judge_snapshot-requires g c = (refl, refl, λ right. right, λ given. given)

pub returns-in-Err-clause-none : goal.returns-in-Err-clause-none
returns-in-Err-clause-none g c = λ right.
    let d = g.S.PageSource.pages c.args.source.now in
    let size = g.S.PageSource.size c.args.source.now in
    refuted (g.S.PageSource.gives_pages c.args.source.now) c.args.options.pointer_maps d size (Check c.in-Err.refusal) (c.in-Err.ensures.err right)

pub returns-clause-ok : goal.returns-clause-ok
returns-clause-ok g c = λ right.
    let d = g.S.PageSource.pages c.args.source.now in
    let size = g.S.PageSource.size c.args.source.now in
    let k = c.in-Ok.ensures.keeps in
    let v = c.in-Ok.ensures.ok right in
    let trees = subst HasSoundTrees (sym k.same_pages) (sound_trees c.args.options.pointer_maps d size v.0) in
    let uses = subst (λ (q : Database). AreUses q c.in-Ok.found.trees.uses.items) (sym k.same_pages) v.2 in
    (v.0, v.1, subst IsSoundInside k.same_pages (c.in_ok-ill_formed.ensures.ok (k.still_right right) trees uses))

pub returns-clause-forms : goal.returns-clause-forms
returns-clause-forms g c = λ right.
    let d = g.S.PageSource.pages c.args.source.now in
    let size = g.S.PageSource.size c.args.source.now in
    let k = c.in-Ok.ensures.keeps in
    let v = c.in-Ok.ensures.ok right in
    let trees = subst HasSoundTrees (sym k.same_pages) (sound_trees c.args.options.pointer_maps d size v.0) in
    let uses = subst (λ (q : Database). AreUses q c.in-Ok.found.trees.uses.items) (sym k.same_pages) v.2 in
    subst (λ (q : Database). AreIllFormed q c.in_ok-ill_formed.ill_formed) k.same_pages (c.in_ok-ill_formed.ensures.counted (k.still_right right) trees uses)

pub returns-in_err-ill_formed-clause-err : goal.returns-in_err-ill_formed-clause-err
returns-in_err-ill_formed-clause-err g c = λ right.
    let d = g.S.PageSource.pages c.args.source.now in
    let size = g.S.PageSource.size c.args.source.now in
    let given = g.S.PageSource.gives_pages c.args.source.now in
    let now = g.S.PageSource.gives_pages c.find_trees.new.source in
    let maps = c.args.options.pointer_maps in
    let k = c.in-Ok.ensures.keeps in
    let v = c.in-Ok.ensures.ok right in
    let e = c.in_err-ill_formed.field-0.0 in
    let trees = subst HasSoundTrees (sym k.same_pages) (sound_trees maps d size v.0) in
    let uses = subst (λ (q : Database). AreUses q c.in-Ok.found.trees.uses.items) (sym k.same_pages) v.2 in
    let tells = subst (λ (q : Database). Tells now q e) k.same_pages (c.in_err-ill_formed.ensures.err (k.still_right right) trees uses) in
    exits (DeepRefused given maps d size) e c.from_residual.result c.from_residual.ensures.1 (refused_by given maps d size e v.0 (tells_of given now d e k.still_gives tells))

pub returns-in_err-ill_formed-clause-none : goal.returns-in_err-ill_formed-clause-none
returns-in_err-ill_formed-clause-none g c = λ right.
    let d = g.S.PageSource.pages c.args.source.now in
    let size = g.S.PageSource.size c.args.source.now in
    let given = g.S.PageSource.gives_pages c.args.source.now in
    let now = g.S.PageSource.gives_pages c.find_trees.new.source in
    let maps = c.args.options.pointer_maps in
    let k = c.in-Ok.ensures.keeps in
    let v = c.in-Ok.ensures.ok right in
    let e = c.in_err-ill_formed.field-0.0 in
    let trees = subst HasSoundTrees (sym k.same_pages) (sound_trees maps d size v.0) in
    let uses = subst (λ (q : Database). AreUses q c.in-Ok.found.trees.uses.items) (sym k.same_pages) v.2 in
    let tells = subst (λ (q : Database). Tells now q e) k.same_pages (c.in_err-ill_formed.ensures.err (k.still_right right) trees uses) in
    exits (RefutesSound maps d size) e c.from_residual.result c.from_residual.ensures.1 (refuted given maps d size e (refused_by given maps d size e v.0 (tells_of given now d e k.still_gives tells)))
