use Rattle.std.proofs.Common.{◌≡◌, ◌+◌, ◌∷◌, ◌++◌, List, take, drop, get_or, sym, ◌∙◌, ap, subst, IfErr}
use Rattle.std.proofs.lemmas.List.{take_more, drop_more, take-append-drop}
use Rattle.rig_play.specs.Plays.{files_of, Plays, PlaysRefused}
use Rattle.rig_play.specs.declared.trace.Kind.TheVariants.{Base}
use Rattle.rig_play.specs.declared.trace.Subject.TheVariants.{Db}
use Rattle.rig_play.specs.declared.trace.Record.{Record}
use Rattle.rig_play.proofs.PlayedRecords.{plays_more, plays_refused, passed}
use Rattle.rig_play.proofs.player.Player.play_all.Goals as goal

-- what stands for a record behind the last
behind : Record
behind = record { kind = Base; subject = Db; making = 0; thread = 0; answer = 0; place = 0; length = 0; from = 0 }

pub loop-record-preserved : goal.loop-record-preserved
unfolding behind
loop-record-preserved c =
    let trace = c.args.trace.now in
    let records = c.args.records.now in
    let i = c.loop-record.record-index in
    let old = files_of c.args.self.now in
    let new = files_of c.play.new.self in
    subst (λ (played : List Record). Plays trace played old new) (sym (take_more records i behind c.loop-record-test.true))
    (plays_more trace (take i records) (get_or records i behind) old (files_of c.loop-record.self) new c.loop-record.invariant c.in_ok-play.ensures.step)

pub returns-in_err-play-clause-refused : goal.returns-in_err-play-clause-refused
unfolding behind
returns-in_err-play-clause-refused c =
    let trace = c.args.trace.now in
    let records = c.args.records.now in
    let i = c.loop-record.record-index in
    let old = files_of c.args.self.now in
    let whole : take i records ++ get_or records i behind ∷ drop (i + 1) records ≡ records =
    ap (λ l. take i records ++ l) (sym (drop_more records i behind c.loop-record-test.true)) ∙ take-append-drop i records in
    subst (λ (r : _). IfErr r (PlaysRefused trace records old)) (sym (passed c.from_residual.result _ c.from_residual.ensures.1))
    (subst (λ (all : List Record). PlaysRefused trace all old c.in_err-play.field-0.0) whole
    (plays_refused trace (take i records) (drop (i + 1) records) (get_or records i behind) old (files_of c.loop-record.self) _ c.loop-record.invariant c.in_err-play.ensures.refused))
