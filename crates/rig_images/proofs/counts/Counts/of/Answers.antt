use Rattle.std.proofs.Common.{◌<◌, ◌≤◌, Bool, true, false, List, length, get_or, subst}
use Rattle.rig_play.specs.Plays.{files_of}
use Rattle.rig_play.specs.declared.meta.Epoch.{Epoch}
use Rattle.rig_play.specs.declared.meta.Holds.TheVariants.{Any}
use Rattle.rig_images.specs.internal.Adding.{IsAdded}
use Rattle.rig_images.proofs.NumbersOfEpochImages.{one_more, last_more, too_many, last_too_many}
use Rattle.rig_images.proofs.counts.Counts.of.Goals as goal

-- what stands for an epoch behind the last
abbrev behind : Epoch
behind = record { db = Any; wal = Any; journal = Any }

pub returns-then-not-branch : goal.returns-then-not-branch
returns-then-not-branch c =
    let s = files_of c.args.player.now in
    let i = c.loop-epoch.epoch-index in
    let lt : i < length s.earlier = subst (λ (l : List Epoch). i < length l) c.earlier-epoch-items.ensures c.loop-epoch-test.true in
    let added = subst (λ (b : Bool). IsAdded s (get_or c.earlier-epoch-items.result.now i behind) c.args.limit c.loop-epoch.counts c.add.new.self b) c.if-not-branch.true c.in_ok-add.ensures in
    too_many s c.args.limit i behind c.loop-epoch.counts c.add.new.self lt c.loop-epoch.invariant (subst (λ (l : List Epoch). IsAdded s (get_or l i behind) c.args.limit c.loop-epoch.counts c.add.new.self false) c.earlier-epoch-items.ensures added)

pub loop-epoch-preserved : goal.loop-epoch-preserved
loop-epoch-preserved c =
    let s = files_of c.args.player.now in
    let i = c.loop-epoch.epoch-index in
    let lt : i < length s.earlier = subst (λ (l : List Epoch). i < length l) c.earlier-epoch-items.ensures c.loop-epoch-test.true in
    let added = subst (λ (b : Bool). IsAdded s (get_or c.earlier-epoch-items.result.now i behind) c.args.limit c.loop-epoch.counts c.add.new.self b) c.if-not-branch.false c.in_ok-add.ensures in
    one_more s c.args.limit i behind c.loop-epoch.counts c.add.new.self lt c.loop-epoch.invariant (subst (λ (l : List Epoch). IsAdded s (get_or l i behind) c.args.limit c.loop-epoch.counts c.add.new.self true) c.earlier-epoch-items.ensures added)

pub returns-then-not-branch-2 : goal.returns-then-not-branch-2
returns-then-not-branch-2 c =
    let s = files_of c.args.player.now in
    let i = c.loop-epoch.epoch-index in
    let past : length s.earlier ≤ i = subst (λ (l : List Epoch). length l ≤ i) c.earlier-epoch-items.ensures c.loop-epoch-test.false in
    let added = subst (λ (b : Bool). IsAdded s c.epoch.result c.args.limit c.loop-epoch.counts c.add-2.new.self b) c.if-not-branch-2.true c.in_ok-add-2.ensures in
    last_too_many s c.args.limit i c.loop-epoch.counts c.add-2.new.self past c.loop-epoch.invariant (subst (λ (e : Epoch). IsAdded s e c.args.limit c.loop-epoch.counts c.add-2.new.self false) c.epoch.ensures added)

pub returns : goal.returns
returns c =
    let s = files_of c.args.player.now in
    let i = c.loop-epoch.epoch-index in
    let past : length s.earlier ≤ i = subst (λ (l : List Epoch). length l ≤ i) c.earlier-epoch-items.ensures c.loop-epoch-test.false in
    let added = subst (λ (b : Bool). IsAdded s c.epoch.result c.args.limit c.loop-epoch.counts c.add-2.new.self b) c.if-not-branch-2.false c.in_ok-add-2.ensures in
    last_more s c.args.limit i c.loop-epoch.counts c.add-2.new.self past c.loop-epoch.invariant (subst (λ (e : Epoch). IsAdded s e c.args.limit c.loop-epoch.counts c.add-2.new.self true) c.epoch.ensures added)
