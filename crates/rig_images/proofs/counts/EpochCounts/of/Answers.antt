use Rattle.std.proofs.Common.{◌≡◌, ℕ, ◌*◌, ◌<◌, ◌∙◌, ap, subst, arith}
use Rattle.rig_play.specs.Names.{NameState, name_of}
use Rattle.rig_play.specs.Plays.{files_of}
use Rattle.rig_images.specs.Ways.{name_ways}
use Rattle.rig_images.proofs.CountsOfWays.{some_name, above_logs, above_one, above_two, above_three}
use Rattle.rig_images.proofs.counts.EpochCounts.of.Goals as goal

pub returns-in_default : goal.returns-in_default
returns-in_default c =
    let s = files_of c.args.player.now in
    let e = c.args.epoch in
    above_one c.args.limit (name_ways s.db e.db) (name_ways s.wal e.wal) (name_ways s.journal e.journal) (subst (λ (n : NameState). c.args.limit < name_ways n e.db) c.db.ensures c.in_default.ensures) (some_name s.wal e.wal) (some_name s.journal e.journal)

pub returns-in_default-name_count : goal.returns-in_default-name_count
returns-in_default-name_count c =
    let s = files_of c.args.player.now in
    let e = c.args.epoch in
    above_two c.args.limit (name_ways s.db e.db) (name_ways s.wal e.wal) (name_ways s.journal e.journal) (subst (λ (n : NameState). c.args.limit < name_ways n e.wal) c.wal.ensures c.in_default-name_count.ensures) (some_name s.db e.db) (some_name s.journal e.journal)

pub returns-in_default-name_count-2 : goal.returns-in_default-name_count-2
returns-in_default-name_count-2 c =
    let s = files_of c.args.player.now in
    let e = c.args.epoch in
    above_three c.args.limit (name_ways s.db e.db) (name_ways s.wal e.wal) (name_ways s.journal e.journal) (subst (λ (n : NameState). c.args.limit < name_ways n e.journal) c.journal.ensures c.in_default-name_count-2.ensures) (some_name s.db e.db) (some_name s.wal e.wal)

pub returns-in_default-times : goal.returns-in_default-times
returns-in_default-times c =
    let s = files_of c.args.player.now in
    let e = c.args.epoch in
    let wal : c.in-Some-name_count.wal ≡ name_ways s.wal e.wal = c.in-Some-name_count.ensures.0 ∙ ap (λ (n : NameState). name_ways n e.wal) c.wal.ensures in
    let journal : c.in-Some-name_count-2.journal ≡ name_ways s.journal e.journal = c.in-Some-name_count-2.ensures.0 ∙ ap (λ (n : NameState). name_ways n e.journal) c.journal.ensures in
    let product : c.in-Some-name_count.wal * c.in-Some-name_count-2.journal ≡ name_ways s.wal e.wal * name_ways s.journal e.journal =
    ap (λ (x : ℕ). x * c.in-Some-name_count-2.journal) wal ∙ ap (λ (y : ℕ). name_ways s.wal e.wal * y) journal in
    above_logs c.args.limit (name_ways s.db e.db) (name_ways s.wal e.wal * name_ways s.journal e.journal) (subst (λ (n : ℕ). c.args.limit < n) product c.in_default-times.ensures) (some_name s.db e.db)

pub invariant_of-result : goal.invariant_of-result
invariant_of-result c = record {
  some_db = omega (arith, c.in-Some.ensures.0, some_name (name_of c.db.result.now) c.args.epoch.db);
  some_wal = omega (arith, c.in-Some-name_count.ensures.0, some_name (name_of c.wal.result.now) c.args.epoch.wal);
}
