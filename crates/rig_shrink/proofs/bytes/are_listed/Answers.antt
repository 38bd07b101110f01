use Rattle.std.proofs.Common.{◌≡◌, inl, inr, ℕ, ◌/◌, ◌≤◌, length, true, false, refl, sym, ◌∙◌, ap, below_more, arith}
use Rattle.std.proofs.Math.Nat.{div-le_self}
use Rattle.std.proofs.lemmas.Bool.{cases_lt}
use Rattle.crashdisk.specs.Model.{state_of}
use Rattle.crashdisk.specs.State.{OneListed}
use Rattle.crashdisk.specs.internal.SoundModel.{size_positive}
use Rattle.crashdisk.proofs.sector.PlacesInSectors.{sector_le}
use Rattle.rig_shrink.proofs.SectorsByValue.{listed_behind}
use Rattle.rig_shrink.proofs.bytes.are_listed.Goals as goal

pub overflow_add-stop : goal.overflow_add-stop
overflow_add-stop c = omega (arith, div-le_self (length c.args.bytes.now) c.sector-sector.result)

pub is_listed-requires-clause-within : goal.is_listed-requires-clause-within
is_listed-requires-clause-within c =
    let s = state_of c.args.disk.now in
    let bytes = c.args.bytes.now in
    let e : length bytes / c.sector-sector.result ≡ length bytes / s.sector = ap (λ (y : ℕ). length bytes / y) (c.sector-sector.ensures.answer tt) in
    let le : length bytes / s.sector ≤ s.db.greatest / s.sector = sector_le s.sector (length bytes) s.db.greatest (size_positive s.sector c.args.disk.now.is_size).0 c.requires.long in
    omega (arith, e, le, c.loop-k-test.true)

pub returns-then-not-is_listed : goal.returns-then-not-is_listed
returns-then-not-is_listed c = (
  λ no. absurd (cc no),
  λ all. let no : true ≡ false = sym (c.is_listed.ensures.1 (all c.loop-k.k)) ∙ c.if-not-is_listed.true in absurd (cc no),
)

pub loop-k-preserved : goal.loop-k-preserved
loop-k-preserved c =
    let s = state_of c.args.disk.now in
    below_more (λ (j : ℕ). OneListed s.sector s.tears s.db c.args.bytes.now j) c.loop-k.k c.loop-k.invariant (c.is_listed.ensures.0 c.if-not-is_listed.false)

pub returns : goal.returns
returns c =
    let s = state_of c.args.disk.now in
    let bytes = c.args.bytes.now in
    let e : length bytes / c.sector-sector.result ≡ length bytes / s.sector = ap (λ (y : ℕ). length bytes / y) (c.sector-sector.ensures.answer tt) in (
      λ yes k. elim (cases_lt k c.loop-k.k) [
        | inl lt ↦ c.loop-k.invariant k lt
        | inr past ↦ listed_behind s k bytes (size_positive s.sector c.args.disk.now.is_size).0 (omega (arith, e, c.loop-k-test.false))
      ],
      λ all. refl,
    )
