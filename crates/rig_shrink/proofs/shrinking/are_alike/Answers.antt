use Rattle.std.proofs.Common.{◌≡◌, true, false, sym, ◌∙◌}
use Rattle.rig_images.specs.Torn.{bytes_in}
use Rattle.rig_images.specs.declared.torn.Which.TheVariants.{Db, Wal, Journal}
use Rattle.rig_shrink.proofs.PiecesDown.{by_file}
use Rattle.rig_shrink.proofs.shrinking.are_alike.Goals as goal

pub returns-then-not-db : goal.returns-then-not-db
returns-then-not-db c = (
  λ no. absurd (cc no),
  λ same. let no : true ≡ false = sym (c.are_same-db.ensures.1 (c.deref.ensures.value ∙ same Db ∙ sym c.deref-2.ensures.value)) ∙ c.if-not-db.true in absurd (cc no),
)

pub returns-then-not-wal : goal.returns-then-not-wal
returns-then-not-wal c = (
  λ no. absurd (cc no),
  λ same. let no : true ≡ false = sym (c.are_same-wal.ensures.1 (c.deref-3.ensures.value ∙ same Wal ∙ sym c.deref-4.ensures.value)) ∙ c.if-not-wal.true in absurd (cc no),
)

pub returns : goal.returns
returns c = (
  λ yes. by_file (λ w. bytes_in w c.args.x.now ≡ bytes_in w c.args.y.now)
      (sym c.deref.ensures.value ∙ c.are_same-db.ensures.0 c.if-not-db.false ∙ c.deref-2.ensures.value)
      (sym c.deref-3.ensures.value ∙ c.are_same-wal.ensures.0 c.if-not-wal.false ∙ c.deref-4.ensures.value)
      (sym c.deref-5.ensures.value ∙ c.are_same-journal.ensures.0 yes ∙ c.deref-6.ensures.value),
  λ same. c.are_same-journal.ensures.1 (c.deref-5.ensures.value ∙ same Journal ∙ sym c.deref-6.ensures.value),
)
