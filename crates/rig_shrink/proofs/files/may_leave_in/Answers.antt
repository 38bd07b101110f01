use Rattle.std.proofs.Common.{◌≡◌, ◌↔◌, ℕ, List, true, false, sym, ◌∙◌, subst}
use Rattle.rig_play.specs.Names.{NameState, name_of}
use Rattle.rig_images.specs.Left.{MayBeLeft}
use Rattle.rig_shrink.proofs.files.may_leave_in.Goals as goal

pub returns-then-not-of_db : goal.returns-then-not-of_db
returns-then-not-of_db c =
    let e = c.args.epoch in
    let bytes = c.args.image.now.db.items in
    let is = subst (λ (n : NameState). (c.in_ok-of_db.of_db ≡ true) ↔ MayBeLeft n e.db bytes) c.db.ensures (subst (λ (l : List ℕ). (c.in_ok-of_db.of_db ≡ true) ↔ MayBeLeft (name_of c.db.result.now) e.db l) c.deref.ensures.value c.in_ok-of_db.ensures) in
    (λ no. absurd (cc no), λ left. let no : true ≡ false = sym (is.1 left.db) ∙ c.if-not-of_db.true in absurd (cc no))

pub returns-then-not-of_wal : goal.returns-then-not-of_wal
returns-then-not-of_wal c =
    let e = c.args.epoch in
    let bytes = c.args.image.now.wal.items in
    let is = subst (λ (n : NameState). (c.in_ok-of_wal.of_wal ≡ true) ↔ MayBeLeft n e.wal bytes) c.wal.ensures (subst (λ (l : List ℕ). (c.in_ok-of_wal.of_wal ≡ true) ↔ MayBeLeft (name_of c.wal.result.now) e.wal l) c.deref-2.ensures.value c.in_ok-of_wal.ensures) in
    (λ no. absurd (cc no), λ left. let no : true ≡ false = sym (is.1 left.wal) ∙ c.if-not-of_wal.true in absurd (cc no))

pub returns : goal.returns
returns c =
    let e = c.args.epoch in
    let image = c.args.image.now in
    let of_db = subst (λ (n : NameState). (c.in_ok-of_db.of_db ≡ true) ↔ MayBeLeft n e.db image.db.items) c.db.ensures (subst (λ (l : List ℕ). (c.in_ok-of_db.of_db ≡ true) ↔ MayBeLeft (name_of c.db.result.now) e.db l) c.deref.ensures.value c.in_ok-of_db.ensures) in
    let of_wal = subst (λ (n : NameState). (c.in_ok-of_wal.of_wal ≡ true) ↔ MayBeLeft n e.wal image.wal.items) c.wal.ensures (subst (λ (l : List ℕ). (c.in_ok-of_wal.of_wal ≡ true) ↔ MayBeLeft (name_of c.wal.result.now) e.wal l) c.deref-2.ensures.value c.in_ok-of_wal.ensures) in
    let of_journal = subst (λ (n : NameState). (c.in_ok-of_journal.of_journal ≡ true) ↔ MayBeLeft n e.journal image.journal.items) c.journal.ensures (subst (λ (l : List ℕ). (c.in_ok-of_journal.of_journal ≡ true) ↔ MayBeLeft (name_of c.journal.result.now) e.journal l) c.deref-3.ensures.value c.in_ok-of_journal.ensures) in (
      λ yes. record { db = of_db.0 c.if-not-of_db.false; wal = of_wal.0 c.if-not-of_wal.false; journal = of_journal.0 yes },
      λ left. of_journal.1 left.journal,
    )
