-- A log of which nothing is unsynced, and what it takes that all shows one database.
use Rattle.walcore.proofs.Words.{AreWhole, DiskState, IsLogDurable, List, MayBeLeft, arith, frame_at-end, inl, named_size, refl, settled_image, subst, sym, wal_log, ℕ}

-- the log itself may be left
pub down_left : (w : List ℕ) (s : DiskState) → IsLogDurable s w → MayBeLeft wal_log s w
down_left w s durable = record {
  image = settled_image s.log w durable.settled s.sector s.tears;
  whole = λ torn. subst (λ (kept : List ℕ). AreWhole kept s.handed w) (sym (durable.kept torn)) (record {
    header = λ is. inl (is.whole, refl);
    frame = λ i valid.
        let pass = valid.each i valid.first (omega arith) in
        inl (omega (arith, pass.whole, frame_at-end (named_size w) i valid.first), refl);
  });
}
