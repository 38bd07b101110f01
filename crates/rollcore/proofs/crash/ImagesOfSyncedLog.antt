-- A log of which nothing is unsynced, and what it takes that all shows one database.
use Rattle.rollcore.proofs.Below.{AreWhole, DiskState, IsLogDurable, List, MayBeLeft, header_within, hot_within, inl, journal_log, refl, settled_image, subst, sym, ℕ}

-- the log itself may be left
pub down_left : (w : List ℕ) (s : DiskState) → IsLogDurable s w → MayBeLeft journal_log s w
down_left w s durable = record {
  image = settled_image s.log w durable.settled s.sector s.tears;
  whole = λ torn. subst (λ (kept : List ℕ). AreWhole kept s.handed w) (sym (durable.kept torn))
      (record {
        first = λ hot. inl (hot_within w hot, refl);
        later = λ segments end why is at has. inl (header_within w segments end why is at has, refl);
      });
}
