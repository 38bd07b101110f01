-- The calls that bring a segment's header durable.
use Rattle.rollcore.proofs.Between.{AddsPart, Database, Device, DiskError, DiskState, Err, Harmless, Heading, IsHeaderOf, JournalHeader, Journaled, List, Log, Names, Ok, Prepared, Result, Syncs, Unharmed, Writes, arith, had_refusal, header_bytes, length, next_of, next_place, old_pages, refl, refusal_after, replicate, sectors_of, size_bounds, sizes, unharmed_by, ℕ, ◌++◌, ◌+◌, ◌-◌, ◌^◌, ◌∙◌, ◌≡◌, ◌≤◌}
use Rattle.rollcore.proofs.journal.WrittenSegmentHeader.{heading_writes, headed, heading_syncs, heading_down}

module _ (size sector : ℕ) (d : Database) (named added : List ℕ) (nonce place : ℕ) (h : JournalHeader) (w bytes : List ℕ)
    (few : length added ≤ 64) (head : IsHeaderOf size sector d added nonce h) (names : Names (header_bytes h) h) (padded : bytes ≡ header_bytes h ++ replicate (sector - 28) 0) (long : length bytes ≡ sector) where
  unharmed_at : (s : DiskState) → Heading size sector d named place added s → Unharmed size d s
  unharmed_at s is =
      let range = size_bounds sector (sectors_of size sector d named place s is.at) in
      let next : ℕ = next_place (sizes sector size) place (old_pages d added) in
      let behind : place + sector ≤ next = next_of (sizes sector size) place (old_pages d added) (omega (arith, range.0)) in
      unharmed_by size sector d named added place next s is.at (λ zero. omega (arith, range.0, behind, zero)) is.left

  module _ (old : DiskState) (is : Prepared size sector d named place added nonce w old) (near : place ≤ 2 ^ 38) where
    pub header_failed : {T : Type 0} (called : Result T DiskError) (e : DiskError) (new : DiskState) → called ≡ Err e → Writes Log place bytes called old new → Harmless size d Device old new
    header_failed called e new was wrote =
        let range = size_bounds sector (sectors_of size sector d named place old is.at) in
        record {
          device = refl;
          refusal = had_refusal called e (place + length bytes) old new is.at.suits.sound.refused was wrote.within (omega (arith, range.1, long)) wrote.elsewhere.refused;
          unharmed = unharmed_at new (heading_writes size sector d named added nonce place h w bytes few head names padded old new is called wrote);
        }

    module _ {U : Type 0} {u : U} (mid new : DiskState) (wrote : Writes Log place bytes (Ok u) old mid) where
      middle : Heading size sector d named place added mid
      middle = heading_writes size sector d named added nonce place h w bytes few head names padded old mid is (Ok u) wrote

      pub header_unsynced : {T : Type 0} (called : Result T DiskError) (e : DiskError) → called ≡ Err e → Syncs Log called mid new → Harmless size d Device old new
      header_unsynced called e was synced = record {
        device = refl;
        refusal = refusal_after old mid new (omega (arith, wrote.elsewhere.refused)) (had_refusal called e 0 mid new middle.at.suits.sound.refused was synced.within (omega arith) synced.elsewhere.refused);
        unharmed = unharmed_at new (heading_syncs size sector d named added place called mid new middle synced);
      }

      pub header_done : {T : Type 0} {x : T} → Syncs Log (Ok x) mid new
          → ((v : List ℕ) × Journaled size sector d (named ++ added) (next_place (sizes sector size) place (old_pages d added)) v new
          × AddsPart (sizes sector size) place w (nonce, old_pages d added) (next_place (sizes sector size) place (old_pages d added)) v)
          × (old.refused ≤ new.refused) × (new.db ≡ old.db)
      header_done synced = (heading_down size sector d named added place (AddsPart (sizes sector size) place w (nonce, old_pages d added) (next_place (sizes sector size) place (old_pages d added))) mid new middle (headed size sector d named added nonce place h w bytes few head names padded old mid is wrote) synced, omega (arith, wrote.elsewhere.refused, synced.elsewhere.refused), synced.elsewhere.other ∙ wrote.elsewhere.other)
