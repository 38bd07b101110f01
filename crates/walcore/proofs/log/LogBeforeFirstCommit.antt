-- Before the first commit: a log of no more than a header, and the calls that keep what it shows.
use Rattle.walcore.proofs.Facts.{ArePresent, Bool, Core, Device, DiskState, Err, HeaderSteps, IsLogDurable, IsOk, IsSoundDisk, IsUncommitted, KeepsUncommitted, List, Log, MayRestart, NewLog, Ok, RestAnswer, Result, SyncStep, SyncsBy, SyncsFrames, TakesOver, WalError, alone_syncs, ap, arith, down_syncs, false, get_or, header_alone, length, not, present_written, refl, sound_syncs, sound_writes, subst, sym, synced_down, true, wal_log, written_inside, ℕ, ◌&&◌, ◌-◌, ◌<◌, ◌∙◌, ◌≡◌, ◌≤◌}
use Rattle.walcore.proofs.openings.StepOfOpening.{HeaderDone, header_done}

module _ {T : Type 0} (f v : List ℕ) (long : length f ≡ 32) (short : length v ≤ 32) (r : Result T WalError) (u : T) (s t : DiskState) (sound : IsSoundDisk s) (durable : IsLogDurable s v) (was : r ≡ Ok u) (steps : HeaderSteps f r s t) where
  done : HeaderDone f long r s t sound steps T
  done = header_done f long r s t sound steps u was

  there : ArePresent done.mid.log f
  there = record {
    len = let end = done.wrote.file.1.len in omega (arith, end, long, short, durable.settled.len);
    each = λ i lt. let end = done.wrote.file.1.len in
        let within : i < length f = omega (arith, lt, end, long, short, durable.settled.len) in
        sym (present_written Log 0 f s done.mid done.wrote i ∙ written_inside s.log 0 f i (omega arith) (omega (arith, within)) ∙ ap (λ (j : ℕ). get_or f j 0) (let e : i - 0 ≡ i = omega arith in e));
  }

  -- the header is all of the log then, and durable
  pub begins_uncommitted : (core : Core) → core.frames ≡ 0 → core.mark ≡ 0 → core.unsynced ≡ false → IsUncommitted core t
  begins_uncommitted core frames mark unsynced =
      let on = sound_writes Log 0 f (Ok done.first) s done.mid sound done.wrote in
      record { frames = frames; mark = mark; unsynced = unsynced; sound = sound_syncs Log (Ok done.second) done.mid t on done.synced; log = (f, omega (arith, long), synced_down f done.mid t on there done.synced) }

-- ---- a sync

not_due : (tears unsynced even : Bool) → unsynced ≡ false → (tears && (unsynced && not even)) ≡ false
not_due true false even is = refl
not_due false unsynced even is = refl
not_due true true even is = absurd (cc is)

ended : {T : Type 0} (r : Result T WalError) (core then : Core) (s t : DiskState) → IsUncommitted core s → IsSoundDisk t → ((w : List ℕ) → IsLogDurable s w → IsLogDurable t w) → RestAnswer r core then → IsOk r → IsUncommitted then t
ended (Ok u) core then s t is sound keeps rests ok = record {
  frames = rests.log.frames ∙ is.frames;
  mark = rests.marks.mark ∙ is.mark;
  unsynced = rests.unsynced;
  sound = sound;
  log = (is.log.0, is.log.1, keeps is.log.0 is.log.2);
}
ended (Err e) core then s t is sound keeps closes ok = absurd (cc ok)

pub sync_uncommitted : {T : Type 0} (r : Result T WalError) (core mid then : Core) (s t : DiskState) → SyncsFrames r core mid s t → RestAnswer r mid then → KeepsUncommitted r core then s t
sync_uncommitted {T = T} r core mid then s t brings rests is =
    let durable : (mid ≡ core) × SyncStep Device Log r s t = subst (λ (b : Bool). SyncsBy b r core mid s t) (not_due s.tears core.unsynced _ is.unsynced) brings in
    record {
      shown = λ size d alone. alone_syncs wal_log size d Log durable.1.0 s t is.sound durable.1.2 alone;
      uncommitted = ended r core then s t is (sound_syncs Log durable.1.0 s t is.sound durable.1.2) (λ w log. down_syncs w Log durable.1.0 s t log durable.1.2) (subst (λ (c : Core). RestAnswer r c then) durable.0 rests);
    }

-- ---- a restart

pub restart_uncommitted : {T : Type 0} (l : NewLog) (core then : Core) (begun r : Result T WalError) (s t : DiskState) → length l.bytes ≡ 32 → MayRestart core → HeaderSteps l.bytes begun s t → TakesOver l core then begun r → KeepsUncommitted r core then s t
restart_uncommitted l core then begun r s t long may steps over is = record {
  shown = λ size d alone. header_alone size d l.bytes is.log.0 long is.log.1 s is.sound is.log.2 alone begun t steps;
  uncommitted = by begun refl steps over;
}
  where
    by : (b : Result _ WalError) → begun ≡ b → HeaderSteps l.bytes b s t → TakesOver l core then b r → IsOk r → IsUncommitted then t
    by (Ok u) was steps over ok =
        let new = over.1 may in
        begins_uncommitted l.bytes is.log.0 long is.log.1 (Ok u) u s t is.sound is.log.2 refl steps then new.frames new.mark new.unsynced
    by (Err e) was steps over ok = absurd (let bad = subst (λ x. IsOk x) over.0 ok in cc)
