-- A restart steps the machine, whatever the disk answers.
use Rattle.walcore.proofs.Facts.{AreTogether, Bool, Closed, Core, Device, DiskState, Done, Err, FitsCore, HasMadeHeader, HasNewSalts, HasNoReader, HeaderSteps, IsBegun, IsClosed, IsCore, IsHeaderOf, IsImage, IsJust, IsNewCore, IsNewLog, IsRestarted, IsSumOf, IsTrue, Later, List, Log, MadeByRestart, MayBegin, MayRestart, NewLog, None, NotDrained, Ok, Option, Past, Reader, ReadersOpen, Refused, Refuses, RestartJudged, Restarts, RestartsAnew, Result, ShowsHistory, Some, Stands, StepsTo, Sum, TakesOver, WalError, WalHeader, [], answered, ap, arith, begin_stands, closed, cond, false, first_true, fresh_core, get_or, has_begun, has_mark, headers_narrow, history_narrows, inl, inr, is_some, length, list_any, made_begun, narrows_syncs, newest, not, number_of, quiet_ok, reader_at, refl, refuses_first, restart_refusal, restart_shows, restarted, same_core, same_one, shown, sound_writes, still, subst, suc, suits_by, sum_by-cons, summed, sym, tells_header, times, true, wal_log, word, zero, ℕ, ⊎_elim, ◌%◌, ◌+◌, ◌-◌, ◌<◌, ◌==◌, ◌^◌, ◌∙◌, ◌∷◌, ◌≡◌, ◌≢◌, ◌≤◌, ◌⊎◌}
use Rattle.std.proofs.Common.{sum_by}
use Rattle.walcore.proofs.machine.FitUnderUnchangedFiles.{stays}
use Rattle.walcore.proofs.openings.StepOfOpening.{header_later, header_refused, HeaderDone, header_done, present_header}

-- ---- whether anybody reads

no_tokens : (tokens : List (Option Reader)) → ((m : ℕ) → sum_by (has_mark m) tokens ≡ 0) → (number : ℕ) → get_or tokens number None ≡ None
no_tokens [] none number = refl
no_tokens (None ∷ ts) none zero = refl
no_tokens (None ∷ ts) none (suc k) = no_tokens ts none k
no_tokens (Some r ∷ ts) none k = absurd (omega (arith, none r.mark, same_one r.mark, sum_by-cons (has_mark r.mark) (Some r) ts))

no_sum : (m : ℕ) (tokens : List (Option Reader)) → ((number : ℕ) → get_or tokens number None ≡ None) → sum_by (has_mark m) tokens ≡ 0
no_sum m [] all = refl
no_sum m (None ∷ ts) all = no_sum m ts (λ k. all (suc k))
no_sum m (Some r ∷ ts) all = absurd (cc (all 0))

no_times : (xs : List ℕ) → ((m : ℕ) → times m xs ≡ 0) → xs ≡ []
no_times [] none = refl
no_times (x ∷ xs) none = absurd (omega (arith, none x, same_one x, sum_by-cons (λ (y : ℕ). cond (y == x) 1 0) x xs))

no_reader : (i : Option ℕ) (r : Option Reader) → AreTogether (λ i r. Unit {0}) i r → r ≡ None → i ≡ None
no_reader None r t e = refl
no_reader (Some i) None t e = absurd t
no_reader (Some i) (Some r) t e = absurd (cc e)

no_token : (i : Option ℕ) (r : Option Reader) → AreTogether (λ i r. Unit {0}) i r → i ≡ None → r ≡ None
no_token i None t e = refl
no_token None (Some r) t e = absurd t
no_token (Some i) (Some r) t e = absurd (cc e)

any_none : (readers : List (Option ℕ)) → ((number : ℕ) → get_or readers number None ≡ None) → list_any is_some readers ≡ false
any_none [] all = refl
any_none (None ∷ rs) all = any_none rs (λ k. all (suc k))
any_none (Some x ∷ rs) all = absurd (cc (all 0))

none_any : (readers : List (Option ℕ)) → list_any is_some readers ≡ false → (number : ℕ) → get_or readers number None ≡ None
none_any [] e k = refl
none_any (None ∷ rs) e zero = refl
none_any (None ∷ rs) e (suc k) = none_any rs e k
none_any (Some x ∷ rs) e k = absurd (cc e)

-- ---- which refusal is the first

first_closed : (a b c : Bool) → a ≡ false → first_true ((not a, 1) ∷ (not b, 11) ∷ (c, 12) ∷ []) ≡ Some 1
first_closed false b c e = refl
first_closed true b c e = absurd (cc e)

first_undrained : (a b c : Bool) → a ≡ true → b ≡ false → first_true ((not a, 1) ∷ (not b, 11) ∷ (c, 12) ∷ []) ≡ Some 11
first_undrained true false c e f = refl
first_undrained false b c e f = absurd (cc e)
first_undrained true true c e f = absurd (cc f)

first_read : (a b c : Bool) → a ≡ true → b ≡ true → c ≡ true → first_true ((not a, 1) ∷ (not b, 11) ∷ (c, 12) ∷ []) ≡ Some 12
first_read true true true e f g = refl
first_read false b c e f g = absurd (cc e)
first_read true false c e f g = absurd (cc f)
first_read true true false e f g = absurd (cc g)

first_none : (a b c : Bool) → a ≡ true → b ≡ true → c ≡ false → first_true ((not a, 1) ∷ (not b, 11) ∷ (c, 12) ∷ []) ≡ None
first_none true true false e f g = refl
first_none false b c e f g = absurd (cc e)
first_none true false c e f g = absurd (cc f)
first_none true true true e f g = absurd (cc g)

refuses_device : {S : Type 0} (o : Option ℕ) (failed s : S) (s0 t0 : DiskState) → o ≡ None → ((s0.refused < t0.refused) ⊎ (t0.refused ≡ 2 ^ 64 - 1)) → Refuses o false failed s0.refused t0.refused s 15 failed
refuses_device o failed s s0 t0 e cause = subst (λ (x : Option ℕ). Refuses x false failed s0.refused t0.refused s 15 failed) (sym e) (inr (refl, cause, refl))

module _ (past : Past) (core : Core) (s : DiskState) (fits : FitsCore past core s) where
  unread : core.marks.items ≡ [] → HasNoReader past
  unread e =
      let marks : (m : ℕ) → sum_by (has_mark m) past.tokens ≡ 0 = λ m. sym (fits.marks m) ∙ ap (λ (xs : List ℕ). times m xs) e in
      let tokens = no_tokens past.tokens marks in
      record { readers = λ number. no_reader (reader_at past.state number) (get_or past.tokens number None) (fits.together number) (tokens number); tokens = tokens; marks = marks; count = fits.count }

  some_read : core.marks.items ≢ [] → list_any is_some past.state.readers ≡ true
  some_read ne = by (list_any is_some past.state.readers) refl
    where
      by : (b : Bool) → list_any is_some past.state.readers ≡ b → b ≡ true
      by true e = refl
      by false e =
          let tokens = λ (number : ℕ). no_token (reader_at past.state number) (get_or past.tokens number None) (fits.together number) (none_any past.state.readers e number) in
          absurd (ne (no_times core.marks.items (λ m. fits.marks m ∙ no_sum m past.tokens tokens)))

  core_drained : (is_open : core.is_open ≡ true) → core.drained ≡ past.state.drained
  core_drained is_open = (fits.core is_open).4.drained

  -- what is refused before a call of the disk
  restart_judged : (T : Type 0) (salt2 : ℕ) (e : WalError) → RestartJudged {T = T} core (Err e) → StepsTo past past.tokens (Restarts salt2) (Refused (number_of e)) core s s
  restart_judged T salt2 Closed shut = stays core core s s (same_core core) (still s fits.disk.suits.sound) past (Restarts salt2) (Refused 1) refl fits (λ more. absurd (omega (arith, more)))
      (refuses_first (restart_refusal past.state) 1 false _ past.state _ _ (first_closed past.state.is_open past.state.drained (list_any is_some past.state.readers) (sym fits.is_open ∙ shut))) refl
  restart_judged T salt2 NotDrained is = stays core core s s (same_core core) (still s fits.disk.suits.sound) past (Restarts salt2) (Refused 11) refl fits (λ more. absurd (omega (arith, more)))
      (refuses_first (restart_refusal past.state) 11 false _ past.state _ _ (first_undrained past.state.is_open past.state.drained (list_any is_some past.state.readers) (sym fits.is_open ∙ is.0) (sym (core_drained is.0) ∙ is.1))) refl
  restart_judged T salt2 ReadersOpen is = stays core core s s (same_core core) (still s fits.disk.suits.sound) past (Restarts salt2) (Refused 12) refl fits (λ more. absurd (omega (arith, more)))
      (refuses_first (restart_refusal past.state) 12 false _ past.state _ _ (first_read past.state.is_open past.state.drained (list_any is_some past.state.readers) (sym fits.is_open ∙ is.0) (sym (core_drained is.0) ∙ is.1) (some_read is.2))) refl
  restart_judged T salt2 _ is = absurd is

  pub restart_refused : {T U : Type 0} (salt2 : ℕ) (e : WalError) (r : Result T WalError) (q : Result U WalError) → r ≡ Err e → RestartJudged core r → q ≡ Err e → StepsTo past past.tokens (Restarts salt2) (answered number_of (λ _. Done) q) core s s
  restart_refused {T = T} {U = U} salt2 e r q was judged given = subst (λ (x : Result U WalError). StepsTo past past.tokens (Restarts salt2) (answered number_of (λ _. Done) x) core s s) (sym given)
      (restart_judged T salt2 e (subst (λ (x : Result T WalError). RestartJudged core x) was judged))

  -- after that
  module _ (may : MayRestart core) (salt2 : ℕ) (l : NewLog) (log : IsNewLog core.page_size ((core.header.sequence + 1) % 2 ^ 32) ((core.header.salt1 + 1) % 2 ^ 32) salt2 l) where
    e : List ℕ
    e = (fits.core may.is_open).0

    index : ℕ → ℕ
    index = (fits.core may.is_open).1

    d : ℕ
    d = (fits.core may.is_open).2

    c : ℕ
    c = (fits.core may.is_open).3

    is : IsCore past e index d c core s
    unfolding e index d c
    is = (fits.core may.is_open).4

    none : HasNoReader past
    none = unread may.unread

    allowed : restart_refusal past.state ≡ None
    allowed = first_none past.state.is_open past.state.drained (list_any is_some past.state.readers) (sym fits.is_open ∙ may.is_open) (sym is.drained ∙ may.drained) (any_none past.state.readers none.readers)

    newest_down : core.mark ≤ d
    newest_down = (is.durable (is.filed may.drained).0).commit

    stands : Stands past.state.page_size past.made.logs e core.frames past.state.history index core.mark d c s
    stands = subst (λ (k : ℕ). Stands k past.made.logs e core.frames past.state.history index core.mark d c s) fits.page_size is.stands

    last_place : index core.frames ≡ length past.state.history - 1
    last_place = omega (arith, stands.era.last)

    just : (db : List ℕ) → IsImage s.sector s.tears s.db db → IsJust past.state.page_size (newest past.state.history) db
    just db image = subst (λ (k : ℕ). IsJust k (newest past.state.history) db) fits.page_size ((is.filed may.drained).1 db image)

    drained : (db : List ℕ) → IsImage s.sector s.tears s.db db → IsJust past.state.page_size (shown past.state.history index core.frames) db
    drained db image = subst (λ (k : ℕ). IsJust past.state.page_size (get_or past.state.history k []) db) (sym last_place) (just db image)

    begun : IsBegun past.state.page_size ((core.header.sequence + 1) % 2 ^ 32) ((core.header.salt1 + 1) % 2 ^ 32) salt2 l.bytes
    begun = subst (λ (k : ℕ). IsBegun k ((core.header.sequence + 1) % 2 ^ 32) ((core.header.salt1 + 1) % 2 ^ 32) salt2 l.bytes) fits.page_size log.begun

    makes : MadeByRestart past.state.page_size salt2 past.made.logs past.made (record { logs = l.bytes ∷ past.made.logs; unsynced = false })
    makes = subst (λ (ls : List (List ℕ)). MadeByRestart past.state.page_size salt2 ls past.made (record { logs = l.bytes ∷ past.made.logs; unsynced = false })) (sym is.newest_log.1) (
      l.bytes,
      subst (λ (k : ℕ). IsBegun past.state.page_size ((k + 1) % 2 ^ 32) ((word e 16 + 1) % 2 ^ 32) salt2 l.bytes) is.header.sequence
          (subst (λ (k : ℕ). IsBegun past.state.page_size ((core.header.sequence + 1) % 2 ^ 32) ((k + 1) % 2 ^ 32) salt2 l.bytes) is.header.salt1 begun),
      refl,
    )

    some : 1 ≤ length past.state.history
    some = omega (arith, fits.disk.floor)

    low : past.state.floor ≤ index core.frames
    low = omega (arith, fits.disk.floor, last_place)

    module _ (permits : RestartsAnew past.made.logs salt2) {T : Type 0} (r : Result T WalError) (t : DiskState) (steps : HeaderSteps l.bytes r s t) where
      new : HasNewSalts past.made.logs ((core.header.salt1 + 1) % 2 ^ 32) salt2
      new = subst (λ (ls : List (List ℕ)). HasNewSalts ls ((core.header.salt1 + 1) % 2 ^ 32) salt2) (sym is.newest_log.1)
          (subst (λ (k : ℕ). HasNewSalts (e ∷ is.newest_log.0) ((k + 1) % 2 ^ 32) salt2) (sym is.header.salt1)
          (subst (λ (ls : List (List ℕ)). RestartsAnew ls salt2) is.newest_log.1 permits))

      later : Later (MayBegin (l.bytes ∷ past.made.logs)) s t
      later = header_later l.bytes begun.alone r s t fits.disk.suits.sound steps past.made.logs

      left : ShowsHistory past.state.page_size (l.bytes ∷ past.made.logs) past.state.history past.state.floor t × HasMadeHeader (l.bytes ∷ past.made.logs) t
      left = ⊎_elim
          (λ failed. restart_shows past.state.page_size past.made.logs e core.frames past.state.history index core.mark d c s t stands newest_down drained ((core.header.sequence + 1) % 2 ^ 32) ((core.header.salt1 + 1) % 2 ^ 32) salt2 l.bytes begun new failed.0 failed.3 past.state.floor low)
          (λ done.
          let on = sound_writes Log 0 l.bytes (Ok done.1.0) s done.0 fits.disk.suits.sound done.1.1 in
          let both = restart_shows past.state.page_size past.made.logs e core.frames past.state.history index core.mark d c s done.0 stands newest_down drained ((core.header.sequence + 1) % 2 ^ 32) ((core.header.salt1 + 1) % 2 ^ 32) salt2 l.bytes begun new (Ok done.1.0) done.1.1 past.state.floor low in
          let narrows = narrows_syncs wal_log Log done.2.0 done.0 t on done.2.2 in (
            history_narrows done.0 t narrows past.state.page_size (l.bytes ∷ past.made.logs) past.state.history past.state.floor both.0,
            headers_narrow done.0 t narrows (l.bytes ∷ past.made.logs) both.1,
          ))
          steps

      restart_failed : (x : WalError) (next : Core) → r ≡ Err x → IsClosed core next → StepsTo past past.tokens (Restarts salt2) (Refused (number_of x)) next s t
      restart_failed x next was shut =
          let why = header_refused l.bytes begun.alone r s t fits.disk.suits.sound steps x was in
          subst (λ (y : WalError). StepsTo past past.tokens (Restarts salt2) (Refused (number_of y)) next s t) (sym why.0) (record {
            next = closed past.state;
            made = record { logs = l.bytes ∷ past.made.logs; unsynced = false };
            same = record { sector = later.sector; tears = later.tears; calls = later.calls };
            refused = later.refused;
            told = λ more. refl;
            row = refuses_device (restart_refusal past.state) (closed past.state) past.state s t allowed why.1;
            makes = makes;
            fits = record {
              disk = record {
                suits = suits_by past.state.page_size s t fits.disk.suits later.sound later.sector later.tears;
                floor = fits.disk.floor;
                held = fits.disk.held;
                made = made_begun past.state.page_size ((core.header.sequence + 1) % 2 ^ 32) ((core.header.salt1 + 1) % 2 ^ 32) salt2 past.made.logs l.bytes fits.disk.made begun new;
                left = inl left;
                present = λ opens. absurd (cc opens);
              };
              page_size = shut.page_size ∙ fits.page_size;
              is_open = shut.is_open;
              core = λ opens. absurd (cc (opens, shut.is_open));
              count = fits.count;
              together = fits.together;
              marks = λ m. ap (λ (xs : List ℕ). times m xs) shut.marks ∙ fits.marks m;
            };
          })

      restart_done : (v : T) (next : Core) → r ≡ Ok v → IsRestarted l core next → StepsTo past past.tokens (Restarts salt2) Done next s t
      restart_done v next was over =
          let done : HeaderDone l.bytes begun.alone r s t fits.disk.suits.sound steps T = header_done l.bytes begun.alone r s t fits.disk.suits.sound steps v was in
          let is_new = over may in
          let here : IsNewCore past.state.page_size core.size l next = subst (λ (k : ℕ). IsNewCore k core.size l next) fits.page_size is_new in
          record {
            next = restarted past.state;
            made = record { logs = l.bytes ∷ past.made.logs; unsynced = false };
            same = record { sector = later.sector; tears = later.tears; calls = later.calls };
            refused = later.refused;
            told = λ more. absurd (quiet_ok Device r v s t was (tells_header l.bytes r s t steps) more);
            row = (allowed, refl);
            makes = makes;
            fits = fresh_core (record { state = restarted past.state; made = record { logs = l.bytes ∷ past.made.logs; unsynced = false }; tokens = past.tokens }) l.bytes t fits.disk.floor
                (begin_stands past.state.page_size past.made.logs past.state.history s done.mid t fits.disk.suits fits.disk.made some fits.disk.held just
                ((core.header.sequence + 1) % 2 ^ 32) ((core.header.salt1 + 1) % 2 ^ 32) salt2 l.bytes begun new done.wrote done.synced)
                (present_header past.state.page_size l.bytes s done.mid t begun.alone done.wrote done.synced)
                past.made.logs refl refl (sym fits.is_open ∙ may.is_open) (sym is.drained ∙ may.drained) refl
                (record { readers = none.readers; tokens = none.tokens; marks = none.marks; count = none.count })
                core.size is.size l next here
                (subst (λ (h : WalHeader). IsHeaderOf l.bytes h) (sym is_new.header) log.header)
                (subst (λ (h : WalHeader). IsSumOf h.order (summed past.state.page_size l.bytes 0) next.sum) (sym is_new.header)
                (subst (λ (x : Sum). IsSumOf l.header.order (summed past.state.page_size l.bytes 0) x) (sym is_new.sum)
                (subst (λ (k : ℕ). IsSumOf l.header.order (summed k l.bytes 0) l.sum) fits.page_size log.sum)));
          }

    -- whatever the disk answered
    pub restart_taken : {T : Type 0} (r q : Result T WalError) (t : DiskState) → HeaderSteps l.bytes r s t → (next : Core) → TakesOver l core next r q
        → (IsTrue (has_begun (answered number_of (λ _. Done) q)) → RestartsAnew past.made.logs salt2) → StepsTo past past.tokens (Restarts salt2) (answered number_of (λ _. Done) q) next s t
    restart_taken {T = T} (Ok v) q t steps next takes permits =
        let P : Result T WalError → Type 0 = λ x. (IsTrue (has_begun (answered number_of (λ _. Done) x)) → RestartsAnew past.made.logs salt2) → StepsTo past past.tokens (Restarts salt2) (answered number_of (λ _. Done) x) next s t in
        subst P (sym takes.0) (λ anew. restart_done (anew refl) (Ok v) t steps v next refl takes.1) permits
    restart_taken {T = T} (Err x) q t steps next takes permits =
        let P : Result T WalError → Type 0 = λ y. (IsTrue (has_begun (answered number_of (λ _. Done) y)) → RestartsAnew past.made.logs salt2) → StepsTo past past.tokens (Restarts salt2) (answered number_of (λ _. Done) y) next s t in
        let why = header_refused l.bytes begun.alone (Err x) s t fits.disk.suits.sound steps x refl in
        subst P (sym takes.0) (λ anew. restart_failed (anew (ap (λ (y : WalError). number_of y == 15) why.0)) (Err x) t steps x next refl takes.1) permits
