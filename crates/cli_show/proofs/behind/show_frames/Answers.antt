use Rattle.std.proofs.Common.{◌≡◌, ◌≤◌, ◌+◌, ℕ, List, length, inl, refl, sym, subst}
use Rattle.std.specs.Io.KnownBytes.{Appends}
use Rattle.cli_text.specs.Behind.{end_text}
use Rattle.cli_text.specs.declared.behind.SlotKind.TheVariants.{Frame}
use Rattle.sqval.proofs.database.AnswersOfEngine.{if_err, passed}
use Rattle.sqwal.specs.Frames.{frame_at}
use Rattle.sqwal.specs.Header.{IsHeader}
use Rattle.cli_facts.specs.declared.outcome.Refusal.TheVariants.{NoMemory}
use Rattle.sqwal.specs.Header.{IsHeaderOf}
use Rattle.cli_show.specs.Behind.{slots_from}
use Rattle.cli_show.specs.Errors.{IfRefused}
use Rattle.cli_show.specs.Generations.{AreGenerations}
use Rattle.cli_show.specs.internal.Generations.{AreRead, all_of}
use Rattle.cli_show.proofs.GenerationsInOrder.{all_read}
use Rattle.cli_show.proofs.LinesBehind.{frames_shown, no_header, refused_memory, stop_place}
use Rattle.cli_show.proofs.behind.show_frames.Goals as goal

pub returns-in_default-clause-text : goal.returns-in_default-clause-text
returns-in_default-clause-text g c = λ gives most took.
    let wal = g.F.FileBytes.bytes c.args.wal.now in
    let old = g.W.Write.contents c.args.out.now in
    let new = g.W.Write.contents c.write_end.new.out in
    let style = c.args.style in
    let long = c.len.ensures.count (g.met.F.FileBytes.right c.args.wal.now gives) in
    let short = no_header wal c.header.result c.in_default.not-Some (c.header.ensures most wal took) in (
      end_text style Frame 0 (length wal),
      inl (short, refl),
      subst (λ (n : ℕ). Appends old new (end_text style Frame 0 n)) long c.in_ok-write_end.ensures,
    )

pub returns-in_err-show_slots-clause-refused : goal.returns-in_err-show_slots-clause-refused
returns-in_err-show_slots-clause-refused g c = λ gives most took.
    let wal = g.F.FileBytes.bytes c.args.wal.now in
    let found = c.in-Some.ensures most wal took in
    let header = found.1 in
    let at = stop_place wal c.stop-first.result.frame c.stop-first.result.why found.0 (c.stop-first.ensures most wal took) in
    let within = subst (λ (n : ℕ). frame_at n c.stop-first.result.frame ≤ length wal) header.valid.named at.1 in
    let r = c.from_residual-in_err-show_slots.result in
    let e = c.in_err-show_slots.field-0.0 in
    if_err r e (IfRefused (λ refusal. refusal ≡ NoMemory)) (passed r e c.from_residual-in_err-show_slots.ensures.1)
    (refused_memory e (c.in_err-show_slots.ensures.refused gives header at.0 within))

pub returns-in_err-generations-clause-refused : goal.returns-in_err-generations-clause-refused
returns-in_err-generations-clause-refused g c = λ gives most took.
    let wal = g.F.FileBytes.bytes c.args.wal.now in
    let found = c.in-Some.ensures most wal took in
    let header = found.1 in
    let at = stop_place wal c.stop-first.result.frame c.stop-first.result.why found.0 (c.stop-first.ensures most wal took) in
    let within = subst (λ (n : ℕ). frame_at n c.stop-first.result.frame ≤ length wal) header.valid.named at.1 in
    let P : List ℕ → Type 0 = λ l. IsHeaderOf l c.in-Some.header → 1 ≤ c.stop-first.result.frame → frame_at c.in-Some.header.page_size c.stop-first.result.frame ≤ length l
    → IfRefused (λ refusal. refusal ≡ NoMemory) c.in_err-generations.field-0.0 in
    let r = c.from_residual-in_err-generations.result in
    let e = c.in_err-generations.field-0.0 in
    if_err r e (IfRefused (λ refusal. refusal ≡ NoMemory)) (passed r e c.from_residual-in_err-generations.ensures.1)
    (subst P c.in_ok-show_slots.ensures.same.same_bytes (c.in_err-generations.ensures.refused (c.in_ok-show_slots.ensures.same.still_gives gives)) header at.0 within)

pub returns-in-Ok-clause-text : goal.returns-in-Ok-clause-text
returns-in-Ok-clause-text g c = λ gives most took.
    let wal = g.F.FileBytes.bytes c.args.wal.now in
    let found = c.in-Some.ensures most wal took in
    let header = found.1 in
    let h = c.in-Some.header in
    let first = c.stop-first.result.frame in
    let stop = c.stop-first.ensures most wal took in
    let at = stop_place wal first c.stop-first.result.why found.0 stop in
    let within = subst (λ (n : ℕ). frame_at n first ≤ length wal) header.valid.named at.1 in
    let valid = subst (λ (n : ℕ). IsHeader n wal) (sym header.valid.named) header.valid in
    let gens = c.in_ok-generations.generations in
    let P : List ℕ → Type 0 = λ l. IsHeaderOf l h → 1 ≤ first → frame_at h.page_size first ≤ length l
    → AreRead h.page_size l first (first + slots_from (frame_at h.page_size first) (24 + h.page_size) l) gens in
    let read = subst P c.in_ok-show_slots.ensures.same.same_bytes (c.in_ok-generations.ensures.read (c.in_ok-show_slots.ensures.same.still_gives gives)) header at.0 within in
    let are = all_read h.page_size wal first (first + slots_from (frame_at h.page_size first) (24 + h.page_size) wal) gens.closed.items gens.last read in
    let named = subst (λ (n : ℕ). AreGenerations n wal first (first + slots_from (frame_at n first) (24 + n) wal) (all_of gens)) (sym header.valid.named) are in
    frames_shown c.args.style wal first c.stop-first.result.why (g.W.Write.contents c.args.out.now) (g.W.Write.contents c.show_slots.new.out) (g.W.Write.contents c.write.new.out)
    (all_of gens) valid stop (c.in_ok-show_slots.ensures.text gives header at.0 within) named c.in-Ok.ensures
