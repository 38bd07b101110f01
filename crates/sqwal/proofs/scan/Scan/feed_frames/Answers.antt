use Rattle.std.proofs.Common.{◌++◌, List, ℕ, Option, refl, sym, ◌∙◌, subst}
use Rattle.sqwal.specs.Took.{TookParts}
use Rattle.sqwal.specs.internal.ScanParts.{IsFed}
use Rattle.sqwal.specs.declared.header.WalHeader.{WalHeader}
use Rattle.sqwal.proofs.feed.ScanUnderMoreBytes.{some_from_is_some, none_from_is_some, took-refused}
use Rattle.sqwal.proofs.feed.PieceFedToScan.{fed-begun, is_missing, fits_in, completes}
use Rattle.sqwal.proofs.scan.Scan.feed_frames.Goals as goal

pub returns-then-is_some : goal.returns-then-is_some
returns-then-is_some c b some t =
    let s = c.args.self.now in
    let why = some_from_is_some s.frames.progress.refused (sym c.is_some.ensures ∙ c.if-is_some.true) in
    record {
      limit = refl;
      parts = subst (λ (o : Option WalHeader). TookParts (b ++ c.args.piece.now) s.held.items s.frames.entries.items s.frames.progress o) (sym some)
          (took-refused b c.args.piece.now c.args.header.now s.held.items s.frames.entries.items s.frames.progress t s.held.items why.0 why.1);
    }

pub returns-then-piece-missing : goal.returns-then-piece-missing
returns-then-piece-missing c b some t =
    let s = c.args.self.now in
    fed-begun c.args.header.now b c.args.piece.now s c.hold.new.self c.hold.result c.hold.ensures.held c.hold.ensures.header c.hold.ensures.entries c.hold.ensures.progress c.hold.ensures.memory some t (none_from_is_some s.frames.progress.refused (sym c.is_some.ensures ∙ c.if-is_some.false))
    (fits_in c.args.header.now s.held.items c.args.piece.now c.missing_of-missing.result (is_missing c.args.header.now s.held.items c.deref.result.now c.missing_of-missing.result c.deref.ensures.value c.missing_of-missing.ensures.none c.missing_of-missing.ensures.some) c.if-piece-missing.true)

pub returns : goal.returns
returns c b some t =
    let s = c.args.self.now in
    subst (λ (x : List ℕ). IsFed s.frames.progress.limits.frames b x c.complete.result c.complete.new.self) (sym c.split_at.ensures.by_index.0)
    (c.complete.ensures b some t (none_from_is_some s.frames.progress.refused (sym c.is_some.ensures ∙ c.if-is_some.false)) (completes c.args.header.now b s.held.items c.split_at.result.0.now s.frames.entries.items s.frames.progress c.missing_of-missing.result t (none_from_is_some s.frames.progress.refused (sym c.is_some.ensures ∙ c.if-is_some.false))
    (is_missing c.args.header.now s.held.items c.deref.result.now c.missing_of-missing.result c.deref.ensures.value c.missing_of-missing.ensures.none c.missing_of-missing.ensures.some) c.split_at.ensures.front_len))
