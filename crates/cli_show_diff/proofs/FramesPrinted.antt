-- What was printed around changes, and why not all was.
use Rattle.std.proofs.Common.{◌≡◌, ◌<◌, ◌+◌, ◌∙◌, ℕ, List, [], Option, arith, inl, inr, length, refl, subst, sym}
use Rattle.std.specs.Io.KnownBytes.{Appends}
use Rattle.sqval.specs.Database.{Database}
use Rattle.sqdeep.specs.declared.text.Encoding.{Encoding as TextEncoding}
use Rattle.cli_show_rows.specs.declared.stop.Stop.{Stop}
use Rattle.cli_show_rows.specs.declared.stop.Stop.TheVariants.{Fault, Record, TooLong, NotUnderstood, Default, Behind, Encoding, NotNamed, LeftOut, NoSuchTable, NoMemory, Write}
use Rattle.cli_show_rows.specs.Stops.{IsEnded, IsUnheaded, IsWriteError}
use Rattle.cli_show_rows.specs.internal.Stopping.{IsCounted}
use Rattle.cli_show_rows.proofs.LeftOut.{no_strays}
use Rattle.cli_show_diff.specs.declared.changes.Frame.{Frame}
use Rattle.cli_show_diff.specs.declared.changes.Schemas.{Schemas}
use Rattle.cli_show_diff.specs.declared.form.ChangeForm.{ChangeForm}
use Rattle.cli_show_diff.specs.Changes.{AreAskedStopped, AreFramed, AreFramedPrinted, AreFramedStopped}
use Rattle.cli_show_diff.specs.Frames.{IsStopToldIn, left_text_of}
use Rattle.cli_show_diff.specs.internal.Framing.{AreBegunPrinted, AreBegunStopped, IsFrameOf}

-- out of memory before anything was written, or a writer that failed
pub unheaded : (stop : Stop) (out : Option (List ℕ)) → stop ≡ NoMemory → IsUnheaded stop out out
unheaded stop out is = subst (λ (s : Stop). IsUnheaded s out out) (sym is) refl

unwritten : (stop : Stop) (before after : Option (List ℕ)) → IsWriteError stop → IsUnheaded stop before after
unwritten (Fault e) before after h = absurd h
unwritten (Record e) before after h = absurd h
unwritten TooLong before after h = absurd h
unwritten NotUnderstood before after h = absurd h
unwritten Default before after h = absurd h
unwritten Behind before after h = absurd h
unwritten Encoding before after h = absurd h
unwritten NotNamed before after h = absurd h
unwritten (LeftOut n) before after h = absurd h
unwritten NoSuchTable before after h = absurd h
unwritten NoMemory before after h = absurd h
unwritten (Write e) before after h = tt

module _ (d e : Database) (schemas : Schemas) (names : List (List ℕ)) (form : ChangeForm) (encoding : TextEncoding) (f : Frame) (strays : List (List ℕ)) (of : IsFrameOf schemas names form encoding f) where
  pub framed : (before ended after : Option (List ℕ)) → AreBegunPrinted d e schemas names form f.opening.items before ended → Appends ended after f.closing.items
      → AreFramed d e schemas names form encoding f.left before after
  framed before ended after w closing = record {
    opening = f.opening.items;
    opens = of.opens;
    begun = w.0;
    first = w.1;
    ended = ended;
    asked = w.2;
    closing = f.closing.items;
    closes = of.closes;
    last = closing;
    counted = of.counted;
  }

  pub begun_stopped : (stop ended : Stop) (before mid after : Option (List ℕ)) → AreBegunStopped d e schemas names form f.opening.items stop before mid
      → IsEnded (IsStopToldIn form) stop ended mid after → AreFramedStopped d e schemas names form encoding strays ended before after
  begun_stopped stop ended before mid after w (inl h) = inl (unwritten ended before after h)
  begun_stopped stop ended before mid after (inl w) (inr h) = inl (unwritten ended before after (subst IsWriteError (sym h.0) w))
  begun_stopped stop ended before mid after (inr w) (inr h) =
      inr (inl (f.opening.items, w.0, mid, of.opens, w.1, subst (λ (s : Stop). AreAskedStopped d e schemas names form s w.0 mid) (sym h.0) w.2, h.1))

module _ (d e : Database) (schemas : Schemas) (names : List (List ℕ)) (form : ChangeForm) (encoding : TextEncoding) (strays : List (List ℕ)) (out left : ℕ) (before mid after : Option (List ℕ)) (is : left ≡ out + length strays) where
  pub none_left : AreFramed d e schemas names form encoding out before mid → left ≡ 0 → mid ≡ after → AreFramedPrinted d e schemas names form encoding strays before after
  none_left w zero same =
      let none : strays ≡ [] = no_strays strays out (sym is ∙ zero) in
      let naught : out ≡ 0 = omega (arith, is, zero) in (
        subst (λ (x : Option (List ℕ)). AreFramed d e schemas names form encoding 0 before x) same (subst (λ (m : ℕ). AreFramed d e schemas names form encoding m before mid) naught w),
        none,
      )

  pub some_left : (stop : Stop) → AreFramed d e schemas names form encoding out before mid → IsCounted (left_text_of form strays left) left stop mid after
      → AreFramedStopped d e schemas names form encoding strays stop before after
  some_left (Fault e) w h = absurd h
  some_left (Record e) w h = absurd h
  some_left TooLong w h = absurd h
  some_left NotUnderstood w h = absurd h
  some_left Default w h = absurd h
  some_left Behind w h = absurd h
  some_left Encoding w h = absurd h
  some_left NotNamed w h = absurd h
  some_left NoSuchTable w h = absurd h
  some_left NoMemory w h = absurd h
  some_left (LeftOut n) w h =
      inr (inr (
        out,
        mid,
        w,
        h.0 ∙ is,
        subst (λ (m : ℕ). 0 < m) (sym h.0) h.1,
        subst (λ (m : ℕ). Appends mid after (left_text_of form strays m)) (sym h.0) h.2,
      ))
  some_left (Write e) w h = inl tt
