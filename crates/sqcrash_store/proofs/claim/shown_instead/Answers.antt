use Rattle.std.proofs.Common.{◌≡◌, ℕ, ◌<◌, List, length, take, Option, Some, refl, sym, ◌∙◌, ap, subst}
use Rattle.std.proofs.lemmas.Option.{slice_get_read}
use Rattle.std.specs.List.{slice_get}
use Rattle.std.specs.Option.{unwrap_or}
use Rattle.std.specs.String.{string_bytes}
use Rattle.rig_store.specs.Calls.{bytes_of}
use Rattle.sqcrash_store.specs.Claims.{IsUnwritten}
use Rattle.sqcrash_store.specs.declared.verdict.Answer.{Answer}
use Rattle.sqcrash_store.proofs.claim.shown_instead.Goals as goal

pub returns : goal.returns
returns c =
    let states = c.args.bench.now.states.now in
    let k = c.args.mark in
    let line = bytes_of c.args.bench.now.trace.now c.args.call.now in
    let asked = c.index-states-k.result in
    let shown = c.index-states-k-2.result in
    let less : k < length states = c.requires.there in
    let there : slice_get states k ≡ Some asked = slice_get_read states (length states) k asked refl less c.index-states-k.is in
    let again : slice_get states k ≡ Some shown = slice_get_read states (length states) k shown refl less c.index-states-k-2.is in
    let same : asked ≡ shown = ap (λ (o : Option Answer). unwrap_or o asked) (sym there ∙ again) in
    let unwritten : IsUnwritten c.bytes.result.now (take k states) asked = c.is_unwritten.ensures.0 c.if-not-is_unwritten.false in record {
      claims = c.requires;
      state = shown;
      there = again;
      shows = c.as_str.ensures.value ∙ ap (λ (x : Answer). string_bytes x.line) (sym c.index-states-k-2.is);
      unwritten = subst (λ (x : Answer). IsUnwritten line (take k states) x) same (subst (λ (l : List ℕ). IsUnwritten l (take k states) asked) c.bytes.ensures unwritten);
    }
