use Rattle.std.proofs.Common.{ℕ, List, ◌++◌, codes, map, subst}
use Rattle.std.specs.Fmt.{decimal}
use Rattle.std.specs.Io.KnownBytes.{Appends}
use Rattle.std.specs.String.{string_bytes}
use Rattle.rig_store.specs.declared.call.Call.{Call}
use Rattle.sqcrash_store.specs.Calls.{call_text, call_text_by, name_of}
use Rattle.sqcrash_store.specs.Objects.{string}
use Rattle.sqcrash_store.proofs.AppendedBytes.{appends_more}
use Rattle.sqcrash_store.proofs.objects.write_stopped.Goals as goal

pub returns : goal.returns
returns g c =
    let crash = c.args.crash in
    let names = map (λ n. string_bytes n) c.args.names.now in
    let out = g.O.Write.contents in
    let old = out c.args.out.now in
    let told = out c.write.new.self in
    let begun = out c.write_all.new.self in
    let new = out c.write_text.new.out in
    let x = c.of.result in
    let called : Appends begun new (string (call_text names crash.call)) =
    subst (λ (n : List ℕ). Appends begun new (string (call_text_by n (name_of names crash.call.place) crash.call))) c.of.ensures.name
    (subst (λ (n : List ℕ). Appends begun new (string (call_text_by x.name.now n crash.call))) c.of.ensures.other
    (subst (λ (k : Call). Appends begun new (string (call_text_by x.name.now x.other.now k))) c.of.ensures.call c.in_ok-write_text.ensures)) in
    appends_more old told new (codes ",\"record\":" ++ decimal crash.played) (codes ",\"call\":" ++ string (call_text names crash.call)) c.in_ok-write.ensures.bytes
    (appends_more told begun new (codes ",\"call\":") (string (call_text names crash.call)) c.in_ok-write_all.ensures.bytes called)
