use Rattle.std.proofs.Common.{ℕ, List, subst}
use Rattle.std.specs.Prelude.{Result, Ok, Err, OnOk, IfErr}
use Rattle.sqlite_record.specs.Record.{decode}
use Rattle.sqindex.specs.declared.fault.IndexFault.{IndexFault}
use Rattle.sqindex.specs.internal.Judging.{IsBehind, NotBehind}
use Rattle.sqindex.specs.internal.Streaming.{IsEnded, MayStand, MayNotStand, before_of}
use Rattle.sqindex.proofs.EntriesStreamed.{behind_by_first, next_of_none, next_of_some, not_next}
use Rattle.sqindex.proofs.stream.judge_beside.Goals as goal

refuses : (r : Result Unit IndexFault) (P Q : IndexFault → Type 0) → ((f : IndexFault) → P f → Q f) → IfErr r P → IfErr r Q
refuses (Ok u) P Q to h = tt
refuses (Err e) P Q to h = to e h

passes : (r : Result Unit IndexFault) (P Q : Type 0) → (P → Q) → OnOk r P → OnOk r Q
passes (Ok u) P Q to h = to h
passes (Err e) P Q to h = tt

pub returns-then-not-last-clause-ok : goal.returns-then-not-last-clause-ok
returns-then-not-last-clause-ok c =
    let ended = subst (IsEnded c.args.key.now c.args.entry.now) c.in-Some.is c.requires in
    record { formed = (c.in-Some.ends.rowid, ended.keyed); behind = next_of_none c.args.key.now c.args.last.now c.args.entry.now c.if-not-last.true }

pub returns-then-rises-clause-ok : goal.returns-then-rises-clause-ok
returns-then-rises-clause-ok c =
    let key = c.args.key.now in
    let last = c.args.last.now in
    let ended = subst (IsEnded key c.args.entry.now) c.in-Some.is c.requires in
    let up = c.rises.ensures c.if-rises.true in
    let led = ended.led up.1 up.3 in
    let behind = behind_by_first key (decode last.bytes.items) (decode c.args.entry.now) up.0 up.1 led.0 (last.led up.0 up.2) led.1 up.4 in
    record { formed = (c.in-Some.ends.rowid, ended.keyed); behind = next_of_some key last c.args.entry.now c.if-not-last.false behind }

pub returns-clause-ok : goal.returns-clause-ok
returns-clause-ok c =
    let key = c.args.key.now in
    let last = c.args.last.now in
    let entry = c.args.entry.now in
    let ended = subst (IsEnded key entry) c.in-Some.is c.requires in
    let told = subst (λ (b : List ℕ). OnOk c.judge_next.result (IsBehind key (decode b) (decode entry))) c.deref.ensures.value c.judge_next.ensures.ok in
    passes c.judge_next.result (IsBehind key (decode last.bytes.items) (decode entry)) (MayStand key (before_of last) entry)
    (λ h. record { formed = (c.in-Some.ends.rowid, ended.keyed); behind = next_of_some key last entry c.if-not-last.false h }) told

pub returns-clause-err : goal.returns-clause-err
returns-clause-err c =
    let key = c.args.key.now in
    let last = c.args.last.now in
    let entry = c.args.entry.now in
    let told = subst (λ (b : List ℕ). IfErr c.judge_next.result (NotBehind key (decode b) (decode entry))) c.deref.ensures.value c.judge_next.ensures.err in
    refuses c.judge_next.result (NotBehind key (decode last.bytes.items) (decode entry)) (MayNotStand key (before_of last) entry)
    (λ f h. not_next key last entry f c.if-not-last.false h) told
