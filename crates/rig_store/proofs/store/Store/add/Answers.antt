use Rattle.std.proofs.Common.{◌∷◌, [], List, map, ◌∙◌, ap, subst, arith}
use Rattle.std.proofs.lemmas.List.{length-map, map-append}
use Rattle.rig_play.specs.Plays.{Files, files_of, no_files, Step}
use Rattle.rig_play.specs.declared.player.Player.{Player}
use Rattle.rig_store.specs.Stores.{StoreState, store_of}
use Rattle.rig_store.specs.declared.table.Naming.{Naming}
use Rattle.rig_store.proofs.store.Store.add.Goals as goal

pub returns-clause-does : goal.returns-clause-does
returns-clause-does c =
    let f : Player → Files = λ p. files_of p in
    let self = c.args.self.now in
    let file = c.play.new.self in
    let at : List Naming → StoreState = λ l. record (store_of self) { files = map f c.push.new.self.items; log = l } in record {
      file = omega (arith, c.if-call-len.false, c.len.ensures, self.files.ok, length-map self.files.items f);
      name = omega (arith, c.if-call-self.false);
      files = map f c.push.new.self.items;
      added = (
        f file,
        subst (λ s. Step c.args.trace.now c.args.entry.now s (f file)) (c.new-file.ensures ∙ ap (λ m. no_files self.sector self.tears m) c.file_meta-meta.ensures) c.in_ok-play.ensures.step,
        ap (λ l. map f l) c.in_ok-push.ensures.items ∙ map-append f self.files.items (file ∷ []),
      );
      goes = ap at c.in_ok-push-2.ensures.items;
    }
