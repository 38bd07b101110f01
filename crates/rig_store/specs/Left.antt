-- What a crash may leave of a set of files, and what is there now (own).
use Rattle.std.specs.Prelude.{◌≡◌, ℕ, ◌<◌, ◌≤◌, Bool, true, false, List, [], ◌∷◌, length, take, get_or, map, Option, None, option_map}
use Rattle.std.specs.List.{Contains}
use Rattle.rig_play.specs.Names.{file_now, ArePresentOf}
use Rattle.rig_play.specs.Plays.{Files, epochs_of}
use Rattle.rig_play.specs.declared.meta.Epoch.{Epoch}
use Rattle.rig_images.specs.Left.{MayBeLeft}
use Rattle.rig_store.specs.Names.{holder, is_ordered}
use Rattle.rig_store.specs.Stores.{StoreState}
use Rattle.rig_store.specs.declared.image.Image.{Image}

-- what the names show in an image
abbrev pub image_of : Image → List (Option (List ℕ))
image_of image = map (λ bytes. option_map (λ v. v.items) bytes) image.files.items

-- bytes that a crash may leave of a file
abbrev pub IsLeft : Files → List ℕ → Type 0
IsLeft f bytes = (e : Epoch) × Contains (epochs_of f) e × MayBeLeft f.db e.db bytes

-- each file has bytes
abbrev pub EachHas : (Has : Files → List ℕ → Type 0) → List Files → List (List ℕ) → Type 0
EachHas Has [] [] = Unit {0}
EachHas Has (f ∷ files) (bytes ∷ contents) = Has f bytes × EachHas Has files contents
EachHas Has _ _ = ⊥

-- bytes of each file: those that a crash may leave, and those that it has now
abbrev pub AreLeft : List Files → List (List ℕ) → Type 0
AreLeft files contents = EachHas IsLeft files contents

abbrev pub AreNow : List Files → List (List ℕ) → Type 0
AreNow files contents = EachHas (λ f bytes. ArePresentOf (file_now f.db) bytes) files contents

-- Name k shows what the file has that it had behind the first n changes of names, or nothing where it had none.
abbrev pub Shows : StoreState → (contents : List (List ℕ)) → (image : List (Option (List ℕ))) → (k n : ℕ) → Type 0
Shows s contents image k n = get_or image k None ≡ option_map (λ i. get_or contents i []) (holder (take n s.log) k)

-- a crash may leave the first n changes of names: those that are durable, and maybe more
abbrev pub MayStand : StoreState → (n : ℕ) → Type 0
MayStand s n = (s.durable ≤ n) × (n ≤ length s.log)

-- the names show contents after a crash: in the order of the calls all as they stood behind one change, otherwise each by itself
abbrev pub MayShow : (ordered : Bool) → StoreState → (contents : List (List ℕ)) → (image : List (Option (List ℕ))) → Type 0
MayShow true s contents image = (n : ℕ) × MayStand s n × ((k : ℕ) → k < s.names → Shows s contents image k n)
MayShow false s contents image = (k : ℕ) → k < s.names → (n : ℕ) × MayStand s n × Shows s contents image k n

-- What a crash may leave: for each name the bytes that it shows, or nothing. Names that a file has together show the same.
pub record MayLeave (s : StoreState) (image : List (Option (List ℕ))) : Type 0 where
  pub contents : List (List ℕ)
  pub left : AreLeft s.files contents
  pub count : length image ≡ s.names
  pub shown : MayShow (is_ordered s.meta) s contents image

-- what is there now, where no crash comes
pub record IsPresent (s : StoreState) (image : List (Option (List ℕ))) : Type 0 where
  pub contents : List (List ℕ)
  pub now : AreNow s.files contents
  pub count : length image ≡ s.names
  pub shown : (k : ℕ) → k < s.names → Shows s contents image k (length s.log)
