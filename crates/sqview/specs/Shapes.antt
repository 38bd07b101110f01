-- What a view shows, in whatever state the files are that it reads.
use Rattle.std.specs.Prelude.{ℕ, List}
use Rattle.sqview.specs.declared.view.View.{View}

-- the sizes of a view, the frame at which it stands, where its pages are, and the bytes of its file and its log
pub record Shape : Type 0 where
  pub page_size : ℕ
  pub count : ℕ
  pub front : ℕ
  pub places : List ℕ
  pub db : List ℕ
  pub log : List ℕ

abbrev pub shape_of : {F : Type 0} → (bytes : F → List ℕ) → View F → Shape
shape_of bytes v = record { page_size = v.page_size; count = v.count; front = v.front; places = v.places.items; db = bytes v.db; log = bytes v.log }
