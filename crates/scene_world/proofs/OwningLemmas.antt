-- Which kinds own their holders, by the rules and by where their parts stand.
use Rattle.std.proofs.Common.{◌≡◌, ◌∙◌, filter, ap}
use Rattle.scene_model.specs.Parts.{Part}
use Rattle.scene_model.specs.Rulebook.{Book, owning_kinds}
use Rattle.scene_world.specs.Standing.{owning_in}
use Rattle.scene_world.specs.Places.{Places, Columns, kinds_of}
use Rattle.scene_world.specs.Putting.{AreNamedIn}

-- they are the same
pub same-owning : {V D : Type 0} (places : Places V D) (part_of : D → Part) (columns : Columns V) (book : Book) → AreNamedIn columns book → owning_in (kinds_of places part_of columns) ≡ owning_kinds book
same-owning places part_of columns book named = ap (λ owning. filter owning columns.part_names) named.owning ∙ ap (filter book.owning) named.parts
