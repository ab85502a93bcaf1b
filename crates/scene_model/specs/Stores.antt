-- The kinds of store, by their names.
use Rattle.std.specs.Prelude.{codes, Option, Some, None, if◌then◌else◌}
use Rattle.std.specs.Str.{bytes_eq}
use Rattle.scene_model.specs.Parts.{Name}
use Rattle.scene_model.specs.declared.store.Store.{Store}
use Rattle.scene_model.specs.declared.store.Store.TheVariants.{Vec, Dense, Hash, BTree}

-- the store that a document means by a name
abbrev pub store_named : Name → Option Store
store_named name =
    if bytes_eq name (codes "vec") then Some Vec
    else if bytes_eq name (codes "dense") then Some Dense
    else if bytes_eq name (codes "hash") then Some Hash
    else if bytes_eq name (codes "btree") then Some BTree
    else None
