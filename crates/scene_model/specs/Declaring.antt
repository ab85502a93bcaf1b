-- What an accessor lists, as contracts see it.
use Rattle.std.specs.Prelude.{ℕ, List, map}
use denote.Ref.{Bor}
use Rattle.scene_model.specs.declared.access.SystemAccess.{SystemAccess}
use Rattle.scene_model.specs.Parts.{Name}
use Rattle.scene_model.specs.Rulebook.{Access}

-- the bytes of texts
abbrev pub texts : List (Bor (List ℕ)) → List Name
texts names = map (λ name. name.now) names

-- the names that an accessor lists
abbrev pub access_of : SystemAccess → Access
access_of accessor = record {
  reads = texts accessor.reads.items;
  writes = texts accessor.writes.items;
  read_globals = texts accessor.read_globals.items;
  written_globals = texts accessor.written_globals.items;
  reserved = accessor.writes_reserved;
}
