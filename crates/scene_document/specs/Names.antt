-- What an entry says of names; no public clause cites this.
use Rattle.std.specs.Prelude.{Bool, false, not, ◌&&◌, ◌||◌, List, []}
use Rattle.std.specs.List.{list_any}
use Rattle.std.specs.Str.{bytes_eq}
use Rattle.scene_document.specs.declared.draft.EntryDraft.{EntryDraft}
use Rattle.scene_document.specs.declared.draft.EntryDraft.TheVariants as entry
use Rattle.scene_model.specs.Parts.{Name, is_among}
use Rattle.scene_model.specs.Declaring.{texts}

-- whether a name is that of an entry's system
abbrev pub has_name : {S : Type 0} → Name → EntryDraft S → Bool
has_name name entry.Barrier = false
has_name name (entry.System draft) = bytes_eq name draft.name.now

-- whether an entry's system has one of these names, which isn't empty
abbrev pub takes_name : {S : Type 0} → List Name → EntryDraft S → Bool
takes_name names entry.Barrier = false
takes_name names (entry.System draft) = not (bytes_eq draft.name.now []) && is_among draft.name.now names

-- whether one of the names is empty or none of these
abbrev pub lacks_one_of : List Name → List Name → Bool
lacks_one_of names wanted = list_any (λ name. bytes_eq name [] || not (is_among name names)) wanted

-- whether an entry's system comes after the empty name, or another than these
abbrev pub comes_after_other : {S : Type 0} → List Name → EntryDraft S → Bool
comes_after_other names entry.Barrier = false
comes_after_other names (entry.System draft) = lacks_one_of names (texts draft.after.items)
