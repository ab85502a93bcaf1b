-- The JSON form of what is saved of an entity.
use Rattle.std.specs.Prelude.{ℕ, Bool, true, false, ◌&&◌, List, [], ◌∷◌, length, codes, Option, Some, None, option_map, unwrap_or, if◌then◌else◌}
use Rattle.std.specs.Str.{bytes_eq}
use Rattle.serde_json.specs.Data.{Data, null, boolean, number, string, array, object, Items, no_items, item, Members, no_members, member}
use Rattle.serde_json.specs.Find.{as_array}
use Rattle.specs_saveload.specs.Parts.{either_place}
use Rattle.specs_saveload.specs.Places.{at_key, whole}
use Rattle.specs_saveload.specs.declared.form.Key.TheVariants.{Components, Marker}
use Rattle.specs_saveload.specs.declared.form.Place.{Place}

-- the items of a list
abbrev pub data_of : Items → List Data
data_of no_items = []
data_of (item d ds) = d ∷ data_of ds

-- nothing follows
abbrev pub is_end : List Data → Bool
is_end [] = true
is_end (d ∷ ds) = false

-- the items are parts, and nothing follows them
abbrev pub are_parts : (List Data → Option (List Data)) → Items → Bool
are_parts rest_of items = unwrap_or (option_map is_end (rest_of (data_of items))) false

-- the object of an entity's parts and its marker
abbrev pub entity_json : Data → Data → Data
entity_json components marker = object (member (codes "components") components (member (codes "marker") marker no_members))

-- the parts and the marker of an object's first member and those after it, where these are the two
abbrev pub entity_after : List ℕ → Data → Members → Option (Data × Data)
entity_after name components no_members = None
entity_after name components (member other marker no_members) =
    if bytes_eq name (codes "components") && bytes_eq other (codes "marker") then Some (components, marker) else None
entity_after name components (member other marker (member k d ms)) = None

-- those of an object's members
abbrev pub entity_in : Members → Option (Data × Data)
entity_in no_members = None
entity_in (member name components ms) = entity_after name components ms

-- the parts and the marker of an object that has these two members and no other
abbrev pub entity_members : Data → Option (Data × Data)
entity_members null = None
entity_members (boolean b) = None
entity_members (number n) = None
entity_members (string s) = None
entity_members (array ds) = None
entity_members (object ms) = entity_in ms

-- such an object, whose parts and marker have a property each
abbrev pub is_entity : (Data → Bool) → (Data → Bool) → Data → Bool
is_entity components marker d = unwrap_or (option_map (λ both. components both.0 && marker both.1) (entity_members d)) false

-- the place among parts that aren't such; the JSON itself where it is no list, or one of more
abbrev pub parts_place : (List Data → Option (List Data)) → (ℕ → List Data → Place) → Data → Place
parts_place rest_of place_in d =
    unwrap_or (option_map (λ items. let values = data_of items in either_place (rest_of values) (place_in (length values) values) (λ left. whole)) (as_array d)) whole

-- the place in the parts where they aren't such, else in the marker; the JSON itself where it hasn't these two
abbrev pub entity_place : (Data → Bool) → (Data → Place) → (Data → Place) → Data → Place
entity_place are_components components marker d =
    unwrap_or (option_map (λ both. if are_components both.0 then at_key Marker (marker both.1) else at_key Components (components both.0)) (entity_members d)) whole
