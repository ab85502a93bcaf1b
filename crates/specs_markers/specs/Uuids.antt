-- UUIDs as ids of markers: the entity last noted under each, and the source that new ones are drawn from.
use Rattle.std.specs.Prelude.{◌≡◌, ℕ, List, Option, None, IfSome, MatchOption, refl}
use Rattle.std.specs.Cmp.Lexicographic.{slice_cmp}
use Rattle.std.specs.Coded.{Coded, code_by, coded×, coded_ℕ, coded_list}
use Rattle.std.specs.FinMap as map
use Rattle.std.specs.Ordering.{nat_cmp}
use Rattle.rand_core.specs.Stream.{Stream, fill_bytes}
use Rattle.uuid.specs.Parts.{v4_of_fill}
use Rattle.specs_entity.specs.Life.{LifeAt}
use Rattle.specs_entity.specs.declared.errors.Error.{Error}
use Rattle.specs_entity.specs.declared.errors.Error.TheVariants as variant
use Rattle.specs_markers.specs.Simple.{entity_code}

-- the entity last noted under each UUID, and the source
pub record Drawing (R : Type 0) : Type 0 where
  pub noted : map.FinMap (slice_cmp nat_cmp) LifeAt
  pub source : R

-- it is stored as the pair of its fields
abbrev pub drawing_code : {R : Type 0} → Coded R → Coded (Drawing R)
drawing_code {R} code =
    code_by (map.FinMap (slice_cmp nat_cmp) LifeAt × R) (coded× (map.code (coded_list coded_ℕ) entity_code) code)
    (λ a. (a.noted, a.source))
    (λ p. record { noted = p.0; source = p.1 })
    (λ _. refl)

-- nothing is noted
abbrev pub none_drawn : {R : Type 0} → R → Drawing R
none_drawn source = record { noted = map.empty; source = source }

-- the entity last noted under a UUID
abbrev pub drawn_under : {R : Type 0} → Drawing R → List ℕ → Option LifeAt
drawn_under a id = map.get a.noted id

-- a random UUID is what a stream gives next, and the other stream is what it gives after it
abbrev pub IsDrawn : Stream → List ℕ → Stream → Type 0
IsDrawn before id after = (id, after) ≡ v4_of_fill (fill_bytes 16 before)

-- the marker has the UUID that is asked for, or one that is drawn from the source, and the entity is noted under it
pub record GivesUuid {R : Type 0} (stream : R → Stream) (a : Drawing R) (entity : LifeAt) (asked : Option (List ℕ)) (marker : List ℕ) (after : Drawing R) : Type 0 where
  pub id : MatchOption asked (IsDrawn (stream a.source) marker (stream after.source)) (λ id. (marker ≡ id) × (after.source ≡ a.source))
  pub noted : after.noted ≡ map.insert a.noted marker entity

-- a marker is refused for want of memory alone, and with a UUID under which an entity is noted never
abbrev pub RefusesUuid : {R : Type 0} → Drawing R → Option (List ℕ) → Error → Type 0
RefusesUuid a asked error = (error ≡ variant.Memory) × IfSome asked (λ id. drawn_under a id ≡ None)
