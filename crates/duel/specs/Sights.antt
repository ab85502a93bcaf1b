-- What is seen of a scene in what is held, as tools/values writes it from values.list.
use Rattle.std.specs.Prelude.{ℕ, Option}
use Rattle.shred_world.specs.Bundles.{Holding}
use Rattle.specs_entity.specs.Life.{LifeAt}
use Rattle.scene_world.specs.Numbers.{number_at, entity_at}
use Rattle.scene_world.specs.Rolls.{Roll}
use Rattle.scene_world.specs.Standing.{column_of, roll_of, seen_in}
use Rattle.duel.specs.declared.values.Value.{Value}
use Rattle.duel.specs.Names.{attack_kind, hp_kind, target_kind}
use Rattle.duel.specs.Values.{kinds}

-- who lives, and under which id each is known
abbrev pub roll_seen : Holding Value → Roll
roll_seen w = roll_of kinds (seen_in w)

-- the number, or the entity to which the part refers, of each kind at an index

abbrev pub attack_at : Holding Value → ℕ → Option ℕ
attack_at w = number_at (column_of kinds (seen_in w) attack_kind)

abbrev pub hp_at : Holding Value → ℕ → Option ℕ
hp_at w = number_at (column_of kinds (seen_in w) hp_kind)

abbrev pub target_at : Holding Value → ℕ → Option LifeAt
target_at w = entity_at (column_of kinds (seen_in w) target_kind)
