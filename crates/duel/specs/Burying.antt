-- What `bury` comes to in a world.
use Rattle.std.specs.Prelude.{◌==◌, ◌++◌, ℕ, Bool, false, List, Option, Some, None, option_and_then, if◌then◌else◌}
use Rattle.std.specs.List.{filter_map}
use Rattle.std.specs.Option.{option_map_or}
use Rattle.shred_world.specs.Bundles.{Holding}
use Rattle.scene_model.specs.Rulebook.{Command, kill, take}
use Rattle.scene_world.specs.Rolls.{index_of, ids_in}
use Rattle.duel.specs.declared.data.Ask.{Ask}
use Rattle.duel.specs.declared.data.Ask.TheVariants.{Deaths, Losses}
use Rattle.duel.specs.declared.values.Value.{Value}
use Rattle.duel.specs.Names.{target_kind}
use Rattle.duel.specs.Sights.{roll_seen, hp_at, target_at}

-- whether no hp is left at an index
abbrev pub down_at : Holding Value → ℕ → Bool
down_at w index = option_map_or (λ hp. hp == 0) (hp_at w index) false

-- what is asked for one at an index, for an id, and for all
abbrev pub asked_at : Ask → Holding Value → ℕ → ℕ → Option Command
asked_at Deaths w id index = if down_at w index then Some (kill id) else None
asked_at Losses w id index = if down_at w index then None else (if option_map_or (λ target. down_at w target.id) (target_at w index) false then Some (take id target_kind) else None)

abbrev pub asked_seen : Ask → Holding Value → ℕ → Option Command
asked_seen ask w id = option_and_then (asked_at ask w id) (index_of (roll_seen w) id)

abbrev pub all_asked : Holding Value → List Command
all_asked w = filter_map (asked_seen Deaths w) (ids_in (roll_seen w)) ++ filter_map (asked_seen Losses w) (ids_in (roll_seen w))
