-- What `strike` comes to in a world.
use Rattle.std.specs.Prelude.{◌-◌, ℕ, List, codes, Option, option_map, option_and_then}
use Rattle.std.specs.List.{filter_map}
use Rattle.shred_world.specs.Bundles.{Holding}
use Rattle.shred_stages.specs.declared.stop.Stop.{Stop}
use Rattle.scene_world.specs.Counting.{CountsAndWrites, StopsCounting}
use Rattle.scene_world.specs.Numbers.{taken_at}
use Rattle.scene_world.specs.Rolls.{index_of, ids_in}
use Rattle.duel.specs.declared.values.Value.{Value}
use Rattle.duel.specs.Names.{hp_kind, turn_name}
use Rattle.duel.specs.Values.{columns}
use Rattle.duel.specs.Sights.{attack_at, target_at, roll_seen}

-- the blow that is seen of an id: the index where it falls, and how much it takes there; and all of them
abbrev pub blow_at : Holding Value → ℕ → Option (ℕ × ℕ)
blow_at w index = option_and_then (λ attack. option_map (λ target. (target.id, attack)) (target_at w index)) (attack_at w index)

abbrev pub blow_seen : Holding Value → ℕ → Option (ℕ × ℕ)
blow_seen w id = option_and_then (blow_at w) (index_of (roll_seen w) id)

abbrev pub blows_seen : Holding Value → List (ℕ × ℕ)
blows_seen w = filter_map (blow_seen w) (ids_in (roll_seen w))

-- a turn more is counted, and all blows fell on the hps; or it stopped, and says where the turn is the last that 64 bits can count
abbrev pub StrikesDone : (seen left : Holding Value) → Type 0
StrikesDone seen left = CountsAndWrites columns turn_name hp_kind (λ index hp. hp - taken_at index (blows_seen seen)) seen left

abbrev pub StopsStriking : Holding Value → Stop → Type 0
StopsStriking seen why = StopsCounting columns turn_name (codes "this was the last turn") seen why
