-- What is seen of a value.
use Rattle.std.proofs.Common.{◌≡◌, Option, Some, None, sym, ap, ◌∙◌}
use Rattle.std.specs.Option.{option_and_then, option_map}
use Rattle.specs.specs.ForWorlds.{Holding, readable, with_slot, out}
use Rattle.simulation.specs.Steps.{births_id, position_id, velocity_id}
use Rattle.simulation.specs.Values.{Positions, Velocities, position_part, velocity_part}
use Rattle.simulation.specs.declared.values.Value.{Value}
use Rattle.simulation.specs.declared.values.Value.TheVariants.{EntitiesValue, TableValue, PositionValue, VelocityValue}

seen-velocities : (slot : Option Value) (parts : Velocities) → Some parts ≡ option_and_then velocity_part slot → slot ≡ Some (VelocityValue parts)
seen-velocities None parts e = cc
seen-velocities (Some (EntitiesValue x)) parts e = cc
seen-velocities (Some (TableValue x)) parts e = cc
seen-velocities (Some (PositionValue x)) parts e = cc
seen-velocities (Some (VelocityValue x)) parts e = ap (option_map VelocityValue) (sym e)

-- velocities that are seen where the positions were taken out are those that were there
pub velocities-are-there : (seen fetched : Holding Value) (parts : Velocities) → fetched ≡ with_slot seen position_id out → Some parts ≡ option_and_then velocity_part (readable (fetched velocity_id)) → readable (seen velocity_id) ≡ Some (VelocityValue parts)
velocities-are-there seen fetched parts taken e = seen-velocities (readable (seen velocity_id)) parts (e ∙ ap (λ w. option_and_then velocity_part (readable (w velocity_id))) taken)

seen-positions : (slot : Option Value) (parts : Positions) → Some parts ≡ option_and_then position_part slot → slot ≡ Some (PositionValue parts)
seen-positions None parts e = cc
seen-positions (Some (EntitiesValue x)) parts e = cc
seen-positions (Some (TableValue x)) parts e = cc
seen-positions (Some (VelocityValue x)) parts e = cc
seen-positions (Some (PositionValue x)) parts e = ap (option_map PositionValue) (sym e)

-- positions that are seen where the entities were taken out are those that were there
pub positions-are-there : (seen fetched : Holding Value) (parts : Positions) → fetched ≡ with_slot seen births_id out → Some parts ≡ option_and_then position_part (readable (fetched position_id)) → readable (seen position_id) ≡ Some (PositionValue parts)
positions-are-there seen fetched parts taken e = seen-positions (readable (seen position_id)) parts (e ∙ ap (λ w. option_and_then position_part (readable (w position_id))) taken)
