use Rattle.std.proofs.Common.{◌≡◌, take, option_map}
use Rattle.scene_world.specs.Putting.{each_there}
use Rattle.scene_basics.specs.declared.data.Datum.TheVariants.{Whole as DatumWhole}
use Rattle.scene_basics.specs.declared.values.Whole.{Whole}
use Rattle.scene_basics.proofs.columns.numbers_in.Given as goal

-- the numbers of the entities so far
abbrev pub invariant-loop-entity : goal.invariant-loop-entity
invariant-loop-entity g l = each_there (λ datum. datum) l.found.items ≡ each_there (λ index. option_map (λ (whole : Whole). DatumWhole whole.0) (g.L.UnprotectedStorage.part_at l.layout index)) (take l.entity-index l.entities)
