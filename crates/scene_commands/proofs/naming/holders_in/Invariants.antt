use Rattle.std.proofs.Common.{◌≡◌, ℕ, true, take}
use Rattle.std.specs.Prelude.{IsSome}
use Rattle.hibitset_sets.specs.BitSet.{has_member}
use Rattle.specs_entity.specs.Births.{living}
use Rattle.scene_model.specs.Declaring.{texts}
use Rattle.scene_world.specs.Places.{kinds_of}
use Rattle.scene_commands.specs.Acts.{seen_of}
use Rattle.scene_commands.specs.Gone.{refers_among}
use Rattle.scene_commands.proofs.naming.holders_in.Given as goal

-- who lives and refers to somebody under one of the kinds so far stands at one of the indices
abbrev pub invariant-loop-kind : goal.invariant-loop-kind
invariant-loop-kind g l =
    (index : ℕ) → IsSome (living l.entities index)
    → refers_among (kinds_of g.R.Value.SceneValue.places g.R.DocumentRules.part_of g.R.WorldRules.columns) (seen_of l.world) (texts (take l.kind-index l.names)) index ≡ true
    → has_member l.indices index ≡ true
