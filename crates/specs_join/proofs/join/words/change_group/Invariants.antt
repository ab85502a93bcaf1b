use Rattle.std.proofs.Common.{◌/◌, ◌%◌, ◌&&◌, not}
use Rattle.hibitset_sets.specs.Bits.{has_bit}
use Rattle.specs_layouts.specs.Shows.{Shows}
use Rattle.specs_join.specs.Tested.{AreDone, in_group, IsRest}
use Rattle.specs_join.proofs.join.words.change_group.Given as goal

abbrev pub invariant-loop-groups : goal.invariant-loop-groups
invariant-loop-groups g l =
    let layout = g.L.UnprotectedStorage in
    record {
      rest : IsRest (g.M.BitSetLike.words l.set 1 l.top) l.groups;
      shows : Shows layout.part_at layout.events layout.emits l.fn.parts l.parts;
      done : AreDone layout.part_at layout.events layout.emits (g.C.Change.changed l.change) (g.R.Join.value_at l.values)
          (λ i. in_group (g.M.BitSetLike.members l.set) l.top i && not (has_bit l.groups (i / 64 % 64))) l.fn.parts l.parts;
    }

abbrev pub decreases-loop-groups : goal.decreases-loop-groups
decreases-loop-groups g l = l.groups
