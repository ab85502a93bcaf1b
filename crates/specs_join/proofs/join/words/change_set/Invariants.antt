use Rattle.specs_layouts.specs.Shows.{Shows}
use Rattle.specs_join.specs.Tested.{AreDone, in_groups}
use Rattle.specs_join.proofs.join.words.change_set.Given as goal

abbrev pub invariant-loop-top : goal.invariant-loop-top
invariant-loop-top g l =
    let layout = g.L.UnprotectedStorage in
    record {
      shows : Shows layout.part_at layout.events layout.emits l.fn.parts l.parts;
      done : AreDone layout.part_at layout.events layout.emits (g.C.Change.changed l.change) (g.R.Join.value_at l.values)
          (in_groups (g.M.BitSetLike.members l.set) l.top) l.fn.parts l.parts;
    }
