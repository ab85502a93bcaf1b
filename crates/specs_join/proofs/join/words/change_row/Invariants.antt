use Rattle.std.proofs.Common.{◌/◌, ◌==◌, ◌&&◌, nat_lt}
use Rattle.specs_layouts.specs.Shows.{Shows}
use Rattle.specs_join.specs.Tested.{AreDone}
use Rattle.specs_join.proofs.join.words.change_row.Given as goal

abbrev pub invariant-loop-index : goal.invariant-loop-index
invariant-loop-index g l =
    let layout = g.L.UnprotectedStorage in
    record {
      shows : Shows layout.part_at layout.events layout.emits l.fn.parts l.parts;
      done : AreDone layout.part_at layout.events layout.emits (g.C.Change.changed l.change) (g.R.Join.value_at l.values)
          (λ i. (i / 64 == l.first / 64) && nat_lt i l.index) l.fn.parts l.parts;
    }
