use Rattle.std.proofs.Common.{◌/◌, ◌%◌, ◌&&◌, not}
use Rattle.hibitset_sets.specs.Bits.{has_bit}
use Rattle.specs_layouts.specs.Shows.{Shows}
use Rattle.specs_join.specs.Tested.{AreDone, in_word, IsRest}
use Rattle.specs_join.proofs.join.words.change_bits.Given as goal

abbrev pub invariant-loop-left : goal.invariant-loop-left
invariant-loop-left g l =
    let layout = g.L.UnprotectedStorage in
    record {
      rest : IsRest l.bits l.left;
      shows : Shows layout.part_at layout.events layout.emits l.fn.parts l.parts;
      done : AreDone layout.part_at layout.events layout.emits (g.C.Change.changed l.change) (g.R.Join.value_at l.values)
          (λ i. in_word l.bits (l.first / 64) i && not (has_bit l.left (i % 64))) l.fn.parts l.parts;
    }

abbrev pub decreases-loop-left : goal.decreases-loop-left
decreases-loop-left g l = l.left
