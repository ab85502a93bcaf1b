use Rattle.std.proofs.Common.{◌≡◌, length}
use Rattle.specs_layouts.specs.Blocks.{less}
use Rattle.specs_layouts.proofs.PlaceSteps.{first_through}
use Rattle.specs_layouts.proofs.blocks.lower.Given as goal

abbrev pub invariant-loop-i : goal.invariant-loop-i
invariant-loop-i l = record {
  first : l.places.items ≡ first_through (less l.by) l.i l.fn.places.items;
  len : length l.places.items ≡ length l.fn.places.items;
}
