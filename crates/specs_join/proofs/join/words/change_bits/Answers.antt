use Rattle.std.proofs.Common.{◌≡◌, ℕ, ◌+◌, ◌/◌, eqb, Bool, subst, arith}
use Rattle.specs_layouts.proofs.CallerLemmas.{shows-refl}
use Rattle.specs_join.specs.Tested.{EndsSo, in_word}
use Rattle.specs_join.proofs.TestedLemmas.{done-none, done-same, done-next, stops-next, shows-both}
use Rattle.specs_join.proofs.WordsLemmas.{rest-first, rest-next, passed_bits, bits-first, bits-last, bits-there, bits-before, bits-next, bits-below}
use Rattle.specs_join.proofs.join.words.change_bits.Goals as goal

pub loop-left-init : goal.loop-left-init
loop-left-init g c =
    let layout = g.L.UnprotectedStorage in
    record {
      rest = rest-first c.args.bits;
      shows = shows-refl layout.part_at layout.events layout.emits c.args.parts.now;
      done = done-none layout.part_at layout.events layout.emits (g.C.Change.changed c.args.change.now) (g.R.Join.value_at c.args.values.now)
          (passed_bits c.args.bits c.args.first c.requires.aligned c.args.bits) c.args.parts.now
          (bits-first c.args.bits c.args.first c.requires.aligned);
    }

pub loop-left-preserved : goal.loop-left-preserved
loop-left-preserved g c =
    let layout = g.L.UnprotectedStorage in
    let changed = g.C.Change.changed c.args.change.now in
    let items = g.R.Join.value_at c.args.values.now in
    let bits = c.args.bits in
    let first = c.args.first in
    let aligned = c.requires.aligned in
    let left = c.loop-left.left in
    let place = c.take_bit-place.result.0 in
    let rest = c.take_bit-place.result.1 in
    let takes = c.take_bit-place.ensures in
    let before = bits-before bits first aligned left place rest c.loop-left.invariant.rest takes in
    let shown = c.loop-left.invariant.shows in
    let done = c.loop-left.invariant.done in
    let at : ℕ → Bool = λ i. eqb i (first + place) in
    let ends = subst (λ result. EndsSo layout.part_at layout.events layout.emits changed items at c.loop-left.parts result c.change_at.new.parts) c.in-Ok.is
    c.change_at.ensures.ends in
    record {
      rest = rest-next bits left place rest c.loop-left.invariant.rest takes;
      shows = shows-both layout.part_at layout.events layout.emits changed items (passed_bits bits first aligned left) at c.args.parts.now c.loop-left.parts
          c.change_at.new.parts before shown done c.change_at.ensures.shows;
      done = done-next layout.part_at layout.events layout.emits changed items (passed_bits bits first aligned left) at c.args.parts.now c.loop-left.parts
          c.change_at.new.parts before shown done
          (passed_bits bits first aligned rest) (bits-next bits first aligned left place rest c.loop-left.invariant.rest takes) ends;
    }

pub returns-in-Err : goal.returns-in-Err
returns-in-Err g c =
    let layout = g.L.UnprotectedStorage in
    let changed = g.C.Change.changed c.args.change.now in
    let items = g.R.Join.value_at c.args.values.now in
    let bits = c.args.bits in
    let first = c.args.first in
    let aligned = c.requires.aligned in
    let left = c.loop-left.left in
    let place = c.take_bit-place.result.0 in
    let rest = c.take_bit-place.result.1 in
    let takes = c.take_bit-place.ensures in
    let is = c.loop-left.invariant.rest in
    let before = bits-before bits first aligned left place rest is takes in
    let shown = c.loop-left.invariant.shows in
    let done = c.loop-left.invariant.done in
    let at : ℕ → Bool = λ i. eqb i (first + place) in
    let ends = subst (λ result. EndsSo layout.part_at layout.events layout.emits changed items at c.loop-left.parts result c.change_at.new.parts) c.in-Err.is
    c.change_at.ensures.ends in
    record {
      shows = shows-both layout.part_at layout.events layout.emits changed items (passed_bits bits first aligned left) at c.args.parts.now c.loop-left.parts
          c.change_at.new.parts before shown done c.change_at.ensures.shows;
      ends = stops-next layout.part_at layout.events layout.emits changed items (passed_bits bits first aligned left) at c.args.parts.now c.loop-left.parts
          c.change_at.new.parts before shown done
          (in_word bits (first / 64)) c.in-Err.error (bits-below bits first aligned left place rest is takes) (bits-there bits first aligned left place rest is takes) ends;
    }

pub returns : goal.returns
returns g c =
    let layout = g.L.UnprotectedStorage in
    let none : c.loop-left.left ≡ 0 = omega arith in
    record {
      shows = c.loop-left.invariant.shows;
      ends = done-same layout.part_at layout.events layout.emits (g.C.Change.changed c.args.change.now) (g.R.Join.value_at c.args.values.now)
          (passed_bits c.args.bits c.args.first c.requires.aligned c.loop-left.left)
          (in_word c.args.bits (c.args.first / 64)) c.args.parts.now c.loop-left.parts
          (bits-last c.args.bits c.args.first c.requires.aligned c.loop-left.left none) c.loop-left.invariant.done;
    }
