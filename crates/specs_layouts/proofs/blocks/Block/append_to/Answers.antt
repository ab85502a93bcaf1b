use Rattle.std.proofs.Common.{◌≡◌, ◌+◌, ◌*◌, ◌/◌, ◌++◌, ◌∷◌, [], length, map, ap, sym, ◌∙◌, arith}
use Rattle.std.proofs.lemmas.List.{append_assoc, append-nil}
use Rattle.hibitset_sets.specs.Walk.{word_indices}
use Rattle.hibitset_sets.proofs.CallerLemmas.{word-first, word-none}
use Rattle.specs_layouts.proofs.blocks.Block.append_to.Goals as goal

pub push_reserved-requires-in-loop-left : goal.push_reserved-requires-in-loop-left
push_reserved-requires-in-loop-left g c =
    let w = g.E.IndexEvent.index_of c.args.self.now.event / 64 in
    let first = ap length (word-first w c.loop-left.left c.take_bit-place.result.0 c.take_bit-place.result.1 c.take_bit-place.ensures) in
    let room = c.loop-left.invariant.room in
    omega (arith, first, room)

pub loop-left-preserved : goal.loop-left-preserved
loop-left-preserved g c =
    let event = c.args.self.now.event in
    let same_at = g.E.IndexEvent.same_at event in
    let w = g.E.IndexEvent.index_of event / 64 in
    let place = c.take_bit-place.result.0 in
    let rest = c.take_bit-place.result.1 in
    let before = c.loop-left.into in
    let after = c.push_reserved-in-loop-left.new.self in
    let first = word-first w c.loop-left.left place rest c.take_bit-place.ensures in
    let count = ap length first in
    let len = c.push_reserved-in-loop-left.ensures.len in
    let capacity = c.push_reserved-in-loop-left.ensures.capacity in
    let room = c.loop-left.invariant.room in
    let at : c.index.result / 64 * 64 + place ≡ 64 * w + place = let is = c.index.ensures in omega (arith, is) in
    let is : c.at.result ≡ same_at (64 * w + place) = c.at.ensures ∙ ap same_at at in
    record {
      items =
          ap (λ items. items ++ map same_at (word_indices w rest)) (c.push_reserved-in-loop-left.ensures.items ∙ ap (λ e. before.items ++ e ∷ []) is)
          ∙ append_assoc before.items (same_at (64 * w + place) ∷ []) (map same_at (word_indices w rest))
          ∙ ap (λ indices. before.items ++ map same_at indices) (sym first)
          ∙ c.loop-left.invariant.items;
      room = omega (arith, count, len, capacity, room);
      capacity = capacity ∙ c.loop-left.invariant.capacity;
    }

pub returns-clause-items : goal.returns-clause-items
returns-clause-items g c =
    let event = c.args.self.now.event in
    let same_at = g.E.IndexEvent.same_at event in
    let w = g.E.IndexEvent.index_of event / 64 in
    let none : c.loop-left.left ≡ 0 = omega arith in
    sym (append-nil c.loop-left.into.items)
    ∙ ap (λ indices. c.loop-left.into.items ++ map same_at indices) (sym (ap (word_indices w) none ∙ word-none w))
    ∙ c.loop-left.invariant.items
