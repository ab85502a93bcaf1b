use Rattle.std.proofs.Common.{◌≡◌, ◌∙◌, arith, None, Some}
use Rattle.shred_plan.specs.Index.{way_at}
use Rattle.shred_plan.proofs.FirstLemmas.{tight-passed, one-then}
use Rattle.shred_plan.proofs.SeatLemmas.{seats-hit}
use Rattle.shred_plan.proofs.planner.Planner.place_joined.Goals as goal

pub loop-place-init : goal.loop-place-init
loop-place-init g c = (
  c.next_loose-place.ensures.from,
  c.next_loose-place.ensures.end,
  λ place low high. tight-passed g.K.PartialEq.eq c.args.self.now.first c.args.adding.now c.args.self.now.stages place (c.requires.blocked place low (omega arith)) (c.requires.keeps.loose place (c.next_loose-place.ensures.passed place low high)),
)

pub loop-place-preserved : goal.loop-place-preserved
loop-place-preserved g c =
    let same = g.K.PartialEq.eq in
    let stages = c.args.self.now.stages in
    let first = c.args.self.now.first in
    let one = c.args.adding.now in
    let at = c.loop-place.place in
    let next = c.next_loose-place-in-loop-place.ensures in
    let way : way_at same first one stages at ≡ None = c.joined_way.ensures ∙ c.in_default.is in (
      omega arith,
      next.end,
      one-then same first one stages c.args.start at c.next_loose-place-in-loop-place.result c.loop-place.invariant.2 way
          (λ place low high. tight-passed same first one stages place (c.requires.blocked place (omega arith) (omega arith)) (c.requires.keeps.loose place (next.passed place (omega arith) high))),
    )

pub returns-in-Some : goal.returns-in-Some
returns-in-Some g c =
    let way : way_at g.K.PartialEq.eq c.args.self.now.first c.args.adding.now c.args.self.now.stages c.loop-place.place ≡ Some c.in-Some.way = c.joined_way.ensures ∙ c.in-Some.is in
    (omega arith, omega arith, way, c.loop-place.invariant.2)

pub returns-then-place-end : goal.returns-then-place-end
returns-then-place-end g c =
    λ place low high. tight-passed g.K.PartialEq.eq c.args.self.now.first c.args.adding.now c.args.self.now.stages place (c.requires.blocked place low high) (c.requires.keeps.loose place (c.next_loose-place.ensures.passed place low (omega arith)))

pub joined_way-requires-clause-hits : goal.joined_way-requires-clause-hits
joined_way-requires-clause-hits g c = seats-hit g.K.Ord.cmp g.K.PartialEq.eq g.met.K.Eq.laws.symm c.args.index.now.seats c.args.adding.now c.args.self.now.stages c.in_ok-seats.seats c.requires.keeps.seats c.in_ok-seats.ensures
