use Rattle.std.proofs.Common.{◌≡◌, length, false, sym, ap, ◌∙◌, arith}
use Rattle.shred_plan.specs.Index.{stage_at, is_blocked, NoneAdmits}
use Rattle.shred_plan.proofs.FirstLemmas.{first-wider, free-first}
use Rattle.shred_plan.proofs.planner.Planner.place_from.Goals as goal

pub returns-in-Some : goal.returns-in-Some
returns-in-Some g c =
    let whole = ap (λ plan. length plan.stages) c.self.view_is in
    first-wider g.K.PartialEq.eq c.args.self.now.first c.args.adding.now c.args.self.now.stages c.args.start c.first_outside-free.result (length c.args.self.now.stages) c.in-Some.place (omega (arith, c.first_outside-free.ensures.end)) (rw c.in-Some.is at c.in_ok-place.ensures)

pub returns-then-free-end : goal.returns-then-free-end
returns-then-free-end g c =
    let whole = ap (λ plan. length plan.stages) c.self.view_is in
    let none : NoneAdmits g.K.PartialEq.eq c.args.self.now.first c.args.adding.now c.args.self.now.stages c.args.start c.first_outside-free.result = rw c.in_default.is at c.in_ok-place.ensures in
    λ place low high. none place low (omega arith)

pub returns : goal.returns
returns g c =
    let same = g.K.PartialEq.eq in
    let stages = c.args.self.now.stages in
    let free = c.first_outside-free.result in
    let whole = ap (λ plan. length plan.stages) c.self.view_is in
    let none : NoneAdmits same c.args.self.now.first c.args.adding.now stages c.args.start free = rw c.in_default.is at c.in_ok-place.ensures in
    let out : is_blocked same c.args.adding.now (stage_at stages free) ≡ false = sym (c.requires.blocks free) ∙ c.first_outside-free.ensures.found (omega arith) in (
      omega (arith, c.first_outside-free.ensures.from),
      omega arith,
      free-first same c.args.self.now.first c.args.adding.now stages free (omega (arith, c.first_outside-free.ensures.from)) (c.requires.ready free (omega (arith, c.first_outside-free.ensures.from)) (omega arith)) out,
      none,
    )
