use Rattle.std.proofs.Common.{min, max, length, sym, ap, ◌∙◌, arith, Some, None}
use Rattle.std.specs.List.{list_all}
use Rattle.std.proofs.lemmas.Bool.{le-leb}
use Rattle.shred_plan.specs.Index.{stood_before, NoneAdmits}
use Rattle.shred_plan.specs.Kept.{Readies}
use Rattle.shred_plan.proofs.FirstLemmas.{readies, never, first-wider, first-after, before-start}
use Rattle.shred_plan.proofs.KeepLemmas.{keeps-blocks}
use Rattle.shred_plan.proofs.planner.Planner.indexed_place.Goals as goal

pub returns-in_default : goal.returns-in_default
returns-in_default g c =
    let one = c.args.adding.now in
    let stages = c.args.self.now.stages in
    let whole = ap (λ plan. length plan.stages) c.self.view_is in
    let ready : Readies one stages None =
    readies one stages g.K.Ord.cmp g.K.PartialEq.eq c.args.index.now c.requires.keeps c.requires.distinct None
    (λ place h.
    ap (λ firsts. list_all (λ n. stood_before firsts.stages n place) one.after) (sym c.firsts.ensures)
    ∙ ap (λ list. list_all (λ n. stood_before c.firsts.result.now.stages n place) list) (sym c.after.ensures)
    ∙ (rw c.in_default.is at (c.ready.ensures place h))) in
    never g.K.PartialEq.eq c.args.self.now.first one stages ready c.requires.distinct (omega arith)

pub place_behind-requires-clause-blocks : goal.place_behind-requires-clause-blocks
place_behind-requires-clause-blocks g c =
    keeps-blocks g.K.Ord.cmp g.K.PartialEq.eq g.met.K.Eq.laws.symm c.args.index.now c.args.adding.now c.args.self.now.stages c.in_ok-blocked.blocked c.requires.keeps c.in_ok-blocked.ensures

pub place_behind-requires-clause-readies : goal.place_behind-requires-clause-readies
place_behind-requires-clause-readies g c =
    let one = c.args.adding.now in
    readies one c.args.self.now.stages g.K.Ord.cmp g.K.PartialEq.eq c.args.index.now c.requires.keeps c.requires.distinct (Some c.in-Some.ready)
    (λ place h.
    ap (λ firsts. list_all (λ n. stood_before firsts.stages n place) one.after) (sym c.firsts.ensures)
    ∙ ap (λ list. list_all (λ n. stood_before c.firsts.result.now.stages n place) list) (sym c.after.ensures)
    ∙ (rw c.in-Some.is at (c.ready.ensures place h)))

pub returns-in-Some-2 : goal.returns-in-Some-2
returns-in-Some-2 g c =
    first-wider g.K.PartialEq.eq c.args.self.now.first c.args.adding.now c.args.self.now.stages 0 (min c.in-Some.ready (length c.args.self.now.stages)) (length c.args.self.now.stages) c.in-Some-2.place (omega arith) (rw c.in-Some-2.is at c.in_ok-place.ensures)

pub returns-then-start-count : goal.returns-then-start-count
returns-then-start-count g c =
    let same = g.K.PartialEq.eq in
    let one = c.args.adding.now in
    let stages = c.args.self.now.stages in
    let first = c.args.self.now.first in
    let whole = ap (λ plan. length plan.stages) c.self.view_is in
    let none : NoneAdmits same first one stages 0 (min c.in-Some.ready (length stages)) = rw c.in_default-2.is at c.in_ok-place.ensures in
    λ place low high. before-start same first one stages c.in-Some.ready c.max-start.result (c.max-start.ensures ∙ ap (λ plan. max c.in-Some.ready plan.first) c.self.view_is) none place (omega arith) high

pub place_from-requires-clause-blocks : goal.place_from-requires-clause-blocks
place_from-requires-clause-blocks g c =
    keeps-blocks g.K.Ord.cmp g.K.PartialEq.eq g.met.K.Eq.laws.symm c.args.index.now c.args.adding.now c.args.self.now.stages c.in_ok-blocked.blocked c.requires.keeps c.in_ok-blocked.ensures

pub place_from-requires-clause-ready : goal.place_from-requires-clause-ready
place_from-requires-clause-ready g c = λ place low high.
    let one = c.args.adding.now in
    let stages = c.args.self.now.stages in
    let whole = ap (λ plan. length plan.stages) c.self.view_is in
    let is : Readies one stages (Some c.in-Some.ready) =
    readies one stages g.K.Ord.cmp g.K.PartialEq.eq c.args.index.now c.requires.keeps c.requires.distinct (Some c.in-Some.ready)
    (λ at h.
    ap (λ firsts. list_all (λ n. stood_before firsts.stages n at) one.after) (sym c.firsts.ensures)
    ∙ ap (λ list. list_all (λ n. stood_before c.firsts.result.now.stages n at) list) (sym c.after.ensures)
    ∙ (rw c.in-Some.is at (c.ready.ensures at h))) in
    is place (omega arith) ∙ le-leb c.in-Some.ready place (omega arith)

pub returns : goal.returns
returns g c =
    let same = g.K.PartialEq.eq in
    let one = c.args.adding.now in
    let stages = c.args.self.now.stages in
    let first = c.args.self.now.first in
    let whole = ap (λ plan. length plan.stages) c.self.view_is in
    let none : NoneAdmits same first one stages 0 (min c.in-Some.ready (length stages)) = rw c.in_default-2.is at c.in_ok-place.ensures in
    let early = before-start same first one stages c.in-Some.ready c.max-start.result (c.max-start.ensures ∙ ap (λ plan. max c.in-Some.ready plan.first) c.self.view_is) none in
    first-after same first one stages 0 c.max-start.result (length stages) (length stages) c.in_ok-found.found (omega arith)
    (λ place low high. early place high (omega arith))
    (λ place low high. absurd (omega arith))
    (omega arith) c.in_ok-found.ensures
