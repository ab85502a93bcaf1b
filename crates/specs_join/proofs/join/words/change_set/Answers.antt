use Rattle.std.proofs.Common.{◌≡◌, ◌<◌, ◌+◌, subst, ◌∙◌, arith}
use Rattle.specs_layouts.proofs.CallerLemmas.{shows-refl}
use Rattle.specs_join.specs.Tested.{AreDone, EndsSo, in_group, in_groups}
use Rattle.specs_join.proofs.TestedLemmas.{done-none, done-next, stops-next, shows-both}
use Rattle.specs_join.proofs.WordsLemmas.{groups-first, groups-before, groups-next, groups-there, groups-below}
use Rattle.specs_join.proofs.join.words.change_set.Goals as goal

pub loop-top-init : goal.loop-top-init
loop-top-init g c =
    let layout = g.L.UnprotectedStorage in
    let has = g.M.BitSetLike.members c.args.set.now in
    record {
      shows = shows-refl layout.part_at layout.events layout.emits c.args.parts.now;
      done = done-none layout.part_at layout.events layout.emits (g.C.Change.changed c.args.change.now) (g.R.Join.value_at c.args.values.now)
          (in_groups has 0) c.args.parts.now (groups-first has);
    }

pub change_group-requires-clause-ready : goal.change_group-requires-clause-ready
change_group-requires-clause-ready g c index passes =
    let has = g.M.BitSetLike.members c.args.set.now in
    let low : c.loop-top.top < c.args.tops = omega arith in
    let there = c.requires.ready index (groups-there has c.loop-top.top c.args.tops low index passes) in
    (c.loop-top.invariant.done.parts.same index ∙ there.0, there.1)

pub loop-top-preserved : goal.loop-top-preserved
loop-top-preserved g c =
    let layout = g.L.UnprotectedStorage in
    let changed = g.C.Change.changed c.args.change.now in
    let items = g.R.Join.value_at c.args.values.now in
    let has = g.M.BitSetLike.members c.args.set.now in
    let top = c.loop-top.top in
    let before = groups-before has top in
    let shown = c.loop-top.invariant.shows in
    let done = c.loop-top.invariant.done in
    let now = c.change_group.new.parts in
    let ends = subst (λ result. EndsSo layout.part_at layout.events layout.emits changed items (in_group has top) c.loop-top.parts result now) c.in-Ok.is
    c.change_group.ensures.ends in
    record {
      shows = shows-both layout.part_at layout.events layout.emits changed items (in_groups has top) (in_group has top) c.args.parts.now c.loop-top.parts
          now before shown done c.change_group.ensures.shows;
      done = done-next layout.part_at layout.events layout.emits changed items (in_groups has top) (in_group has top) c.args.parts.now c.loop-top.parts now before shown done
          (in_groups has (top + 1)) (groups-next has top) ends;
    }

pub returns-in-Err : goal.returns-in-Err
returns-in-Err g c =
    let layout = g.L.UnprotectedStorage in
    let changed = g.C.Change.changed c.args.change.now in
    let items = g.R.Join.value_at c.args.values.now in
    let has = g.M.BitSetLike.members c.args.set.now in
    let top = c.loop-top.top in
    let low : top < c.args.tops = omega arith in
    let before = groups-before has top in
    let shown = c.loop-top.invariant.shows in
    let done = c.loop-top.invariant.done in
    let now = c.change_group.new.parts in
    let ends = subst (λ result. EndsSo layout.part_at layout.events layout.emits changed items (in_group has top) c.loop-top.parts result now) c.in-Err.is
    c.change_group.ensures.ends in
    record {
      shows = shows-both layout.part_at layout.events layout.emits changed items (in_groups has top) (in_group has top) c.args.parts.now c.loop-top.parts
          now before shown done c.change_group.ensures.shows;
      ends = stops-next layout.part_at layout.events layout.emits changed items (in_groups has top) (in_group has top) c.args.parts.now c.loop-top.parts now
          before shown done (in_groups has c.args.tops) c.in-Err.error (groups-below has top c.args.tops low) (groups-there has top c.args.tops low) ends;
    }

pub returns : goal.returns
returns g c =
    let layout = g.L.UnprotectedStorage in
    let has = g.M.BitSetLike.members c.args.set.now in
    let last : c.loop-top.top ≡ c.args.tops = omega arith in
    record {
      shows = c.loop-top.invariant.shows;
      ends = subst (λ top. AreDone layout.part_at layout.events layout.emits (g.C.Change.changed c.args.change.now) (g.R.Join.value_at c.args.values.now)
          (in_groups has top) c.args.parts.now c.loop-top.parts) last c.loop-top.invariant.done;
    }
