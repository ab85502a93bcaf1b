use Rattle.std.proofs.Common.{◌≡◌, ◌+◌, ◌/◌, eqb, refl, subst, ◌∙◌, arith}
use Rattle.std.proofs.lemmas.Bool.{eq-eqb}
use Rattle.specs_layouts.proofs.CallerLemmas.{shows-refl}
use Rattle.specs_join.specs.Tested.{EndsSo, in_word}
use Rattle.specs_join.proofs.TestedLemmas.{done-none, done-same, done-next, stops-next, shows-both}
use Rattle.specs_join.proofs.WordsLemmas.{passed_row, row-first, row-last, row-there, row-before, row-next, row-below}
use Rattle.specs_join.proofs.join.words.change_row.Goals as goal

pub loop-index-init : goal.loop-index-init
loop-index-init g c =
    let layout = g.L.UnprotectedStorage in
    record {
      shows = shows-refl layout.part_at layout.events layout.emits c.args.parts.now;
      done = done-none layout.part_at layout.events layout.emits (g.C.Change.changed c.args.change.now) (g.R.Join.value_at c.args.values.now)
          (passed_row c.args.first c.requires.aligned c.args.first) c.args.parts.now (row-first c.args.first c.requires.aligned);
    }

pub change_at-requires-clause-part : goal.change_at-requires-clause-part
change_at-requires-clause-part g c =
    let index = c.loop-index.index in
    let passes = row-there c.args.first c.requires.aligned index (omega arith) (omega arith) index (eq-eqb index index refl) in
    c.loop-index.invariant.done.parts.same index ∙ (c.requires.ready index passes).0

pub change_at-requires-clause-item : goal.change_at-requires-clause-item
change_at-requires-clause-item g c =
    let index = c.loop-index.index in
    (c.requires.ready index (row-there c.args.first c.requires.aligned index (omega arith) (omega arith) index (eq-eqb index index refl))).1

pub returns-in-Err : goal.returns-in-Err
returns-in-Err g c =
    let layout = g.L.UnprotectedStorage in
    let changed = g.C.Change.changed c.args.change.now in
    let items = g.R.Join.value_at c.args.values.now in
    let index = c.loop-index.index in
    let before = row-before c.args.first c.requires.aligned index (omega arith) (omega arith) in
    let shown = c.loop-index.invariant.shows in
    let done = c.loop-index.invariant.done in
    let ends = subst (λ result. EndsSo layout.part_at layout.events layout.emits changed items (λ i. eqb i index) c.loop-index.parts result
    c.change_at.new.parts) c.in-Err.is c.change_at.ensures.ends in
    record {
      shows = shows-both layout.part_at layout.events layout.emits changed items (passed_row c.args.first c.requires.aligned index) (λ i. eqb i index)
          c.args.parts.now c.loop-index.parts c.change_at.new.parts before shown done c.change_at.ensures.shows;
      ends = stops-next layout.part_at layout.events layout.emits changed items (passed_row c.args.first c.requires.aligned index) (λ i. eqb i index)
          c.args.parts.now c.loop-index.parts c.change_at.new.parts before shown done
          (in_word 18446744073709551615 (c.args.first / 64)) c.in-Err.error (row-below c.args.first c.requires.aligned index (omega arith) (omega arith))
          (row-there c.args.first c.requires.aligned index (omega arith) (omega arith)) ends;
    }

pub loop-index-preserved : goal.loop-index-preserved
loop-index-preserved g c =
    let layout = g.L.UnprotectedStorage in
    let changed = g.C.Change.changed c.args.change.now in
    let items = g.R.Join.value_at c.args.values.now in
    let index = c.loop-index.index in
    let before = row-before c.args.first c.requires.aligned index (omega arith) (omega arith) in
    let next = row-next c.args.first c.requires.aligned index (omega arith) (omega arith) in
    let shown = c.loop-index.invariant.shows in
    let done = c.loop-index.invariant.done in
    let ends = subst (λ result. EndsSo layout.part_at layout.events layout.emits changed items (λ i. eqb i index) c.loop-index.parts result
    c.change_at.new.parts) c.in-Ok.is c.change_at.ensures.ends in
    record {
      shows = shows-both layout.part_at layout.events layout.emits changed items (passed_row c.args.first c.requires.aligned index) (λ i. eqb i index)
          c.args.parts.now c.loop-index.parts c.change_at.new.parts before shown done c.change_at.ensures.shows;
      done = done-next layout.part_at layout.events layout.emits changed items (passed_row c.args.first c.requires.aligned index) (λ i. eqb i index)
          c.args.parts.now c.loop-index.parts c.change_at.new.parts before shown done
          (passed_row c.args.first c.requires.aligned (index + 1)) next ends;
    }

pub returns : goal.returns
returns g c =
    let layout = g.L.UnprotectedStorage in
    let index = c.loop-index.index in
    let end : index ≡ c.args.first + 64 = omega arith in
    record {
      shows = c.loop-index.invariant.shows;
      ends = done-same layout.part_at layout.events layout.emits (g.C.Change.changed c.args.change.now) (g.R.Join.value_at c.args.values.now)
          (passed_row c.args.first c.requires.aligned index) (in_word 18446744073709551615 (c.args.first / 64))
          c.args.parts.now c.loop-index.parts (row-last c.args.first c.requires.aligned index end) c.loop-index.invariant.done;
    }
