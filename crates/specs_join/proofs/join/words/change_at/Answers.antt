use Rattle.std.proofs.Common.{is_some, inl, inr, refl, ap}
use Rattle.std.proofs.lemmas.Bool.{cases_Bool, eq-eqb, false≢true}
use Rattle.specs_layouts.proofs.CallerLemmas.{shows-refl, shows-written}
use Rattle.specs_join.proofs.ChangeEachLemmas.{put-same}
use Rattle.specs_join.proofs.TestedLemmas.{done-one, below-one, refused-one}
use Rattle.specs_join.proofs.join.words.change_at.Goals as goal

pub returns-in-Ok-change : goal.returns-in-Ok-change
returns-in-Ok-change g c =
    let layout = g.L.UnprotectedStorage in
    let law = g.met.L.UnprotectedStorage in
    let there = c.in-Ok.ensures.value in
    let puts = law.written_puts c.args.parts.now c.args.index c.change.new.part (ap is_some there) in
    record {
      shows = shows-written layout.part_at layout.events layout.emits layout.written law.written_puts law.written_tells law.written_emits c.args.parts.now
          c.args.index c.change.new.part (ap is_some there);
      ends = done-one layout.part_at layout.events layout.emits (g.C.Change.changed c.args.change.now) (g.R.Join.value_at c.args.values.now) c.args.index
          c.args.parts.now _ c.requires.range
          _ c.change.new.part _ there c.get-item.ensures c.in-Ok-change.ensures.done puts (law.written_tells c.args.parts.now c.args.index c.change.new.part);
    }

pub returns-in-Err-change : goal.returns-in-Err-change
returns-in-Err-change g c =
    let layout = g.L.UnprotectedStorage in
    let law = g.met.L.UnprotectedStorage in
    let there = c.in-Ok.ensures.value in
    let puts = law.written_puts c.args.parts.now c.args.index c.change.new.part (ap is_some there) in
    record {
      shows = shows-written layout.part_at layout.events layout.emits layout.written law.written_puts law.written_tells law.written_emits c.args.parts.now
          c.args.index c.change.new.part (ap is_some there);
      ends = record {
        refused = refused-one layout.part_at layout.events layout.emits (g.C.Change.changed c.args.change.now) (g.R.Join.value_at c.args.values.now)
            c.args.index c.args.parts.now c.args.parts.now _ _ there c.get-item.ensures c.in-Err-change.ensures.refused;
        below = below-one layout.part_at layout.events layout.emits (g.C.Change.changed c.args.change.now) (g.R.Join.value_at c.args.values.now) c.args.index c.args.parts.now _
            (put-same (layout.part_at c.args.parts.now) _ c.args.index _ _ there puts c.in-Err-change.ensures.kept);
      };
    }

pub returns-in-Err : goal.returns-in-Err
returns-in-Err g c =
    let layout = g.L.UnprotectedStorage in
    record {
      shows = shows-refl layout.part_at layout.events layout.emits c.args.parts.now;
      ends = record {
        emission = elim (cases_Bool (layout.emits c.args.parts.now)) [ inl telling ↦ telling | inr quiet ↦ absurd (false≢true (c.in-Err.ensures.succeeds quiet)) ];
        index = c.args.index;
        passes = eq-eqb c.args.index c.args.index refl;
        below = below-one layout.part_at layout.events layout.emits (g.C.Change.changed c.args.change.now) (g.R.Join.value_at c.args.values.now) c.args.index
            c.args.parts.now c.args.parts.now (λ i. refl);
      };
    }
