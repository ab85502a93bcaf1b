use Rattle.std.proofs.Common.{Some, ◌∷◌, [], ◌++◌, sym, ap, ◌∙◌}
use Rattle.std.proofs.lemmas.Result.{on_ok_weaker}
use Rattle.specs.specs.ForSeats.{SharedPhase}
use Rattle.simulation.specs.declared.colonies.values.Held.TheVariants.{EntitiesHeld}
use Rattle.simulation.proofs.colonies.runs.grow_apart.Goals as goal

pub gather-requires : goal.gather-requires
gather-requires g c =
    let opened = c.in_ok-open.ensures in
    let grown = c.in_ok-grow_both.ensures opened.one opened.other opened.sits in
    (grown.0, grown.1, grown.4, grown.3.phase ∙ (opened.phase ∙ sym grown.2.phase))

pub returns : goal.returns
returns g c =
    let opened = c.in_ok-open.ensures in
    let grown = c.in_ok-grow_both.ensures opened.one opened.other opened.sits in
    on_ok_weaker c.gather.result
    (λ gathers. record {
      one = grown.0;
      other = grown.1;
      first = grown.2.first;
      second = grown.2.second;
      third = grown.3.first;
      fourth = grown.3.second;
      were = opened.were ∙ ap (λ (p : SharedPhase). Some (EntitiesHeld p.key.before)) (sym grown.2.phase);
      gathers = gathers grown.0 grown.1 grown.4;
      births = (
        grown.2.births ∙ ap (λ births. births ++ grown.2.first ∷ grown.2.second ∷ []) opened.births.0,
        grown.3.births ∙ ap (λ births. births ++ grown.3.first ∷ grown.3.second ∷ []) opened.births.1,
      );
      deletions = (
        grown.2.deletions ∙ ap (λ indices. indices ++ grown.2.first.id ∷ []) opened.deletions.0,
        grown.3.deletions ∙ ap (λ indices. indices ++ grown.3.first.id ∷ []) opened.deletions.1,
      );
    })
    c.gather.ensures
