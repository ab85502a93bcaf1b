use Rattle.std.proofs.Common.{◌∙◌}
use Rattle.std.proofs.lemmas.Option.{none-some}
use Rattle.hibitset_sets.proofs.CallerLemmas.{walk-same}
use Rattle.specs_join.proofs.CallerLemmas.{begun-known}
use Rattle.specs_storage.proofs.entries.Entries.cursor.Goals as goal

pub returns-clause-left : goal.returns-clause-left
returns-clause-left g c = c.iter.ensures.items ∙ walk-same _ _ (λ index low. c.open-mask.ensures.mask index low)

pub invariant_of-result : goal.invariant_of-result
invariant_of-result g c =
    record {
      known = begun-known _ (g.R.Join.joins c.args.read) _ _ c.open-mask.ensures.mask c.open-mask.ensures.values c.iter.ensures.items;
      at = λ here none. absurd (none-some here none);
    }
