use Rattle.std.proofs.Common.{[], ◌∷◌, ap, ◌∙◌}
use Rattle.specs_layouts.specs.Channels.{with_more}
use Rattle.specs_layouts.specs.declared.track.ComponentEvent.TheVariants as event
use Rattle.specs_layouts.proofs.CallerLemmas.{more-more}
use Rattle.specs_tests.proofs.flagging.put_write_and_take.Goals as goal

pub returns : goal.returns
returns g c =
    let id = c.args.id in
    let old = g.T.Storage.UnprotectedStorage.events c.args.storage.now.inner in
    record {
      events =
          c.in_ok-take.ensures.told
          ∙ (ap (λ log. with_more log (event.Removed id ∷ [])) (c.in_ok-write.ensures.told ∙ (ap (λ log. with_more log (event.Modified id ∷ [])) c.in_ok-put.ensures.told ∙ more-more old (event.Inserted id ∷ []) (event.Modified id ∷ [])))
          ∙ more-more old (event.Inserted id ∷ event.Modified id ∷ []) (event.Removed id ∷ []));
    }
