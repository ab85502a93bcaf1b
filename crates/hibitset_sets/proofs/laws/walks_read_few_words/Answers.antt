use Rattle.hibitset_sets.specs.BoundLemmas.{kept-few}
use Rattle.hibitset_sets.proofs.laws.walks_read_few_words.Goals as goal

pub returns : goal.returns
returns g c =
    kept-few (g.T.BitSetLike.reads c.args.mask.now) (g.T.BitSetLike.words c.args.mask.now) (g.T.KeptMasks.kept c.args.mask.now) (g.T.KeptMasks.least c.args.mask.now) (g.met.T.KeptMasks.reads_kept c.args.mask.now) (g.met.T.KeptMasks.few_words c.args.mask.now)
