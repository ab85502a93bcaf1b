use Rattle.std.proofs.Common.{◌&&◌, is_some, sym, ap, ◌∙◌}
use Rattle.hibitset_sets.specs.BitSet.{has_member}
use Rattle.hibitset_sets.specs.Walk.{walk}
use Rattle.hibitset_sets.proofs.CallerLemmas.{walk-same}
use Rattle.specs_join.specs.Cursor.{shared}
use Rattle.specs_join.specs.Steps.{still_shared}
use Rattle.specs_join.proofs.CursorLemmas.{begun-at}
use Rattle.specs_join.proofs.join.cursor.JoinCursor.new.Goals as goal

pub returns-clause-left : goal.returns-clause-left
returns-clause-left g c =
    let members = g.R.Mask.BitSetLike.members in
    let joins = g.R.Join.joins c.args.read in
    ap (λ parts. still_shared members parts c.open-mask.result.0 c.new-steps.result) (sym c.mask.ensures.value)
    ∙ (c.new-steps.ensures
    ∙ (ap (λ parts. walk (shared members parts c.open-mask.result.0)) c.mask.ensures.value
    ∙ walk-same (shared members c.args.storage.now.mask c.open-mask.result.0) (λ index. has_member c.args.storage.now.mask index && is_some (joins index)) (λ index low. ap (λ b. has_member c.args.storage.now.mask index && b) (c.open-mask.ensures.mask index low))))

pub returns-clause-ready : goal.returns-clause-ready
returns-clause-ready g c = begun-at (g.R.Join.value_at) c.args.storage.now.mask c.open-mask.result.1 (g.R.Join.joins c.args.read) c.open-mask.ensures.values _ (returns-clause-left g c)
