use Rattle.std.proofs.Common.{IsSome, sym, subst}
use Rattle.specs_storage.proofs.PairLemmas.{still-there}
use Rattle.specs_storage.proofs.restrict.pair.PairedStorageMut.get_mut.Goals as goal

pub invariant_of-self-lent : goal.invariant_of-self-lent
invariant_of-self-lent g c =
    let parts = c.args.self.now.store.now.inner in
    let own = c.args.self.now.there in
    let there = subst (λ i. IsSome (g.T.Storage.UnprotectedStorage.part_at parts i)) (sym c.id.ensures) (c.has_part.ensures.0 c.if-not-has_part.false).part in
    λ _. (λ w. (still-there _ _ c.id.result c.args.self.now.index w (g.met.T.Storage.UnprotectedStorage.written_puts parts c.id.result w there) own, tt), (own, tt))
