use Rattle.std.proofs.Common.{◌≡◌, None, ap, option_map}
use Rattle.hibitset_sets.specs.Iter.{left_of}
use Rattle.specs_layouts.specs.Parts.{Puts}
use Rattle.specs_join.specs.Changes.{changes_in}
use Rattle.specs_join.specs.Taking.{in_both}
use Rattle.specs_join.proofs.TakingLemmas.{loses-change, step-known, step-taken, goes-on, on-ok}
use Rattle.specs_join.proofs.changeset.taking.TakeIterIterator.next.Given as given
use Rattle.specs_join.proofs.changeset.taking.TakeIterIterator.next.Goals as goal

-- the change at the index is taken out
taken : (g : given.Over) (c : goal.After-remove g) → Puts (changes_in c.args.self.now.changes) c.in_ok-id.id None (changes_in c.remove.new.self)
taken g c = loses-change c.args.self.now.changes c.remove.new.self c.in_ok-id.id (on-ok c.remove.result c.remove.ensures.ok c.remove.ensures.succeeds)

pub invariant_of-self-2 : goal.invariant_of-self-2
invariant_of-self-2 g c =
    record {
      known = step-known _ c.in_ok-id.id (left_of (in_both g.R.Mask.BitSetLike.members) c.next_counted.new.self) c.in_ok-id.ensures.item (changes_in c.args.self.now.changes) (changes_in c.remove.new.self) (g.R.Join.value_at c.args.self.now.values) (taken g c) c.args.self.now.known;
    }

pub returns-clause-steps : goal.returns-clause-steps
returns-clause-steps g c =
    step-taken _ c.in_ok-id.id (left_of (in_both g.R.Mask.BitSetLike.members) c.next_counted.new.self) c.in_ok-id.ensures.item (changes_in c.args.self.now.changes) (changes_in c.remove.new.self) (g.R.Join.value_at c.args.self.now.values) (loses-change c.args.self.now.changes c.remove.new.self c.in_ok-id.id c.in-Ok.ensures.ok)
    c.in-Ok.field-0.0 (ap (option_map (λ change. change.0)) c.in-Ok.ensures.value) (g.R.Join.show c.get.result) c.get.ensures

pub returns-clause-goes : goal.returns-clause-goes
returns-clause-goes g c = goes-on _ _ _ _ _ (c.in-Ok.field-0.0, g.R.Join.show c.get.result) tt (returns-clause-steps g c)
