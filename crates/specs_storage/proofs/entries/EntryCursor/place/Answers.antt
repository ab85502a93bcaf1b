use Rattle.specs_storage.proofs.entries.EntryCursor.place.Goals as goal

pub invariant_of-result : goal.invariant_of-result
invariant_of-result g c = record { range = (c.args.self.now.walk.at c.in-Some.index c.in-Some.is).1 }
