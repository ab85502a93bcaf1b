use Rattle.std.proofs.Common.{ap, ◌∙◌, not, eqb, bit_and}
use Rattle.std.proofs.lemmas.Nat.{one_shl}
use Rattle.hibitset_sets.proofs.LayoutLemmas.{bit-test}
use Rattle.hibitset_sets.proofs.average_ones.is_set.Goals as goal

pub returns : goal.returns
returns c = ap (λ m. not (eqb (bit_and c.args.n m) 0)) (one_shl c.args.place 64 c.requires) ∙ bit-test c.args.n c.args.place
