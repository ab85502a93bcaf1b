use Rattle.std.proofs.Common.{subst, sym, ◌-◌, bit_and}
use Rattle.std.proofs.lemmas.Nat.{one_shl}
use Rattle.hibitset.specs.Standing.{IsBelow}
use Rattle.hibitset.proofs.CutLemmas.{below-is}
use Rattle.hibitset.proofs.producer.below.Goals as goal

pub returns : goal.returns
returns c = subst (λ p. IsBelow c.args.word c.args.place (bit_and c.args.word (p - 1))) (sym (one_shl c.args.place 64 c.requires)) (below-is c.args.word c.args.place)
