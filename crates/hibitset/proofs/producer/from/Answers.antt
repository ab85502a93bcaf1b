use Rattle.std.proofs.Common.{subst, sym, ◌-◌, bit_and, arith}
use Rattle.std.proofs.lemmas.Nat.{one_shl}
use Rattle.std.proofs.Math.Pow.{pow_mono}
use Rattle.hibitset.specs.Standing.{IsFrom}
use Rattle.hibitset.proofs.CutLemmas.{from-is}
use Rattle.hibitset.proofs.producer.from.Goals as goal

pub returns : goal.returns
returns c = subst (λ p. IsFrom c.args.word c.args.place (bit_and c.args.word (18446744073709551615 - (p - 1)))) (sym (one_shl c.args.place 64 c.requires)) (from-is c.args.word c.args.place (pow_mono {j = 64} (let w = c.requires in omega arith)))
