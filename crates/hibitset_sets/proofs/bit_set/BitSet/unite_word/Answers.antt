use Rattle.std.proofs.Common.{◌≡◌, ◌%◌, ◌/◌, ap, eqb, ◌&&◌, ◌∙◌, arith}
use Rattle.hibitset_sets.specs.BitSet.{has_member}
use Rattle.hibitset_sets.specs.Bits.{has_bit}
use Rattle.hibitset_sets.specs.BitLemmas.{has_bit-zero}
use Rattle.hibitset_sets.proofs.AssignLemmas.{own-bit}
use Rattle.hibitset_sets.proofs.UniteLemmas.{united-word, or-none, and-none}
use Rattle.hibitset_sets.proofs.bit_set.BitSet.unite_word.Goals as goal

pub returns-then-word-ne0-clause-members : goal.returns-then-word-ne0-clause-members
returns-then-word-ne0-clause-members c =
    let members = has_member c.args.self.now in
    let own = c.layer0-own.result in
    united-word members c.args.place own c.args.word (has_member c.put_word.new.self) (λ i here. own-bit members c.args.place own i c.layer0-own.ensures here) c.put_word.ensures.members

pub returns-else-word-ne0-clause-members : goal.returns-else-word-ne0-clause-members
returns-else-word-ne0-clause-members c = λ i.
    let none : c.args.word ≡ 0 = omega arith in
    or-none (has_member c.args.self.now i) _ (ap (λ w. eqb (i / 64) c.args.place && has_bit w (i % 64)) none ∙ ap (λ b. eqb (i / 64) c.args.place && b) (has_bit-zero (i % 64)) ∙ and-none _)
