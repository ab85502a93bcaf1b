use Rattle.std.proofs.Common.{◌%◌, ◌/◌, bit_or, OnOk, Result, Ok, Err, subst, arith}
use Rattle.std.proofs.lemmas.Nat.{one_shl}
use Rattle.hibitset_sets.specs.Assign.{AddsWord}
use Rattle.hibitset_sets.specs.BitSet.{has_member}
use Rattle.specs_layouts.proofs.BlockLemmas.{named-past, named-added}
use Rattle.specs_layouts.proofs.blocks.Block.index_into.Goals as goal

on-ok : {T E : Type 0} (r : Result T E) (P Q : Type 0) → (P → Q) → OnOk r P → OnOk r Q
on-ok (Ok x) P Q then holds = then holds
on-ok (Err e) P Q then holds = tt

pub returns-then-index-ge-MAX_EID-clause-ok : goal.returns-then-index-ge-MAX_EID-clause-ok
returns-then-index-ge-MAX_EID-clause-ok g c = λ i.
    named-past g.E.IndexEvent.index_of g.E.IndexEvent.same_at g.met.E.IndexEvent.index_at c.args.self.now.event c.args.self.now.more i
    (let past = c.if-index-ge-MAX_EID.true in omega arith) (has_member c.args.into.now i)

pub returns-clause-ok : goal.returns-clause-ok
returns-clause-ok g c =
    let index = c.index-index.result in
    on-ok c.add_word.result _ _
    (λ adds i.
    named-added g.E.IndexEvent.index_of g.E.IndexEvent.same_at g.met.E.IndexEvent.index_at c.args.self.now.event c.args.self.now.more i index c.index-index.ensures (omega arith)
    (has_member c.args.into.now) (has_member c.add_word.new.self)
    (subst (λ bit. AddsWord (has_member c.args.into.now) (index / 64) (bit_or c.args.self.now.more bit) (has_member c.add_word.new.self)) (one_shl (index % 64) 64 (omega arith)) adds))
    c.add_word.ensures.ok
