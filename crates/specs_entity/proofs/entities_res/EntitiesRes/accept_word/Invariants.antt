use Rattle.std.proofs.Common.{◌≡◌, ℕ}
use Rattle.std.specs.FinSet as set
use Rattle.specs_entity.specs.Accepting.{IsSameBut, accepted_in}
use Rattle.specs_entity.proofs.entities_res.EntitiesRes.accept_word.Given as goal

abbrev pub invariant-loop-bit : goal.invariant-loop-bit
invariant-loop-bit l = record {
  same : IsSameBut l.initial.self l.self;
  deletions : (index : ℕ) → set.contains l.self.deletions index ≡ accepted_in l.word l.place l.bit l.initial.self index;
}
