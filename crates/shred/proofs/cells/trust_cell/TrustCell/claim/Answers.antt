use Rattle.std.proofs.Common.{subst, IfSome}
use Rattle.shred.specs.Words.{Earns}
use Rattle.shred.proofs.cells.trust_cell.TrustCell.claim.Goals as goal

-- the word was brought along as the step says, and this earns what the step asks for
pub returns-then-found-seen : goal.returns-then-found-seen
returns-then-found-seen g c =
    record {
      right = subst (λ new. IfSome new (Earns c.args.step c.loop.seen)) c.in-Some-word_after.is c.word_after.ensures.earns c.turn-found.result.1.right
          (c.turn-found.ensures.0 c.if-found-seen.true);
    }
