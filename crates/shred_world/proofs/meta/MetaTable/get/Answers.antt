use Rattle.std.proofs.Common.{sym, ◌∙◌}
use Rattle.std.proofs.lemmas.Bool.{false≢true}
use Rattle.shred_world.proofs.MetaLemmas.{listed_by}
use Rattle.shred_world.proofs.meta.MetaTable.get.Goals as goal

pub returns-then-has-clause-other : goal.returns-then-has-clause-other
returns-then-has-clause-other g c = λ unlisted. absurd (false≢true (sym unlisted ∙ listed_by c.args.self.now c.kind.ensures (sym c.has.ensures ∙ c.if-has.true)))

pub returns-else-has-clause-registered : goal.returns-else-has-clause-registered
returns-else-has-clause-registered g c = λ listed. absurd (false≢true (sym (listed_by c.args.self.now c.kind.ensures (sym c.has.ensures ∙ c.if-has.false)) ∙ listed))
