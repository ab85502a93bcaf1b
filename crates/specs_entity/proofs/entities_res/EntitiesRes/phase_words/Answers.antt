use Rattle.std.proofs.Common.{rules, subst}
use Rattle.hibitset.specs.AtomicCore.{AreWordsOf}
use Rattle.hibitset.specs.Rows.{sizes_for}
use Rattle.std.specs.FinSet as set
use Rattle.specs_entity.specs.Births.{Births}
use Rattle.specs_entity.proofs.entities_res.EntitiesRes.phase_words.Goals as goal

pub returns : goal.returns
returns c = (
  c.in_ok-raised.raised.items,
  c.in_ok-killed.killed.items,
  search rules,
  subst (λ (births : Births). AreWordsOf (sizes_for c.args.count) (set.contains births.fresh) c.in_ok-raised.raised.items) c.self.view_is c.in_ok-raised.ensures,
  subst (λ (births : Births). AreWordsOf (sizes_for c.args.count) (set.contains births.deletions) c.in_ok-killed.killed.items) c.self.view_is c.in_ok-killed.ensures,
)
