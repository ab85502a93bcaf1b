use Rattle.std.proofs.Common.{ap, subst, sym}
use Rattle.std.specs.Option.{unwrap_or}
use Rattle.std.specs.Map.{lookup}
use Rattle.std.specs.Prelude.{nat_eq}
use Rattle.specs_entity.specs.Holders.{IsChained, end_in}
use Rattle.specs_entity.proofs.HolderLemmas.{chained-none}
use Rattle.specs_entity.proofs.holders.Holders.new.Goals as goal

pub returns-clause-chained : goal.returns-clause-chained
returns-clause-chained c =
    subst (IsChained (end_in c.new.result)) (sym c.new-2.ensures.items)
    (chained-none (end_in c.new.result) (λ target. ap (λ entries. unwrap_or (lookup (nat_eq target) entries) 0) c.new.ensures.empty))
