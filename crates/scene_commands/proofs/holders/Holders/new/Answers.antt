use Rattle.std.proofs.Common.{ap, refl, subst, sym}
use Rattle.std.specs.Option.{unwrap_or}
use Rattle.std.specs.Map.{lookup}
use Rattle.std.specs.Prelude.{nat_eq}
use Rattle.scene_commands.specs.Links.{IsChained, end_in}
use Rattle.scene_commands.proofs.LinkLemmas.{chained-none}
use Rattle.scene_commands.proofs.holders.Holders.new.Goals as goal

pub returns : goal.returns
returns c = record {
  chained = subst (IsChained (end_in c.new.result)) (sym c.new-2.ensures.items)
      (chained-none (end_in c.new.result) (λ target. ap (λ entries. unwrap_or (lookup (nat_eq target) entries) 0) c.new.ensures.empty));
  unmade = refl;
}
