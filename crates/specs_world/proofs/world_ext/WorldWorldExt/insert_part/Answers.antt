use Rattle.std.proofs.Common.{subst}
use Rattle.std.proofs.lemmas.Result.{IfOk-weaker}
use Rattle.specs_world.specs.Resources.{place, Becomes}
use Rattle.specs_world.specs.Inserting.{IsPut}
use Rattle.specs_world.proofs.world_ext.WorldWorldExt.insert_part.Goals as goal

pub returns-then-lives-clause-ok : goal.returns-then-lives-clause-ok
returns-then-lives-clause-ok g c =
    let storage = g.T.Storage.UnprotectedStorage in
    IfOk-weaker c.put_part.result _ _
    (λ had put. record {
      alive = c.lives.ensures.value.0 c.if-lives.true;
      puts =
          subst
          (λ index. Becomes (place g.bound-8.part g.bound-8.wrapped g.bound-8.kind_number)
          (IsPut storage.part_at storage.events storage.emits index c.args.part had) c.args.self.now c.put_part.new.world)
          c.id.ensures put;
    })
    c.put_part.ensures.ok
