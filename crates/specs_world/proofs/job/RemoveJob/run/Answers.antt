use Rattle.std.proofs.Common.{refl, sym, ap, ◌∙◌, subst}
use Rattle.std.proofs.lemmas.Bool.{false≢true}
use Rattle.std.specs.Option.{option_copied}
use Rattle.specs_world.specs.Resources.{place, Becomes}
use Rattle.specs_world.specs.Jobs.{IsDropped}
use Rattle.specs_world.proofs.JobLemmas.{is-there}
use Rattle.specs_world.proofs.job.RemoveJob.run.Goals as goal

pub returns-then-not-is_alive : goal.returns-then-not-is_alive
returns-then-not-is_alive g c =
    record {
      births = c.in-Some.entities.now;
      born = sym c.try_fetch-2.ensures ∙ ap option_copied c.in-Some.is;
      stored = is-there c.try_fetch.result _ c.is_none.result c.is_none.ensures c.if-is_none.false c.try_fetch.ensures;
      alive = λ lives. absurd (false≢true (sym c.if-not-is_alive.true ∙ c.is_alive.ensures.value.1 lives));
      dead = λ _. refl;
    }

pub returns-in-Ok : goal.returns-in-Ok
returns-in-Ok g c =
    let storage = g.C.Storage.UnprotectedStorage in
    let at = place g.bound-5.part g.bound-5.wrapped g.bound-5.kind_number in
    record {
      births = c.in-Some.entities.now;
      born = sym c.try_fetch-2.ensures ∙ ap option_copied c.in-Some.is;
      stored = is-there c.try_fetch.result _ c.is_none.result c.is_none.ensures c.if-is_none.false c.try_fetch.ensures;
      alive = λ _. subst (λ index. Becomes at (IsDropped storage.part_at storage.events storage.emits index) c.args.world.now c.drop_part.new.world) c.id.ensures c.in-Ok.ensures.ok;
      dead = λ gone. absurd (gone (c.is_alive.ensures.value.0 c.if-not-is_alive.false));
    }
