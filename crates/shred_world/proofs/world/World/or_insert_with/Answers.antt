use Rattle.std.proofs.Common.{refl}
use Rattle.shred_world.specs.ResourceIds.{id_of}
use Rattle.shred_world.proofs.WorldLemmas.{made_seen, made_put, made_value}
use Rattle.shred_world.proofs.world.World.or_insert_with.Goals as goal

pub fetch_mut-requires : goal.fetch_mut-requires
fetch_mut-requires g c =
    record { there = made_seen g.R.Resource.part g.R.Resource.wrapped g.met.R.Resource.seen c.args.self.now c.ensure_made.new.self (id_of g.R.Resource.kind_number 0) _ c.requires.kind c.in_ok-ensure_made.ensures.ok }

pub returns : goal.returns
returns g c =
    let id = id_of g.R.Resource.kind_number 0 in (
      (refl, λ left ok. made_put g.R.Resource.wrapped c.args.self.now c.ensure_made.new.self id _ left c.in_ok-ensure_made.ensures.ok, tt),
      record {
        writes_back = tt;
        value = made_value g.R.Resource.part g.R.Resource.wrapped g.met.R.Resource.seen c.args.self.now c.ensure_made.new.self id _ c.requires.kind c.in_ok-ensure_made.ensures.ok c.fetch_mut.result.now c.fetch_mut.ensures.value;
      },
    )
