use Rattle.std.proofs.Common.{is_some, refl, ap, ◌∙◌}
use Rattle.std.proofs.lemmas.Option.{same_Some}
use Rattle.shred_world.specs.ResourceIds.{id_of}
use Rattle.shred_world.proofs.WorldLemmas.{ensured_seen, ensured_put}
use Rattle.shred_world.proofs.world.World.or_insert.Goals as goal

pub fetch_mut-requires : goal.fetch_mut-requires
fetch_mut-requires g c =
    record {
      there = let seen = ensured_seen g.R.Resource.part g.R.Resource.wrapped g.met.R.Resource.seen c.args.self.now c.ensure_there.new.self (id_of g.R.Resource.kind_number 0) c.args.resource c.requires.kind c.in_ok-ensure_there.ensures.ok in
          ap is_some seen;
    }

pub returns : goal.returns
returns g c =
    let id = id_of g.R.Resource.kind_number 0 in (
      (
        refl,
        λ left ok. ensured_put g.R.Resource.wrapped c.args.self.now c.ensure_there.new.self id c.args.resource left c.in_ok-ensure_there.ensures.ok,
        tt,
      ),
      record {
        writes_back = tt;
        value = same_Some _ _ (c.fetch_mut.ensures.value ∙ ensured_seen g.R.Resource.part g.R.Resource.wrapped g.met.R.Resource.seen c.args.self.now c.ensure_there.new.self id c.args.resource c.requires.kind c.in_ok-ensure_there.ensures.ok);
        handed_back = tt;
      },
    )
