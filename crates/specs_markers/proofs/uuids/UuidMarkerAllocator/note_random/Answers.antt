use Rattle.std.proofs.Common.{None, subst, ap, ◌∙◌}
use Rattle.std.specs.Cmp.Lexicographic.{slice_cmp}
use Rattle.std.specs.FinMap as map
use Rattle.std.specs.Ordering.{nat_cmp}
use Rattle.specs_entity.specs.Life.{LifeAt}
use Rattle.specs_markers.specs.Uuids.{GivesUuid}
use Rattle.specs_markers.proofs.NoteLemmas.{at_uuids, uuid-more, uuid-same}
use Rattle.specs_markers.proofs.uuids.UuidMarkerAllocator.note_random.Goals as goal

pub returns-clause-value : goal.returns-clause-value
returns-clause-value g c =
    let id = c.new_v4-uuid.result in
    let before = c.self.inside.mapping.entries in
    let reserved = c.reserve.new.self.entries in
    let after = c.insert.new.self.entries in
    subst (λ a. GivesUuid g.R.Rng.stream a c.args.entity None id (record { noted = at_uuids after; source = c.new_v4-uuid.new.rng })) c.self.view_is
    (record {
      id = c.new_v4-uuid.ensures.drawn;
      noted =
          uuid-more reserved after id c.args.entity c.in-Ok.ensures.updates.0
          ∙ ap (λ (m : map.FinMap (slice_cmp nat_cmp) LifeAt). map.insert m id c.args.entity) (uuid-same before reserved c.reserve.ensures.entries.2);
    })
