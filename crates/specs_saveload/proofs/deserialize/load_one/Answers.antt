use Rattle.std.proofs.Common.{[], ◌∷◌}
use Rattle.std.proofs.lemmas.Result.{IfErr-weaker, on_ok_weaker}
use Rattle.specs_saveload.specs.Known.{known_of}
use Rattle.specs_saveload.proofs.KnownLemmas.{bearer-alive}
use Rattle.specs_saveload.proofs.LoadLemmas.{asks-more, refused-right}
use Rattle.specs_saveload.proofs.StopLemmas.{on-refused}
use Rattle.specs_saveload.proofs.deserialize.load_one.Goals as goal

pub returns-clause-ok : goal.returns-clause-ok
returns-clause-ok g c =
    on_ok_weaker c.deserialize_entity.result
    (λ has. record {
      entity = c.args.entity;
      bears = c.deserialize_entity.ensures.keeps.keeps c.args.entry.marker c.args.entity c.requires.bearer;
      has = has (bearer-alive g.A.MarkerAllocator.noted g.M.Storage.UnprotectedStorage.part_at g.M.Marker.id_of (known_of c.args.entities.now c.args.allocator.now c.args.markers.now) c.args.entry.marker c.args.entity c.requires.bearer);
    })
    c.deserialize_entity.ensures.ok

pub returns-clause-adds : goal.returns-clause-adds
returns-clause-adds g c =
    on_ok_weaker c.deserialize_entity.result (asks-more _ _ _ c.args.entry.marker _ _ _) c.deserialize_entity.ensures.adds

pub returns-clause-elsewhere : goal.returns-clause-elsewhere
returns-clause-elsewhere g c index apart =
    c.deserialize_entity.ensures.others index (apart c.args.entity (c.deserialize_entity.ensures.keeps.keeps c.args.entry.marker c.args.entity c.requires.bearer))

pub returns-clause-refused : goal.returns-clause-refused
returns-clause-refused g c =
    IfErr-weaker c.deserialize_entity.result _ _ (refused-right g.A.MarkerAllocator.refuses g.M.Marker.id_of c.deserialize_entity.new.entities c.deserialize_entity.new.allocator (c.args.entry.marker ∷ []) (g.S.DeserializeComponents.markers_of c.args.entry.components)) c.deserialize_entity.ensures.refused

pub returns-clause-gives : goal.returns-clause-gives
returns-clause-gives g c =
    on_ok_weaker c.deserialize_entity.result
    (λ given. record {
      entity = c.args.entity;
      bears = c.deserialize_entity.ensures.keeps.keeps c.args.entry.marker c.args.entity c.requires.bearer;
      parts = given (bearer-alive g.A.MarkerAllocator.noted g.M.Storage.UnprotectedStorage.part_at g.M.Marker.id_of (known_of c.args.entities.now c.args.allocator.now c.args.markers.now) c.args.entry.marker c.args.entity c.requires.bearer);
    })
    c.deserialize_entity.ensures.gives

pub returns-clause-stops : goal.returns-clause-stops
returns-clause-stops g c =
    on-refused c.deserialize_entity.result
    (λ stops. (
      c.deserialize_entity.ensures.keeps.keeps c.args.entry.marker c.args.entity c.requires.bearer,
      stops (bearer-alive g.A.MarkerAllocator.noted g.M.Storage.UnprotectedStorage.part_at g.M.Marker.id_of (known_of c.args.entities.now c.args.allocator.now c.args.markers.now) c.args.entry.marker c.args.entity c.requires.bearer),
    ))
    c.deserialize_entity.ensures.stops
