use Rattle.std.proofs.lemmas.Result.{IfErr-weaker, on_ok_weaker}
use Rattle.specs_saveload.specs.LoadingLemmas.{both-are}
use Rattle.specs_saveload.proofs.LoadLemmas.{asks-both, goes-both, refused-left, refused-right}
use Rattle.specs_saveload.proofs.RetrieveLemmas.{each-both, some-first, some-second}
use Rattle.std.proofs.Common.{inl, inr, refl}
use Rattle.specs_saveload.proofs.StopLemmas.{on-refused}
use Rattle.specs_saveload.proofs.GiveLemmas.{given-kept}
use Rattle.specs_saveload.proofs.deserialize.load_two.Goals as goal

pub returns-in-Ok-clause-ok : goal.returns-in-Ok-clause-ok
returns-in-Ok-clause-ok g c =
    on_ok_weaker c.deserialize_entity-in-Ok.result
    (λ second alive. both-are _ _ _ _
    (g.met.A.DeserializeComponents.kept _ _ c.args.saved.0 _ c.deserialize_entity-in-Ok.ensures.keeps.keeps (c.in-Ok.ensures.ok alive))
    (second (c.deserialize_entity.ensures.keeps.live_on c.args.entity alive)))
    c.deserialize_entity-in-Ok.ensures.ok

pub returns-in-Ok-clause-adds : goal.returns-in-Ok-clause-adds
returns-in-Ok-clause-adds g c =
    on_ok_weaker c.deserialize_entity-in-Ok.result (asks-both _ _ _ _ _ _ _ _ c.in-Ok.ensures.adds c.deserialize_entity-in-Ok.ensures.keeps) c.deserialize_entity-in-Ok.ensures.adds

pub returns-in-Ok-clause-keeps : goal.returns-in-Ok-clause-keeps
returns-in-Ok-clause-keeps g c = goes-both _ _ _ _ _ c.deserialize_entity.ensures.keeps c.deserialize_entity-in-Ok.ensures.keeps

pub returns-in-Ok-clause-refused : goal.returns-in-Ok-clause-refused
returns-in-Ok-clause-refused g c =
    IfErr-weaker c.deserialize_entity-in-Ok.result _ _ (refused-right g.G.MarkerAllocator.refuses g.M.Marker.id_of c.deserialize_entity-in-Ok.new.entities c.deserialize_entity-in-Ok.new.allocator (g.A.DeserializeComponents.markers_of c.args.saved.0) (g.B.DeserializeComponents.markers_of c.args.saved.1)) c.deserialize_entity-in-Ok.ensures.refused

pub returns-in-Err-clause-refused : goal.returns-in-Err-clause-refused
returns-in-Err-clause-refused g c =
    refused-left g.G.MarkerAllocator.refuses g.M.Marker.id_of c.deserialize_entity.new.entities c.deserialize_entity.new.allocator (g.A.DeserializeComponents.markers_of c.args.saved.0) (g.B.DeserializeComponents.markers_of c.args.saved.1) c.in-Err.error c.in-Err.ensures.refused

pub returns-in-Ok-clause-retrieves : goal.returns-in-Ok-clause-retrieves
returns-in-Ok-clause-retrieves g c = on_ok_weaker c.deserialize_entity-in-Ok.result (each-both _ _ _ _ _ _ _ _ _ c.in-Ok.ensures.retrieves) c.deserialize_entity-in-Ok.ensures.retrieves

pub returns-in-Ok-clause-leaves : goal.returns-in-Ok-clause-leaves
returns-in-Ok-clause-leaves g c = IfErr-weaker c.deserialize_entity-in-Ok.result _ _ (λ error some. some-second _ _ _ _ _ error _ _ _ _ _ c.in-Ok.ensures.retrieves some) c.deserialize_entity-in-Ok.ensures.leaves

pub returns-in-Err-clause-leaves : goal.returns-in-Err-clause-leaves
returns-in-Err-clause-leaves g c = some-first _ _ _ _ _ _ _ _ _ _ c.in-Err.ensures.leaves

pub returns-in-Ok-clause-dead : goal.returns-in-Ok-clause-dead
returns-in-Ok-clause-dead g c gone = c.deserialize_entity.ensures.dead (λ alive. gone (c.deserialize_entity-in-Ok.ensures.keeps.live_on c.args.entity alive))

pub returns-in-Ok-clause-stops : goal.returns-in-Ok-clause-stops
returns-in-Ok-clause-stops g c =
    on-refused c.deserialize_entity-in-Ok.result
    (λ stops alive. inr (given-kept _ _ _ _ _ (λ parts. g.met.A.DeserializeComponents.kept _ _ c.args.saved.0 parts c.deserialize_entity-in-Ok.ensures.keeps.keeps) (c.in-Ok.ensures.gives alive), stops (c.deserialize_entity.ensures.keeps.live_on c.args.entity alive)))
    c.deserialize_entity-in-Ok.ensures.stops

pub returns-in-Err-clause-stops : goal.returns-in-Err-clause-stops
returns-in-Err-clause-stops g c alive = inl (c.in-Err.ensures.stops alive, refl)

pub returns-in-Ok-clause-gives : goal.returns-in-Ok-clause-gives
returns-in-Ok-clause-gives g c =
    on_ok_weaker c.deserialize_entity-in-Ok.result
    (λ given alive. given-kept _ _ _ _ _ (λ parts. g.met.A.DeserializeComponents.kept _ _ c.args.saved.0 parts c.deserialize_entity-in-Ok.ensures.keeps.keeps) (c.in-Ok.ensures.gives alive))
    c.deserialize_entity-in-Ok.ensures.gives

pub returns-in-Ok-clause-gives_too : goal.returns-in-Ok-clause-gives_too
returns-in-Ok-clause-gives_too g c =
    on_ok_weaker c.deserialize_entity-in-Ok.result (λ given alive. given (c.deserialize_entity.ensures.keeps.live_on c.args.entity alive)) c.deserialize_entity-in-Ok.ensures.gives
