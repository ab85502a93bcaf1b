use Rattle.std.proofs.Common.{◌++◌}
use Rattle.std.proofs.lemmas.Result.{IfErr-weaker, on_ok_weaker}
use Rattle.specs_saveload.specs.LoadingLemmas.{three-are, three-of}
use Rattle.specs_saveload.proofs.LoadLemmas.{asks-both, goes-both, refused-left, refused-right}
use Rattle.specs_saveload.proofs.RetrieveLemmas.{each-both, some-first, some-second}
use Rattle.std.proofs.Common.{inl, inr, refl}
use Rattle.specs_saveload.proofs.StopLemmas.{on-refused}
use Rattle.specs_saveload.proofs.GiveLemmas.{given-kept, on_ok_both}
use Rattle.specs_saveload.proofs.deserialize.Tuple3DeserializeComponents.deserialize_entity.Goals as goal

pub returns-in-Ok-clause-ok : goal.returns-in-Ok-clause-ok
returns-in-Ok-clause-ok g c =
    on_ok_weaker c.load_two.result
    (λ two alive. three-of _ _ _ _ _ _
    (g.met.A.DeserializeComponents.kept _ _ c.args.saved.0 _ c.load_two.ensures.keeps.keeps (c.in-Ok.ensures.ok alive))
    (two (c.deserialize_entity.ensures.keeps.live_on c.args.entity alive)))
    c.load_two.ensures.ok

pub returns-in-Ok-clause-adds : goal.returns-in-Ok-clause-adds
returns-in-Ok-clause-adds g c =
    on_ok_weaker c.load_two.result (asks-both _ _ _ _ _ _ _ _ c.in-Ok.ensures.adds c.load_two.ensures.keeps) c.load_two.ensures.adds

pub returns-in-Ok-clause-keeps : goal.returns-in-Ok-clause-keeps
returns-in-Ok-clause-keeps g c = goes-both _ _ _ _ _ c.deserialize_entity.ensures.keeps c.load_two.ensures.keeps

pub returns-in-Ok-clause-refused : goal.returns-in-Ok-clause-refused
returns-in-Ok-clause-refused g c =
    IfErr-weaker c.load_two.result _ _ (refused-right g.G.MarkerAllocator.refuses g.M.Marker.id_of c.load_two.new.entities c.load_two.new.allocator (g.A.DeserializeComponents.markers_of c.args.saved.0) (g.B.DeserializeComponents.markers_of c.args.saved.1 ++ g.C.DeserializeComponents.markers_of c.args.saved.2)) c.load_two.ensures.refused

pub returns-in-Err-clause-refused : goal.returns-in-Err-clause-refused
returns-in-Err-clause-refused g c =
    refused-left g.G.MarkerAllocator.refuses g.M.Marker.id_of c.deserialize_entity.new.entities c.deserialize_entity.new.allocator (g.A.DeserializeComponents.markers_of c.args.saved.0) (g.B.DeserializeComponents.markers_of c.args.saved.1 ++ g.C.DeserializeComponents.markers_of c.args.saved.2) c.in-Err.error c.in-Err.ensures.refused

pub returns-in-Ok-clause-retrieves : goal.returns-in-Ok-clause-retrieves
returns-in-Ok-clause-retrieves g c = on_ok_weaker c.load_two.result (each-both _ _ _ _ _ _ _ _ _ c.in-Ok.ensures.retrieves) c.load_two.ensures.retrieves

pub returns-in-Ok-clause-leaves : goal.returns-in-Ok-clause-leaves
returns-in-Ok-clause-leaves g c = IfErr-weaker c.load_two.result _ _ (λ error some. some-second _ _ _ _ _ error _ _ _ _ _ c.in-Ok.ensures.retrieves some) c.load_two.ensures.leaves

pub returns-in-Err-clause-leaves : goal.returns-in-Err-clause-leaves
returns-in-Err-clause-leaves g c = some-first _ _ _ _ _ _ _ _ _ _ c.in-Err.ensures.leaves

pub returns-in-Ok-clause-dead : goal.returns-in-Ok-clause-dead
returns-in-Ok-clause-dead g c gone =
    let one = c.deserialize_entity.ensures.dead (λ alive. gone (c.load_two.ensures.keeps.live_on c.args.entity alive)) in
    let two = c.load_two.ensures.dead gone in
    let three = c.load_two.ensures.dead_too gone in
    λ i. (one i, two i, three i)

pub returns-in-Ok-clause-gives : goal.returns-in-Ok-clause-gives
returns-in-Ok-clause-gives g c =
    on_ok_both c.load_two.result
    (λ two three alive.
    let first = given-kept _ _ _ _ _ (λ parts. g.met.A.DeserializeComponents.kept _ _ c.args.saved.0 parts c.load_two.ensures.keeps.keeps) (c.in-Ok.ensures.gives alive) in
    let second = two (c.deserialize_entity.ensures.keeps.live_on c.args.entity alive) in
    let third = three (c.deserialize_entity.ensures.keeps.live_on c.args.entity alive) in
    record {
      value = (first.value, second.value, third.value);
      loaded = three-are _ _ _ first.value second.value third.value first.loaded second.loaded third.loaded;
      given = (first.given, second.given, third.given);
    })
    c.load_two.ensures.gives
    c.load_two.ensures.gives_too

pub returns-in-Ok-clause-stops : goal.returns-in-Ok-clause-stops
returns-in-Ok-clause-stops g c =
    on-refused c.load_two.result
    (λ stops alive. inr (given-kept _ _ _ _ _ (λ parts. g.met.A.DeserializeComponents.kept _ _ c.args.saved.0 parts c.load_two.ensures.keeps.keeps) (c.in-Ok.ensures.gives alive), stops (c.deserialize_entity.ensures.keeps.live_on c.args.entity alive)))
    c.load_two.ensures.stops

pub returns-in-Err-clause-stops : goal.returns-in-Err-clause-stops
returns-in-Err-clause-stops g c alive = inl (c.in-Err.ensures.stops alive, refl)
