use Rattle.std.proofs.Common.{◌++◌}
use Rattle.std.proofs.lemmas.Result.{IfErr-weaker, on_ok_weaker}
use Rattle.specs_saveload.specs.LoadingLemmas.{both-are, both-kept}
use Rattle.specs_saveload.proofs.LoadLemmas.{asks-both, goes-both, refused-left, refused-right}
use Rattle.specs_saveload.proofs.RetrieveLemmas.{each-both, some-first, some-second}
use Rattle.std.proofs.Common.{inl, inr, refl}
use Rattle.specs_saveload.proofs.StopLemmas.{on-refused}
use Rattle.specs_saveload.proofs.GiveLemmas.{given-kept, on_ok_both, pair-given}
use Rattle.specs_saveload.proofs.deserialize.Tuple4DeserializeComponents.deserialize_entity.Goals as goal

pub returns-in-Ok-clause-ok : goal.returns-in-Ok-clause-ok
returns-in-Ok-clause-ok g c =
    on_ok_weaker c.load_two-in-Ok.result
    (λ two alive. both-are _ _ _ _
    (both-kept _ _ _ _ _
    (λ part. g.met.A.DeserializeComponents.kept _ _ c.args.saved.0.0 part c.load_two-in-Ok.ensures.keeps.keeps)
    (λ part. g.met.B.DeserializeComponents.kept _ _ c.args.saved.0.1 part c.load_two-in-Ok.ensures.keeps.keeps)
    (c.in-Ok.ensures.ok alive))
    (two (c.load_two.ensures.keeps.live_on c.args.entity alive)))
    c.load_two-in-Ok.ensures.ok

pub returns-in-Ok-clause-adds : goal.returns-in-Ok-clause-adds
returns-in-Ok-clause-adds g c =
    on_ok_weaker c.load_two-in-Ok.result (asks-both _ _ _ _ _ _ _ _ c.in-Ok.ensures.adds c.load_two-in-Ok.ensures.keeps) c.load_two-in-Ok.ensures.adds

pub returns-in-Ok-clause-keeps : goal.returns-in-Ok-clause-keeps
returns-in-Ok-clause-keeps g c = goes-both _ _ _ _ _ c.load_two.ensures.keeps c.load_two-in-Ok.ensures.keeps

pub returns-in-Ok-clause-dead : goal.returns-in-Ok-clause-dead
returns-in-Ok-clause-dead g c gone =
    let one = c.load_two.ensures.dead (λ alive. gone (c.load_two-in-Ok.ensures.keeps.live_on c.args.entity alive)) in
    let two = c.load_two.ensures.dead_too (λ alive. gone (c.load_two-in-Ok.ensures.keeps.live_on c.args.entity alive)) in
    let three = c.load_two-in-Ok.ensures.dead gone in
    let four = c.load_two-in-Ok.ensures.dead_too gone in
    λ i. (one i, two i, three i, four i)

pub returns-in-Ok-clause-gives : goal.returns-in-Ok-clause-gives
returns-in-Ok-clause-gives g c =
    on_ok_both c.load_two-in-Ok.result
    (λ three four alive.
    let later = c.load_two.ensures.keeps.live_on c.args.entity alive in
    let front = pair-given _ _ _ _ _ _ _ _
    (given-kept _ _ _ _ _ (λ parts. g.met.A.DeserializeComponents.kept _ _ c.args.saved.0.0 parts c.load_two-in-Ok.ensures.keeps.keeps) (c.in-Ok.ensures.gives alive))
    (given-kept _ _ _ _ _ (λ parts. g.met.B.DeserializeComponents.kept _ _ c.args.saved.0.1 parts c.load_two-in-Ok.ensures.keeps.keeps) (c.in-Ok.ensures.gives_too alive)) in
    let third = three later in
    let fourth = four later in
    record {
      value = (front.value, (third.value, fourth.value));
      loaded = both-are _ _ front.value (third.value, fourth.value) front.loaded (both-are _ _ third.value fourth.value third.loaded fourth.loaded);
      given = (front.given.0, front.given.1, third.given, fourth.given);
    })
    c.load_two-in-Ok.ensures.gives
    c.load_two-in-Ok.ensures.gives_too

pub returns-in-Ok-clause-refused : goal.returns-in-Ok-clause-refused
returns-in-Ok-clause-refused g c =
    IfErr-weaker c.load_two-in-Ok.result _ _ (refused-right g.G.MarkerAllocator.refuses g.M.Marker.id_of c.load_two-in-Ok.new.entities c.load_two-in-Ok.new.allocator (g.A.DeserializeComponents.markers_of c.args.saved.0.0 ++ g.B.DeserializeComponents.markers_of c.args.saved.0.1) (g.C.DeserializeComponents.markers_of c.args.saved.1.0 ++ g.D.DeserializeComponents.markers_of c.args.saved.1.1)) c.load_two-in-Ok.ensures.refused

pub returns-in-Err-clause-refused : goal.returns-in-Err-clause-refused
returns-in-Err-clause-refused g c =
    refused-left g.G.MarkerAllocator.refuses g.M.Marker.id_of c.load_two.new.entities c.load_two.new.allocator (g.A.DeserializeComponents.markers_of c.args.saved.0.0 ++ g.B.DeserializeComponents.markers_of c.args.saved.0.1) (g.C.DeserializeComponents.markers_of c.args.saved.1.0 ++ g.D.DeserializeComponents.markers_of c.args.saved.1.1) c.in-Err.error c.in-Err.ensures.refused

pub returns-in-Ok-clause-retrieves : goal.returns-in-Ok-clause-retrieves
returns-in-Ok-clause-retrieves g c = on_ok_weaker c.load_two-in-Ok.result (each-both _ _ _ _ _ _ _ _ _ c.in-Ok.ensures.retrieves) c.load_two-in-Ok.ensures.retrieves

pub returns-in-Ok-clause-leaves : goal.returns-in-Ok-clause-leaves
returns-in-Ok-clause-leaves g c = IfErr-weaker c.load_two-in-Ok.result _ _ (λ error some. some-second _ _ _ _ _ error _ _ _ _ _ c.in-Ok.ensures.retrieves some) c.load_two-in-Ok.ensures.leaves

pub returns-in-Err-clause-leaves : goal.returns-in-Err-clause-leaves
returns-in-Err-clause-leaves g c = some-first _ _ _ _ _ _ _ _ _ _ c.in-Err.ensures.leaves

pub returns-in-Ok-clause-stops : goal.returns-in-Ok-clause-stops
returns-in-Ok-clause-stops g c =
    on-refused c.load_two-in-Ok.result
    (λ stops alive. inr (
      pair-given _ _ _ _ _ _ _ _
          (given-kept _ _ _ _ _ (λ parts. g.met.A.DeserializeComponents.kept _ _ c.args.saved.0.0 parts c.load_two-in-Ok.ensures.keeps.keeps) (c.in-Ok.ensures.gives alive))
          (given-kept _ _ _ _ _ (λ parts. g.met.B.DeserializeComponents.kept _ _ c.args.saved.0.1 parts c.load_two-in-Ok.ensures.keeps.keeps) (c.in-Ok.ensures.gives_too alive)),
      stops (c.load_two.ensures.keeps.live_on c.args.entity alive),
    ))
    c.load_two-in-Ok.ensures.stops

pub returns-in-Err-clause-stops : goal.returns-in-Err-clause-stops
returns-in-Err-clause-stops g c alive = inl (c.in-Err.ensures.stops alive, refl)
