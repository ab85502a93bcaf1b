use Rattle.std.proofs.Common.{◌≡◌, length, refl, sym, ap, ◌∙◌, arith}
use Rattle.std.specs.Vec.Iter.{into_iter_len}
use Rattle.specs_saveload.proofs.LoadLemmas.{loading-begins, loading-ends, loading-goes-on, loading-refuses, loading-stops, none-left, one-less, place-inside}
use Rattle.specs_saveload.proofs.RetrieveLemmas.{bear-at, data-all, data-next, data-stops}
use Rattle.specs_saveload.proofs.GiveLemmas.{give-all, give-next, give-stops}
use Rattle.specs_saveload.proofs.deserialize.load_each.Goals as goal

pub loop-entry-init : goal.loop-entry-init
loop-entry-init g c =
    let into = c.into_iter-entry-iterator.ensures.into_iter_gives in
    record {
      len = into.1 ∙ (sym c.as_slice-count.ensures.len ∙ (ap length c.as_slice-count.ensures.value ∙ ap length (sym into.0)));
      loading = loading-begins _ _ _ _ _ _ _ _ _ into.0;
      each = record { steps = refl };
      given = record { steps = refl };
    }

pub overflow_add-place : goal.overflow_add-place
overflow_add-place g c =
    let inside = place-inside _ _ _ _ _ _ _ _ _ _ _ _ _ _ c.loop-entry.invariant.loading c.in-Some.ensures.steps.0 in
    let into = c.into_iter-entry-iterator.ensures.into_iter_gives in
    let items : length c.args.list.items ≡ into_iter_len c.into_iter-entry-iterator.result = ap length (sym c.as_slice-count.ensures.value) ∙ (c.as_slice-count.ensures.len ∙ sym into.1) in
    let short = into.2 in
    omega (arith, inside, items, short)

pub found_at-entity-requires : goal.found_at-entity-requires
found_at-entity-requires g c =
    let loading = c.loop-entry.invariant.loading in
    (bear-at _ _ _ _ _ c.in-Some.entry _ _ c.requires.bearers loading.whole c.in-Some.ensures.steps.0 loading.count).0

pub load_one-requires : goal.load_one-requires
load_one-requires g c =
    let loading = c.loop-entry.invariant.loading in
    let bears = (bear-at _ _ _ _ _ c.in-Some.entry _ _ c.requires.bearers loading.whole c.in-Some.ensures.steps.0 loading.count).1 in
    record { bearer = loading.loads.keeps.keeps c.in-Some.entry.marker c.found_at-entity.result (bears ∙ sym c.found_at-entity.ensures) }

pub loop-entry-preserved : goal.loop-entry-preserved
loop-entry-preserved g c =
    let loading = c.loop-entry.invariant.loading in
    record {
      len = one-less _ _ c.in-Some.entry _ _ c.loop-entry.invariant.len c.in-Some.ensures.steps.0 c.in-Some.ensures.steps.1;
      loading = loading-goes-on _ _ _ _ _ _ _ g.met.S.DeserializeComponents.kept _ _ _ c.in-Some.entry _ _ _ _ _ loading c.in-Some.ensures.steps.0 c.load_one.ensures.keeps c.load_one.ensures.elsewhere c.in-Ok.ensures.adds c.in-Ok.ensures.ok;
      each = data-next _ _ _ _ _ _ _ _ _ c.in-Some.entry _ _ _ _ loading.whole c.in-Some.ensures.steps.0 loading.count c.loop-entry.invariant.each c.in-Ok.ensures.retrieves;
      given = give-next _ _ g.met.S.DeserializeComponents.kept _ _ c.load_one.ensures.keeps.keeps _ _ _ _ c.in-Some.entry _ _ _ _ loading.whole c.in-Some.ensures.steps.0 loading.count c.loop-entry.invariant.given c.in-Ok.ensures.gives;
    }

pub returns-in-Err-clause-err : goal.returns-in-Err-clause-err
returns-in-Err-clause-err g c =
    loading-stops _ _ _ _ _ _ _ g.met.S.DeserializeComponents.kept _ _ _ c.in-Some.entry _ _ _ _ _ c.loop-entry.invariant.loading c.in-Some.ensures.steps.0 c.load_one.ensures.keeps c.load_one.ensures.elsewhere

pub returns-in-Err-clause-leaves : goal.returns-in-Err-clause-leaves
returns-in-Err-clause-leaves g c =
    let loading = c.loop-entry.invariant.loading in
    data-stops _ _ _ _ _ _ _ _ _ _ _ c.in-Some.entry _ _ _ _ loading.whole c.in-Some.ensures.steps.0 loading.count c.loop-entry.invariant.each c.in-Err.ensures.leaves

pub returns-clause-ok : goal.returns-clause-ok
returns-clause-ok g c =
    loading-ends _ _ _ _ _ _ _ _ _ _ _ _ c.loop-entry.invariant.loading (none-left _ _ c.loop-entry.invariant.len c.in-None.ensures.steps.0)

pub returns-clause-retrieves : goal.returns-clause-retrieves
returns-clause-retrieves g c =
    let loading = c.loop-entry.invariant.loading in
    data-all _ _ _ _ _ _ _ _ _ _ _ loading.whole (none-left _ _ c.loop-entry.invariant.len c.in-None.ensures.steps.0) loading.count c.loop-entry.invariant.each

pub returns-in-Err-clause-refused : goal.returns-in-Err-clause-refused
returns-in-Err-clause-refused g c =
    loading-refuses _ _ _ _ _ _ _ g.met.S.DeserializeComponents.kept _ _ _ c.in-Some.entry _ _ _ _ _ c.loop-entry.invariant.loading c.in-Some.ensures.steps.0 c.load_one.ensures.keeps c.load_one.ensures.elsewhere _ _ c.in-Err.ensures.refused

pub returns-clause-gives : goal.returns-clause-gives
returns-clause-gives g c =
    let loading = c.loop-entry.invariant.loading in
    give-all _ _ _ _ _ _ _ _ _ loading.whole (none-left _ _ c.loop-entry.invariant.len c.in-None.ensures.steps.0) loading.count c.loop-entry.invariant.given

pub returns-in-Err-clause-stops : goal.returns-in-Err-clause-stops
returns-in-Err-clause-stops g c =
    let loading = c.loop-entry.invariant.loading in
    give-stops _ _ g.met.S.DeserializeComponents.kept _ _ c.load_one.ensures.keeps.keeps _ _ _ _ _ c.in-Some.entry _ _ _ _ _ loading.whole c.in-Some.ensures.steps.0 loading.count c.loop-entry.invariant.given c.in-Err.ensures.stops
