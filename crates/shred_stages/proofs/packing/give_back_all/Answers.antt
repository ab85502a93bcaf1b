use Rattle.std.proofs.Common.{◌≡◌, ◌∷◌, List, sym, subst, rules}
use Rattle.std.specs.Vec.Iter.{drain_items}
use Rattle.shred_world.specs.Bundles.{holding_of}
use Rattle.shred_stages.specs.Seats.{refusal_of}
use Rattle.shred_stages.specs.Packs.{Packed}
use Rattle.shred_stages.specs.Away.{AreHome, ComeHome, ArePutBack}
use Rattle.shred_stages.proofs.LendingLemmas.{told-next, kits-next, few-next}
use Rattle.shred_stages.proofs.packing.give_back_all.Goals as goal

pub loop-pack-preserved : goal.loop-pack-preserved
loop-pack-preserved g c =
    let was = c.loop-pack.invariant in
    let rest = drain_items c.loop-pack.rest in
    let rest2 = drain_items c.next.new.self in
    let pack = c.in-Some.pack in
    let items : rest ≡ pack ∷ rest2 = search rules in
    let P : List (Packed g.row.V.Denot g.row.S.Denot) → Type 0 = λ list. ComeHome list (holding_of c.loop-pack.world) in
    record {
      come = (subst P items was.come).1 (holding_of c.give_back-told.new.world) c.give_back-told.ensures.home;
      home = λ last later. was.home last (let Q : List (Packed g.row.V.Denot g.row.S.Denot) → Type 0 = λ list. AreHome list (holding_of c.loop-pack.world) last in subst Q (sym items) (holding_of c.give_back-told.new.world, c.give_back-told.ensures.home, later));
      slots = λ last later. was.slots last (let Q : List (Packed g.row.V.Denot g.row.S.Denot) → Type 0 = λ list. ArePutBack list c.loop-pack.slots.items last in subst Q (sym items) (c.give_back-told.new.slots.items, c.give_back-told.ensures.slots, later));
      told = told-next rest rest2 (drain_items c.drain-rest.result) pack (refusal_of c.loop-pack.outcome) (refusal_of c.give_back-told.result.0) (refusal_of c.first_of-outcome.result) items c.give_back-told.ensures.told c.first_of-outcome.ensures was.told;
      kits = kits-next c.loop-pack.kits.items c.push_reserved.new.self.items rest rest2 (drain_items c.drain-rest.result) pack c.give_back-told.result.1 items c.push_reserved.ensures.items c.give_back-told.ensures.kit was.kits;
      capacity = search rules;
      few = few-next c.loop-pack.kits.items c.push_reserved.new.self.items rest rest2 pack c.give_back-told.result.1 _ items c.push_reserved.ensures.items was.few;
      keeps = search rules;
    }
