use Rattle.std.proofs.Common.{drop, ap, sym, subst, ◌∙◌}
use Rattle.std.specs.Map.{keys_of}
use Rattle.std.proofs.lemmas.List.{take_rest}
use Rattle.std.proofs.lemmas.Map.Keys.{IsDistinct-from_sorted}
use Rattle.shred_world.specs.ResourceIds.{id_cmp}
use Rattle.shred_world.specs.Places.{IsStartOf, first_valued}
use Rattle.shred_world.specs.Worlds.{IsLeastFrom}
use Rattle.shred_world.proofs.WorldLemmas.{slot_at}
use Rattle.shred_world.proofs.LeastLemmas.{least_is_least, first_from_start}
use Rattle.shred_world.proofs.world.World.least_id.Goals as goal

-- from where the slots of the id begin, the first with a value is the least
pub returns : goal.returns
returns g c =
    let slots = c.self.inside.slots.items in
    let start = c.start_of-start.result in
    let begins = subst (λ id. IsStartOf slots id start) c.from_type_id_and_dynamic_id.ensures (subst (λ items. IsStartOf items c.from_type_id_and_dynamic_id.result start) c.deref.ensures.value c.start_of-start.ensures) in
    let first = c.first_with_value.ensures ∙ ap (first_valued c.args.kind) (take_rest c.deref-2.result.now start) ∙ ap (λ items. first_valued c.args.kind (drop start items)) c.deref-2.ensures.value
    ∙ sym (first_from_start c.args.kind c.args.from slots c.self.invariant start begins) in
    subst (IsLeastFrom c.args.self.now c.args.kind c.args.from) (sym first)
    (least_is_least c.args.kind c.args.from slots (IsDistinct-from_sorted id_cmp (keys_of slots) c.self.invariant) c.args.self.now (λ id. slot_at slots c.args.self.now id c.self.view_is))
