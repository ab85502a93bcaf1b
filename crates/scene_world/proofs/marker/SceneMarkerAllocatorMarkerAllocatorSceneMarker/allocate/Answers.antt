use Rattle.std.proofs.Common.{inr, refl, sym, ap, subst, ◌∙◌, nat_eq}
use Rattle.std.specs.Map.{lookup}
use Rattle.specs_entity.specs.declared.errors.Error.TheVariants as refusal
use Rattle.specs_markers.specs.Simple.{RefusesMarker, Gives}
use Rattle.specs_markers.proofs.CallerLemmas.{at_numbers, get-number, allocated-is, gives-notes}
use Rattle.scene_world.proofs.marker.SceneMarkerAllocatorMarkerAllocatorSceneMarker.allocate.Goals as goal

pub returns-in-Err-clause-refused : goal.returns-in-Err-clause-refused
returns-in-Err-clause-refused c =
    let entries = c.self.inside.mapping.entries in
    let number = c.unwrap_or-number.ensures in
    subst (λ a. RefusesMarker a c.args.id refusal.Memory) c.self.view_is
    (inr (refl, (λ spent. c.if-number.false (number ∙ spent)), get-number entries _ ∙ (ap (λ n. lookup (nat_eq n) entries) (sym number) ∙ c.in-Err.ensures.absent)))

pub returns-clause-value : goal.returns-clause-value
returns-clause-value c =
    let number = c.unwrap_or-number.ensures in
    let after = c.insert.new.self.entries in
    subst (λ a. Gives a c.args.entity c.args.id c.new.result (record { next = c.max-self-inside.result; noted = at_numbers after })) c.self.view_is
    (record {
      left = λ spent. c.if-number.false (number ∙ spent);
      id = c.new.ensures ∙ number;
      allocator =
          ap (λ n. record { next = n; noted = at_numbers after }) c.max-self-inside.ensures
          ∙ allocated-is c.self.inside.next c.unwrap_or-number.result c.args.id c.args.entity c.self.inside.mapping.entries after number c.in-Ok.ensures.updates.0;
    })

pub returns-clause-ok : goal.returns-clause-ok
returns-clause-ok c = gives-notes c.args.self.now _ c.args.entity c.args.id c.new.result (returns-clause-value c)
