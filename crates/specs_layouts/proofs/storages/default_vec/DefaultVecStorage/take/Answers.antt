use Rattle.std.proofs.Common.{length, Some, None, cond, is_some, slice_set, refl, sym, ap, subst, ◌∙◌}
use Rattle.std.specs.List.{slice_get}
use Rattle.std.proofs.lemmas.Option.{slice_get_read}
use Rattle.specs_layouts.specs.Parts.{Puts}
use Rattle.specs_layouts.specs.Defaults.{Slots, filled_part}
use Rattle.specs_layouts.specs.FilledLemmas.{filled-there}
use Rattle.specs_layouts.proofs.FilledSteps.{taken-slots, taken-puts, taken-gap}
use Rattle.specs_layouts.proofs.storages.default_vec.DefaultVecStorage.take.Goals as goal

pub invariant_of-self : goal.invariant_of-self
invariant_of-self g c =
    let old = c.self.inside in
    let s : Slots g.row.T.Denot = record { values = old.slots.items; present = old.present.members } in
    let h = filled-there s c.args.id (ap (λ (t : Slots g.row.T.Denot). is_some (filled_part t c.args.id)) c.self.view_is ∙ c.requires) in
    taken-slots g.T.Default.is_default s.values s.present c.remove.new.self.members c.args.id c.self.invariant c.remove.ensures.members h.0 c.take-part.new.dest c.take-part.ensures.after

pub returns-clause-value : goal.returns-clause-value
returns-clause-value g c =
    let old = c.self.inside in
    let s : Slots g.row.T.Denot = record { values = old.slots.items; present = old.present.members } in
    let h = filled-there s c.args.id (ap (λ (t : Slots g.row.T.Denot). is_some (filled_part t c.args.id)) c.self.view_is ∙ c.requires) in
    sym (ap (λ (t : Slots g.row.T.Denot). filled_part t c.args.id) c.self.view_is)
    ∙ (ap (λ b. cond b (slice_get s.values c.args.id) None) h.0
    ∙ (slice_get_read s.values (length s.values) c.args.id c.index_mut.result.now refl (c.self.invariant c.args.id h.0) c.index_mut.ensures.value
    ∙ ap Some (sym c.take-part.ensures.value)))

pub returns-clause-parts : goal.returns-clause-parts
returns-clause-parts g c =
    let old = c.self.inside in
    let s : Slots g.row.T.Denot = record { values = old.slots.items; present = old.present.members } in
    let h = filled-there s c.args.id (ap (λ (t : Slots g.row.T.Denot). is_some (filled_part t c.args.id)) c.self.view_is ∙ c.requires) in
    let after : Slots g.row.T.Denot = record { values = slice_set s.values c.args.id c.take-part.new.dest; present = c.remove.new.self.members } in
    subst (λ (t : Slots g.row.T.Denot). Puts (filled_part t) c.args.id None (filled_part after)) c.self.view_is
    (taken-puts g.T.Default.is_default s.values s.present c.remove.new.self.members c.args.id c.self.invariant c.remove.ensures.members h.0 c.take-part.new.dest c.take-part.ensures.after)

pub returns-clause-gap : goal.returns-clause-gap
returns-clause-gap g c =
    let old = c.self.inside in
    let s : Slots g.row.T.Denot = record { values = old.slots.items; present = old.present.members } in
    let h = filled-there s c.args.id (ap (λ (t : Slots g.row.T.Denot). is_some (filled_part t c.args.id)) c.self.view_is ∙ c.requires) in
    taken-gap g.T.Default.is_default s.values s.present c.remove.new.self.members c.args.id c.self.invariant c.remove.ensures.members h.0 c.take-part.new.dest c.take-part.ensures.after
