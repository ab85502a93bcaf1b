use Rattle.std.proofs.Common.{◌≡◌, ◌<◌, ◌≤◌, length, Some, slice_set, arith, sym, ap, subst, ◌∙◌}
use Rattle.std.specs.List.{slice_get}
use Rattle.std.proofs.lemmas.Grind.{common_steps}
use Rattle.std.specs.FinSet as fin
use Rattle.specs_layouts.specs.Parts.{Puts}
use Rattle.specs_layouts.specs.Defaults.{Slots, filled_part}
use Rattle.specs_layouts.proofs.FilledSteps.{inserted-slots, inserted-part-puts, inserted-gaps, inserted-kept}
use Rattle.specs_layouts.proofs.storages.default_vec.DefaultVecStorageUnprotectedStorage.insert.Goals as goal

pub invariant_of-self-2 : goal.invariant_of-self-2
invariant_of-self-2 g c =
    let old = c.self.inside in
    let s : Slots g.row.T.Denot = record { values = old.slots.items; present = old.present.members } in
    let inside : c.args.id < length c.extend_defaults.new.slots.items = grind (arith, common_steps) in
    let put : c.add.new.self.members ≡ fin.insert s.present c.args.id = grind (arith, common_steps) in
    inserted-slots g.T.Default.is_default s.values s.present c.add.new.self.members c.args.id c.self.invariant c.extend_defaults.new.slots.items c.extend_defaults.ensures.longer c.extend_defaults.ensures.kept c.extend_defaults.ensures.filled put inside c.args.part

pub returns-clause-ok : goal.returns-clause-ok
returns-clause-ok g c =
    let old = c.self.inside in
    let s : Slots g.row.T.Denot = record { values = old.slots.items; present = old.present.members } in
    let inside : c.args.id < length c.extend_defaults.new.slots.items = grind (arith, common_steps) in
    let put : c.add.new.self.members ≡ fin.insert s.present c.args.id = grind (arith, common_steps) in
    let after : Slots g.row.T.Denot = record { values = slice_set c.extend_defaults.new.slots.items c.args.id c.args.part; present = c.add.new.self.members } in
    subst (λ (t : Slots g.row.T.Denot). Puts (filled_part t) c.args.id (Some c.args.part) (filled_part after)) c.self.view_is
    (inserted-part-puts g.T.Default.is_default s.values s.present c.add.new.self.members c.args.id c.self.invariant c.extend_defaults.new.slots.items c.extend_defaults.ensures.longer c.extend_defaults.ensures.kept c.extend_defaults.ensures.filled put inside c.args.part)

pub returns-clause-gaps : goal.returns-clause-gaps
returns-clause-gaps g c =
    let old = c.self.inside in
    let s : Slots g.row.T.Denot = record { values = old.slots.items; present = old.present.members } in
    let inside : c.args.id < length c.extend_defaults.new.slots.items = grind (arith, common_steps) in
    let put : c.add.new.self.members ≡ fin.insert s.present c.args.id = grind (arith, common_steps) in
    λ other apart past.
    inserted-gaps g.T.Default.is_default s.values s.present c.add.new.self.members c.args.id c.self.invariant c.extend_defaults.new.slots.items c.extend_defaults.ensures.longer c.extend_defaults.ensures.kept c.extend_defaults.ensures.filled put inside c.args.part other apart (subst (λ (t : Slots g.row.T.Denot). length t.values ≤ other) (sym c.self.view_is) past)

pub returns-clause-slots : goal.returns-clause-slots
returns-clause-slots g c =
    let old = c.self.inside in
    let s : Slots g.row.T.Denot = record { values = old.slots.items; present = old.present.members } in
    let inside : c.args.id < length c.extend_defaults.new.slots.items = grind (arith, common_steps) in
    let put : c.add.new.self.members ≡ fin.insert s.present c.args.id = grind (arith, common_steps) in
    λ other apart within.
    inserted-kept g.T.Default.is_default s.values s.present c.add.new.self.members c.args.id c.self.invariant c.extend_defaults.new.slots.items c.extend_defaults.ensures.longer c.extend_defaults.ensures.kept c.extend_defaults.ensures.filled put inside c.args.part other apart (subst (λ (t : Slots g.row.T.Denot). other < length t.values) (sym c.self.view_is) within)
    ∙ ap (λ (t : Slots g.row.T.Denot). slice_get t.values other) c.self.view_is
