use Rattle.std.proofs.Common.{◌≡◌, ℕ, List, [], ◌∷◌, ◌++◌, map, length, sym, ap, ◌∙◌, subst}
use Rattle.shred_world.specs.contracts.resource_id.ResourceIdPartialEq.TheImpl.{eq-value}
use Rattle.shred.specs.declared.work.Work.{Work}
use Rattle.shred.specs.Batches.{Batched}
use Rattle.shred.specs.Names.{texts, numbers_under}
use Rattle.shred.specs.Building.{Declared, refusal, built_with}
use Rattle.shred.specs.Dispatchers.{Drafting, with_building}
use Rattle.shred.specs.declared.nothing.NoBatch.{NoBatch}
use Rattle.scene_world.specs.Places.{kinds_of}
use Rattle.scene_world.specs.Turns.{placed_as}
use Rattle.scene_world.specs.declared.placed.Placed.{Placed}
use Rattle.scene_dispatch.specs.Lent.{reads_of, writes_of}
use Rattle.scene_dispatch.specs.Held.{drafting_in, AreHeld}
use Rattle.scene_dispatch.specs.Building.{RefusesOrWants}
use Rattle.scene_dispatch.proofs.WorkLemmas.{length-systems}
use Rattle.scene_dispatch.proofs.BuildLemmas.{same-refusal, refuses-or-wants, built-systems, held-added}
use Rattle.scene_dispatch.proofs.builder.SceneDispatcherBuilder.add.Goals as goal

-- what is held by a builder as it was is held by it as it is
moved : {P L : Type 0} (held : Drafting (Work P (Batched P NoBatch)) L → List ℕ → Type 0) (before after : Drafting (Work P (Batched P NoBatch)) L) (positions more : List ℕ) → after ≡ before → more ≡ positions → held before positions → held after more
moved held before after positions more same so is = subst (λ d. held d more) (sym same) (subst (held before) (sym so) is)

pub invariant_of-self-in-Ok-add : goal.invariant_of-self-in-Ok-add
invariant_of-self-in-Ok-add g c =
    let kinds = kinds_of g.R.Value.SceneValue.places g.R.DocumentRules.part_of g.R.WorldRules.columns in
    let meaning = placed_as (λ placed. placed.position) (λ placed. placed.system) g.R.DocumentRules.kind_of g.R.DocumentRules.config_of g.R.DocumentRules.declared g.R.Rules.sense g.R.Rules.does in
    let builder = c.self.inside.builder in
    let placed : Placed g.row.R.Denot g.row.R-Value.Denot g.row.R-Data.Denot g.row.R-Global.Denot g.row.R-System.Denot = record { position = c.args.position; system = c.args.system } in
    moved (λ d ps. AreHeld kinds meaning.plain d.building.staging (map (λ local. local.placed) d.locals) ps c.self.inside.local_positions.items) _ c.add.new.self _ c.push_reserved.new.self.items c.in-Ok-add.ensures.ok
    (c.push_reserved.ensures.items ∙ ap (λ l. l ++ c.args.position ∷ []) c.reserve.ensures.items)
    (held-added kinds g.met.R.WorldRules.apart meaning.plain builder.building.staging (map (λ local. local.placed) builder.locals) c.self.inside.positions.items c.self.inside.local_positions.items c.self.invariant
    placed c.requires.known eq-value.it (g.R.DocumentRules.said_time c.args.system) (numbers_under builder.building.names (texts c.args.after.now)))

pub returns-in-Ok-add-clause-taken : goal.returns-in-Ok-add-clause-taken
returns-in-Ok-add-clause-taken g c =
    ap (λ d. refusal d.building c.args.name.now (texts c.args.after.now)) (sym c.self.view_is)
    ∙ same-refusal c.self.inside.builder.building c.args.name.now (texts c.args.after.now) c.self.invariant.no_batch ∙ c.in-Ok-add.ensures.taken

pub returns-in-Ok-add-clause-number : goal.returns-in-Ok-add-clause-number
returns-in-Ok-add-clause-number g c =
    c.in-Ok-add.ensures.number ∙ sym (length-systems c.self.inside.builder.building.staging.systems c.self.invariant.no_batch) ∙ ap (λ d. length d.building.staging.systems) c.self.view_is

pub returns-in-Ok-add-clause-ok : goal.returns-in-Ok-add-clause-ok
returns-in-Ok-add-clause-ok g c =
    let kinds = kinds_of g.R.Value.SceneValue.places g.R.DocumentRules.part_of g.R.WorldRules.columns in
    let plain = (placed_as {P = Placed g.row.R.Denot g.row.R-Value.Denot g.row.R-Data.Denot g.row.R-Global.Denot g.row.R-System.Denot} (λ placed. placed.position) (λ placed. placed.system) g.R.DocumentRules.kind_of g.R.DocumentRules.config_of g.R.DocumentRules.declared g.R.Rules.sense g.R.Rules.does).plain in
    let builder = c.self.inside.builder in
    let placed : Placed g.row.R.Denot g.row.R-Value.Denot g.row.R-Data.Denot g.row.R-Global.Denot g.row.R-System.Denot = record { position = c.args.position; system = c.args.system } in
    let declared : Declared = record { reads = reads_of kinds (plain placed); writes = writes_of kinds (plain placed); time = g.R.DocumentRules.said_time c.args.system } in
    ap (drafting_in (λ local. local.placed)) c.in-Ok-add.ensures.ok
    ∙ ap (with_building (drafting_in (λ local. local.placed) builder)) (built-systems eq-value.it builder.building placed declared c.args.name.now (texts c.args.after.now) c.self.invariant.no_batch)
    ∙ ap (λ d. with_building d (built_with eq-value.it d.building placed declared c.args.name.now (texts c.args.after.now))) c.self.view_is

pub returns-in-Err-clause-refused : goal.returns-in-Err-clause-refused
returns-in-Err-clause-refused g c =
    subst (λ d. RefusesOrWants (refusal d.building c.args.name.now (texts c.args.after.now)) c.in-Err.error) c.self.view_is
    (subst (λ why. RefusesOrWants why c.in-Err.error) (sym (same-refusal c.self.inside.builder.building c.args.name.now (texts c.args.after.now) c.self.invariant.no_batch))
    (refuses-or-wants _ c.in-Err.error c.in-Err.ensures.refused))
