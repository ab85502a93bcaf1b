use Rattle.std.proofs.Common.{[], ◌∷◌, ◌++◌, map, sym, ap, ◌∙◌, subst}
use Rattle.std.proofs.lemmas.List.{map-append}
use Rattle.scene_world.specs.Places.{kinds_of}
use Rattle.scene_world.specs.Turns.{placed_as}
use Rattle.scene_world.specs.declared.placed.Placed.{Placed}
use Rattle.scene_dispatch.specs.Held.{AreHeld}
use Rattle.scene_dispatch.specs.declared.local.PlacedLocal.{PlacedLocal}
use Rattle.scene_dispatch.proofs.BuildLemmas.{held-local}
use Rattle.scene_dispatch.proofs.builder.SceneDispatcherBuilder.add_local.Goals as goal

pub invariant_of-self-in-Ok-add_thread_local : goal.invariant_of-self-in-Ok-add_thread_local
invariant_of-self-in-Ok-add_thread_local g c =
    let kinds = kinds_of g.R.Value.SceneValue.places g.R.DocumentRules.part_of g.R.WorldRules.columns in
    let plain = (placed_as {P = Placed g.row.R.Denot g.row.R-Value.Denot g.row.R-Data.Denot g.row.R-Global.Denot g.row.R-System.Denot} (λ placed. placed.position) (λ placed. placed.system) g.R.DocumentRules.kind_of g.R.DocumentRules.config_of g.R.DocumentRules.declared g.R.Rules.sense g.R.Rules.does).plain in
    let builder = c.self.inside.builder in
    let placed : Placed g.row.R.Denot g.row.R-Value.Denot g.row.R-Data.Denot g.row.R-Global.Denot g.row.R-System.Denot = record { position = c.args.position; system = c.args.system } in
    let local : PlacedLocal g.row.R.Denot g.row.R-Value.Denot g.row.R-Data.Denot g.row.R-Global.Denot g.row.R-System.Denot = record { placed = placed } in
    subst (λ d. AreHeld kinds plain d.building.staging (map (λ local. local.placed) d.locals) c.self.inside.positions.items c.push_reserved.new.self.items) (sym c.in-Ok-add_thread_local.ensures.ok)
    (subst (AreHeld kinds plain builder.building.staging (map (λ local. local.placed) (builder.locals ++ local ∷ [])) c.self.inside.positions.items)
    (sym (c.push_reserved.ensures.items ∙ ap (λ l. l ++ c.args.position ∷ []) c.reserve.ensures.items))
    (subst (λ l. AreHeld kinds plain builder.building.staging l c.self.inside.positions.items (c.self.inside.local_positions.items ++ c.args.position ∷ [])) (sym (map-append (λ local. local.placed) builder.locals (local ∷ [])))
    (held-local kinds g.met.R.WorldRules.apart plain builder.building.staging (map (λ local. local.placed) builder.locals) c.self.inside.positions.items c.self.inside.local_positions.items c.self.invariant placed c.requires.known)))
