use Rattle.std.proofs.Common.{◌≡◌, ◌+◌, length, ap, ◌∙◌, ◌∷◌, [], map, sym, subst, rules, arith, ◌<◌, length-append, inl}
use Rattle.std.proofs.lemmas.List.{length-map}
use Rattle.shred_stages.specs.Staging.{Staging}
use Rattle.shred_stages.proofs.FreeLemmas.{planned-more}
use Rattle.shred_stages.proofs.stages.StagesBuilder.insert.Goals as goal

pub invariant_of-self : goal.invariant_of-self
invariant_of-self g c =
    let made = c.in-Ok-stage_system.ensures in
    let number : c.new-adding.result.number ≡ length c.self.inside.staged.items = search rules in
    let more : length c.stage_system.new.staged.items ≡ length c.self.inside.staged.items + 1 = ap length made.staged ∙ length-append c.self.inside.staged.items (_ ∷ []) in
    let P : Staging g.row.S.Denot → Type 0 = λ staging. length staging.systems < 65536 in
    let systems = map (λ one. one.system) c.self.inside.staged.items in
    let room : length systems < 65536 = subst P (sym c.self.view_is) c.requires.room in
    let long : length systems ≡ length c.self.inside.staged.items = length-map c.self.inside.staged.items (λ one. one.system) in
    (record { planned = planned-more _ c.self.inside.planner c.stage_system.new.planner (length c.self.inside.staged.items) (length c.stage_system.new.staged.items) c.new-adding.result c.self.invariant.0.planned made.planned number more; seated = made.seated; few = omega (arith, more, room, long) }, inl c.new.ensures.items)
