use Rattle.std.proofs.Common.{◌≡◌, ◌<◌, ◌++◌, ◌∷◌, [], length, get_or, max, sym, ap, ◌∙◌, subst, arith}
use Rattle.std.proofs.Math.ListN.{set}
use Rattle.std.proofs.lemmas.List.{get_or_read}
use Rattle.shred_plan.specs.declared.stage.Way.TheVariants.{Behind}
use Rattle.shred_plan.specs.Plan.{longest, time_of}
use Rattle.shred_plan.specs.Places.{HasRoom}
use Rattle.shred_plan.proofs.LongestLemmas.{longest-longer}
use Rattle.shred_plan.proofs.stage.Stage.take.Goals as goal

pub invariant_of-self-in-Behind : goal.invariant_of-self-in-Behind
invariant_of-self-in-Behind g c =
    let groups = c.self.inside.groups.items in
    let place = c.in-Behind.place in
    let one = c.args.adding in
    let room : HasRoom c.args.self.now (Behind place) = rw c.in-Behind.is at c.requires in
    let within : place < length groups = subst (λ stage. place < length stage) (sym c.self.view_is) room.0 in
    let read : c.index_mut-group.result.now ≡ get_or groups place [] = get_or_read groups place _ within c.index_mut-group.ensures.value [] in
    let pushed : c.push.new.self ≡ get_or groups place [] ++ one ∷ [] = c.in_default.ensures.ok ∙ ap (λ group. group ++ one ∷ []) read in (
      c.max-self-inside.ensures
          ∙ ap (λ n. max c.self.inside.longest_time n) c.time-time.ensures.value
          ∙ ap (λ n. max n (time_of c.push.new.self)) c.self.invariant.0
          ∙ ap (λ group. max (longest groups) (time_of group)) pushed
          ∙ sym (longest-longer groups place one within)
          ∙ ap (λ group. longest (set groups place group)) (sym pushed),
      omega arith,
    )
