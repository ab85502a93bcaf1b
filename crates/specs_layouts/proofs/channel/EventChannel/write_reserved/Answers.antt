use Rattle.std.proofs.Common.{◌≡◌, ◌<◌, ◌/◌, ◌∷◌, ◌++◌, [], ℕ, zero, suc, ◌-◌, length, map, ap, ◌∙◌, arith}
use Rattle.hibitset_sets.proofs.CallerLemmas.{word-none}
use Rattle.specs_layouts.specs.Blocks.{with_events}
use Rattle.specs_layouts.specs.Channels.{room_after}
use Rattle.specs_layouts.proofs.channel.EventChannel.write_reserved.Goals as goal

room-one : (room len : ℕ) → 0 < room → room - 1 ≡ room_after room len
room-one zero len some = absurd (omega (arith, some))
room-one (suc room) len some = omega arith

pub push-requires : goal.push-requires
push-requires g c =
    let index_of = g.E.IndexEvent.index_of in
    let same_at = g.E.IndexEvent.same_at in
    let one = ap (λ indices. length (map (same_at c.args.event) indices)) (word-none (index_of c.args.event / 64)) in
    let some = c.requires in
    omega (arith, one, some)

pub returns : goal.returns
returns g c =
    let index_of = g.E.IndexEvent.index_of in
    let same_at = g.E.IndexEvent.same_at in
    let old = c.args.self.now in
    c.push.ensures
    ∙ ap (λ indices. with_events old (c.args.event ∷ map (same_at c.args.event) indices)) (word-none (index_of c.args.event / 64))
    ∙ ap (λ (n : ℕ). record { held = old.held ++ c.args.event ∷ []; room = n; places = old.places }) (room-one old.room (length old.held) c.requires)
