use Rattle.std.proofs.Common.{◌≡◌, ℕ, Option, Some, None, is_some, true, rules, sym}
use Rattle.std.proofs.lemmas.Bool.{false≢true}
use Rattle.scene_world.specs.Rolls.{Roll, index_of}
use Rattle.scene_world.specs.Known.{known_at}
use Rattle.scene_world.proofs.KnownLemmas.{known-index}
use Rattle.scene_basics.specs.Known.{basic_roll}
use Rattle.scene_basics.proofs.adding.overflow_at.Goals as goal

-- where an id is known at an index, that index is known under it
somebody : (roll : Roll) (index : ℕ) (known : Option ℕ) → known ≡ known_at roll index → is_some known ≡ true → (id : ℕ) × (index_of roll id ≡ Some index)
somebody roll index None is some = absurd (false≢true some)
somebody roll index (Some id) is some = (id, known-index roll index id (sym is))

pub returns-in-Ok : goal.returns-in-Ok
returns-in-Ok g c =
    let known = somebody (basic_roll (g.W.Holder.slots c.args.view.now)) c.args.index c.id_known.result c.id_known.ensures c.if-is_none.ensures in
    (search rules, known.0, known.1)
