use Rattle.std.proofs.Common.{rules}
use Rattle.scene_world.proofs.any_store.AnyStoreUnprotectedStorage.get_mut.Goals as goal

-- the layout without a model shows its field
pub returns-in-Vec : goal.returns-in-Vec
returns-in-Vec g c = rw c.in-Vec.is (search rules)
