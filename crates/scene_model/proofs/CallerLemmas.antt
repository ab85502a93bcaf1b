-- What proofs of the crates above cite, and nothing else of these lemmas.
pub use Rattle.scene_model.proofs.FragmentLemmas.{same_scene, admitted-fragment, living-fragment, readable-fragment, admitted-left, living-left, readable-left}
pub use Rattle.scene_model.proofs.OrderLemmas.{is_eq-nat_cmp, lives-ascending, in_order-ascends, same-ids, lives-kept, lives-behind, behind-ascends, not-above}
pub use Rattle.scene_model.proofs.LeadLemmas.{behind_all-played, lead-changed, finds_no_id, none-to, skipped-to, joined-to, refused-join}
pub use Rattle.scene_model.proofs.WalkLemmas.{split_at, front_at, holds_at, all_front, all_back, no_items}
pub use Rattle.scene_model.proofs.MadeLemmas.{led_to, spawned, spawn-makes, tested-makes, play-keeps, lives-longer, lives-passed}
pub use Rattle.scene_model.proofs.BetweenLemmas.{IsBetween, find-none, none-of-ids, none-of-names, apply-between, admitted-again, proper-between, now-gone, not-there}
pub use Rattle.scene_model.proofs.DeathLemmas.{dying-live, each-killed}
