-- What proofs of the crates above cite, and nothing else of these lemmas.
pub use Rattle.scene_world.proofs.RollLemmas.{is-id, living-lives, same-life, life-is, life-there, id-marks, id-at-index, lives-index, ids-ascend, index-of-id, ids-differ}
pub use Rattle.scene_world.proofs.StandingLemmas.{same-roll}
pub use Rattle.scene_world.proofs.PlaceLemmas.{whole-world, lent-ids}
pub use Rattle.scene_world.proofs.PartLemmas.{scene-set}
pub use Rattle.scene_world.proofs.DeathLemmas.{buried-roll, buried-scene, buried-within}
pub use Rattle.scene_world.proofs.BirthLemmas.{lives-below, next-noted, noted-forgotten, next-after, born-roll, born-within, born-scene}
pub use Rattle.scene_world.proofs.WriteLemmas.{written-roll, written-here, left-ids, left-others, left-globals, left-parts, left-lawful, set-roll, set-columns, set-ids, set-parts, set-globals, set-global, set-fit, set-valued, lawful-after, numbers-write, numbers-shown, numbers-within, numbers-left, numbers-lawful}
pub use Rattle.scene_world.proofs.StepLemmas.{owned-plain}
pub use Rattle.scene_world.proofs.ShownLemmas.{HasColumn, shown-put, shown-taken, shown-kept, reader-gained, reader-caught, shows-seen, shows-inserted, kind-stays, markers-stay, kind-both, markers-both, world-stays, world-both, tells-on}
pub use Rattle.scene_world.proofs.AgeLemmas.{ages-none, ages-both, ages-by-death, ages-by-birth}
pub use Rattle.scene_world.proofs.EachLemmas.{each-same, each-none, each-mapped, each-more, each-passed}
pub use Rattle.scene_world.proofs.OwningLemmas.{same-owning}
pub use Rattle.scene_world.proofs.KnownLemmas.{none-noted, none-lives, lent-none, lent-some, found-give, known-index}
pub use Rattle.scene_world.proofs.ColumnLemmas.{first-kind, next-kind, plain-registers, given-kept, given-next, given-all}
pub use Rattle.scene_world.proofs.SeenLemmas.{plain-numbers, plain-references, number-stands, Reaches, reached, same-reached, part-seen, counting-seen, number-seen, no-reference, reference-seen, given-having}
pub use Rattle.scene_world.proofs.AskLemmas.{stops-asking, stops-longer, all-given, given-same, asking-ends}
pub use Rattle.scene_world.proofs.AmountLemmas.{TakesAlike, same-taken}
pub use Rattle.scene_world.proofs.CountLemmas.{plain-counts, count-seen, TurnLeaves, turn-leaves}
