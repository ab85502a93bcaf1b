-- Lemmas on the slots and the columns of what is kept.
use Rattle.std.proofs.Common.{◌≡◌, ◌<◌, ◌≤◌, ◌+◌, ℕ, zero, suc, List, [], ◌∷◌, ◌++◌, length, set, get_or, All, Option, None, refl, ap, arith}
use Rattle.std.specs.Prelude.{option_and_then, slice_get}
use Rattle.std.specs.Global.{Vec}
use Rattle.std.proofs.lemmas.List.Elements.{All-head, All-tail, All-weaker}
use Rattle.scene_model.specs.Slots.{filled}
use Rattle.scene.specs.Rows.{HasRoom}
use Rattle.scene.specs.declared.snapshot.kept.KeptScene.{KeptScene}

module _ {X : Type 0} where
  -- what stands at an index of the column at a place
  abbrev pub shown-at : List (Vec (Option X)) → ℕ → ℕ → Option X
  shown-at columns place index = option_and_then (λ column. filled (slice_get column.items index)) (slice_get columns place)

  -- a column in the place of one that shows the same shows nothing else
  pub same-columns : (columns : List (Vec (Option X))) (k : ℕ) (column d : Vec (Option X)) → k < length columns
      → ((index : ℕ) → filled (slice_get column.items index) ≡ filled (slice_get (get_or columns k d).items index))
      → (place index : ℕ) → shown-at (set columns k column) place index ≡ shown-at columns place index
  same-columns [] k column d below same place index = absurd (omega arith)
  same-columns (first ∷ columns) zero column d below same zero index = same index
  same-columns (first ∷ columns) zero column d below same (suc place) index = refl
  same-columns (first ∷ columns) (suc k) column d below same zero index = refl
  same-columns (first ∷ columns) (suc k) column d below same (suc place) index = same-columns columns k column d (omega arith) same place index

-- room for so many indices is room for each of them
pub has-room : {D G : Type 0} (kept : KeptScene D G) (count index : ℕ) → HasRoom count kept → index < count → HasRoom (index + 1) kept
has-room kept count index room below = record {
  seats = omega (arith, room.seats);
  columns = All-weaker (λ column. count ≤ length column.items) (λ column. index + 1 ≤ length column.items) (λ column long. omega (arith, long)) kept.columns.items room.columns;
}
