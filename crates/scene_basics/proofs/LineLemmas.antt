-- Lemmas on pieces that go out one after another.
use Rattle.std.proofs.Common.{◌≡◌, ◌<◌, ◌≤◌, ◌+◌, ℕ, suc, List, ◌++◌, length, take, drop, get_or, Option, inl, inr, sym, ◌∙◌, ap, subst, arith, drop-cons}
use Rattle.std.proofs.Math.Seq.{take-append-add}
use Rattle.std.specs.List.{flat_map}
use Rattle.std.proofs.lemmas.Grind.{flat_map-append}
use Rattle.std.proofs.lemmas.List.{take_all, take-append-drop, take-append-le}
use Rattle.std.specs.Io.KnownBytes.{Appends}
use Rattle.std.proofs.KnownBytes.{Appends-trans}
use Rattle.scene.specs.Faults.{HasFailed}
use Rattle.scene_basics.specs.Lines.{Tells}

-- all went out
pub Tells-all : (before after : Option (List ℕ)) (first last : ℕ) (line : List ℕ) → Appends before after line → Tells line before after first last
Tells-all before after first last line out = record {
  sent = length line;
  bytes = subst (λ (bytes : List ℕ). Appends before after bytes) (sym (take_all (length line) line (omega arith))) out;
  whole = inl (omega arith);
}

module _ {X : Type 0} (f : X → List ℕ) (xs : List X) (place : ℕ) (d : X) (within : place < length xs) where
  -- the texts of all begin with those of the first, and then that of the one more
  texts-split : flat_map f xs ≡ flat_map f (take place xs) ++ (f (get_or xs place d) ++ flat_map f (drop (suc place) xs))
  texts-split = ap (flat_map f) (sym (take-append-drop place xs)) ∙ (flat_map-append f (take place xs) (drop place xs) ∙ ap (λ rest. flat_map f (take place xs) ++ rest) (ap (flat_map f) (drop-cons xs place d within)))

  -- the writer failed in one more
  pub Tells-part : (before between after : Option (List ℕ)) (first middle last : ℕ) (sent : ℕ) → Appends before between (flat_map f (take place xs)) → middle ≡ first → Appends between after (take sent (f (get_or xs place d))) → sent ≤ length (f (get_or xs place d)) → HasFailed middle last → Tells (flat_map f xs) before after first last
  Tells-part before between after first middle last sent out steady part short failed = record {
    sent = length (flat_map f (take place xs)) + sent;
    bytes = subst (λ (bytes : List ℕ). Appends before after bytes) (sym (ap (take (length (flat_map f (take place xs)) + sent)) texts-split ∙ (take-append-add (flat_map f (take place xs)) (f (get_or xs place d) ++ flat_map f (drop (suc place) xs)) sent ∙ ap (λ rest. flat_map f (take place xs) ++ rest) (take-append-le sent (f (get_or xs place d)) (flat_map f (drop (suc place) xs)) short)))) (Appends-trans before between after (flat_map f (take place xs)) (take sent (f (get_or xs place d))) out part);
    whole = inr (subst (λ (count : ℕ). HasFailed count last) steady failed);
  }
