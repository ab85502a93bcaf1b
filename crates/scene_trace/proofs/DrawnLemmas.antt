-- Texts that have parts.
use Rattle.std.proofs.Common.{◌≡◌, ◌++◌, ◌∷◌, [], ℕ, List, get_or, arith, refl, append_assoc}
use Rattle.std.specs.List.{All}
use Rattle.std.proofs.lemmas.List.Elements.{All-append, All-cons}
use Rattle.scene_trace.specs.declared.pictures.boxes.PlanBox.{PlanBox}
use Rattle.scene_trace.specs.Boxes.{HasPart, box_text}

-- what a text has, a text around it has
pub part-within : (part text early late : List ℕ) → HasPart part text → HasPart part (early ++ (text ++ late))
part-within part text early late has = record {
  before = early ++ has.before;
  after = has.after ++ late;
  split = rw has.split (simp append_assoc refl);
}

-- the same of the rectangles of boxes
pub boxes-within : (boxes : List PlanBox) (text early late : List ℕ) → All (λ box. HasPart (box_text box) text) boxes → All (λ box. HasPart (box_text box) (early ++ (text ++ late))) boxes
boxes-within boxes text early late have = λ k other below. part-within (box_text (get_or boxes k other)) text early late (have k other below)

-- one more rectangle, between what stands before it and behind it
pub one-more : (boxes : List PlanBox) (box : PlanBox) (text title label : List ℕ) → All (λ one. HasPart (box_text one) text) boxes → All (λ one. HasPart (box_text one) (((text ++ title) ++ box_text box) ++ label)) (boxes ++ box ∷ [])
one-more boxes box text title label have =
    let spelt : [] ++ (text ++ (title ++ (box_text box ++ label))) ≡ ((text ++ title) ++ box_text box) ++ label = simp append_assoc refl in
    let early : All (λ one. HasPart (box_text one) (((text ++ title) ++ box_text box) ++ label)) boxes = rw spelt at (boxes-within boxes text [] (title ++ (box_text box ++ label)) have) in
    let own : HasPart (box_text box) (((text ++ title) ++ box_text box) ++ label) = record { before = text ++ title; after = label; split = simp append_assoc refl } in
    let none : All (λ one. HasPart (box_text one) (((text ++ title) ++ box_text box) ++ label)) [] = λ k other below. absurd (omega arith) in
    All-append (λ one. HasPart (box_text one) (((text ++ title) ++ box_text box) ++ label)) boxes (box ∷ []) early (All-cons (λ one. HasPart (box_text one) (((text ++ title) ++ box_text box) ++ label)) box [] own none)

-- pieces that were put one behind the other
pub put-in-turn : (old a x b y c w d one two three four five six seven : List ℕ) → one ≡ old ++ a → two ≡ one ++ x → three ≡ two ++ b → four ≡ three ++ y → five ≡ four ++ c → six ≡ five ++ w → seven ≡ six ++ d → seven ≡ old ++ (a ++ x ++ b ++ y ++ c ++ w ++ d)
put-in-turn old a x b y c w d one two three four five six seven e1 e2 e3 e4 e5 e6 e7 = rw (e7, e6, e5, e4, e3, e2, e1) (simp append_assoc refl)
