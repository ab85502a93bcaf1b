-- The commands of the queues that systems leave, by the systems' places, are those that wait in the world at the places.
use Rattle.std.proofs.Common.{◌≡◌, ◌<◌, ℕ, zero, suc, Bool, true, false, cond, eqb, ◌||◌, List, [], ◌∷◌, ◌++◌, refl, ap, sym, ◌∙◌, subst, arith, All}
use Rattle.std.specs.List.{flat_map, fold}
use Rattle.std.specs.Ordering.{nat_cmp, match_ordering}
use Rattle.std.specs.BTreeMap.{insert_entry}
use Rattle.std.specs.declared.cmp.Ordering.{Ordering}
use Rattle.std.specs.declared.cmp.Ordering.TheVariants.{Less, Equal, Greater}
use Rattle.std.proofs.lemmas.Bool.{true≢false, false≢true, eqb-true, eq-eqb}
use Rattle.std.proofs.lemmas.Bool.Decides.{nat_tests}
use Rattle.std.proofs.lemmas.List.Elements.{All-head, All-tail}
use Rattle.scene_model.specs.Rulebook.{Book, Command}
use Rattle.scene_model.specs.Lawful.{IsLawful}
use Rattle.scene_model.specs.Scenes.{PlainScene, PlainSystem, lives}
use Rattle.scene_model.specs.Frames.{Queues, SystemsRun, entered, by_place}
use Rattle.scene_world.specs.Chains.{left_at}
use Rattle.scene.specs.Waiting.{PlacesAscend}

-- the commands at a place among queues
abbrev pub found_at : Queues → ℕ → List Command
found_at [] place = []
found_at (queue ∷ queues) place = cond (eqb queue.0 place) queue.1 (found_at queues place)

-- where one more is entered, its commands are found at its place
found-entered : (queues : Queues) (queue : ℕ × List Command) (place : ℕ) → found_at (entered queues queue) place ≡ cond (eqb queue.0 place) queue.1 (found_at queues place)
found-entered [] queue place = refl
found-entered (first ∷ queues) queue place = by (nat_cmp queue.0 first.0) refl (found-entered queues queue place)
  where
    apart : (b c : Bool) (one two rest : List Command) → eqb queue.0 place ≡ b → eqb first.0 place ≡ c → first.0 < queue.0 → cond c one (cond b two rest) ≡ cond b two (cond c one rest)
    apart true true one two rest at also below = let is : queue.0 ≡ place = eqb-true queue.0 place at in let too : first.0 ≡ place = eqb-true first.0 place also in absurd (omega (arith, is, too, below))
    apart true false one two rest at also below = refl
    apart false true one two rest at also below = refl
    apart false false one two rest at also below = refl

    same : (b c : Bool) (one two rest : List Command) → c ≡ b → cond b two rest ≡ cond c two (cond b one rest)
    same true c one two rest is = ap (λ d. cond d two one) (sym is)
    same false c one two rest is = ap (λ d. cond d two rest) (sym is)

    by : (o : Ordering) → nat_cmp queue.0 first.0 ≡ o → found_at (entered queues queue) place ≡ cond (eqb queue.0 place) queue.1 (found_at queues place)
        → found_at (match_ordering o ((queue.0, queue.1) ∷ first ∷ queues) ((first.0, queue.1) ∷ queues) (first ∷ insert_entry nat_cmp queues queue.0 queue.1)) place ≡ cond (eqb queue.0 place) queue.1 (cond (eqb first.0 place) first.1 (found_at queues place))
    by Less is later = refl
    by Equal is later = let equal : queue.0 ≡ first.0 = grind (arith, nat_tests) in same (eqb first.0 place) (eqb queue.0 place) first.1 queue.1 (found_at queues place) (ap (λ n. eqb n place) equal)
    by Greater is later = let below : first.0 < queue.0 = grind (arith, nat_tests) in
        ap (cond (eqb first.0 place) first.1) later ∙ apart (eqb queue.0 place) (eqb first.0 place) first.1 queue.1 (found_at queues place) refl refl below

-- so all that are entered, one after another, are what is left there
found-fold : (done queues : Queues) (place : ℕ) → found_at (fold entered done queues) place ≡ left_at place queues (found_at done place)
found-fold done [] place = refl
found-fold done (queue ∷ queues) place = found-fold (entered done queue) queues place ∙ ap (left_at place queues) (found-entered done queue place)

-- queues stand above a number, and in the order of their places
abbrev pub AreAbove : ℕ → Queues → Type 0
AreAbove least [] = Unit {0}
AreAbove least (queue ∷ queues) = (least < queue.0) × AreAbove least queues

abbrev pub Rise : Queues → Type 0
Rise [] = Unit {0}
Rise (queue ∷ queues) = AreAbove queue.0 queues × Rise queues

above-entered : (least : ℕ) (queues : Queues) (queue : ℕ × List Command) → AreAbove least queues → least < queue.0 → AreAbove least (entered queues queue)
above-entered least [] queue above below = (below, tt)
above-entered least (first ∷ queues) queue above below = by (nat_cmp queue.0 first.0) (above-entered least queues queue above.1 below)
  where
    by : (o : Ordering) → AreAbove least (entered queues queue) → AreAbove least (match_ordering o ((queue.0, queue.1) ∷ first ∷ queues) ((first.0, queue.1) ∷ queues) (first ∷ insert_entry nat_cmp queues queue.0 queue.1))
    by Less later = (below, above)
    by Equal later = above
    by Greater later = (above.0, later)

above-less : (less least : ℕ) (queues : Queues) → less < least → AreAbove least queues → AreAbove less queues
above-less less least [] below above = tt
above-less less least (queue ∷ queues) below above = (let first : least < queue.0 = above.0 in omega (arith, below, first), above-less less least queues below above.1)

rise-entered : (queues : Queues) (queue : ℕ × List Command) → Rise queues → Rise (entered queues queue)
rise-entered [] queue rise = (tt, tt)
rise-entered (first ∷ queues) queue rise = by (nat_cmp queue.0 first.0) refl (rise-entered queues queue rise.1)
  where
    by : (o : Ordering) → nat_cmp queue.0 first.0 ≡ o → Rise (entered queues queue) → Rise (match_ordering o ((queue.0, queue.1) ∷ first ∷ queues) ((first.0, queue.1) ∷ queues) (first ∷ insert_entry nat_cmp queues queue.0 queue.1))
    by Less is later = let below : queue.0 < first.0 = grind (arith, nat_tests) in ((below, above-less queue.0 first.0 queues below rise.0), rise)
    by Equal is later = rise
    by Greater is later = let below : first.0 < queue.0 = grind (arith, nat_tests) in (above-entered first.0 queues queue rise.0 below, later)

rise-fold : (done queues : Queues) → Rise done → Rise (fold entered done queues)
rise-fold done [] rise = rise
rise-fold done (queue ∷ queues) rise = rise-fold (entered done queue) queues (rise-entered done queue rise)

-- each queue stands at one of the places
abbrev pub StandAt : List ℕ → Queues → Type 0
StandAt places [] = Unit {0}
StandAt places (queue ∷ queues) = (lives queue.0 places ≡ true) × StandAt places queues

stand-entered : (places : List ℕ) (queues : Queues) (queue : ℕ × List Command) → StandAt places queues → lives queue.0 places ≡ true → StandAt places (entered queues queue)
stand-entered places [] queue stand there = (there, tt)
stand-entered places (first ∷ queues) queue stand there = by (nat_cmp queue.0 first.0) (stand-entered places queues queue stand.1 there)
  where
    by : (o : Ordering) → StandAt places (entered queues queue) → StandAt places (match_ordering o ((queue.0, queue.1) ∷ first ∷ queues) ((first.0, queue.1) ∷ queues) (first ∷ insert_entry nat_cmp queues queue.0 queue.1))
    by Less later = (there, stand)
    by Equal later = stand
    by Greater later = (stand.0, later)

stand-fold : (places : List ℕ) (done queues : Queues) → StandAt places done → StandAt places queues → StandAt places (fold entered done queues)
stand-fold places done [] stand all = stand
stand-fold places done (queue ∷ queues) stand all = stand-fold places (entered done queue) queues (stand-entered places done queue stand all.0) all.1

-- places in order, in the same form
abbrev pub ArePlacesAbove : ℕ → List ℕ → Type 0
ArePlacesAbove least [] = Unit {0}
ArePlacesAbove least (place ∷ places) = (least < place) × ArePlacesAbove least places

abbrev pub PlacesRise : List ℕ → Type 0
PlacesRise [] = Unit {0}
PlacesRise (place ∷ places) = ArePlacesAbove place places × PlacesRise places

pub places-rise : (places : List ℕ) → PlacesAscend places → PlacesRise places
places-rise [] pairs = tt
places-rise (place ∷ places) pairs = (above places (λ k d inside. pairs zero (suc k) d (omega arith) (omega (arith, inside))), places-rise places (λ i j d before inside. pairs (suc i) (suc j) d (omega (arith, before)) (omega (arith, inside))))
  where
    above : (rest : List ℕ) → All (λ other. place < other) rest → ArePlacesAbove place rest
    above [] all = tt
    above (other ∷ rest) all = (All-head (λ one. place < one) other rest all, above rest (All-tail (λ one. place < one) other rest all))

-- and one of them is above what they stand above
place-above : (least place : ℕ) (places : List ℕ) → ArePlacesAbove least places → lives place places ≡ true → least < place
place-above least place [] above there = absurd (false≢true there)
place-above least place (first ∷ places) above there = by (eqb first place) refl there (place-above least place places above.1)
  where
    by : (b : Bool) → eqb first place ≡ b → (b || lives place places) ≡ true → (lives place places ≡ true → least < place) → least < place
    by true is found later = let same : first ≡ place = eqb-true first place is in let over : least < first = above.0 in omega (arith, same, over)
    by false is found later = later found

-- nothing is found at a place above which all queues stand
found-none : (queues : Queues) (place : ℕ) → AreAbove place queues → found_at queues place ≡ []
found-none [] place above = refl
found-none (queue ∷ queues) place above = by (eqb queue.0 place) refl (found-none queues place above.1)
  where
    by : (b : Bool) → eqb queue.0 place ≡ b → found_at queues place ≡ [] → cond b queue.1 (found_at queues place) ≡ []
    by true is later = let same : queue.0 ≡ place = eqb-true queue.0 place is in let over : place < queue.0 = above.0 in absurd (omega (arith, same, over))
    by false is later = later

-- queues that stand above the first of places stand at the others
stand-later : (place : ℕ) (places : List ℕ) (queues : Queues) → AreAbove place queues → StandAt (place ∷ places) queues → StandAt places queues
stand-later place places [] above stand = tt
stand-later place places (queue ∷ queues) above stand = (by (eqb place queue.0) refl stand.0, stand-later place places queues above.1 stand.1)
  where
    by : (b : Bool) → eqb place queue.0 ≡ b → (b || lives queue.0 places) ≡ true → lives queue.0 places ≡ true
    by true is found = let same : place ≡ queue.0 = eqb-true place queue.0 is in let over : place < queue.0 = above.0 in absurd (omega (arith, same, over))
    by false is found = found

-- the commands at places behind the first queue's are those of the other queues
found-later : (queue : ℕ × List Command) (queues : Queues) (places : List ℕ) → ArePlacesAbove queue.0 places → flat_map (found_at (queue ∷ queues)) places ≡ flat_map (found_at queues) places
found-later queue queues [] above = refl
found-later queue queues (place ∷ places) above = by (eqb queue.0 place) refl (found-later queue queues places above.1)
  where
    by : (b : Bool) → eqb queue.0 place ≡ b → flat_map (found_at (queue ∷ queues)) places ≡ flat_map (found_at queues) places → cond b queue.1 (found_at queues place) ++ flat_map (found_at (queue ∷ queues)) places ≡ found_at queues place ++ flat_map (found_at queues) places
    by true is later = let same : queue.0 ≡ place = eqb-true queue.0 place is in let over : queue.0 < place = above.0 in absurd (omega (arith, same, over))
    by false is later = ap (λ rest. found_at queues place ++ rest) later

none-found : (places : List ℕ) → flat_map (found_at []) places ≡ []
none-found [] = refl
none-found (place ∷ places) = none-found places

-- queues in the order of their places have what is found at the places, one after the other
spread : (queues : Queues) (places : List ℕ) → Rise queues → PlacesRise places → StandAt places queues → flat_map (λ queue. queue.1) queues ≡ flat_map (found_at queues) places
spread [] places rise ascend stand = sym (none-found places)
spread (queue ∷ queues) [] rise ascend stand = absurd (false≢true stand.0)
spread (queue ∷ queues) (place ∷ places) rise ascend stand =
    by (λ later. spread queues places rise.1 ascend.1 later) (λ later. spread (queue ∷ queues) places rise ascend.1 later) (eqb place queue.0) refl stand.0
  where
    by : (StandAt places queues → flat_map (λ one. one.1) queues ≡ flat_map (found_at queues) places) → (StandAt places (queue ∷ queues) → queue.1 ++ flat_map (λ one. one.1) queues ≡ flat_map (found_at (queue ∷ queues)) places)
        → (b : Bool) → eqb place queue.0 ≡ b → (b || lives queue.0 places) ≡ true → queue.1 ++ flat_map (λ one. one.1) queues ≡ cond (eqb queue.0 place) queue.1 (found_at queues place) ++ flat_map (found_at (queue ∷ queues)) places
    by rest all true is found =
        let same : place ≡ queue.0 = eqb-true place queue.0 is in
        let later : StandAt places queues = stand-later place places queues (subst (λ n. AreAbove n queues) (sym same) rise.0) stand.1 in
        ap (λ some. queue.1 ++ some) (rest later ∙ sym (found-later queue queues places (subst (λ n. ArePlacesAbove n places) same ascend.0)))
        ∙ ap (λ b. cond b queue.1 (found_at queues place) ++ flat_map (found_at (queue ∷ queues)) places) (sym (eq-eqb queue.0 place (sym same)))
    by rest all false is found =
        let over : place < queue.0 = place-above place queue.0 places ascend.0 found in
        let above : AreAbove place (queue ∷ queues) = (over, above-less place queue.0 queues over rise.0) in
        all (stand-later place places (queue ∷ queues) above stand)
        ∙ ap (λ first. first ++ flat_map (found_at (queue ∷ queues)) places) (sym (found-none (queue ∷ queues) place above))

-- the commands of queues by place are what is left at the places
same-flat : (f g : ℕ → List Command) → ((place : ℕ) → f place ≡ g place) → (places : List ℕ) → flat_map f places ≡ flat_map g places
same-flat f g same [] = refl
same-flat f g same (place ∷ places) = ap (λ first. first ++ flat_map f places) (same place) ∙ ap (λ rest. g place ++ rest) (same-flat f g same places)

pub by-place-left : (queues : Queues) (places : List ℕ) → PlacesAscend places → StandAt places queues → (waits : ℕ → List Command) → ((place : ℕ) → waits place ≡ left_at place queues []) → flat_map (λ queue. queue.1) (by_place queues) ≡ flat_map waits places
by-place-left queues places ascend stand waits are =
    spread (by_place queues) places (rise-fold [] queues tt) (places-rise places ascend) (stand-fold places [] queues tt stand)
    ∙ same-flat (found_at (by_place queues)) waits (λ place. found-fold [] queues place ∙ sym (are place)) places

-- what is left at a place where no queue stands is what was there
pub left-none : (place : ℕ) (places : List ℕ) (queues : Queues) (before : List Command) → lives place places ≡ false → StandAt places queues → left_at place queues before ≡ before
left-none place places [] before none stand = refl
left-none place places (queue ∷ queues) before none stand = ap (left_at place queues) (by (eqb queue.0 place) refl) ∙ left-none place places queues before none stand.1
  where
    by : (b : Bool) → eqb queue.0 place ≡ b → cond b queue.1 before ≡ before
    by true is = absurd (true≢false (sym stand.0 ∙ ap (λ n. lives n places) (eqb-true queue.0 place is) ∙ none))
    by false is = refl

-- the rules know the commands of queues
abbrev pub AreKnownQueues : Book → Queues → Type 0
AreKnownQueues book [] = Unit {0}
AreKnownQueues book (queue ∷ queues) = All (IsLawful book) queue.1 × AreKnownQueues book queues

pub left-lawful : (book : Book) (place : ℕ) (queues : Queues) (before : List Command) → All (IsLawful book) before → AreKnownQueues book queues → All (IsLawful book) (left_at place queues before)
left-lawful book place [] before all known = all
left-lawful book place (queue ∷ queues) before all known = left-lawful book place queues (cond (eqb queue.0 place) queue.1 before) (by (eqb queue.0 place)) known.1
  where
    by : (b : Bool) → All (IsLawful book) (cond b queue.1 before)
    by true = known.0
    by false = all

-- the queues of systems that have run stand at the systems' places, and the rules know their commands
pub run-stand : (book : Book) (places : List ℕ) (order : List PlainSystem) (scene after : PlainScene) (queues : Queues) → All (λ system. lives system.position places ≡ true) order → SystemsRun book order scene after queues → StandAt places queues
run-stand book places [] scene after queues there ran = subst (StandAt places) (sym ran.1) tt
run-stand book places (system ∷ order) scene after queues there ran = subst (StandAt places) (sym ran.5)
    (All-head (λ one. lives one.position places ≡ true) system order there, run-stand book places order ran.0 after ran.2 (All-tail (λ one. lives one.position places ≡ true) system order there) ran.4)

pub run-known : (book : Book) (order : List PlainSystem) (scene after : PlainScene) (queues : Queues) → SystemsRun book order scene after queues → AreKnownQueues book queues
run-known book [] scene after queues ran = subst (AreKnownQueues book) (sym ran.1) tt
run-known book (system ∷ order) scene after queues ran = subst (AreKnownQueues book) (sym ran.5) (ran.3.2.known, run-known book order ran.0 after ran.2 ran.4)
