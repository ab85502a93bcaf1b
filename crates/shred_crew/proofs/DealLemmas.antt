-- Facts on loads that are taken out of their slots and put back.
use Rattle.std.proofs.Common.{◌≡◌, ℕ, ◌<◌, ◌≤◌, zero, suc, List, [], ◌∷◌, ◌++◌, length, map, get_or, set, refl, ap, sym, ◌∙◌, subst, arith, Option, Some, None, append_assoc, vec_capacity}
use Rattle.std.specs.Global.{Vec}
use Rattle.std.specs.List.{AllZip, Contains}
use Rattle.std.proofs.lemmas.List.{length-map}
use Rattle.shred_crew.specs.declared.numbered.Numbered.{Numbered}
use Rattle.shred_crew.specs.Deals.{lists, put_at, slot_at, numbered, vacated, standing, with_load, returned, loads_in, all_of, AreRoomy, AreEmpty, KeepTheirRoom, IsWorkedOn}
use Rattle.shred_crew.specs.Lines.{AreWorkedOn}

pub length-set : {A : Type 0} (xs : List A) (i : ℕ) (a : A) → length (set xs i a) ≡ length xs
length-set [] i a = refl
length-set (x ∷ xs) zero a = refl
length-set (x ∷ xs) (suc i) a = ap suc (length-set xs i a)

-- one more in a row, by the rows' lists
pub put-lists : {T : Type 0} (rows : List (Vec T)) (row : ℕ) (d new : Vec T) (a : T) → row < length rows → new.items ≡ (get_or rows row d).items ++ a ∷ [] → lists (set rows row new) ≡ put_at (lists rows) row a
put-lists [] row d new a h e = absurd (omega arith)
put-lists (x ∷ rows) zero d new a h e = ap (λ list. list ∷ lists rows) e
put-lists (x ∷ rows) (suc row) d new a h e = ap (λ others. x.items ∷ others) (put-lists rows row d new a (omega arith) e)

pub lists-length : {T : Type 0} (rows : List (Vec T)) → length (lists rows) ≡ length rows
lists-length [] = refl
lists-length (x ∷ rows) = ap suc (lists-length rows)

-- the shares that were dealt, one after the other
pub vacated-append : {A : Type 0} (first later : List ℕ) (slots : List (Option A)) → vacated (first ++ later) slots ≡ vacated later (vacated first slots)
vacated-append [] later slots = refl
vacated-append (number ∷ first) later slots = vacated-append first later (set slots number None)

pub standing-append : {A : Type 0} (first later : List ℕ) (slots : List (Option A)) → standing (first ++ later) slots ≡ standing first slots ++ standing later (vacated first slots)
standing-append [] later slots = refl
standing-append (number ∷ first) later slots =
    ap (λ list. numbered number (slot_at slots number) ++ list) (standing-append first later (set slots number None))
    ∙ sym (append_assoc (numbered number (slot_at slots number)) (standing first (set slots number None)) (standing later (vacated first (set slots number None))))

-- loads put back, the last first
pub returned-append : {A : Type 0} (first later : List (Numbered A)) (slots : List (Option A)) → returned (first ++ later) slots ≡ returned first (returned later slots)
returned-append [] later slots = refl
returned-append (one ∷ first) later slots = ap (λ list. with_load one (slot_at list one.number) list) (returned-append first later slots)

-- a slot that is written with what it has
set-same : {A : Type 0} (slots : List (Option A)) (number : ℕ) → set slots number (slot_at slots number) ≡ slots
set-same [] number = refl
set-same (slot ∷ slots) zero = refl
set-same (slot ∷ slots) (suc number) = ap (λ others. slot ∷ others) (set-same slots number)

set-twice : {A : Type 0} (slots : List A) (number : ℕ) (a b : A) → set (set slots number a) number b ≡ set slots number b
set-twice [] number a b = refl
set-twice (slot ∷ slots) zero a b = refl
set-twice (slot ∷ slots) (suc number) a b = ap (λ others. slot ∷ others) (set-twice slots number a b)

emptied-slot : {A : Type 0} (slots : List (Option A)) (number : ℕ) → slot_at (set slots number None) number ≡ None
emptied-slot [] number = refl
emptied-slot (slot ∷ slots) zero = refl
emptied-slot (slot ∷ slots) (suc number) = emptied-slot slots number

-- a load that was taken out of its slot goes back there
one-back : {A : Type 0} (slots : List (Option A)) (number : ℕ) (slot : Option A) (others : List (Numbered A)) (after : List (Option A)) → slot_at slots number ≡ slot → returned others after ≡ set slots number None
    → returned (numbered number slot ++ others) after ≡ slots
one-back slots number None others after e back = back ∙ ap (set slots number) (sym e) ∙ set-same slots number
one-back {A} slots number (Some load) others after e back =
    let one : Numbered A = record { number = number; load = load } in
    ap (λ list. with_load one (slot_at list number) list) back ∙ ap (λ slot. with_load one slot (set slots number None)) (emptied-slot slots number)
    ∙ set-twice slots number None (Some load) ∙ ap (set slots number) (sym e) ∙ set-same slots number

-- what was taken out of the slots goes back there
pub all-back : {A : Type 0} (numbers : List ℕ) (slots : List (Option A)) → returned (standing numbers slots) (vacated numbers slots) ≡ slots
all-back [] slots = refl
all-back (number ∷ numbers) slots = one-back slots number (slot_at slots number) (standing numbers (set slots number None)) (vacated numbers (set slots number None)) refl (all-back numbers (set slots number None))

-- a slot that was emptied stays so
still-empty : {A : Type 0} (slots : List (Option A)) (number other : ℕ) → slot_at slots other ≡ None → slot_at (set slots number None) other ≡ None
still-empty [] number other e = e
still-empty (slot ∷ slots) zero zero e = refl
still-empty (slot ∷ slots) zero (suc other) e = e
still-empty (slot ∷ slots) (suc number) zero e = e
still-empty (slot ∷ slots) (suc number) (suc other) e = still-empty slots number other e

vacated-empty : {A : Type 0} (numbers : List ℕ) (slots : List (Option A)) (other : ℕ) → slot_at slots other ≡ None → slot_at (vacated numbers slots) other ≡ None
vacated-empty [] slots other e = e
vacated-empty (number ∷ numbers) slots other e = vacated-empty numbers (set slots number None) other (still-empty slots number other e)

-- the slot of a number that was named is empty
pub named-empty : {A : Type 0} (numbers : List ℕ) (slots : List (Option A)) (other : ℕ) → Contains numbers other → slot_at (vacated numbers slots) other ≡ None
named-empty [] slots other has = absurd (let h = has.1 in omega (arith, h))
named-empty (number ∷ numbers) slots other (zero, h, e) =
    vacated-empty numbers (set slots number None) other (subst (λ n. slot_at (set slots number None) n ≡ None) e (emptied-slot slots number))
named-empty (number ∷ numbers) slots other (suc k, h, e) = named-empty numbers (set slots number None) other (k, omega (arith, h), e)

vacated-length : {A : Type 0} (numbers : List ℕ) (slots : List (Option A)) → length (vacated numbers slots) ≡ length slots
vacated-length [] slots = refl
vacated-length (number ∷ numbers) slots = vacated-length numbers (set slots number None) ∙ length-set slots number None

returned-length : {A : Type 0} (loads : List (Numbered A)) (slots : List (Option A)) → length (returned loads slots) ≡ length slots
returned-length [] slots = refl
returned-length (one ∷ others) slots = by (slot_at (returned others slots) one.number) (returned-length others slots)
  where
    by : (slot : Option _) → length (returned others slots) ≡ length slots → length (with_load one slot (returned others slots)) ≡ length slots
    by None e = length-set (returned others slots) one.number (Some one.load) ∙ e
    by (Some load) e = e

-- there are as many slots as before once all loads are back
pub slots-back : {A : Type 0} (loads : List A) (numbers : List ℕ) (others : List (Numbered A)) → length (returned others (vacated numbers (map Some loads))) ≡ length loads
slots-back loads numbers others = returned-length others (vacated numbers (map Some loads)) ∙ vacated-length numbers (map Some loads) ∙ length-map loads Some

-- two slots are alike: both are empty, or a relation holds of what they have
abbrev Alike : {A : Type 0} → (A → A → Type 0) → Option A → Option A → Type 0
Alike does None None = Unit {0}
Alike does (Some load) (Some after) = does load after
Alike does None (Some after) = ⊥
Alike does (Some load) None = ⊥

module _ {A : Type 0} (does : A → A → Type 0) where
  slot-alike : (slots after : List (Option A)) (number : ℕ) → AllZip (Alike does) slots after → Alike does (slot_at slots number) (slot_at after number)
  slot-alike [] [] number all = _
  slot-alike [] (y ∷ after) number all = absurd all
  slot-alike (x ∷ slots) [] number all = absurd all
  slot-alike (x ∷ slots) (y ∷ after) zero all = all.0
  slot-alike (x ∷ slots) (y ∷ after) (suc number) all = slot-alike slots after number all.1

  set-alike : (slots after : List (Option A)) (number : ℕ) (x y : Option A) → Alike does x y → AllZip (Alike does) slots after → AllZip (Alike does) (set slots number x) (set after number y)
  set-alike [] [] number x y one all = all
  set-alike [] (b ∷ after) number x y one all = absurd all
  set-alike (a ∷ slots) [] number x y one all = absurd all
  set-alike (a ∷ slots) (b ∷ after) zero x y one all = (one, all.1)
  set-alike (a ∷ slots) (b ∷ after) (suc number) x y one all = (all.0, set-alike slots after number x y one all.1)

  put-alike : (one other : Numbered A) (slot slot_after : Option A) (slots after : List (Option A)) → IsWorkedOn does one other → Alike does slot slot_after → AllZip (Alike does) slots after → AllZip (Alike does) (with_load one slot slots) (with_load other slot_after after)
  put-alike one other None None slots after worked alike all =
      subst (λ n. AllZip (Alike does) (set slots one.number (Some one.load)) (set after n (Some other.load))) (sym worked.0) (set-alike slots after one.number (Some one.load) (Some other.load) worked.1 all)
  put-alike one other None (Some y) slots after worked alike all = absurd alike
  put-alike one other (Some x) None slots after worked alike all = absurd alike
  put-alike one other (Some x) (Some y) slots after worked alike all = all

  -- loads that were worked on, put back into slots that are alike
  returned-alike : (loads others : List (Numbered A)) (slots after : List (Option A)) → AllZip (IsWorkedOn does) loads others → AllZip (Alike does) slots after → AllZip (Alike does) (returned loads slots) (returned others after)
  returned-alike [] [] slots after worked all = all
  returned-alike [] (y ∷ others) slots after worked all = absurd worked
  returned-alike (x ∷ loads) [] slots after worked all = absurd worked
  returned-alike (x ∷ loads) (y ∷ others) slots after worked all =
      let later = returned-alike loads others slots after worked.1 all in
      put-alike x y (slot_at (returned loads slots) x.number) (slot_at (returned others after) y.number) (returned loads slots) (returned others after) worked.0
      (subst (λ n. Alike does (slot_at (returned loads slots) x.number) (slot_at (returned others after) n)) (sym worked.0.0) (slot-alike (returned loads slots) (returned others after) x.number later)) later

  empty-alike : (slots : List (Option A)) → ((number : ℕ) → number < length slots → slot_at slots number ≡ None) → AllZip (Alike does) slots slots
  empty-alike [] none = _
  empty-alike (x ∷ slots) none = (subst (λ slot. Alike does slot slot) (sym (none 0 (omega arith))) _, empty-alike slots (λ n h. none (suc n) (omega (arith, h))))

  in-alike : (loads : List A) (after : List (Option A)) → AllZip (Alike does) (map Some loads) after → AllZip does loads (loads_in after)
  in-alike [] [] all = _
  in-alike [] (y ∷ after) all = absurd all
  in-alike (x ∷ loads) [] all = absurd all
  in-alike (x ∷ loads) (None ∷ after) all = absurd all.0
  in-alike (x ∷ loads) (Some y ∷ after) all = (all.0, in-alike loads after all.1)

  -- the rows' loads, one after the other
  rows-worked : (rows after : List (Vec (Numbered A))) → AllZip (λ row others. AllZip (IsWorkedOn does) row.items others.items) rows after → AllZip (IsWorkedOn does) (all_of rows) (all_of after)
  rows-worked [] [] all = _
  rows-worked [] (y ∷ after) all = absurd all
  rows-worked (x ∷ rows) [] all = absurd all
  rows-worked (x ∷ rows) (y ∷ after) all = both x.items y.items (all_of rows) (all_of after) all.0 (rows-worked rows after all.1)
    where
      both : (xs ys more others : List (Numbered A)) → AllZip (IsWorkedOn does) xs ys → AllZip (IsWorkedOn does) more others → AllZip (IsWorkedOn does) (xs ++ more) (ys ++ others)
      both [] [] more others a b = b
      both [] (y ∷ ys) more others a b = absurd a
      both (x ∷ xs) [] more others a b = absurd a
      both (x ∷ xs) (y ∷ ys) more others a b = (a.0, both xs ys more others a.1 b)

-- loads that were dealt to rows by their numbers, worked on there, and put back
pub worked : {A : Type 0} (does : A → A → Type 0) (numbers : List ℕ) (loads : List A) (rows after : List (Vec (Numbered A))) → ((number : ℕ) → number < length loads → Contains numbers number)
    → all_of rows ≡ standing numbers (map Some loads) → AllZip (λ row others. AllZip (IsWorkedOn does) row.items others.items) rows after
    → AllZip does loads (loads_in (returned (all_of after) (vacated numbers (map Some loads))))
worked does numbers loads rows after has dealt all =
    let slots = map Some loads in
    let left = vacated numbers slots in
    let none = empty-alike does left (λ n h. named-empty numbers slots n (has n (let long = vacated-length numbers slots ∙ length-map loads Some in omega (arith, h, long)))) in
    let alike = returned-alike does (all_of rows) (all_of after) left left (rows-worked does rows after all) none in
    let back : returned (all_of rows) left ≡ slots = ap (λ list. returned list left) dealt ∙ all-back numbers slots in
    in-alike does loads (returned (all_of after) left) (subst (λ list. AllZip (Alike does) list (returned (all_of after) left)) back alike)

-- rows whose loads were worked on
pub only-worked : {T : Type 0} (does : T → T → Type 0) (rows after : List (Vec T)) → AreWorkedOn does rows after → AllZip (λ row one. AllZip does row.items one.items) rows after
only-worked does [] [] all = _
only-worked does [] (y ∷ after) all = absurd all
only-worked does (x ∷ rows) [] all = absurd all
only-worked does (x ∷ rows) (y ∷ after) all = (all.0.0, only-worked does rows after all.1)

pub keep-room : {T : Type 0} (does : T → T → Type 0) (rows after : List (Vec T)) → AreWorkedOn does rows after → KeepTheirRoom rows after
keep-room does [] [] all = _
keep-room does [] (y ∷ after) all = absurd all
keep-room does (x ∷ rows) [] all = absurd all
keep-room does (x ∷ rows) (y ∷ after) all = (all.0.1, keep-room does rows after all.1)

-- rows that were dealt to, worked on and emptied have room still
pub still-roomy : {T : Type 0} (shares : List (Vec ℕ)) (rows dealt done after : List (Vec T)) → AreRoomy shares rows → KeepTheirRoom rows dealt → KeepTheirRoom dealt done → KeepTheirRoom done after → AreEmpty after → AreRoomy shares after
still-roomy [] [] [] [] [] roomy a b c empty = _
still-roomy [] [] [] [] (y ∷ after) roomy a b c empty = absurd c
still-roomy [] [] [] (y ∷ done) after roomy a b c empty = absurd b
still-roomy [] [] (y ∷ dealt) done after roomy a b c empty = absurd a
still-roomy [] (x ∷ rows) dealt done after roomy a b c empty = absurd roomy
still-roomy (share ∷ shares) [] dealt done after roomy a b c empty = absurd roomy
still-roomy (share ∷ shares) (x ∷ rows) [] done after roomy a b c empty = absurd a
still-roomy (share ∷ shares) (x ∷ rows) (d ∷ dealt) [] after roomy a b c empty = absurd b
still-roomy (share ∷ shares) (x ∷ rows) (d ∷ dealt) (e ∷ done) [] roomy a b c empty = absurd c
still-roomy (share ∷ shares) (x ∷ rows) (d ∷ dealt) (e ∷ done) (y ∷ after) roomy a b c empty =
    let same : vec_capacity y ≡ vec_capacity x = c.0 ∙ b.0 ∙ a.0 in
    ((empty.0, subst (λ n. length share.items ≤ n) (sym same) roomy.0.1), still-roomy shares rows dealt done after roomy.1 a.1 b.1 c.1 empty.1)
