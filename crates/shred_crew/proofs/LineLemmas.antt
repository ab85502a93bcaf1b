-- What the caller and the worker may do at a line.
use Rattle.std.proofs.Common.{◌≡◌, ℕ, zero, suc, Bool, true, false, true≢false, List, [], ◌∷◌, ◌++◌, get_or, set, drop, Option, None, Some, refl, sym, ap, ◌∙◌, subst, inl, inr, ◌⊎◌, Vec, vec_capacity, IsSome}
use Rattle.std.specs.List.{AllZip}
use Rattle.std.specs.Arc.{arc_value}
use mathlib.Core.Option.{some, some-injective, some-ne-none}
use lib.ListN.{get_elem?}
use Rattle.crossbeam_queue.specs.Fifo.{Pushes, Pops, Learns}
use Rattle.shred_crew.specs.declared.line.Errand.{Errand}
use Rattle.shred_crew.specs.declared.line.Hand.{Hand}
use Rattle.shred_crew.specs.declared.line.Hand.TheVariants.{Alone, Caller, Worker}
use Rattle.shred_crew.specs.declared.line.Packet.{Packet}
use Rattle.shred_crew.specs.declared.line.Packet.TheVariants.{Ask, Answer}
use Rattle.shred_crew.specs.Lines.{asked_by, hand_after, are_idle, IsDone, Serves, Lies, Agree}

abbrev held_by : {C T : Type 0} → Hand C T → Option (Errand C T)
held_by Alone = None
held_by (Caller asked) = None
held_by (Worker held) = held

abbrev is_caller : {C T : Type 0} → Hand C T → Bool
is_caller Alone = false
is_caller (Caller asked) = true
is_caller (Worker held) = false

abbrev is_worker : {C T : Type 0} → Hand C T → Bool
is_worker Alone = false
is_worker (Caller asked) = false
is_worker (Worker held) = true

only : {A : Type 0} (a v : A) (id : ℕ) → get_elem? (a ∷ []) id ≡ some v → (id ≡ 0) × (a ≡ v)
only a v zero e = (refl, some-injective a v e)
only a v (suc id) e = absurd (some-ne-none v (sym e))

one-of-two : {A : Type 0} (a b v : A) (id : ℕ) → get_elem? (a ∷ b ∷ []) id ≡ some v → ((id ≡ 0) × (a ≡ v)) ⊎ ((id ≡ 1) × (b ≡ v))
one-of-two a b v zero e = inl (refl, some-injective a v e)
one-of-two a b v (suc zero) e = inr (refl, some-injective b v e)
one-of-two a b v (suc (suc id)) e = absurd (some-ne-none v (sym e))

set-first : {A : Type 0} (list : List A) (a b w : A) (id : ℕ) → list ≡ a ∷ b ∷ [] → id ≡ 0 → set list id w ≡ w ∷ b ∷ []
set-first list a b w id is e = ap (λ l. set l id w) is ∙ ap (λ k. set (a ∷ b ∷ []) k w) e

set-second : {A : Type 0} (list : List A) (a b w : A) (id : ℕ) → list ≡ a ∷ b ∷ [] → id ≡ 1 → set list id w ≡ a ∷ w ∷ []
set-second list a b w id is e = ap (λ l. set l id w) is ∙ ap (λ k. set (a ∷ b ∷ []) k w) e

not-empty : {A : Type 0} (x : A) (items : List A) → x ∷ items ≡ [] → ⊥
not-empty x items e = true≢false (ap (λ list. is_there list) e)
  where
    is_there : {A : Type 0} → List A → Bool
    is_there [] = false
    is_there (y ∷ ys) = true

module _ {C T : Type 0} (does : C → T → T → Type 0) where
  -- the caller's hand is the first, and there is a worker
  caller-at : (items : List (Packet C T)) (hands : List (Hand C T)) (id : ℕ) (v : Hand C T) (asked : Option (Errand C T)) → v ≡ Caller asked → Agree does items hands → get_elem? hands id ≡ some v
      → (id ≡ 0) × ((held : Option (Errand C T)) × (hands ≡ Caller asked ∷ Worker held ∷ []) × Lies does asked held items)
  caller-at items hands id v asked is (inl (alone, none)) at =
      let here = only Alone v id (subst (λ list. get_elem? list id ≡ some v) alone at) in absurd (true≢false (ap is_caller (sym (here.1 ∙ is))))
  caller-at items hands id v asked is (inr (a, held, are, lies)) at = by (one-of-two (Caller a) (Worker held) v id (subst (λ list. get_elem? list id ≡ some v) are at))
    where
      by : ((id ≡ 0) × (Caller a ≡ v)) ⊎ ((id ≡ 1) × (Worker held ≡ v)) → (id ≡ 0) × ((held : Option (Errand C T)) × (hands ≡ Caller asked ∷ Worker held ∷ []) × Lies does asked held items)
      by (inl (e, same)) =
          let asks : a ≡ asked = ap asked_by (same ∙ is) in
          (e, (held, are ∙ ap (λ o. Caller o ∷ Worker held ∷ []) asks, subst (λ o. Lies does o held items) asks lies))
      by (inr (e, same)) = absurd (true≢false (ap is_caller (sym (same ∙ is))))

  -- the worker's hand is the second
  worker-at : (items : List (Packet C T)) (hands : List (Hand C T)) (id : ℕ) (v : Hand C T) (held : Option (Errand C T)) → v ≡ Worker held → Agree does items hands → get_elem? hands id ≡ some v
      → (id ≡ 1) × ((asked : Option (Errand C T)) × (hands ≡ Caller asked ∷ Worker held ∷ []) × Lies does asked held items)
  worker-at items hands id v held is (inl (alone, none)) at =
      let here = only Alone v id (subst (λ list. get_elem? list id ≡ some v) alone at) in absurd (true≢false (ap is_worker (sym (here.1 ∙ is))))
  worker-at items hands id v held is (inr (asked, h, are, lies)) at = by (one-of-two (Caller asked) (Worker h) v id (subst (λ list. get_elem? list id ≡ some v) are at))
    where
      by : ((id ≡ 0) × (Caller asked ≡ v)) ⊎ ((id ≡ 1) × (Worker h ≡ v)) → (id ≡ 1) × ((asked : Option (Errand C T)) × (hands ≡ Caller asked ∷ Worker held ∷ []) × Lies does asked held items)
      by (inl (e, same)) = absurd (true≢false (ap is_worker (sym (same ∙ is))))
      by (inr (e, same)) =
          let holds : h ≡ held = ap held_by (same ∙ is) in
          (e, (asked, are ∙ ap (λ o. Caller asked ∷ Worker o ∷ []) holds, subst (λ o. Lies does asked o items) holds lies))

  -- the caller asks
  pub asks : (n id : ℕ) (v : Hand C T) (shared : _) (row : Vec T _) → v ≡ Caller None → Pushes (Agree does) n id v (Ask shared row) (λ after. after ≡ hand_after (Ask shared row))
  asks n id v shared row is items hands room agree at = let here = caller-at items hands id v None is agree at in by here.1.0 here.0 here.1.1 here.1.2
    where
      by : (held : Option (Errand C T)) → id ≡ 0 → hands ≡ Caller None ∷ Worker held ∷ [] → Lies does None held items
          → (w : Hand C T) × Agree does (items ++ Ask shared row ∷ []) (set hands id w) × (w ≡ hand_after (Ask shared row))
      by None e are lies = (
        hand_after (Ask shared row),
        inr (Some (record { shared = arc_value shared; row = row }), None, set-first hands (Caller None) (Worker None) (hand_after (Ask shared row)) id are e, (Ask shared row, ap (λ list. list ++ Ask shared row ∷ []) lies, (refl, refl))),
        refl,
      )
      by (Some other) e are lies = absurd lies

  -- nothing lies on the line of a caller that has asked for nothing
  pub asks-none : (id : ℕ) (v : Hand C T) → v ≡ Caller None → Learns (Agree does) id v (λ items. items ≡ [])
  asks-none id v is items hands agree at = let here = caller-at items hands id v None is agree at in by here.1.0 here.1.2
    where
      by : (held : Option (Errand C T)) → Lies does None held items → items ≡ []
      by None lies = lies
      by (Some other) lies = absurd lies

  -- the caller takes what lies there
  pub settles : (id : ℕ) (v : Hand C T) (errand : Errand C T) → v ≡ Caller (Some errand)
      → Pops (Agree does) id v (λ packet after. (after ≡ Caller None) × ((one : Errand C T) × (v ≡ Caller (Some one)) × Serves does one packet))
  settles id v errand is x items hands agree at = let here = caller-at (x ∷ items) hands id v (Some errand) is agree at in by here.1.0 here.0 here.1.1 here.1.2
    where
      by : (held : Option (Errand C T)) → id ≡ 0 → hands ≡ Caller (Some errand) ∷ Worker held ∷ [] → Lies does (Some errand) held (x ∷ items)
          → (w : Hand C T) × Agree does items (set hands id w) × ((w ≡ Caller None) × ((one : Errand C T) × (v ≡ Caller (Some one)) × Serves does one x))
      by None e are (packet, lies, serves) =
          let first : packet ≡ x = ap (λ list. get_or list 0 x) (sym lies) in
          let none : items ≡ [] = ap (drop 1) lies in (
            Caller None,
            inr (None, None, set-first hands (Caller (Some errand)) (Worker None) (Caller None) id are e, none),
            (refl, (errand, is, subst (Serves does errand) first serves)),
          )
      by (Some other) e are lies = absurd (not-empty x items lies.1)

  -- the worker takes what lies there
  pub takes : (id : ℕ) (v : Hand C T) → v ≡ Worker None → Pops (Agree does) id v (λ packet after. (errand : Errand C T) × (after ≡ Worker (Some errand)) × Serves does errand packet)
  takes id v is x items hands agree at = let here = worker-at (x ∷ items) hands id v None is agree at in by here.1.0 here.0 here.1.1 here.1.2
    where
      by : (asked : Option (Errand C T)) → id ≡ 1 → hands ≡ Caller asked ∷ Worker None ∷ [] → Lies does asked None (x ∷ items)
          → (w : Hand C T) × Agree does items (set hands id w) × ((errand : Errand C T) × (w ≡ Worker (Some errand)) × Serves does errand x)
      by None e are lies = absurd (not-empty x items lies)
      by (Some errand) e are (packet, lies, serves) =
          let first : packet ≡ x = ap (λ list. get_or list 0 x) (sym lies) in
          let none : items ≡ [] = ap (drop 1) lies in (
            Worker (Some errand),
            inr (Some errand, Some errand, set-second hands (Caller (Some errand)) (Worker None) (Worker (Some errand)) id are e, (refl, none)),
            (errand, refl, subst (Serves does errand) first serves),
          )

  -- the worker answers
  pub answers : (n id : ℕ) (v : Hand C T) (errand : Errand C T) (row : Vec T _) → v ≡ Worker (Some errand) → IsDone does errand row → Pushes (Agree does) n id v (Answer row) (λ after. after ≡ Worker None)
  answers n id v errand row is done items hands room agree at = let here = worker-at items hands id v (Some errand) is agree at in by here.1.0 here.0 here.1.1 here.1.2
    where
      by : (asked : Option (Errand C T)) → id ≡ 1 → hands ≡ Caller asked ∷ Worker (Some errand) ∷ [] → Lies does asked (Some errand) items
          → (w : Hand C T) × Agree does (items ++ Answer row ∷ []) (set hands id w) × (w ≡ Worker None)
      by None e are lies = absurd lies
      by (Some other) e are (same, none) = (
        Worker None,
        inr (Some other, None, set-second hands (Caller (Some other)) (Worker (Some errand)) (Worker None) id are e, (Answer row, ap (λ list. list ++ Answer row ∷ []) none, subst (λ one. IsDone does one row) same done)),
        refl,
      )

  -- nothing lies on the line of a worker that has something in hand
  pub answers-none : (id : ℕ) (v : Hand C T) (errand : Errand C T) → v ≡ Worker (Some errand) → Learns (Agree does) id v (λ items. items ≡ [])
  answers-none id v errand is items hands agree at = let here = worker-at items hands id v (Some errand) is agree at in by here.1.0 here.1.2
    where
      by : (asked : Option (Errand C T)) → Lies does asked (Some errand) items → items ≡ []
      by None lies = absurd lies
      by (Some other) (same, none) = none

  -- what was asked for was worked on
  pub did : (errand : Errand C T) (shared : C) (row after : Vec T _) → shared ≡ errand.shared → row ≡ errand.row → AllZip (does shared) row.items after.items → vec_capacity after ≡ vec_capacity row → IsDone does errand after
  did errand shared row after same-shared same-row worked capacity = (
    subst (λ (list : Vec T _). AllZip (does errand.shared) list.items after.items) same-row (subst (λ s. AllZip (does s) row.items after.items) same-shared worked),
    capacity ∙ ap (λ (list : Vec T _). vec_capacity list) same-row,
  )

-- what is there
pub there : {A : Type 0} (o : Option A) → IsSome o → (a : A) × (o ≡ Some a)
there None is = absurd (true≢false (sym is))
there (Some a) is = (a, refl)

-- one seat more from which nothing was asked for
pub idle-more : {C T : Type 0} (seats : List (Option (Errand C T))) (seat : Option (Errand C T)) → are_idle seats ≡ true → seat ≡ None → are_idle (seats ++ seat ∷ []) ≡ true
idle-more [] seat idle none = ap (λ one. are_idle (one ∷ [])) none
idle-more (None ∷ seats) seat idle none = idle-more seats seat idle none
idle-more (Some errand ∷ seats) seat idle none = absurd (true≢false (sym idle))
