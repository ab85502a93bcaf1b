-- Facts on setting systems up one after the other.
use Rattle.std.proofs.Common.{◌≡◌, ◌≤◌, ◌<◌, Bool, true, false, List, [], ◌∷◌, ◌++◌, length, map, refl, ap, sym, ◌∙◌, subst, arith, Option, Some, None}
use Rattle.std.specs.Prelude.{slice_index_or, slice_set, slice_get}
use Rattle.std.specs.Option.{MatchOption, option_map}
use Rattle.std.proofs.lemmas.Option.{slice_get-map}
use Rattle.shred_stages.specs.Moves.{IsSeat}
use Rattle.shred_stages.specs.Seats.{SeatsKept}
use Rattle.std.proofs.lemmas.List.{map-append}
use Rattle.std.proofs.lemmas.Bool.{false≢true}
use Rattle.shred_world.specs.Worlds.{Slots}
use Rattle.shred_stages.specs.declared.turn.Staged.{Staged}
use Rattle.shred_stages.specs.Setups.{SetsUpEach}

module _ {V S : Type 0} (sets_up : S → Bool → Slots V → S → Slots V → Type 0) where
  -- one system alone
  pub set-up-one : (system : S) (accepted : Bool) (w : Slots V) (left : S) (w2 : Slots V) → sets_up system accepted w left w2 → SetsUpEach sets_up (system ∷ []) accepted w (left ∷ []) w2
  set-up-one system true w left w2 s = (true, left, [], w2, s, refl, (refl, refl, refl))
  set-up-one system false w left w2 s = (false, left, [], w2, s, refl, (refl, refl, refl))

  -- all of some, and then others
  pub set-up-both : (systems lefts others others2 : List S) (accepted : Bool) (w between w2 : Slots V) → SetsUpEach sets_up systems true w lefts between → SetsUpEach sets_up others accepted between others2 w2
      → SetsUpEach sets_up (systems ++ others) accepted w (lefts ++ others2) w2
  set-up-both [] lefts others others2 accepted w between w2 (_, e, f) rest =
      let P : List S → Type 0 = λ list. SetsUpEach sets_up others accepted w (list ++ others2) w2 in
      let Q : Slots V → Type 0 = λ x. SetsUpEach sets_up others accepted x others2 w2 in
      subst P (sym e) (subst Q f rest)
  set-up-both (system ∷ systems) lefts others others2 accepted w between w2 (true, left, more, after, one, e, each) rest =
      (true, left, more ++ others2, after, one, ap (λ list. list ++ others2) e, set-up-both systems more others others2 accepted after between w2 each rest)
  set-up-both (system ∷ systems) lefts others others2 accepted w between w2 (false, left, more, after, one, e, (not, _, _)) rest = absurd (false≢true (sym not))

  -- a refusal among some, and then the others as they were
  pub set-up-stops : (systems lefts others : List S) (w w2 : Slots V) → SetsUpEach sets_up systems false w lefts w2 → SetsUpEach sets_up (systems ++ others) false w (lefts ++ others) w2
  set-up-stops [] lefts others w w2 (not, _, _) = absurd (false≢true not)
  set-up-stops (system ∷ systems) lefts others w w2 (true, left, more, after, one, e, each) =
      (true, left, more ++ others, after, one, ap (λ list. list ++ others) e, set-up-stops systems more others after w2 each)
  set-up-stops (system ∷ systems) lefts others w w2 (false, left, more, after, one, e, (_, same, f)) =
      (false, left, more ++ others, after, one, ap (λ list. list ++ others) e, (refl, ap (λ list. list ++ others) same, f))

module _ {V S : Type 0} (sets_up : S → Bool → Slots V → S → Slots V → Type 0) where
  abbrev systems : List (Staged V S) → List S
  systems staged = map (λ one. one.system) staged

  -- the same of systems that are staged
  pub staged-one : (staged : List (Staged V S)) (d after : Staged V S) (accepted : Bool) (w w2 : Slots V) → 1 ≤ length staged → length staged < 2
      → sets_up (slice_index_or staged 0 d).system accepted w after.system w2 → SetsUpEach sets_up (systems staged) accepted w (systems (slice_set staged 0 after)) w2
  staged-one [] d after accepted w w2 some few s = absurd (omega arith)
  staged-one (x ∷ []) d after accepted w w2 some few s = set-up-one sets_up x.system accepted w after.system w2 s
  staged-one (x ∷ y ∷ staged) d after accepted w w2 some few s = absurd (omega arith)

  pub staged-both : (staged first others first2 others2 : List (Staged V S)) (accepted : Bool) (w between w2 : Slots V) → staged ≡ first ++ others
      → SetsUpEach sets_up (systems first) true w (systems first2) between → SetsUpEach sets_up (systems others) accepted between (systems others2) w2
      → SetsUpEach sets_up (systems staged) accepted w (systems (first2 ++ others2)) w2
  staged-both staged first others first2 others2 accepted w between w2 is a b =
      let P : List S → Type 0 = λ list. SetsUpEach sets_up list accepted w (systems (first2 ++ others2)) w2 in
      let Q : List S → Type 0 = λ list. SetsUpEach sets_up (systems first ++ systems others) accepted w list w2 in
      subst P (sym (ap systems is ∙ map-append (λ one. one.system) first others))
      (subst Q (sym (map-append (λ one. one.system) first2 others2)) (set-up-both sets_up (systems first) (systems first2) (systems others) (systems others2) accepted w between w2 a b))

  pub staged-stop : (staged first others first2 : List (Staged V S)) (w w2 : Slots V) → staged ≡ first ++ others
      → SetsUpEach sets_up (systems first) false w (systems first2) w2
      → SetsUpEach sets_up (systems staged) false w (systems (first2 ++ others)) w2
  staged-stop staged first others first2 w w2 is a =
      let P : List S → Type 0 = λ list. SetsUpEach sets_up list false w (systems (first2 ++ others)) w2 in
      let Q : List S → Type 0 = λ list. SetsUpEach sets_up (systems first ++ systems others) false w list w2 in
      subst P (sym (ap systems is ∙ map-append (λ one. one.system) first others))
      (subst Q (sym (map-append (λ one. one.system) first2 others)) (set-up-stops sets_up (systems first) (systems first2) (systems others) w w2 a))

  -- systems that have the seats that they had
  pub seats-same : (before after : List (Staged V S)) → map (λ one. one.seat) after ≡ map (λ one. one.seat) before → SeatsKept before after
  seats-same before after same one seated =
      by (slice_get before one.number) (slice_get after one.number)
      (sym (slice_get-map (λ one. one.seat) after one.number) ∙ ap (λ list. slice_get list one.number) same ∙ slice_get-map (λ one. one.seat) before one.number) seated
    where
      by : (o p : Option (Staged V S)) → option_map (λ one. one.seat) p ≡ option_map (λ one. one.seat) o → MatchOption o ⊥ (λ there. IsSeat one.writes there.seat)
          → MatchOption p ⊥ (λ there. IsSeat one.writes there.seat)
      by None p e m = absurd m
      by (Some x) None e m = cc
      by (Some x) (Some y) e m = let P : Slots V → Type 0 = λ seat. IsSeat one.writes seat in let same : y.seat ≡ x.seat = cc in subst P (sym same) m
