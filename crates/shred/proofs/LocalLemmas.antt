-- Local systems leave the ids that they found.
use Rattle.std.proofs.Common.{◌≡◌, ℕ, Bool, true, false, ◌+◌, suc, List, [], ◌∷◌, ◌++◌, ◌≤◌, ◌<◌, length, get_or, set, refl, sym, ap, subst, arith, Option, Some, None}
use Rattle.std.specs.Option.{MatchOption, option_map}
use Rattle.shred_world.specs.Worlds.{Slots}
use Rattle.shred_world.specs.Bundles.{Holding}
use Rattle.shred_stages.specs.declared.stop.Stop.{Stop}
use Rattle.shred_stages.specs.Views.{Leaves}
use Rattle.shred_stages.specs.Setups.{SetsUpEach}
use Rattle.shred_stages.proofs.CallerLemmas.{leaves-itself, leaves-leaves, leaves-to, set-up-one, set-up-both, set-up-stops}
use Rattle.shred.specs.Locals.{LocalsRun}

module _ {V L : Type 0} (meets : L → Holding V → Option Stop → L → Holding V → Type 0) where
  -- a run of local systems has a value where one was, and nowhere else
  pub locals-leave : (place : ℕ) (locals : List L) (w : Holding V) (refused : Option (ℕ × Stop)) (after : List L) (w2 : Holding V) → LocalsRun meets place locals w refused after w2 → Leaves w w2
  locals-leave place [] w refused after w2 (_, _, e) = leaves-to w w w2 (leaves-itself w) e
  locals-leave place (local ∷ others) w refused after w2 (stop, left, rest, between, _, leaves, _, m) = leaves-leaves w between w2 leaves (by stop (locals-leave (suc place) others between refused rest w2) m)
    where
      by : (stop : Option Stop) → (LocalsRun meets (suc place) others between refused rest w2 → Leaves between w2) → MatchOption stop (LocalsRun meets (suc place) others between refused rest w2) (λ why. (refused ≡ Some (place, why)) × (rest ≡ others) × (w2 ≡ between)) → Leaves between w2
      by None later m = later m
      by (Some why) later m = leaves-to between between w2 (leaves-itself between) m.2

  -- one local system
  pub locals-one : (place : ℕ) (locals : List L) (d left : L) (stop : Option Stop) (refused : Option (ℕ × Stop)) (w w2 : Holding V) → 1 ≤ length locals → length locals < 2
      → meets (get_or locals 0 d) w stop left w2 → Leaves w w2 → refused ≡ option_map (λ why. (place, why)) stop → LocalsRun meets place locals w refused (set locals 0 left) w2
  locals-one place [] d left stop refused w w2 some few one leaves told = absurd (omega arith)
  locals-one place (local ∷ []) d left stop refused w w2 some few one leaves told = (stop, left, [], w2, one, leaves, refl, by stop told)
    where
      none : List L
      none = []

      by : (s : Option Stop) → refused ≡ option_map (λ why. (place, why)) s
          → MatchOption s (LocalsRun meets (suc place) none w2 refused none w2) (λ why. (refused ≡ Some (place, why)) × (none ≡ none) × (w2 ≡ w2))
      by None e = (e, refl, refl)
      by (Some why) e = (e, refl, refl)
  locals-one place (local ∷ other ∷ locals) d left stop refused w w2 some few one leaves told = absurd (omega arith)

  -- all of some, and then others
  pub locals-both : (place later : ℕ) (locals lefts others others2 : List L) (refused : Option (ℕ × Stop)) (w between w2 : Holding V) → later ≡ place + length locals
      → LocalsRun meets place locals w None lefts between → LocalsRun meets later others between refused others2 w2
      → LocalsRun meets place (locals ++ others) w refused (lefts ++ others2) w2
  locals-both place later [] lefts others others2 refused w between w2 is (_, e, f) rest =
      let P : List L → Type 0 = λ list. LocalsRun meets place others w refused (list ++ others2) w2 in
      let Q : Holding V → Type 0 = λ x. LocalsRun meets place others x refused others2 w2 in
      let R : ℕ → Type 0 = λ n. LocalsRun meets n others between refused others2 w2 in
      let same : later ≡ place = omega arith in
      subst P (sym e) (subst Q f (subst R same rest))
  locals-both place later (local ∷ locals) lefts others others2 refused w between w2 is (None, left, more, after, one, leaves, e, each) rest =
      (None, left, more ++ others2, after, one, leaves, ap (λ list. list ++ others2) e, locals-both (suc place) later locals more others others2 refused after between w2 (omega arith) each rest)
  locals-both place later (local ∷ locals) lefts others others2 refused w between w2 is (Some why, left, more, after, one, leaves, e, (not, _, _)) rest = cc

  -- some, up to one that refuses
  pub locals-stop : (place : ℕ) (locals lefts others : List L) (refused : ℕ × Stop) (w w2 : Holding V) → LocalsRun meets place locals w (Some refused) lefts w2
      → LocalsRun meets place (locals ++ others) w (Some refused) (lefts ++ others) w2
  locals-stop place [] lefts others refused w w2 (not, _, _) = cc
  locals-stop place (local ∷ locals) lefts others refused w w2 (None, left, more, after, one, leaves, e, each) =
      (None, left, more ++ others, after, one, leaves, ap (λ list. list ++ others) e, locals-stop (suc place) locals more others refused after w2 each)
  locals-stop place (local ∷ locals) lefts others refused w w2 (Some why, left, more, after, one, leaves, e, (is, same, held)) =
      (Some why, left, more ++ others, after, one, leaves, ap (λ list. list ++ others) e, (is, ap (λ list. list ++ others) same, held))

  -- the same of a list and its two parts
  pub locals-halves : (place later : ℕ) (locals first others lefts others2 : List L) (refused : Option (ℕ × Stop)) (w between w2 : Holding V) → locals ≡ first ++ others → later ≡ place + length first
      → LocalsRun meets place first w None lefts between → LocalsRun meets later others between refused others2 w2 → LocalsRun meets place locals w refused (lefts ++ others2) w2
  locals-halves place later locals first others lefts others2 refused w between w2 is at one rest =
      let P : List L → Type 0 = λ list. LocalsRun meets place list w refused (lefts ++ others2) w2 in
      subst P (sym is) (locals-both place later first lefts others others2 refused w between w2 at one rest)

  pub locals-half : (place : ℕ) (locals first others lefts : List L) (refused : ℕ × Stop) (w w2 : Holding V) → locals ≡ first ++ others
      → LocalsRun meets place first w (Some refused) lefts w2 → LocalsRun meets place locals w (Some refused) (lefts ++ others) w2
  locals-half place locals first others lefts refused w w2 is one =
      let P : List L → Type 0 = λ list. LocalsRun meets place list w (Some refused) (lefts ++ others) w2 in
      subst P (sym is) (locals-stop place first lefts others refused w w2 one)

module _ {V L : Type 0} (sets_up : L → Bool → Slots V → L → Slots V → Type 0) where
  -- local systems are set up
  pub set-up-single : (locals : List L) (d left : L) (accepted : Bool) (w w2 : Slots V) → 1 ≤ length locals → length locals < 2
      → sets_up (get_or locals 0 d) accepted w left w2 → SetsUpEach sets_up locals accepted w (set locals 0 left) w2
  set-up-single [] d left accepted w w2 some few one = absurd (omega arith)
  set-up-single (local ∷ []) d left accepted w w2 some few one = set-up-one sets_up local accepted w left w2 one
  set-up-single (local ∷ other ∷ locals) d left accepted w w2 some few one = absurd (omega arith)

  pub set-up-halves : (locals first others lefts others2 : List L) (accepted : Bool) (w between w2 : Slots V) → locals ≡ first ++ others
      → SetsUpEach sets_up first true w lefts between → SetsUpEach sets_up others accepted between others2 w2 → SetsUpEach sets_up locals accepted w (lefts ++ others2) w2
  set-up-halves locals first others lefts others2 accepted w between w2 is one rest =
      let P : List L → Type 0 = λ list. SetsUpEach sets_up list accepted w (lefts ++ others2) w2 in
      subst P (sym is) (set-up-both sets_up first lefts others others2 accepted w between w2 one rest)

  pub set-up-half : (locals first others lefts : List L) (w w2 : Slots V) → locals ≡ first ++ others
      → SetsUpEach sets_up first false w lefts w2 → SetsUpEach sets_up locals false w (lefts ++ others) w2
  set-up-half locals first others lefts w w2 is one =
      let P : List L → Type 0 = λ list. SetsUpEach sets_up list false w (lefts ++ others) w2 in
      subst P (sym is) (set-up-stops sets_up first lefts others w w2 one)
