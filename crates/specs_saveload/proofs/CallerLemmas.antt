-- What callers cite of what is saved and loaded: a world in which nobody was born, a list that was loaded and is saved again, and a
-- marker that is given after a load.
use Rattle.std.proofs.Common.{◌≡◌, ◌≢◌, ◌&&◌, ℕ, cond, IfOk, IfSome, Result, Ok, Err, List, Option, Some, None, option_and_then, is_some, sym, ap, subst, ◌∙◌}
use Rattle.std.proofs.lemmas.Bool.{false≢true}
use Rattle.std.proofs.lemmas.Option.{same_Some}
use Rattle.std.specs.FinSet as set
use Rattle.std.specs.Ordering.{nat_cmp}
use Rattle.specs_entity.specs.Births.{Births, IsAlive, living_of, none_born}
use Rattle.specs_entity.specs.Life.{LifeAt}
use Rattle.specs_markers.specs.Simple.{Gives, IsBelowNext, Noting, noted_under}
use Rattle.specs_saveload.specs.Known.{Known, bearer_at, lives_there}
use Rattle.specs_saveload.specs.Retrieved.{AreGiven, none_given, one_given}

-- nobody lives where nobody was born
pub nobody-lives : (births : Births) (indices generations : ℕ) → births ≡ none_born indices generations → (entity : LifeAt) → ¬ (IsAlive births entity)
nobody-lives births indices generations is entity alive =
    let P : Births → Type 0 = λ b. IsAlive b entity in
    let born : IsAlive (none_born indices generations) entity = subst P is alive in
    false≢true (ap is_some (sym (ap (λ b. living_of b None) (set.contains-empty nat_cmp entity.id)) ∙ born))

-- two that are saved of one world are one list, and so is one that is saved of a world of which the other is
pub same-again : {E : Type 0} (whole back : Option (List E)) (list copy again : List E) → whole ≡ Some list → whole ≡ Some copy → back ≡ Some copy → back ≡ Some again → list ≡ again
same-again whole back list copy again is is' same saved = same_Some list copy (sym is ∙ is') ∙ same_Some copy again (sym same ∙ saved)

-- what gives markers is below the next id after some were given
pub below-then : (before after : Noting) → ((before after : Noting) (entity : LifeAt) (asked : Option ℕ) (marker : ℕ) → Gives before entity asked marker after → IsBelowNext before → IsBelowNext after) → AreGiven Gives before after → IsBelowNext before → IsBelowNext after
below-then before after gift none_given below = below
below-then before after gift (one_given between last entity asked marker earlier gives) below = gift between last entity asked marker gives (below-then before between gift earlier below)

-- so the next that is given differs from each that is borne
pub new-differs : {S : Type 0} (part_at : S → ℕ → Option ℕ) (known : Known Noting S) (other id : ℕ) (entity : LifeAt) → bearer_at noted_under part_at (λ marker. marker) known other ≡ Some entity → noted_under known.allocator id ≡ None → other ≢ id
new-differs part_at known other id entity bears new same =
    false≢true (ap is_some (sym (ap (option_and_then (λ (one : LifeAt). cond (lives_there known.births one && is_some (part_at known.markers.inner one.id)) (Some one) None)) (ap (noted_under known.allocator) same ∙ new)) ∙ bears))

-- what is true of an id that may be told
pub of-told : {E : Type 0} (result : Result (Option ℕ) E) (P Q : ℕ → Type 0) → ((id : ℕ) → P id → Q id) → IfOk result (λ found. IfSome found P) → IfOk result (λ found. IfSome found Q)
of-told (Ok None) P Q more told = tt
of-told (Ok (Some id)) P Q more told = more id told
of-told (Err error) P Q more told = tt
