-- Amounts that are taken from numbers, one after the other and all at once.
use Rattle.std.proofs.Common.{◌≡◌, ◌⊎◌, inl, inr, ◌+◌, ◌-◌, ◌++◌, arith, ℕ, Bool, true, false, cond, eqb, List, [], ◌∷◌, Option, Some, None, refl, ap, sym, ◌∙◌}
use Rattle.std.specs.Prelude.{option_and_then, option_map}
use Rattle.std.specs.List.{filter_map, cons_option}
use Rattle.std.proofs.lemmas.Bool.{eqb-true}
use Rattle.specs_layouts.specs.Channels.{Log}
use Rattle.specs_layouts.specs.declared.track.ComponentEvent.{ComponentEvent}
use Rattle.specs_layouts.specs.Shows.{Shows}
use Rattle.specs_layouts.proofs.CallerLemmas.{shows-refl, shows-trans}
use Rattle.specs_entity.specs.Life.{LifeAt}
use Rattle.scene_world.specs.Stored.{Stored}
use Rattle.scene_world.specs.Rolls.{Roll, index_of}
use Rattle.scene_world.specs.Numbers.{counting, number_in, number_at, taken_at}
use Rattle.scene_world.specs.Held.{LessBy}
use Rattle.scene_world.specs.Putting.{PutsIn}
use Rattle.scene_world.proofs.SeenLemmas.{Reaches, same-reached}

-- what amounts take one after the other is what they take together
taken-both : (at : ℕ) (front back : List (ℕ × ℕ)) → taken_at at (front ++ back) ≡ taken_at at front + taken_at at back
taken-both at [] back = omega arith
taken-both at (amount ∷ front) back = let later = taken-both at front back in omega (arith, later)

nothing-taken : (o : Option ℕ) → option_map (λ number. number - 0) o ≡ o
nothing-taken None = refl
nothing-taken (Some number) = ap Some (omega arith)

module _ {V : Type 0} (stored : V → ℕ → Option Stored) (events : V → Log ComponentEvent) (emits : V → Bool) where
  -- no amount
  pub less-none : (v : V) → LessBy stored events emits [] v v
  less-none v = record { numbers = λ index. sym (nothing-taken (number_at (stored v) index)); shown = shows-refl stored events emits v }

  -- amounts after others
  pub less-both : (front back : List (ℕ × ℕ)) (first second third : V) → LessBy stored events emits front first second → LessBy stored events emits back second third
      → LessBy stored events emits (front ++ back) first third
  less-both front back first second third one two = record {
    numbers = λ index. two.numbers index ∙ ap (option_map (λ number. number - taken_at index back)) (one.numbers index) ∙ by index (number_at (stored first) index);
    shown = shows-trans stored events emits first second third one.shown two.shown;
  }
    where
      by : (index : ℕ) (o : Option ℕ) → option_map (λ number. number - taken_at index back) (option_map (λ number. number - taken_at index front) o) ≡ option_map (λ number. number - taken_at index (front ++ back)) o
      by index None = refl
      by index (Some number) = ap Some (let both = taken-both index front back in omega (arith, both))

  module _ (old : V) (index amount : ℕ) where
    abbrev less_at : ℕ → Bool → Option ℕ → Option ℕ
    less_at at here o = option_map (λ number. number - (cond here amount 0 + 0)) o

    -- an amount where no number is
    pub less-nobody : number_at (stored old) index ≡ None → LessBy stored events emits ((index, amount) ∷ []) old old
    less-nobody none = record { numbers = λ at. by at (eqb at index) refl; shown = shows-refl stored events emits old }
      where
        by : (at : ℕ) (b : Bool) → eqb at index ≡ b → number_at (stored old) at ≡ less_at at (eqb at index) (number_at (stored old) at)
        by at true same = let gone : number_at (stored old) at ≡ None = ap (number_at (stored old)) (eqb-true at index same) ∙ none in gone ∙ sym (ap (less_at at (eqb at index)) gone)
        by at false differ = sym (ap (λ b. less_at at b (number_at (stored old) at)) differ ∙ nothing-taken (number_at (stored old) at))

    -- an amount where one is
    pub less-one : (new : V) (number : ℕ) → number_at (stored old) index ≡ Some number → PutsIn stored index (counting (number - amount)) [] old new → Shows stored events emits old new
        → LessBy stored events emits ((index, amount) ∷ []) old new
    less-one new number held puts shown = record { numbers = λ at. by at (eqb at index) refl; shown = shown }
      where
        new-at : (at : ℕ) (b : Bool) → eqb at index ≡ b → number_at (stored new) at ≡ option_and_then (λ (one : Stored). number_in (one.written [])) (cond b (Some puts.one) (stored old at))
        new-at at b is = ap (option_and_then (λ (one : Stored). number_in (one.written []))) (puts.there at ∙ ap (λ b. cond b (Some puts.one) (stored old at)) is)

        by : (at : ℕ) (b : Bool) → eqb at index ≡ b → number_at (stored new) at ≡ less_at at (eqb at index) (number_at (stored old) at)
        by at true same =
            new-at at true same ∙ ap number_in puts.is.writes
            ∙ sym (ap (λ b. less_at at b (number_at (stored old) at)) same ∙ ap (less_at at true) (ap (number_at (stored old)) (eqb-true at index same) ∙ held) ∙ ap Some (omega arith))
        by at false differ = new-at at false differ ∙ sym (ap (λ b. less_at at b (number_at (stored old) at)) differ ∙ nothing-taken (number_at (stored old) at))

-- ---- what is taken at an index, and from the id that is known there

abbrev amount_at : ℕ → Option (ℕ × ℕ) → ℕ
amount_at at None = 0
amount_at at (Some amount) = cond (eqb at amount.0) amount.1 0

amount-first : (at : ℕ) (o : Option (ℕ × ℕ)) (amounts : List (ℕ × ℕ)) → taken_at at (cons_option o amounts) ≡ amount_at at o + taken_at at amounts
amount-first at None amounts = omega arith
amount-first at (Some amount) amounts = refl

module _ (roll : Roll) where
  -- nothing is taken, or as much at the index of an entity as from the id under which it is known
  abbrev pub TakesAlike : Option (ℕ × ℕ) → Option (ℕ × ℕ) → Type 0
  TakesAlike seen meant = ((seen ≡ None) × (meant ≡ None)) ⊎ ((entity : LifeAt) × (to : Reaches roll entity) × (amount : ℕ) × (seen ≡ Some (entity.id, amount)) × (meant ≡ Some (to.id, amount)))

  module _ (seen meant : ℕ → Option (ℕ × ℕ)) (alike : (by : ℕ) → TakesAlike (seen by) (meant by)) (id index : ℕ) (is : index_of roll id ≡ Some index) where
    one-amount : (by : ℕ) → amount_at index (seen by) ≡ amount_at id (meant by)
    one-amount by = at (alike by)
      where
        at : TakesAlike (seen by) (meant by) → amount_at index (seen by) ≡ amount_at id (meant by)
        at (inl none) = ap (amount_at index) none.0 ∙ sym (ap (amount_at id) none.1)
        at (inr (entity, to, amount, one, two)) = ap (amount_at index) one ∙ ap (λ b. cond b amount 0) (same-reached roll id index is entity to) ∙ sym (ap (amount_at id) two)

    -- so it is for all ids
    pub same-taken : (ids : List ℕ) → taken_at index (filter_map seen ids) ≡ taken_at id (filter_map meant ids)
    same-taken [] = refl
    same-taken (by ∷ ids) =
        amount-first index (seen by) (filter_map seen ids)
        ∙ ap (λ n. n + taken_at index (filter_map seen ids)) (one-amount by)
        ∙ ap (λ n. amount_at id (meant by) + n) (same-taken ids)
        ∙ sym (amount-first id (meant by) (filter_map meant ids))
