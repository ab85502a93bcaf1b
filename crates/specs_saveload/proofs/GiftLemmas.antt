-- What gives markers, as bearers are looked for: it gives some, one after the other, and changes by nothing else.
use Rattle.std.proofs.Common.{◌≡◌, ℕ, List, [], ◌∷◌, Option, Result, Ok, Err, OnOk, IfErr, inl, inr, sym, ap, subst, ◌∙◌}
use Rattle.specs_entity.specs.Births.{Births, newborn}
use Rattle.specs_entity.specs.Life.{LifeAt}
use Rattle.specs_entity.specs.declared.errors.Error.{Error}
use Rattle.specs_layouts.specs.MaskedLends.{StorageMembers}
use Rattle.specs_markers.specs.Marking.{RefusesGift, RefusesRetrieval, Retrieves}
use Rattle.specs_saveload.specs.declared.entity_data.EntityData.{EntityData}
use Rattle.specs_saveload.specs.Known.{Known}
use Rattle.specs_saveload.specs.Retrieved.{AreGiven, RefusesNext, Retrieved, Retrievals, RetrievesLoaded, RetrievesLoadedSome, RetrievesSome, none_given, one_given}

module _ {A S M I : Type 0} (noted : A → I → Option LifeAt) (allocates : A → LifeAt → Option I → M → A → Type 0) (id_of : M → I) (s : StorageMembers S M) (start : A) where
  abbrev Given : A → Type 0
  Given = AreGiven allocates start

  one-step : (marker : M) (entity : LifeAt) (before after : Known A S) → Retrieved noted allocates id_of s marker entity before after → Given before.allocator → Given after.allocator
  one-step marker entity before after (inl found) given = subst Given (sym found.allocator) given
  one-step marker entity before after (inr made) given = one_given before.allocator after.allocator _ _ made.given.marker given made.given.given.gives

  each-step : (list : List M) (before after : Known A S) → Retrievals noted allocates id_of s list before after → Given before.allocator → Given after.allocator
  each-step [] before after same given = subst Given (ap (λ (known : Known A S). known.allocator) (sym same)) given
  each-step (marker ∷ rest) before after (between, entity, retrieved, later) given = each-step rest between after later (one-step marker entity before between retrieved given)

  module _ (refuses : A → Option I → Error → Type 0) where
    gift-refused : (asked : Option I) (entity : LifeAt) (error : Error) (before after : A) → RefusesGift noted allocates id_of refuses asked entity before after error → Given before → Given after
    gift-refused asked entity error before after (inl none) given = subst Given (sym none.1) given
    gift-refused asked entity error before after (inr gave) given = one_given before after entity asked gave.1.0 given gave.1.1.gives

    step-refused : (marker : M) (error : Error) (before after : Known A S) → RefusesRetrieval noted allocates id_of s (id_of marker) before.births after.births before.allocator after.allocator before.markers after.markers refuses error → Given before.allocator → Given after.allocator
    step-refused marker error before after (inl update) given = subst Given (sym update.allocator) given
    step-refused marker error before after (inr (inl creation)) given = subst Given (sym creation.allocator) given
    step-refused marker error before after (inr (inr marked)) given = gift-refused _ _ error before.allocator after.allocator marked.why given

    some-steps : (error : Error) (list : List M) (before after : Known A S) → RetrievesSome noted allocates id_of s refuses error list before after → Given before.allocator → Given after.allocator
    some-steps error list before after some given =
        let until = each-step some.done before some.between some.each.steps given in
        elim some.last [
          | inl none ↦ subst Given (ap (λ (known : Known A S). known.allocator) (sym none)) until
          | inr refused ↦ step-refused refused.next error some.between after refused.why until
        ]

module _ {A S M I D : Type 0} (noted : A → I → Option LifeAt) (allocates : A → LifeAt → Option I → M → A → Type 0) (id_of : M → I) (s : StorageMembers S M) (refuses : A → Option I → Error → Type 0) (markers_of : D → List M) (list : List (EntityData M D)) (before after : Known A S) where
  loaded-given : RetrievesLoaded noted allocates id_of s markers_of list before after → AreGiven allocates before.allocator after.allocator
  loaded-given (between, found, named) =
      each-step noted allocates id_of s before.allocator _ between after named.steps (each-step noted allocates id_of s before.allocator _ before between found.steps none_given)

  stopped-given : (place : ℕ) (error : Error) → RetrievesLoadedSome noted allocates id_of s markers_of list refuses place error before after → AreGiven allocates before.allocator after.allocator
  stopped-given place error some =
      let found = some-steps noted allocates id_of s before.allocator refuses some.bearers.0 _ before some.found some.bearers.1 none_given in
      let named = each-step noted allocates id_of s before.allocator _ some.found some.named.named some.named.earlier.steps found in
      some-steps noted allocates id_of s before.allocator refuses error _ some.named.named after some.named.own named

  -- a load gives markers and does nothing else to what gives them, whether it is refused or not
  pub load-given : {E : Type 0} (result : Result (Unit {0}) E) (place_of : E → ℕ) (error_of : E → Error) → OnOk result (RetrievesLoaded noted allocates id_of s markers_of list before after) → IfErr result (λ refused. RetrievesLoadedSome noted allocates id_of s markers_of list refuses (place_of refused) (error_of refused) before after)
      → AreGiven allocates before.allocator after.allocator
  load-given (Ok value) place_of error_of ok err = loaded-given ok
  load-given (Err refused) place_of error_of ok err = stopped-given (place_of refused) (error_of refused) err
