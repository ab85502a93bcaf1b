-- One drop after others.
use Rattle.std.proofs.Common.{◌≡◌, ℕ, zero, suc, ◌+◌, ◌<◌, length, get_or, take, subst, arith, Bool, cond, List, [], ◌∷◌, ◌++◌, Option, None, is_some, refl, sym, ap, ◌∙◌, inl, inr}
use Rattle.std.proofs.lemmas.List.{take_more, map-append}
use Rattle.specs_entity.specs.Life.{LifeAt}
use Rattle.specs_layouts.specs.Channels.{Log}
use Rattle.std.proofs.lemmas.Bool.{cases_eq, eq-eqb, ne_eqb}
use Rattle.specs_layouts.specs.declared.track.ComponentEvent.{ComponentEvent}
use Rattle.specs_layouts.specs.declared.track.ComponentEvent.TheVariants as event
use Rattle.specs_layouts.specs.Parts.{Puts, told}
use Rattle.specs_layouts.specs.Drops.{without, without_all, told_all, DropsAll, ids_of}

without-last : {T : Type 0} (parts : ℕ → Option T) (indices : List ℕ) (last index : ℕ) → without_all parts (indices ++ last ∷ []) index ≡ without (without_all parts indices) last index
without-last parts [] last index = refl
without-last parts (first ∷ rest) last index = without-last (without parts first) rest last index

told-last : {T : Type 0} (emits : Bool) (parts : ℕ → Option T) (events : Log ComponentEvent) (indices : List ℕ) (last : ℕ) → told_all emits parts events (indices ++ last ∷ []) ≡ cond (is_some (without_all parts indices last)) (told emits (told_all emits parts events indices) (event.Removed last)) (told_all emits parts events indices)
told-last emits parts events [] last = refl
told-last emits parts events (first ∷ rest) last =
    told-last emits (without parts first) (cond (is_some (parts first)) (told emits events (event.Removed first)) events) rest last

module _ {T : Type 0} (had : ℕ → Option T) (was_told : Log ComponentEvent) (emits : Bool) (indices : List ℕ) (has : ℕ → Option T) (tells : Log ComponentEvent) (emits_now : Bool) (dropped : DropsAll had was_told emits indices has tells emits_now) where
  pub drops-more : (index : ℕ) (after : ℕ → Option T) (events : Log ComponentEvent) (emits_after : Bool) → Puts has index None after → events ≡ cond (is_some (has index)) (told emits_now tells (event.Removed index)) tells → emits_after ≡ emits_now → DropsAll had was_told emits (indices ++ index ∷ []) after events emits_after
  drops-more index after events emits_after puts tells_more same = record {
    parts = λ other.
        elim (cases_eq other index) [
          | inl here ↦
              ap after here ∙ (puts.here ∙ sym (without-last had indices index other ∙ ap (λ b. cond b None (without_all had indices other)) (eq-eqb other index here)))
          | inr apart ↦
              puts.others other apart
              ∙ (dropped.parts other ∙ sym (without-last had indices index other ∙ ap (λ b. cond b None (without_all had indices other)) (ne_eqb other index apart)))
        ];
    events =
        tells_more
        ∙ (ap (λ (o : Option T). cond (is_some o) (told emits_now tells (event.Removed index)) tells) (dropped.parts index)
        ∙ (ap (λ e. cond (is_some (without_all had indices index)) (told e tells (event.Removed index)) tells) dropped.emission
        ∙ (ap (λ es. cond (is_some (without_all had indices index)) (told emits es (event.Removed index)) es) dropped.events
        ∙ sym (told-last emits had was_told indices index))));
    emission = same ∙ dropped.emission;
  }

-- the index of one entity more
pub ids-next : (entities : List LifeAt) (place : ℕ) (entity : LifeAt) (index : ℕ) → place < length entities → entity ≡ get_or entities place entity → index ≡ entity.id → ids_of (take (place + 1) entities) ≡ ids_of (take place entities) ++ index ∷ []
ids-next entities place entity index within is same =
    ap ids_of (take_more entities place entity within)
    ∙ (map-append (λ (e : LifeAt). e.id) (take place entities) (get_or entities place entity ∷ [])
    ∙ ap (λ i. ids_of (take place entities) ++ i ∷ []) (sym (same ∙ ap (λ (e : LifeAt). e.id) is)))

-- room for some removals is room for one
pub room-for-one : (room : ℕ → Type 0) → ((count : ℕ) → room (count + 1) → room count) → (count : ℕ) → room (count + 1) → room 1
room-for-one room fewer zero h = h
room-for-one room fewer (suc count) h =
    let same : suc count + 1 ≡ count + 1 + 1 = omega arith in
    room-for-one room fewer count (fewer (count + 1) (subst room same h))
