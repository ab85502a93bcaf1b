-- Changes of which nothing is told.
use Rattle.std.proofs.Common.{◌≡◌, ◌⊎◌, inl, inr, ℕ, Bool, false, not, eqb, ◌&&◌, List, [], ◌∷◌, length, refl, sym, ap, ◌∙◌}
use Rattle.std.proofs.lemmas.Bool.{false≢true}
use Rattle.specs_layouts.specs.Channels.{Channel, Log, log_of, with_more}
use Rattle.specs_layouts.specs.Flagged.{Flagged, tells}
use Rattle.specs_layouts.specs.Shows.{Names}
use Rattle.specs_layouts.specs.declared.track.ComponentEvent.{ComponentEvent}
use Rattle.specs_layouts.proofs.CallerLemmas.{shows-refl}
use Rattle.specs_join.specs.ChangeEach.{told_each}
use Rattle.scene_world.specs.declared.any_store.AnyStore.{AnyStore}
use Rattle.scene_world.specs.Stores.{store_part}
use Rattle.scene_world.specs.StoreChanges.{ShowsParts}

none-told : (events : Log ComponentEvent) (indices : List ℕ) → told_each false events indices ≡ events
none-told events [] = refl
none-told events (index ∷ indices) = none-told events indices

-- where nothing is told, the events are those that were there
pub untold : (emits : Bool) (events : Log ComponentEvent) (indices : List ℕ) → emits ≡ false → told_each emits events indices ≡ events
untold emits events indices off = ap (λ b. told_each b events indices) off ∙ none-told events indices

-- and whatever became of the parts, they show it
pub untold-shows : {T : Type 0} (before after : Flagged (AnyStore T)) → tells before ≡ false → after.channel ≡ before.channel → after.emission ≡ before.emission → ShowsParts before after
untold-shows {T} before after off channel emission =
    let same = shows-refl (λ (s : Flagged (AnyStore T)). store_part s.inner) (λ s. log_of s.channel) tells before in
    record {
      more = same.more;
      told = ap log_of channel ∙ same.told;
      emission = λ i. tells {S = AnyStore T} (record { inner = before.inner; channel = channel i; emission = emission i });
      all = λ on. absurd (false≢true (sym off ∙ on));
    }

-- what a channel is told of parts that lie apart from it is what the storage of both shows
pub told-shows : {T : Type 0} (before after : Flagged (AnyStore T)) (parts parts' : AnyStore T) (channel channel' : Channel ComponentEvent)
    → parts ≡ before.inner → channel ≡ before.channel → after.inner ≡ parts' → after.channel ≡ channel' → after.emission ≡ before.emission
    → (more : List ComponentEvent) × (log_of channel' ≡ with_more (log_of channel) more) × ((index : ℕ) → (store_part parts' index ≡ store_part parts index) ⊎ Names more index) → ShowsParts before after
told-shows {T = T} before after parts parts' channel channel' apart beside put back emission shown =
    let told : log_of after.channel ≡ with_more (log_of before.channel) shown.0 = ap log_of back ∙ (shown.1 ∙ ap (λ c. with_more (log_of c) shown.0) beside) in
    record {
      more = shown.0;
      told = told;
      emission = λ j. emission j && not (eqb (length ((told j).places)) 0);
      all = λ on index. elim (shown.2 index) [
        | inl same ↦ inl (ap (λ s. store_part s index) put ∙ (same ∙ ap (λ s. store_part s index) apart))
        | inr named ↦ inr named
      ];
    }
