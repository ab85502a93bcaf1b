-- What a system made of a bundle of one resource is what it made of all that is held.
use Rattle.std.proofs.Common.{◌≡◌, true, List, [], ◌∷◌, Option, None, Some, Result, Ok, Err, OnOk, is_ok, refl, ◌∙◌}
use Rattle.std.specs.Option.{MatchOption}
use Rattle.std.proofs.lemmas.Bool.{true≢false}
use Rattle.shred.specs.Bundling.{BundleMeets}
use Rattle.shred.proofs.CallerLemmas.{accepted-changes}
use Rattle.shred_stages.specs.Runs.{Step}
use Rattle.shred_stages.specs.Views.{cut, error_of}
use Rattle.shred_stages.specs.declared.stop.Stop.{Stop}
use Rattle.shred_stages.proofs.CallerLemmas.{lent-owned, step-lifted}
use Rattle.shred_world.specs.declared.resource_id.ResourceId.{ResourceId}
use Rattle.shred_world.specs.Bundles.{Holding, is_listed, out, owned, with_slot}
use Rattle.shred_world.proofs.BundleLemmas.{with_slot-with_slot}
use Rattle.shred_world.specs.Worlds.{Slots}
use Rattle.specs_entity.specs.declared.errors.Error.{Error}
use Rattle.specs.specs.Turning.{Turns}

-- what an accepted call made, where its refusal alone was told otherwise
pub accepted : {E P : Type 0} (told : Result Unit E) (result : Result Unit Stop) → is_ok result ≡ is_ok told → error_of result ≡ None → OnOk told P → P
accepted (Ok done) result same none made = made
accepted (Err error) (Ok done) same none made = absurd (true≢false same)
accepted (Err error) (Err stop) same none made = cc

module _ {V C B R : Type 0} {id : ResourceId} {wrapped : R → V} (part : B → R) {fits : B → Holding V → Type 0} (owns : (bundle : B) (w : Holding V) → fits bundle w → w id ≡ owned (wrapped (part bundle)))
    {becomes : C → B → Holding V → Option Stop → C → B → Type 0} {lack : Holding V → Option ResourceId} where
  -- what a system that wasn't refused made of what was out, beside what else was held
  pub turned : (does : R → Holding V → R → Type 0)
      → ((seen : Holding V) (bundle changed : B) (change left : C) → becomes change bundle (with_slot seen id out) None left changed → does (part bundle) seen (part changed))
      → (change left : C) (seen after : Holding V) → BundleMeets lack (λ w. with_slot w id out) fits (λ bundle w. with_slot w id (owned (wrapped (part bundle)))) becomes change seen None left after
      → Turns id wrapped does seen after
  turned does sees change left seen after runs =
      let changes = accepted-changes (λ w. with_slot w id out) fits (λ bundle w. with_slot w id (owned (wrapped (part bundle)))) becomes lack change left seen after runs in
      record {
        was = part changes.bundle;
        now = part changes.changed;
        stood = owns changes.bundle seen changes.fits_seen;
        becoming = sees seen changes.bundle changes.changed change left changes.becoming;
        others = changes.given_back ∙ with_slot-with_slot seen id out (owned (wrapped (part changes.changed)));
      }

-- what was made of what was lent was made of all that is held
pub turn-lifted : {V C R : Type 0} {does all_does : R → Holding V → R → Type 0} {id : ResourceId} {wrapped : R → V} (reads : List ResourceId) (alone : C → Holding V → Option Stop → C → Holding V → Type 0)
    (change left : C) (w w_after : Holding V) → is_listed (id ∷ []) id ≡ true → ((was now : R) → does was (cut reads (id ∷ []) w) now → all_does was w now)
    → (step : Step alone reads (id ∷ []) change w None left w_after) → Turns id wrapped does (cut reads (id ∷ []) w) step.after → Turns id wrapped all_does w w_after
turn-lifted {id = id} {wrapped = wrapped} reads alone change left w w_after written sees step t = record {
  was = t.was;
  now = t.now;
  stood = lent-owned reads (id ∷ []) w id written (wrapped t.was) t.stood;
  becoming = sees t.was t.now t.becoming;
  others = step-lifted alone reads (id ∷ []) change left w w_after None step ((id, wrapped t.now) ∷ []) t.others;
}

-- the last of some steps is taken, or refused
pub last-turn : {V : Type 0} (refused : Option Error) (after : Slots V) → MatchOption refused ((refused ≡ None) × (after ≡ after)) (λ error. (refused ≡ Some error) × (after ≡ after))
last-turn None after = (refl, refl)
last-turn (Some error) after = (refl, refl)
