-- What a system that is made of its bundle comes to over a world.
use Rattle.std.proofs.Common.{◌≡◌, Bool, true, false, [], ◌∷◌, refl, ap, ◌∙◌, Option, None, Result, Ok, Err}
use Rattle.std.specs.Prelude.{if◌then◌else◌, IfOk, OnOk}
use Rattle.std.proofs.Math.Path.{fun_ext}
use Rattle.shred_world.specs.declared.resource_id.ResourceId.{ResourceId}
use Rattle.shred_world.specs.ResourceIds.{same_id}
use Rattle.shred_world.specs.Bundles.{Holding, out, owned, with_slot}
use Rattle.shred_stages.specs.declared.stop.Stop.{Stop}
use Rattle.shred_stages.specs.Views.{error_of}
use Rattle.shred_stages.specs.Changes.{with_values}
use Rattle.shred_stages.specs.Runs.{Step}
use Rattle.shred_stages.proofs.CallerLemmas.{step-lifted}
use Rattle.shred_tests.specs.declared.values.Value.{Value}
use Rattle.shred_tests.specs.declared.values.Value.TheVariants.{NumberValue}
use Rattle.shred_tests.specs.declared.values.Number.{Number}
use Rattle.shred_tests.specs.Chores.{number_id, speed_id, Moves}
use Rattle.shred.specs.Bundling.{BundleMeets}
use Rattle.shred.proofs.CallerLemmas.{accepted-changes}
use Rattle.shred_tests.specs.Bundled.{Advances}
use Rattle.shred_tests.proofs.ThreeLemmas.{moves-held}

-- a value that is put where another was taken out
put-again : (seen : Holding Value) (id : ResourceId) (v : Value) → with_slot (with_slot seen id out) id (owned v) ≡ with_values ((id, v) ∷ []) seen
put-again seen id v = fun_ext (λ q. by q (same_id q id))
  where
    by : (q : ResourceId) (s : Bool) → (if s then owned v else (if s then out else seen q)) ≡ (if s then owned v else seen q)
    by q true = refl
    by q false = refl

abbrev takes : Holding Value → Holding Value
takes w = with_slot w number_id out

module _ {B : Type 0} (number_of : B → Number) (Reads : B → Holding Value → Type 0) where
  abbrev Fits : B → Holding Value → Type 0
  Fits bundle w = Reads bundle w × (w number_id ≡ owned (NumberValue (number_of bundle)))

  abbrev gives : B → Holding Value → Holding Value
  gives bundle w = with_slot w number_id (owned (NumberValue (number_of bundle)))

  abbrev becomes : {C : Type 0} → C → B → Holding Value → Option Stop → C → B → Type 0
  becomes change bundle held refused change_after changed = (refused ≡ None) × Advances (number_of bundle) held (number_of changed)

  -- a bundle of the number that was fetched, advanced and given back
  pub advance-moves : {C : Type 0} (lack : Holding Value → Option ResourceId) (change change_after : C) (seen after : Holding Value) → BundleMeets lack takes Fits gives becomes change seen None change_after after → Moves seen after
  advance-moves lack change change_after seen after meets =
      let changes = accepted-changes takes Fits gives becomes lack change change_after seen after meets in
      let advances = changes.becoming.1 in
      record {
        number = number_of changes.bundle;
        speed = advances.speed;
        was = changes.fits_seen.1;
        read = advances.read;
        leaves = changes.given_back ∙ (put-again seen number_id (NumberValue (number_of changes.changed))
            ∙ ap (λ count. with_values ((number_id, NumberValue (record { 0 = count })) ∷ []) seen) advances.gains);
      }

-- what a system alone did to what it was lent, told of the world
module _ {S : Type 0} (meets : S → Holding Value → Option Stop → S → Holding Value → Type 0) (system left : S) (does : (seen after : Holding Value) → meets system seen None left after → Moves seen after) (w w_after : Holding Value) where
  alone-moves : (outcome : Result Unit Stop) → Step meets (speed_id ∷ []) (number_id ∷ []) system w (error_of outcome) left w_after → OnOk outcome (Moves w w_after)
  alone-moves (Err stop) step = tt
  alone-moves (Ok a) step = moves-held w w_after step.after (does _ step.after step.runs) (step-lifted meets (speed_id ∷ []) (number_id ∷ []) system left w w_after None step)

  pub moves-unless-refused : {E : Type 0} (result : Result (Result Unit Stop) E) → IfOk result (λ outcome. Step meets (speed_id ∷ []) (number_id ∷ []) system w (error_of outcome) left w_after) → IfOk result (λ outcome. OnOk outcome (Moves w w_after))
  moves-unless-refused (Err error) step = tt
  moves-unless-refused (Ok outcome) step = alone-moves outcome step
