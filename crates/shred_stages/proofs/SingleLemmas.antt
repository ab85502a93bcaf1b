-- A group of one system, run over the view of the group itself: what the system declares is what the group does.
use Rattle.std.proofs.Common.{◌≡◌, ℕ, Bool, true, false, List, [], ◌∷◌, refl, ap, sym, ◌∙◌, subst, Option, Some, None}
use Rattle.std.specs.Prelude.{if◌then◌else◌}
use Rattle.std.specs.Option.{MatchOption, option_map}
use Rattle.std.proofs.Math.Path.{fun_ext}
use Rattle.shred_world.specs.declared.resource_id.ResourceId.{ResourceId}
use Rattle.shred_world.specs.Worlds.{Slots, value_at}
use Rattle.shred_world.specs.Bundles.{Slot, absent, out, shared, owned, Holding, readable, takable, is_listed}
use Rattle.shred_plan.specs.Plan.{Placing}
use Rattle.shred_stages.specs.declared.stop.Stop.{Stop}
use Rattle.shred_stages.specs.Views.{shared_of, reading, owned_of, cut, view_slots, IsLeft, Leaves, merged}
use Rattle.shred_stages.specs.Runs.{RunsInView, Step}
use Rattle.shred_stages.specs.Apart.{PlacesRun}
use Rattle.shred_stages.specs.Packs.{PlacesInView}

module _ {V : Type 0} where
  taken-again : (value : Option V) → owned_of (takable (owned_of value)) ≡ owned_of value
  taken-again None = refl
  taken-again (Some v) = refl

  read-again : (listed : Bool) (value : Option V)
      → (if listed then shared_of (readable (if listed then shared_of value else absent)) else absent) ≡ (if listed then shared_of value else absent)
  read-again true None = refl
  read-again true (Some v) = refl
  read-again false value = refl

  -- the slots of a view, cut to its own ids, are its slots
  pub view-uncut : (reads writes : List ResourceId) (w : Holding V) (seat : Slots V) → cut reads writes (view_slots reads writes w seat) ≡ view_slots reads writes w seat
  view-uncut reads writes w seat = fun_ext (λ id. by id (is_listed writes id) (value_at seat id))
    where
      by : (id : ResourceId) (listed : Bool) (value : Option V)
          → (if listed then owned_of (takable (if listed then owned_of value else reading reads w id))
          else (if is_listed reads id then shared_of (readable (if listed then owned_of value else reading reads w id)) else absent))
          ≡ (if listed then owned_of value else reading reads w id)
      by id true value = taken-again value
      by id false value = read-again (is_listed reads id) (readable (w id))

  -- what was left comes back as it was left
  comes-itself : (before after : Slot V) → IsLeft before after → after ≡ merged after before
  comes-itself absent after left = left ∙ sym (ap (λ slot. merged slot absent) left)
  comes-itself out after left = left ∙ sym (ap (λ slot. merged slot out) left)
  comes-itself (shared v) after left = left ∙ sym (ap (λ slot. merged slot (shared v)) left)
  comes-itself (owned v) after left = left.1 ∙ sym (ap (λ slot. merged slot (owned v)) left.1)

module _ {V S : Type 0} (meets : S → Holding V → Option Stop → S → Holding V → Type 0) where
  -- a system that ran over the view of its group of one ran as the group does
  pub single-runs : (one : Placing ResourceId) (reads writes : List ResourceId) (w : Holding V) (seat : Slots V) (system : S) (stop : Option Stop) (left : S) (seat_after : Slots V)
      → reads ≡ one.reads → writes ≡ one.writes
      → RunsInView meets system (view_slots reads writes w seat) stop left seat_after
      → PlacesInView meets (one ∷ []) (system ∷ []) (view_slots reads writes w seat) (option_map (λ why. (one.number, why)) stop) (left ∷ []) seat_after
  single-runs one reads writes w seat system stop left seat_after is_reads is_writes ran = record {
    reads_after = ran.reads_after;
    writes_after = ran.writes_after;
    world_after = ran.world_after;
    fits = ran.fits;
    runs = (left, [], after, stop, step, refl, ends stop);
  }
    where
      seen : Holding V
      seen = view_slots reads writes w seat

      after : Holding V
      after = view_slots ran.reads_after ran.writes_after ran.world_after seat_after

      uncut : cut one.reads one.writes seen ≡ seen
      uncut = subst (λ list. cut list one.writes seen ≡ seen) is_reads (subst (λ list. cut reads list seen ≡ seen) is_writes (view-uncut reads writes w seat))

      step : Step meets one.reads one.writes system seen stop left after
      step = record {
        after = after;
        runs = subst (λ held. meets system held stop left after) (sym uncut) ran.runs;
        leaves = subst (λ held. Leaves held after) (sym uncut) ran.leaves;
        comes_back = λ id. comes-itself (seen id) (after id) (ran.leaves id);
      }

      told : Stop → ℕ × Stop
      told why = (one.number, why)

      none : List S
      none = []

      ends : (s : Option Stop) → MatchOption s (PlacesRun meets [] none after (option_map told s) none after) (λ why. (option_map told s ≡ Some (told why)) × (none ≡ none) × (after ≡ after))
      ends None = (refl, refl, refl)
      ends (Some why) = (refl, refl, refl)
