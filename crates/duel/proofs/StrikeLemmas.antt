-- A run of `strike` is a turn of it.
use Rattle.std.proofs.Common.{◌≡◌, inl, inr, ◌-◌, ℕ, List, [], Option, Some, None, Result, Ok, Err, refl, ap, sym, ◌∙◌, subst}
use Rattle.std.specs.Prelude.{MatchResult, option_and_then, option_map}
use Rattle.std.specs.List.{filter_map}
use Rattle.shred_world.specs.Bundles.{Holding}
use Rattle.shred_stages.specs.declared.stop.Stop.{Stop}
use Rattle.shred_stages.specs.declared.stop.Stop.TheVariants as stop
use Rattle.shred_stages.specs.Views.{error_of}
use Rattle.specs_entity.specs.Life.{LifeAt}
use Rattle.scene_model.specs.Parts.{Part}
use Rattle.scene_model.specs.Rulebook.{Command}
use Rattle.scene_world.specs.Columns.{ids_having}
use Rattle.scene_world.specs.Counting.{AreCounts}
use Rattle.scene_world.specs.Numbers.{counted, counting, number_in, number_of, reference_of, taken_at}
use Rattle.scene_world.specs.Rolls.{index_of, ids_in}
use Rattle.scene_world.specs.Standing.{column_of, seen_in}
use Rattle.scene_world.specs.Stored.{Stored}
use Rattle.scene_world.specs.Turns.{IsLentFit, Ends, Runs}
use Rattle.scene_world.proofs.CallerLemmas.{given-having, plain-counts, TakesAlike, same-taken, count-seen, TurnLeaves, turn-leaves}
use Rattle.duel.specs.declared.documents.DuelSystem.TheVariants.{Strike}
use Rattle.duel.specs.declared.values.Value.{Value}
use Rattle.duel.specs.Names.{hp_kind, attack_kind, target_kind, turn_name, part_of}
use Rattle.duel.specs.Documents.{meant}
use Rattle.duel.specs.Rules.{blow_of, Struck}
use Rattle.duel.specs.Values.{columns, kinds, kinds-apart, places, turn_in}
use Rattle.duel.specs.Sights.{roll_seen, hp_at, attack_at, target_at}
use Rattle.duel.specs.Striking.{blow_at, blow_seen, blows_seen, StrikesDone, StopsStriking}
use Rattle.duel.proofs.SightLemmas.{seen_by, hp-numbers, hp-seen, attack-seen, no-target, target-seen}

-- a blow is seen of those alone who have an attack
pub seeing-blows : (w : Holding Value) → filter_map (blow_seen w) (ids_having (roll_seen w) (column_of kinds (seen_in w) attack_kind)) ≡ blows_seen w
seeing-blows w = given-having (roll_seen w) (column_of kinds (seen_in w) attack_kind) (λ id. blow_at w)
    (λ id index none. ap (λ (o : Option Stored). option_and_then (λ attack. option_map (λ (target : LifeAt). (target.id, attack)) (target_at w index)) (option_and_then (λ stored. number_in (stored.written [])) o)) none)

-- turns are counted in numbers
turns-counted : AreCounts columns turn_name
turns-counted v = plain-counts (turn_in v)

module _ (seen left : Holding Value) (done : StrikesDone seen left) (lent : IsLentFit kinds meant Strike seen) where
  abbrev less : ℕ → ℕ → ℕ
  less index hp = hp - taken_at index (blows_seen seen)

  after : TurnLeaves places part_of columns kinds-apart meant Strike turn_name refl refl turns-counted (λ n. refl) hp_kind less seen left
  after = turn-leaves places part_of columns kinds-apart meant Strike turn_name refl refl turns-counted (λ n. refl) hp_kind refl refl less seen left done (hp-numbers left)

  -- a blow falls on an id where it falls on its index
  blows-alike : (by : ℕ) → TakesAlike (roll_seen seen) (blow_seen seen by) (blow_of (seen_by Strike seen) by)
  blows-alike by = subst (λ o. TakesAlike (roll_seen seen) (blow_seen seen by) (aimed o)) (sym (attack-seen seen Strike refl by)) (at (index_of (roll_seen seen) by) refl)
    where
      aimed : Option ℕ → Option (ℕ × ℕ)
      aimed o = option_and_then (λ attack. option_map (λ target. (target, attack)) (reference_of (seen_by Strike seen) target_kind by)) o

      struck : (place attack : ℕ) → index_of (roll_seen seen) by ≡ Some place → (o : Option LifeAt) → target_at seen place ≡ o
          → TakesAlike (roll_seen seen) (option_map (λ (target : LifeAt). (target.id, attack)) o) (aimed (Some attack))
      struck place attack there None none = inl (refl, ap (option_map (λ target. (target, attack))) (no-target seen Strike refl by (ap (option_and_then (target_at seen)) there ∙ none)))
      struck place attack there (Some entity) held =
          let target = target-seen seen Strike refl lent by place entity there held in
          inr (entity, target.0, attack, refl, ap (option_map (λ target. (target, attack))) target.1)

      armed : (place : ℕ) → index_of (roll_seen seen) by ≡ Some place → (o : Option ℕ)
          → TakesAlike (roll_seen seen) (option_and_then (λ attack. option_map (λ (target : LifeAt). (target.id, attack)) (target_at seen place)) o) (aimed o)
      armed place there None = inl (refl, refl)
      armed place there (Some attack) = struck place attack there (target_at seen place) refl

      at : (o : Option ℕ) → index_of (roll_seen seen) by ≡ o → TakesAlike (roll_seen seen) (option_and_then (blow_at seen) o) (aimed (option_and_then (attack_at seen) o))
      at None none = inl (refl, refl)
      at (Some place) there = armed place there (attack_at seen place)

  -- each hp is less by what all blows take
  abbrev less_of : ℕ → Option ℕ → Option Part
  less_of id o = option_map (λ hp. counting (hp - taken_at id (filter_map (blow_of (seen_by Strike seen)) (seen_by Strike seen).ids))) o

  hps-left : (id : ℕ) → (seen_by Strike left).part id hp_kind ≡ less_of id (number_of (seen_by Strike seen) hp_kind id)
  hps-left id = after.numbers id ∙ by (index_of (roll_seen seen) id) refl ∙ sym (ap (less_of id) (hp-seen seen Strike refl id))
    where
      same_less : (index : ℕ) (o : Option ℕ) → taken_at index (blows_seen seen) ≡ taken_at id (filter_map (blow_of (seen_by Strike seen)) (seen_by Strike seen).ids)
          → option_map (λ n. counting (less index n)) o ≡ less_of id o
      same_less index None same = refl
      same_less index (Some hp) same = ap (λ n. Some (counting (hp - n))) same

      by : (o : Option ℕ) → index_of (roll_seen seen) id ≡ o → option_and_then (λ index. option_map (λ n. counting (less index n)) (hp_at seen index)) o ≡ less_of id (option_and_then (hp_at seen) o)
      by None is = refl
      by (Some index) is = same_less index (hp_at seen index) (same-taken (roll_seen seen) (blow_seen seen) (blow_of (seen_by Strike seen)) blows-alike id index is (ids_in (roll_seen seen)))

  struck : Struck (seen_by Strike seen) (seen_by Strike left)
  struck = record { ids = ap ids_in after.roll; hps = hps-left; others = after.others; turn = after.one_more; globals = after.globals }

strike-ends : {T : Type 0} (seen left : Holding Value) (result : Result T Stop) → MatchResult result (λ done. StrikesDone seen left) (StopsStriking seen) → IsLentFit kinds meant Strike seen
    → Ends kinds meant Strike seen (error_of result) left []
strike-ends seen left (Ok done) so lent = (after seen left so lent).lawful refl (λ n. refl) lent (struck seen left so lent, refl)
strike-ends seen left (Err (stop.Refused text)) so lent = (so.0, count-seen places part_of columns kinds-apart meant Strike turn_name refl refl turns-counted (λ n. refl) seen ∙ so.1)
strike-ends seen left (Err stop.Memory) so lent = tt
strike-ends seen left (Err stop.Full) so lent = absurd so

pub strike-runs : {T : Type 0} (seen left : Holding Value) (result : Result T Stop) (commands : List Command) → commands ≡ []
    → MatchResult result (λ done. StrikesDone seen left) (StopsStriking seen) → Runs kinds meant Strike seen (error_of result) Strike left commands
strike-runs seen left result commands none so = subst (Runs kinds meant Strike seen (error_of result) Strike left) (sym none)
    (record { stays = tt; same = refl; same_sense = refl; no_more = λ f o did. did; ends = strike-ends seen left result so })
