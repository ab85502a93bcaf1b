-- A run of `bury` is a turn of it.
use Rattle.std.proofs.Common.{◌≡◌, ◌++◌, ◌==◌, ℕ, Bool, true, false, cond, List, [], Option, Some, None, Result, refl, ap, sym, ◌∙◌, subst, All}
use Rattle.std.specs.Prelude.{MatchResult, option_and_then}
use Rattle.std.specs.List.{filter_map}
use Rattle.std.specs.Option.{option_map_or}
use Rattle.std.proofs.lemmas.List.Elements.{All-append}
use Rattle.shred_world.specs.Bundles.{Holding}
use Rattle.shred_stages.specs.declared.stop.Stop.{Stop}
use Rattle.shred_stages.specs.declared.stop.Stop.TheVariants as stop
use Rattle.shred_stages.specs.Views.{error_of}
use Rattle.specs_entity.specs.Life.{LifeAt}
use Rattle.scene_model.specs.Rulebook.{Fragment, Command, kill, take}
use Rattle.scene_model.specs.Lawful.{IsLawful}
use Rattle.scene_world.specs.Stored.{Stored}
use Rattle.scene_world.specs.Asking.{StopsAsking}
use Rattle.scene_world.specs.Columns.{ids_having}
use Rattle.scene_world.specs.Numbers.{number_in, first_named, reference_of}
use Rattle.scene_world.specs.Rolls.{index_of, ids_in}
use Rattle.scene_world.specs.Standing.{column_of, seen_in}
use Rattle.scene_world.specs.Turns.{sense_of, rules_by, IsLentFit, Runs}
use Rattle.scene_world.proofs.CallerLemmas.{given-having, given-same, all-given, asking-ends}
use Rattle.duel.specs.declared.data.Ask.TheVariants.{Deaths, Losses}
use Rattle.duel.specs.declared.documents.DuelSystem.TheVariants.{Bury}
use Rattle.duel.specs.declared.values.Value.{Value}
use Rattle.duel.specs.Names.{hp_kind, target_kind}
use Rattle.duel.specs.Documents.{meaning, meant}
use Rattle.duel.specs.Rules.{is_down, death_of, loss_of, burials}
use Rattle.duel.specs.Values.{kinds}
use Rattle.duel.specs.Sights.{roll_seen, hp_at, target_at}
use Rattle.duel.specs.Burying.{down_at, asked_at, asked_seen, all_asked}
use Rattle.duel.proofs.SightLemmas.{seen_by, hp-seen, no-target, target-seen}

-- ---- who is asked for

module _ (w : Holding Value) where
  -- deaths are asked for those alone who have an hp, and losses for those who have a target
  pub asking-deaths : filter_map (asked_seen Deaths w) (ids_having (roll_seen w) (column_of kinds (seen_in w) hp_kind)) ≡ filter_map (asked_seen Deaths w) (ids_in (roll_seen w))
  asking-deaths = given-having (roll_seen w) (column_of kinds (seen_in w) hp_kind) (asked_at Deaths w)
      (λ id index none. ap (λ (o : Option Stored). cond (option_map_or (λ hp. hp == 0) (option_and_then (λ stored. number_in (stored.written [])) o) false) (Some (kill id)) None) none)

  pub asking-losses : filter_map (asked_seen Losses w) (ids_having (roll_seen w) (column_of kinds (seen_in w) target_kind)) ≡ filter_map (asked_seen Losses w) (ids_in (roll_seen w))
  asking-losses = given-having (roll_seen w) (column_of kinds (seen_in w) target_kind) (asked_at Losses w)
      (λ id index none. ap (λ (o : Option Stored). cond (down_at w index) None (cond (option_map_or (λ (target : LifeAt). down_at w target.id) (option_and_then (λ stored. first_named stored.named) o) false) (Some (take id target_kind)) None)) none
      ∙ either (down_at w index))
    where
      neither : Bool → Option Command
      neither b = cond b None None

      either : (b : Bool) → neither b ≡ None
      either true = refl
      either false = refl

-- ---- what is asked for is what the rules say

module _ (w : Holding Value) (lent : IsLentFit kinds meant Bury w) where
  abbrev seen : Fragment
  seen = seen_by Bury w

  down-seen : (id : ℕ) → is_down seen id ≡ option_map_or (down_at w) (index_of (roll_seen w) id) false
  down-seen id = ap (λ o. option_map_or (λ hp. hp == 0) o false) (hp-seen w Bury refl id) ∙ by (index_of (roll_seen w) id)
    where
      by : (o : Option ℕ) → option_map_or (λ hp. hp == 0) (option_and_then (hp_at w) o) false ≡ option_map_or (down_at w) o false
      by None = refl
      by (Some index) = refl

  death-seen : (id : ℕ) → asked_seen Deaths w id ≡ death_of seen id
  death-seen id = by (index_of (roll_seen w) id) ∙ sym (ap (λ b. cond b (Some (kill id)) None) (down-seen id))
    where
      by : (o : Option ℕ) → option_and_then (asked_at Deaths w id) o ≡ cond (option_map_or (down_at w) o false) (Some (kill id)) None
      by None = refl
      by (Some index) = refl

  abbrev loss_if : ℕ → Bool → Bool → Option Command
  loss_if id down of_target = cond down None (cond of_target (Some (take id target_kind)) None)

  loss-seen : (id : ℕ) → asked_seen Losses w id ≡ loss_of seen id
  loss-seen id = by (index_of (roll_seen w) id) refl ∙ sym (ap (λ b. loss_if id b (option_map_or (is_down seen) (reference_of seen target_kind id) false)) (down-seen id))
    where
      of_target : (index : ℕ) → index_of (roll_seen w) id ≡ Some index → (o : Option LifeAt) → target_at w index ≡ o
          → option_map_or (λ (target : LifeAt). down_at w target.id) o false ≡ option_map_or (is_down seen) (reference_of seen target_kind id) false
      of_target index at None none = sym (ap (λ o. option_map_or (is_down seen) o false) (no-target w Bury refl id (ap (option_and_then (target_at w)) at ∙ none)))
      of_target index at (Some entity) held =
          let target = target-seen w Bury refl lent id index entity at held in
          sym (ap (λ o. option_map_or (is_down seen) o false) target.1 ∙ down-seen target.0.id ∙ ap (λ o. option_map_or (down_at w) o false) target.0.there)

      by : (o : Option ℕ) → index_of (roll_seen w) id ≡ o
          → option_and_then (asked_at Losses w id) o ≡ loss_if id (option_map_or (down_at w) o false) (option_map_or (is_down seen) (reference_of seen target_kind id) false)
      by None at = sym (ap (λ o. loss_if id false (option_map_or (is_down seen) o false)) (no-target w Bury refl id (ap (option_and_then (target_at w)) at)))
      by (Some index) at = ap (loss_if id (down_at w index)) (of_target index at (target_at w index) refl)

  all-burials : all_asked w ≡ burials seen
  all-burials =
      ap (λ front. front ++ filter_map (asked_seen Losses w) (ids_in (roll_seen w))) (given-same (asked_seen Deaths w) (death_of seen) death-seen (ids_in (roll_seen w)))
      ∙ ap (λ back. filter_map (death_of seen) (ids_in (roll_seen w)) ++ back) (given-same (asked_seen Losses w) (loss_of seen) loss-seen (ids_in (roll_seen w)))

  -- and lawful
  abbrev Lawful : Command → Type 0
  Lawful = IsLawful (rules_by (sense_of meaning))

  burials-lawful : All Lawful (burials seen)
  burials-lawful = All-append Lawful (filter_map (death_of seen) seen.ids) (filter_map (loss_of seen) seen.ids)
      (all-given (death_of seen) Lawful (λ id one e. death id one (is_down seen id) e) seen.ids)
      (all-given (loss_of seen) Lawful (λ id one e. loss id one (is_down seen id) (option_map_or (is_down seen) (reference_of seen target_kind id) false) e) seen.ids)
    where
      death : (id : ℕ) (one : Command) (b : Bool) → cond b (Some (kill id)) None ≡ Some one → Lawful one
      death id one true e = let same : kill id ≡ one = cc in subst (IsLawful (rules_by (sense_of meaning))) same tt
      death id one false e = cc

      loss : (id : ℕ) (one : Command) (a b : Bool) → cond a None (cond b (Some (take id target_kind)) None) ≡ Some one → Lawful one
      loss id one true b e = cc
      loss id one false true e = let same : take id target_kind ≡ one = cc in subst (IsLawful (rules_by (sense_of meaning))) same refl
      loss id one false false e = cc

pub bury-runs : {T : Type 0} (w : Holding Value) (commands : List Command) (result : Result T Stop) → MatchResult result (λ _. commands ≡ all_asked w) (StopsAsking (all_asked w) commands)
    → Runs kinds meant Bury w (error_of result) Bury w commands
bury-runs w commands result so = record {
  stays = tt;
  same = refl;
  same_sense = refl;
  no_more = λ f o did. did;
  ends = λ lent. asking-ends kinds meant Bury w lent refl (burials (seen_by Bury w)) (burials-lawful w lent) (refl, refl) (λ commands more. more) commands result
      (subst (λ all. MatchResult result (λ _. commands ≡ all) (StopsAsking all commands)) (all-burials w lent) so);
}
