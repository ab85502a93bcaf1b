-- A turn of a system over a world in which a scene stands is a turn over the scene.
use Rattle.std.proofs.Common.{◌≡◌, Bool, true, false, ◌||◌, List, [], Option, Some, None, cond, refl, ap, sym, ◌∙◌, subst}
use Rattle.std.proofs.Math.Bool.{or-true}
use Rattle.std.specs.Prelude.{IsSome, option_and_then}
use Rattle.std.specs.Option.{option_map_or}
use Rattle.std.specs.String.{string_bytes}
use Rattle.shred_world.specs.declared.resource_id.ResourceId.{ResourceId}
use Rattle.shred_world.specs.Bundles.{Holding, is_listed}
use Rattle.shred_stages.specs.declared.stop.Stop.{Stop}
use Rattle.shred_stages.specs.declared.stop.Stop.TheVariants as stop
use Rattle.shred_stages.specs.Views.{cut}
use Rattle.shred_stages.specs.Runs.{Step}
use Rattle.scene_model.specs.Parts.{Name, is_among}
use Rattle.scene_model.specs.Rulebook.{Access, declares, Fragment, Outcome, leaves, refuses, fills, Book, Command}
use Rattle.scene_model.specs.Scenes.{PlainScene, PartsOwned, IsProper, IsLawfullyLeft, RefsLive, fragment, with_left, lives, Steps, StepRefuses, StepFills}
use Rattle.scene_model.proofs.CallerLemmas.{admitted-fragment, living-fragment, readable-fragment, admitted-left, living-left, readable-left}
use Rattle.scene_world.specs.Rolls.{Roll, ids_in, part_in, IsRoll}
use Rattle.scene_world.specs.Standing.{Sight, seen_in, IsWhole, Kinds, roll_of, column_in, column_of, plain_of, commands_of, IsWithin, IsSceneWorld, events_in, emits_in}
use Rattle.scene_world.specs.Lent.{IsLent}
use Rattle.specs_layouts.specs.Shows.{Shows}
use Rattle.specs_layouts.proofs.CallerLemmas.{shows-refl}
use Rattle.scene_world.specs.Turns.{ShowsChanges, sense_of, rules_by, IsFit, IsLentFit, Meaning, IsOfBook, sees, LeavesLawfully, TakesTurn}
use Rattle.scene_world.proofs.RollLemmas.{part-lives}
use Rattle.scene_world.proofs.StandingLemmas.{same-roll, cut-shows, within-alike, lent-alike, back-written, back-whole, lent-fragment, left-scene, after-roll, back-roll, same-sight}

-- in a scene that is seen each part stands at a living id
pub owned-plain : {V : Type 0} (kinds : Kinds V) (w : Sight V) → PartsOwned (plain_of kinds w).ids (plain_of kinds w).part
owned-plain kinds w id kind held is = by (is_among kind kinds.part_names) is
  where
    by : (b : Bool) → cond b (part_in (roll_of kinds w) (column_of kinds w kind) id) None ≡ Some held → lives id (ids_in (roll_of kinds w)) ≡ true
    by true is = part-lives (roll_of kinds w) (column_of kinds w kind) id held is
    by false is = cc

pub owned-fragment : (access : Access) (scene : PlainScene) → PartsOwned scene.ids scene.part → PartsOwned scene.ids (fragment access scene).part
owned-fragment access scene owned id kind held is = by (declares access kind) is
  where
    by : (b : Bool) → cond b (scene.part id kind) None ≡ Some held → lives id scene.ids ≡ true
    by true is = owned id kind held is
    by false is = cc

-- the fragment of a proper scene is fit
fit-fragment : (book : Book) (access : Access) (scene : PlainScene) → IsProper book scene → IsFit (sense_of book) (fragment access scene)
fit-fragment book access scene proper = record {
  ascend = proper.ids.ascend;
  owned = owned-fragment access scene proper.owned;
  admitted = admitted-fragment book access scene proper.admitted;
  living = living-fragment access scene proper.living;
  readable = readable-fragment book access scene proper.readable;
}

module _ {V S : Type 0} (kinds : Kinds V) (meaning : Meaning S) (book : Book) where
  -- what is known after a turn
  pub record Stepped (system left : S) (w w2 : Holding V) : Type 0 where
    pub whole : IsWhole w2
    pub world : IsSceneWorld kinds book (seen_in w2)
    pub commands : List Command
    pub steps : Steps book (meaning.plain system) (plain_of kinds (seen_in w)) (plain_of kinds (seen_in w2)) commands
    pub queued : commands_of kinds (seen_in w2) (meaning.plain system).position ≡ commands
    pub same : meaning.plain left ≡ meaning.plain system
    pub shown : (kind : Name) → is_among kind kinds.part_names ≡ true → ShowsChanges kinds kind w w2
    pub markers : seen_in w2 kinds.markers_id ≡ seen_in w kinds.markers_id
    pub rolls : roll_of kinds (seen_in w2) ≡ roll_of kinds (seen_in w)
    pub ours : IsOfBook meaning book left

  -- and of one that was refused
  abbrev pub Stopped : S → Holding V → Stop → Type 0
  Stopped system w (stop.Refused text) = StepRefuses book (meaning.plain system) (plain_of kinds (seen_in w)) (string_bytes text)
  Stopped system w stop.Memory = Unit {0}
  Stopped system w stop.Full = (commands : List Command) × StepFills book (meaning.plain system) (plain_of kinds (seen_in w)) commands

  module _ (system : S) (reads writes : List ResourceId) (lent : IsLent kinds (meaning.plain system).access (meaning.plain system).position reads writes) (ours : IsOfBook meaning book system)
      (w : Holding V) (whole : IsWhole w) (world : IsSceneWorld kinds book (seen_in w)) where
    lent-sees : sees kinds meaning system (cut reads writes w) ≡ fragment (meaning.plain system).access (plain_of kinds (seen_in w))
    lent-sees = lent-fragment kinds (meaning.plain system).access (meaning.plain system).position reads writes lent w whole

    fit-seen : IsFit (meaning.sense system) (sees kinds meaning system (cut reads writes w))
    fit-seen = subst (λ f. IsFit (meaning.sense system) f) (sym lent-sees)
        (subst (λ s. IsFit s (fragment (meaning.plain system).access (plain_of kinds (seen_in w)))) (sym ours.sense_so) (fit-fragment book (meaning.plain system).access (plain_of kinds (seen_in w)) world.proper))

    fit-lent : IsLentFit kinds meaning system (cut reads writes w)
    fit-lent = record {
      fit = fit-seen;
      roll = let alike = lent-alike kinds (meaning.plain system).access (meaning.plain system).position reads writes lent w whole in
          subst (λ r. IsRoll r) (sym (same-roll kinds (seen_in (cut reads writes w)) (seen_in w) alike.entities alike.markers alike.allocator)) world.roll;
      within = λ kind known declared. within-alike kinds (meaning.plain system).access (seen_in (cut reads writes w)) (seen_in w)
          (lent-alike kinds (meaning.plain system).access (meaning.plain system).position reads writes lent w whole) kind known declared (world.within kind known);
    }

    meets-there : (o : Outcome) → meaning.does system (sees kinds meaning system (cut reads writes w)) o → book.meets (meaning.plain system).kind (meaning.plain system).config (fragment (meaning.plain system).access (plain_of kinds (seen_in w))) o
    meets-there o did = ours.does_so _ o (subst (λ f. meaning.does system f o) lent-sees did)

    -- what is lawful by what a system knows of its rules is so by the rules
    lawful-there : (seen left : Fragment) (commands : List Command) → IsLawfullyLeft (rules_by (meaning.sense system)) seen left commands → seen ≡ fragment (meaning.plain system).access (plain_of kinds (seen_in w))
        → IsLawfullyLeft book (fragment (meaning.plain system).access (plain_of kinds (seen_in w))) left commands
    lawful-there seen left commands lawful same = by (subst (λ s. IsLawfullyLeft (rules_by s) (fragment (meaning.plain system).access (plain_of kinds (seen_in w))) left commands) ours.sense_so (subst (λ f. IsLawfullyLeft (rules_by (meaning.sense system)) f left commands) same lawful))
      where
        by : IsLawfullyLeft (rules_by (sense_of book)) (fragment (meaning.plain system).access (plain_of kinds (seen_in w))) left commands → IsLawfullyLeft book (fragment (meaning.plain system).access (plain_of kinds (seen_in w))) left commands
        by is = record { ids = is.ids; owned = is.owned; living = is.living; admitted = is.admitted; valued = is.valued; readable = is.readable; known = is.known }

    ours-left : (left : S) → meaning.is_system left → meaning.plain left ≡ meaning.plain system → meaning.sense left ≡ meaning.sense system → ((f : Fragment) (o : Outcome) → meaning.does left f o → meaning.does system f o) → IsOfBook meaning book left
    ours-left left is same same_sense no_more = record {
      is = is;
      sense_so = same_sense ∙ ours.sense_so;
      does_so = λ f o did. subst (λ p. book.meets p.kind p.config f o) (sym same) (ours.does_so f o (no_more f o did));
    }

    pub step-lemma : (left : S) (w2 : Holding V) → Step (TakesTurn kinds meaning) reads writes system w None left w2 → Stepped system left w w2
    step-lemma left w2 step = record {
      whole = back-whole reads writes w whole step.after w2 step.leaves step.comes_back;
      world = record {
        entities = subst (λ v. IsSome (option_and_then kinds.births v)) (sym (unwritten kinds.entities_id lent.same_entities)) world.entities;
        markers = subst (λ v. IsSome v) (sym (unwritten kinds.markers_id lent.same_markers)) world.markers;
        allocator = subst (λ v. IsSome (option_and_then kinds.noting v)) (sym (unwritten kinds.allocator_id lent.same_allocator)) world.allocator;
        roll = subst (λ r. IsRoll r) (sym rolls) world.roll;
        within = λ kind known. within-by kind known (is_among kind (meaning.plain system).access.writes) refl;
        proper = subst (λ s. IsProper book s) (sym after) (record {
          ids = world.proper.ids;
          owned = subst (λ s. PartsOwned s.ids s.part) after (owned-plain kinds (seen_in w2));
          admitted = admitted-left book (meaning.plain system).access seen_after (plain_of kinds (seen_in w)) world.proper.admitted lawful.admitted;
          living = living-left (meaning.plain system).access seen_after (plain_of kinds (seen_in w)) world.proper.living
              (subst (λ r. RefsOf r) rolls-after lawful.living);
          readable = readable-left book (meaning.plain system).access seen_after (plain_of kinds (seen_in w)) world.proper.readable lawful.readable;
        });
      };
      commands = commands_of kinds (seen_in step.after) (meaning.plain system).position;
      steps = (seen_after, meets-there (leaves seen_after (commands_of kinds (seen_in step.after) (meaning.plain system).position)) ends.did, lawful, after);
      queued = ap (λ q. option_map_or kinds.queued q []) (back-written reads writes w whole step.after w2 step.leaves step.comes_back _ lent.queue);
      same = step.runs.same;
      shown = λ kind known. shown-by kind known (is_among kind (meaning.plain system).access.writes) refl;
      markers = unwritten kinds.markers_id lent.same_markers;
      rolls = rolls;
      ours = ours-left left step.runs.stays step.runs.same step.runs.same_sense step.runs.no_more;
    }
      where
        seen_after : Fragment
        seen_after = sees kinds meaning system step.after

        RefsOf : Roll → Type 0
        RefsOf roll = RefsLive (ids_in roll) seen_after.part

        ends : LeavesLawfully kinds meaning system (cut reads writes w) step.after (commands_of kinds (seen_in step.after) (meaning.plain system).position)
        ends = step.runs.ends fit-lent

        lawful : IsLawfullyLeft book (fragment (meaning.plain system).access (plain_of kinds (seen_in w))) seen_after (commands_of kinds (seen_in step.after) (meaning.plain system).position)
        lawful = lawful-there _ seen_after _ ends.lawful lent-sees

        after : plain_of kinds (seen_in w2) ≡ with_left (meaning.plain system).access seen_after (plain_of kinds (seen_in w))
        after = left-scene kinds (meaning.plain system).access (meaning.plain system).position reads writes lent w whole step.after w2 step.leaves step.comes_back

        rolls : roll_of kinds (seen_in w2) ≡ roll_of kinds (seen_in w)
        rolls = back-roll kinds (meaning.plain system).access (meaning.plain system).position reads writes lent w whole step.after w2 step.leaves step.comes_back

        rolls-after : roll_of kinds (seen_in step.after) ≡ roll_of kinds (seen_in w)
        rolls-after = after-roll kinds (meaning.plain system).access (meaning.plain system).position reads writes lent w whole step.after w2 step.leaves step.comes_back

        unwritten : (id : ResourceId) → is_listed writes id ≡ false → seen_in w2 id ≡ seen_in w id
        unwritten id is = same-sight kinds (meaning.plain system).access (meaning.plain system).position reads writes lent w whole step.after w2 step.leaves step.comes_back id is

        move : (one other : Roll) (kind : Name) (held there : Option V) → one ≡ other → held ≡ there → IsWithin kinds other (column_in kinds kind there) → IsWithin kinds one (column_in kinds kind held)
        move one other kind held there roll same is = subst (λ r. IsWithin kinds r (column_in kinds kind held)) (sym roll) (subst (λ h. IsWithin kinds other (column_in kinds kind h)) (sym same) is)

        within-by : (kind : Name) → is_among kind kinds.part_names ≡ true → (b : Bool) → is_among kind (meaning.plain system).access.writes ≡ b → IsWithin kinds (roll_of kinds (seen_in w2)) (column_of kinds (seen_in w2) kind)
        within-by kind known true is = move _ _ kind _ _ (rolls ∙ sym rolls-after) (back-written reads writes w whole step.after w2 step.leaves step.comes_back (kinds.part_id kind) (lent.writes_parts kind known ∙ is)) (ends.within kind known is)
        within-by kind known false is = move _ _ kind _ _ rolls (unwritten (kinds.part_id kind) (lent.writes_parts kind known ∙ is)) (world.within kind known)

        shown-by : (kind : Name) → is_among kind kinds.part_names ≡ true → (b : Bool) → is_among kind (meaning.plain system).access.writes ≡ b → ShowsChanges kinds kind w w2
        shown-by kind known true is =
            subst (λ one. Shows (column_in kinds kind) (events_in kinds kind) (emits_in kinds kind) one (seen_in w2 (kinds.part_id kind))) (cut-shows reads writes w whole (kinds.part_id kind) (ap (λ b. is_listed reads (kinds.part_id kind) || b) (lent.writes_parts kind known ∙ is) ∙ or-true (is_listed reads (kinds.part_id kind))))
            (subst (λ other. Shows (column_in kinds kind) (events_in kinds kind) (emits_in kinds kind) (seen_in (cut reads writes w) (kinds.part_id kind)) other) (sym (back-written reads writes w whole step.after w2 step.leaves step.comes_back (kinds.part_id kind) (lent.writes_parts kind known ∙ is)))
            (ends.shown kind known is))
        shown-by kind known false is =
            subst (λ other. Shows (column_in kinds kind) (events_in kinds kind) (emits_in kinds kind) (seen_in w (kinds.part_id kind)) other) (sym (unwritten (kinds.part_id kind) (lent.writes_parts kind known ∙ is)))
            (shows-refl (column_in kinds kind) (events_in kinds kind) (emits_in kinds kind) (seen_in w (kinds.part_id kind)))

    pub stop-lemma : (why : Stop) (left : S) (w2 : Holding V) → Step (TakesTurn kinds meaning) reads writes system w (Some why) left w2 → Stopped system w why
    stop-lemma (stop.Refused text) left w2 step = meets-there (refuses (string_bytes text)) (step.runs.ends fit-lent)
    stop-lemma stop.Memory left w2 step = tt
    stop-lemma stop.Full left w2 step = let full = step.runs.ends fit-lent in (_, (meets-there (fills (commands_of kinds (seen_in step.after) (meaning.plain system).position)) full.0, full.1))
