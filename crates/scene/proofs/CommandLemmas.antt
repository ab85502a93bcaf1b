-- Commands of a frame that are carried out in a world, or refused there.
use Rattle.std.proofs.Common.{◌≡◌, ◌+◌, ◌≤◌, ◌||◌, inl, inr, ℕ, Bool, true, false, cond, eqb, List, [], ◌∷◌, ◌++◌, length, Some, None, Result, Ok, Err, OnOk, refl, ap, sym, ◌∙◌, subst, append_assoc, All}
use Rattle.std.specs.List.{flat_map}
use Rattle.std.proofs.lemmas.Bool.{false≢true, eqb-true}
use Rattle.std.proofs.lemmas.Option.{none-some}
use Rattle.std.proofs.lemmas.List.Elements.{All-nil, All-head, All-tail, All-append}
use Rattle.std.proofs.lemmas.List.{append-nil}
use Rattle.shred_world.specs.Worlds.{Slots}
use Rattle.scene_model.specs.declared.refusals.FrameRefusal.{FrameRefusal}
use Rattle.scene_model.specs.declared.refusals.FrameRefusal.TheVariants.{System, GoneReference, IdsSpent, IndicesSpent, GenerationsSpent, TooManyCommands, Memory, Threads}
use Rattle.scene_model.specs.declared.refusals.Skip.{Skip}
use Rattle.scene_model.specs.Rulebook.{Book, owning_kinds, Command, spawn, kill, put, take}
use Rattle.scene_model.specs.Parts.{Name, is_among}
use Rattle.scene_model.specs.Scenes.{PlainScene, PlainFrame, PartsStand, lives}
use Rattle.scene_model.specs.Lawful.{IsLawful}
use Rattle.specs_entity.specs.Births.{Births, IndicesAreSpent, GenerationsAreSpent}
use Rattle.scene_model.specs.Commands.{apply, changed, played, spent, play, skips_of, ComesToSpawn, CommandsAccepted}
use Rattle.scene_model.specs.Leads.{CommandsLead, RunsTo}
use Rattle.scene_model.specs.Frames.{Queues, SystemsRun, Refuses, all_commands}
use Rattle.scene_model.proofs.CallerLemmas.{behind_all-played, joined-to, finds_no_id, refused-join, IsBetween, apply-between, play-keeps}
use Rattle.scene_model.specs.Bounds.{FrameLimit}
use Rattle.scene_world.specs.Rolls.{Roll, IsRoll, ids_in, part_in}
use Rattle.scene_world.specs.Standing.{Kinds, roll_of, column_of, owning_in, plain_of, commands_of}
use Rattle.scene_world.specs.Lent.{StandApart}
use Rattle.scene_commands.specs.Acts.{seen_of, GoesOn}
use Rattle.scene_commands.specs.Bounds.{GrowsByIds, IsBounded}
use Rattle.scene_commands.proofs.CallerLemmas.{goes-both, bounded-on, all-live, all-born}
use Rattle.scene_dispatch.specs.Frames.{WantsThread}
use Rattle.scene_commands.specs.Lists.{RefusesAct, RefusesActs}
use Rattle.scene.specs.Waiting.{NoneWaits, NoneWaitsAt, StaysApart}
use Rattle.scene.proofs.WorldLemmas.{waits-apart}
use Rattle.scene.specs.Refusals.{GoneIn, RefusesAll, SpawnFindsNone, CommandsRefusedIn, RefusedIn}

-- commands that lead to a scene, and none after them, play on to it
pub lead-played : (owning : List Name) (place : ℕ) (commands : List Command) (scene after : PlainScene) (places : List ℕ) → CommandsLead owning place commands scene after places → play owning place commands scene ≡ played after places
lead-played owning place commands scene after places lead =
    ap (λ some. play owning place some scene) (sym (append-nil commands)) ∙ lead [] ∙ behind_all-played places [] after ∙ ap (played after) (append-nil places)

module _ {V : Type 0} (kinds : Kinds V) where
  -- commands that are refused behind others that were done are refused among all
  pub acts-behind : (frame place next : ℕ) (one other : List Command) (w between : Slots V) (first second : List Skip) (cause : FrameRefusal) → next ≡ place + length one
      → RunsTo (owning_in kinds) frame place one (plain_of kinds (seen_of w)) (plain_of kinds (seen_of between)) first second → GoesOn kinds w between → RefusesActs kinds next other between cause → RefusesActs kinds place (one ++ other) w cause
  acts-behind frame place next one other w between first second cause at ran goes refuses = record {
    before = one ++ refuses.before;
    command = refuses.command;
    after = refuses.after;
    between = refuses.between;
    places = joined.0;
    are = ap (λ some. one ++ some) refuses.are ∙ sym (append_assoc one refuses.before (refuses.command ∷ refuses.after));
    lead = joined.1;
    refuses = refuses.refuses;
    may = refuses.may;
    goes_on = goes-both kinds w between refuses.between goes refuses.goes_on;
  }
    where
      joined : RunsTo (owning_in kinds) frame place (one ++ refuses.before) (plain_of kinds (seen_of w)) (plain_of kinds (seen_of refuses.between)) first (second ++ skips_of frame refuses.places)
      joined = joined-to (owning_in kinds) frame place next one refuses.before (plain_of kinds (seen_of w)) (plain_of kinds (seen_of between)) (plain_of kinds (seen_of refuses.between)) first second (second ++ skips_of frame refuses.places) at ran (refuses.places, refuses.lead, refl)

  -- and those that are refused before others are too
  pub acts-before : (place : ℕ) (one other : List Command) (w : Slots V) (cause : FrameRefusal) → RefusesActs kinds place one w cause → RefusesActs kinds place (one ++ other) w cause
  acts-before place one other w cause refuses = record {
    before = refuses.before;
    command = refuses.command;
    after = refuses.after ++ other;
    between = refuses.between;
    places = refuses.places;
    are = ap (λ some. some ++ other) refuses.are ∙ append_assoc refuses.before (refuses.command ∷ refuses.after) other;
    lead = refuses.lead;
    refuses = refuses.refuses;
    may = refuses.may;
    goes_on = refuses.goes_on;
  }

  module _ (book : Book) (owns : owning_in kinds ≡ owning_kinds book) (limit : ℕ) (commands : List Command) (w : Slots V) (within : length commands ≤ limit) where
    -- one command is refused
    one-refused : (cause : FrameRefusal) → RefusesActs kinds 1 commands w cause → CommandsRefusedIn kinds book limit (roll_of kinds (seen_of w)) commands (plain_of kinds (seen_of w)) cause
    one-refused cause refuses = by refuses.command cause refuses.are refuses.refuses
      where
        wants : (some : FrameRefusal) → some ≡ Memory → CommandsRefusedIn kinds book limit (roll_of kinds (seen_of w)) commands (plain_of kinds (seen_of w)) some
        wants some is = subst (CommandsRefusedIn kinds book limit (roll_of kinds (seen_of w)) commands (plain_of kinds (seen_of w))) (sym is) tt

        by : (command : Command) (some : FrameRefusal) → commands ≡ refuses.before ++ command ∷ refuses.after → RefusesAct kinds command refuses.between some → CommandsRefusedIn kinds book limit (roll_of kinds (seen_of w)) commands (plain_of kinds (seen_of w)) some
        by (kill id) some are why = wants some why
        by (put id kind part) some are why = wants some why
        by (take id kind) some are why = wants some why
        by (spawn parts) (System position text) are why = why
        by (spawn parts) (GoneReference id) are why = absurd why
        by (spawn parts) IdsSpent are why = (within, subst (λ owning. play owning 1 commands (plain_of kinds (seen_of w)) ≡ spent) owns (ap (λ some. play (owning_in kinds) 1 some (plain_of kinds (seen_of w))) are ∙ out))
          where
            -- the spawn and all behind it find no id
            out : play (owning_in kinds) 1 (refuses.before ++ spawn parts ∷ refuses.after) (plain_of kinds (seen_of w)) ≡ spent
            out = ap (λ some. play (owning_in kinds) 1 some (plain_of kinds (seen_of w))) (sym (append_assoc refuses.before (spawn parts ∷ []) refuses.after))
                ∙ refused-join (owning_in kinds) 0 1 (1 + length refuses.before) refuses.before (spawn parts ∷ []) (plain_of kinds (seen_of w)) (plain_of kinds (seen_of refuses.between)) [] (skips_of 0 refuses.places) IdsSpent refl
                (refuses.places, refuses.lead, refl) (finds_no_id (owning_in kinds) (1 + length refuses.before) (spawn parts) (plain_of kinds (seen_of refuses.between)) why) refuses.after
        by (spawn parts) IndicesSpent are why = record { within = within; before = refuses.before; parts = parts; after = refuses.after; are = are; between = refuses.between; places = refuses.places; lead = refuses.lead; at_limit = why.0; to_be_done = why.1; roll = refuses.may.roll; grows = refuses.goes_on.grows }
        by (spawn parts) GenerationsSpent are why = record { within = within; before = refuses.before; parts = parts; after = refuses.after; are = are; between = refuses.between; places = refuses.places; lead = refuses.lead; at_limit = why.0; to_be_done = why.1; roll = refuses.may.roll; grows = refuses.goes_on.grows }
        by (spawn parts) TooManyCommands are why = absurd why
        by (spawn parts) Memory are why = why
        by (spawn parts) Threads are why = why

    -- all are done, and a reference is gone
    then-gone : (after : PlainScene) (places : List ℕ) → CommandsLead (owning_in kinds) 1 commands (plain_of kinds (seen_of w)) after places → (cause : FrameRefusal) → GoneIn book after cause → CommandsRefusedIn kinds book limit (roll_of kinds (seen_of w)) commands (plain_of kinds (seen_of w)) cause
    then-gone after places lead (System position text) why = why
    then-gone after places lead (GoneReference id) why = (after, places, within, subst (λ owning. play owning 1 commands (plain_of kinds (seen_of w)) ≡ played after places) owns (lead-played (owning_in kinds) 1 commands (plain_of kinds (seen_of w)) after places lead), why)
    then-gone after places lead IdsSpent why = absurd why
    then-gone after places lead IndicesSpent why = absurd why
    then-gone after places lead GenerationsSpent why = absurd why
    then-gone after places lead TooManyCommands why = absurd why
    then-gone after places lead Memory why = why
    then-gone after places lead Threads why = why

    -- either is a refusal of the commands
    pub all-refused : (cause : FrameRefusal) → RefusesAll kinds book commands w cause → CommandsRefusedIn kinds book limit (roll_of kinds (seen_of w)) commands (plain_of kinds (seen_of w)) cause
    all-refused cause (inl refuses) = one-refused cause refuses
    all-refused cause (inr (after, places, lead, why)) = then-gone after places lead cause why

  -- a frame is refused where its systems run and its commands are refused
  module _ (book : Book) (limit : ℕ) (start : Roll) (frame : PlainFrame) (scene mid : PlainScene) (queues : Queues) (ran : SystemsRun book frame.order scene mid queues) where
    pub then-refused : (cause : FrameRefusal) → CommandsRefusedIn kinds book limit start (all_commands frame queues) mid cause → RefusedIn kinds book limit start frame scene cause
    then-refused (System position text) why = absurd why
    then-refused (GoneReference id) why = (mid, queues, ran, why)
    then-refused IdsSpent why = (mid, queues, ran, why)
    then-refused IndicesSpent why = record { mid = mid; queues = queues; systems = ran; none = why }
    then-refused GenerationsSpent why = record { mid = mid; queues = queues; systems = ran; none = why }
    then-refused TooManyCommands why = inr (mid, queues, ran, why)
    then-refused Memory why = tt
    then-refused Threads why = tt

-- accepted commands that the rules know leave parts that are admitted or have lost a reference
pub accepted-between : (book : Book) (limit : ℕ) (commands : List Command) (scene after : PlainScene) (places : List ℕ) → All (IsLawful book) commands → IsBetween book scene → CommandsAccepted book limit commands scene after places → IsBetween book after
accepted-between book limit commands scene after places lawful between accepted =
    (play-keeps (owning_kinds book) (λ one other. Unit {0}) (λ s. tt) (λ one two three first second. tt) (IsLawful book) (IsBetween book) (λ command s t one is made. (tt, apply-between (owning_kinds book) book command s t one is made)) 1 commands scene after places lawful between accepted.played_on).1

-- what holds in both cases holds of a result, by two things that do
pub on_ok_two : {T E A B C : Type 0} (r : Result T E) → (A → B → C) → OnOk r A → OnOk r B → OnOk r C
on_ok_two (Ok x) f a b = f a b
on_ok_two (Err y) f a b = tt

-- what holds of what a function gives of each holds of all that it gives
pub all-flat : {X Y : Type 0} (P : Y → Type 0) (f : X → List Y) (xs : List X) → All (λ x. All P (f x)) xs → All P (flat_map f xs)
all-flat P f [] all = All-nil P
all-flat P f (x ∷ xs) all = All-append P (f x) (flat_map f xs) (All-head (λ one. All P (f one)) x xs all) (all-flat P f xs (All-tail (λ one. All P (f one)) x xs all))

-- what holds of each of some places holds of one of them
pub all-lives : (P : ℕ → Type 0) (places : List ℕ) (place : ℕ) → All P places → lives place places ≡ true → P place
all-lives P [] place all there = absurd (false≢true there)
all-lives P (first ∷ places) place all there = by (eqb first place) refl there (all-lives P places place (All-tail P first places all))
  where
    by : (b : Bool) → eqb first place ≡ b → (b || lives place places) ≡ true → (lives place places ≡ true → P place) → P place
    by true is found later = subst P (eqb-true first place is) (All-head P first places all)
    by false is found later = later found

-- the parts of a scene that is seen in a world stand under kinds of the rules
pub seen-stand : {V : Type 0} (kinds : Kinds V) (names : List Name) (w : Slots V) → kinds.part_names ≡ names → PartsStand names (plain_of kinds (seen_of w)).part
seen-stand kinds names w same id kind held found = by (is_among kind kinds.part_names) refl found
  where
    by : (b : Bool) → is_among kind kinds.part_names ≡ b → cond b (part_in (roll_of kinds (seen_of w)) (column_of kinds (seen_of w) kind) id) None ≡ Some held → is_among kind names ≡ true
    by true is found = ap (is_among kind) (sym same) ∙ is
    by false is found = absurd (none-some held found)

-- no command waits, where none waits at some places, and at others none did
pub none-left : {V : Type 0} (kinds : Kinds V) (apart : StandApart kinds) (places : List ℕ) (w later : Slots V) → NoneWaitsAt kinds places (seen_of later) → StaysApart kinds places w later
    → ((place : ℕ) → lives place places ≡ false → commands_of kinds (seen_of w) place ≡ []) → NoneWaits kinds (seen_of later)
none-left kinds apart places w later empty stays others place = by (lives place places) refl
  where
    by : (b : Bool) → lives place places ≡ b → commands_of kinds (seen_of later) place ≡ []
    by true there = all-lives (λ one. commands_of kinds (seen_of later) one ≡ []) places place empty there
    by false none = waits-apart kinds apart places w later place stays none ∙ others place none

-- a spawn that finds none is one that is to be done, where what holds of who lives there holds of the scene
comes-to-spawn : {V : Type 0} (kinds : Kinds V) (owning : List Name) → owning_in kinds ≡ owning → (limit : ℕ) (start : Roll) (commands : List Command) (scene : PlainScene) (at_end : Births → Type 0) (Holds : PlainScene → Type 0)
    → ((between : Slots V) → IsRoll (roll_of kinds (seen_of between)) → GrowsByIds start (roll_of kinds (seen_of between)) → at_end (roll_of kinds (seen_of between)).births → Holds (plain_of kinds (seen_of between)))
    → SpawnFindsNone kinds limit start commands scene at_end → (length commands ≤ limit) × ComesToSpawn owning commands scene Holds
comes-to-spawn kinds owning owns limit start commands scene at_end Holds says none = (
  none.within,
  record {
    before = none.before;
    parts = none.parts;
    after = none.after;
    are = none.are;
    mid = plain_of kinds (seen_of none.between);
    places = none.places;
    played_on = subst (λ some. play some 1 none.before scene ≡ played (plain_of kinds (seen_of none.between)) none.places) owns (lead-played (owning_in kinds) 1 none.before scene (plain_of kinds (seen_of none.between)) none.places none.lead);
    made = none.to_be_done.after;
    to_be_done = subst (λ some. apply some (spawn none.parts) (plain_of kinds (seen_of none.between)) ≡ changed none.to_be_done.after) owns none.to_be_done.is;
    holds = says none.between none.roll none.grows none.at_limit;
  },
)

-- what refuses a frame in a world refuses it for the scene, where the entities were under a limit
pub refused-plain : {V : Type 0} (kinds : Kinds V) (book : Book) → owning_in kinds ≡ owning_kinds book → (limit : FrameLimit) (start : Roll) (frame : PlainFrame) (scene : PlainScene) (cause : FrameRefusal)
    → IsBounded limit.indices limit.generation limit.unlisted start → (WantsThread cause → 2 ≤ limit.workers) → RefusedIn kinds book limit.commands start frame scene cause → Refuses book limit frame scene cause
refused-plain kinds book owns limit start frame scene (System position text) under wants why = why
refused-plain kinds book owns limit start frame scene (GoneReference id) under wants why = why
refused-plain kinds book owns limit start frame scene IdsSpent under wants why = why
refused-plain kinds book owns limit start frame scene IndicesSpent under wants why = (
  why.mid,
  why.queues,
  why.systems,
  comes-to-spawn kinds (owning_kinds book) owns limit.commands start (all_commands frame why.queues) why.mid IndicesAreSpent (λ mid. limit.indices ≤ length mid.ids)
      (λ between roll grows spent.
      let on = bounded-on limit.indices limit.generation limit.unlisted start (roll_of kinds (seen_of between)) under grows in
      subst (λ n. n ≤ length (ids_in (roll_of kinds (seen_of between)))) on.indices (all-live (roll_of kinds (seen_of between)) roll on.in_use spent))
      why.none,
)
refused-plain kinds book owns limit start frame scene GenerationsSpent under wants why = (
  why.mid,
  why.queues,
  why.systems,
  comes-to-spawn kinds (owning_kinds book) owns limit.commands start (all_commands frame why.queues) why.mid GenerationsAreSpent (λ mid. limit.generation + limit.unlisted ≤ mid.next)
      (λ between roll grows spent.
      let on = bounded-on limit.indices limit.generation limit.unlisted start (roll_of kinds (seen_of between)) under grows in
      all-born limit.indices limit.generation limit.unlisted (roll_of kinds (seen_of between)) on spent)
      why.none,
)
refused-plain kinds book owns limit start frame scene TooManyCommands under wants why = why
refused-plain kinds book owns limit start frame scene Memory under wants why = tt
refused-plain kinds book owns limit start frame scene Threads under wants why = wants tt
