-- Runs of the systems over a world are turns of them.
use Rattle.std.proofs.Common.{◌≡◌, ◌^◌, ℕ, ℤ, pos, negsuc, ◌+ℤ◌, Bool, true, false, cond, ◌||◌, List, [], ◌∷◌, Option, Some, None, is_some, Result, Ok, Err, ◌⊎◌, inl, inr, refl, ap, sym, ◌∙◌, subst, FitsSigned}
use Rattle.std.specs.Prelude.{IsSome, option_and_then, option_map, MatchResult}
use Rattle.std.specs.Option.{option_map_or}
use Rattle.std.specs.Int.{w64}
use Rattle.std.specs.Str.{bytes_eq}
use Rattle.std.specs.String.{string_bytes}
use Rattle.std.proofs.lemmas.Bool.{false≢true, true≢false}
use Rattle.std.proofs.lemmas.Bool.Decides.{Decides-ltb}
use Rattle.std.proofs.lemmas.Slice.Eq.{bytes_eq-Decides}
use Rattle.serde_json.specs.Data.{null}
use Rattle.shred_world.specs.Bundles.{Holding, readable, out, owned, with_slot}
use Rattle.shred_world.proofs.CallerLemmas.{same_id-itself}
use Rattle.shred_stages.specs.declared.stop.Stop.{Stop}
use Rattle.shred_stages.specs.declared.stop.Stop.TheVariants as stop
use Rattle.shred_stages.specs.Views.{error_of}
use Rattle.specs_layouts.specs.Channels.{log_of, no_log}
use Rattle.specs_layouts.specs.Flagged.{tells}
use Rattle.specs_layouts.specs.Shows.{Shows, Names}
use Rattle.specs_join.specs.ChangeEach.{AreChanged, IsRefused, after as changed_to}
use Rattle.scene_model.specs.Parts.{Name, is_among}
use Rattle.scene_model.specs.Rulebook.{Access, Fragment, Outcome, leaves, refuses, fills, Command, declares}
use Rattle.scene_model.specs.Scenes.{PartsOwned, PlainScene, IsLawfullyLeft, lives, fragment}
use Rattle.scene_world.specs.Rolls.{index_of, ids_in}
use Rattle.scene_world.specs.Standing.{seen_in, column_of, column_in, events_in, emits_in, fragment_of, plain_of, IsWithin}
use Rattle.scene_world.proofs.CallerLemmas.{lives-index}
use Rattle.scene_world.specs.Turns.{Meaning, sense_of, rules_by, IsLentFit, LeavesLawfully, Ends, Runs, ShowsChanges, meaning_of}
use Rattle.scene_world.specs.Writes.{WritesOne}
use Rattle.scene_world.proofs.CallerLemmas.{written-roll, left-ids, left-others, left-globals, owned-plain}
use Rattle.scene_basics.specs.declared.data.BasicSystem.{BasicSystem}
use Rattle.scene_basics.specs.declared.data.BasicSystem.TheVariants.{Drift, Pull}
use Rattle.scene_basics.specs.declared.data.Ask.{Ask}
use Rattle.scene_basics.specs.declared.data.Gain.{Gain}
use Rattle.scene_basics.specs.declared.values.Whole.{Whole}
use Rattle.scene_basics.specs.declared.values.Value.{Value}
use Rattle.scene_basics.specs.declared.values.Value.TheVariants.{NumbersValue}
use Rattle.scene_basics.specs.Names.{pos_kind, vel_kind, g_name, part_kinds, reference_kinds}
use Rattle.scene_basics.specs.Numbers.{json_of, counting, whole_in, is_signed}
use Rattle.scene_basics.specs.RuleLaws.{is_signed-fits, whole_in-json_of}
use Rattle.scene_basics.specs.Gains.{added, number_at, global_number, sum_at, Gains, Overflows, Gaining}
use Rattle.scene_basics.specs.Asks.{Asking}
use Rattle.scene_basics.specs.Systems.{basics, kind_of, declared_access, facts_of, Makes}
use Rattle.scene_basics.specs.Values.{Numbers, owners_in, numbers_in, global_in, whole_at}
use Rattle.scene_basics.specs.Columns.{part_id, global_id, whole_stored, owner_column, number_column, basic_kinds}
use Rattle.scene_basics.specs.Apart.{basic-apart}
use Rattle.scene_basics.specs.Known.{basic_roll}
use Rattle.scene_basics.specs.Adding.{gained, numbers_of, addend, ShowsNumbers, WritesNumbers, Adds, StopsAdding}
use Rattle.scene_basics.specs.Asked.{number_seen, number_under, lent_for, StopsAsking}
use Rattle.scene_basics.proofs.GainLemmas.{Makes-admitted, Makes-living, Makes-valued, Makes-readable, Makes-lawful}
use Rattle.scene_basics.proofs.SightLemmas.{column-numbers, part-of-id, number-of-id}

-- what is meant of the program's systems
abbrev pub meant : Meaning BasicSystem
meant = meaning_of 0 kind_of (λ _. null) (λ system. (facts_of system).access) (λ _. sense_of basics) (λ system. Makes (Some system))

-- what a system sees of what is held
abbrev pub seen_by : BasicSystem → Holding Value → Fragment
seen_by system w = fragment_of basic_kinds (declared_access system) w

-- a number of 64 signed bits fits them
fits-is_signed : (z : ℤ) → is_signed z ≡ true → FitsSigned w64 z
fits-is_signed (pos n) e = record { sfits = (Decides-ltb n (2 ^ 63)).0 e }
fits-is_signed (negsuc n) e = record { sfits = (Decides-ltb n (2 ^ 63)).0 e }

-- a number and what it gains, by what became of it
record IsGained (was gain is : Option ℤ) : Type 0 where
  sums : (sum : ℤ) → added was gain ≡ Some sum → (is ≡ Some sum) × FitsSigned w64 sum
  stay : added was gain ≡ None → is ≡ was

abbrev value : Option Whole → Option ℤ
value = option_map (λ (whole : Whole). whole.0)

gained-so : (was is : Option Whole) (gain : Option ℤ) → is ≡ changed_to gained was gain → is_some is ≡ is_some was → IsGained (value was) gain (value is)
gained-so None is gain changed same = record { sums = λ sum e. cc; stay = λ e. ap value changed }
gained-so (Some was) is None changed same = record { sums = λ sum e. cc; stay = λ e. ap value changed }
gained-so (Some was) is (Some by) changed same = at (is_signed (was.0 +ℤ by)) refl changed
  where
    at : (b : Bool) → is_signed (was.0 +ℤ by) ≡ b → is ≡ option_map (λ sum. let made : Whole = record { 0 = sum } in made) (cond b (Some (was.0 +ℤ by)) None) → IsGained (Some was.0) (Some by) (value is)
    at true fits e = record {
      sums = λ sum f. let same_sum : was.0 +ℤ by ≡ sum = cc in (ap value e ∙ ap Some same_sum, subst (FitsSigned w64) same_sum (fits-is_signed (was.0 +ℤ by) fits));
      stay = λ f. cc;
    }
    at false fits e = absurd (false≢true (sym (ap is_some e) ∙ same))

-- nobody gains nothing
gained-none : (gain : Option ℤ) → IsGained None gain None
gained-none gain = record { sums = λ sum e. cc; stay = λ e. refl }

-- the parts of a fragment stand at its ids
owned-fragment : (access : Access) (scene : PlainScene) → PartsOwned scene.ids scene.part → PartsOwned scene.ids (fragment access scene).part
owned-fragment access scene stand id kind held is = by (declares access kind) is
  where
    by : (b : Bool) → cond b (scene.part id kind) None ≡ Some held → lives id scene.ids ≡ true
    by true is = stand id kind held is
    by false is = cc

-- what is left of a turn is lawful
lawfully : (system : BasicSystem) (seen left : Holding Value) (commands : List Command) → (seen_by system left).ids ≡ (seen_by system seen).ids
    → Makes (Some system) (seen_by system seen) (leaves (seen_by system left) commands) → IsLentFit basic_kinds meant system seen
    → IsLawfullyLeft (rules_by (sense_of basics)) (seen_by system seen) (seen_by system left) commands
lawfully system seen left commands ids made lent = record {
  ids = ids;
  owned = owned-fragment (declared_access system) (plain_of basic_kinds (seen_in left)) (owned-plain basic_kinds (seen_in left));
  living = Makes-living system (seen_by system seen) (seen_by system left) commands made lent.fit.living;
  admitted = Makes-admitted system (seen_by system seen) (seen_by system left) commands made lent.fit.admitted;
  valued = Makes-valued system (seen_by system seen) (seen_by system left) commands made;
  readable = Makes-readable system (seen_by system seen) (seen_by system left) commands made lent.fit.readable;
  known = Makes-lawful system (seen_by system seen) (seen_by system left) commands made lent.fit.admitted;
}

-- the events of numbers are those of their column
shown-numbers : (b : Bool) → b ≡ false → (before after : Numbers) → ShowsNumbers before after
    → Shows (λ held index. option_and_then (λ v. cond b (owner_column v index) (number_column v index)) held)
    (λ held. option_map_or (λ v. cond b (option_map_or (λ s. log_of s.inner.channel) (owners_in v) no_log) (option_map_or (λ s. log_of s.inner.channel) (numbers_in v) no_log)) held no_log)
    (λ held. option_map_or (λ v. cond b (option_map_or (λ s. tells s.inner) (owners_in v) false) (option_map_or (λ s. tells s.inner) (numbers_in v) false)) held false)
    (Some (NumbersValue before)) (Some (NumbersValue after))
shown-numbers true e before after shown = absurd (true≢false e)
shown-numbers false e before after shown = record {
  more = shown.more;
  told = shown.told;
  emission = shown.emission;
  all = λ emits index. by index (shown.all emits index);
}
  where
    by : (index : ℕ) → (whole_at after index ≡ whole_at before index) ⊎ Names shown.more index → (option_map whole_stored (whole_at after index) ≡ option_map whole_stored (whole_at before index)) ⊎ Names shown.more index
    by index (inl same) = inl (ap (option_map whole_stored) same)
    by index (inr named) = inr named

-- numbers of a kind that were taken and put back changed
module _ (kind : Name) (known : is_among kind part_kinds ≡ true) (numeric : is_among kind reference_kinds ≡ false) (before after : Numbers) (seen left : Holding Value) (writes : WritesNumbers kind before after seen left) where
  was : readable (seen (part_id kind)) ≡ Some (NumbersValue before)
  was = ap readable writes.written

  here : readable (left (part_id kind)) ≡ Some (NumbersValue after)
  here = ap (λ w. readable (w (part_id kind))) writes.others ∙ ap (λ b. readable (cond b (owned (NumbersValue after)) (seen (part_id kind)))) (same_id-itself (part_id kind))

  one : WritesOne basic_kinds kind (NumbersValue after) seen left
  one = record {
    here = here;
    others = λ id differ. ap (λ w. w id) writes.others ∙ ap (λ b. cond b (owned (NumbersValue after)) (seen id)) differ;
  }

  same-roll : basic_roll left ≡ basic_roll seen
  same-roll = written-roll basic_kinds basic-apart kind known (NumbersValue after) seen left one

  -- the number of an id, before and after
  number-was : (id : ℕ) → number_under seen kind id ≡ option_and_then (λ index. value (whole_at before index)) (index_of (basic_roll seen) id)
  number-was id = ap (λ held. option_and_then (λ index. value (numbers_of held index)) (index_of (basic_roll seen) id)) was

  number-is : (id : ℕ) → number_under left kind id ≡ option_and_then (λ index. value (whole_at after index)) (index_of (basic_roll seen) id)
  number-is id =
      ap (λ held. option_and_then (λ index. value (numbers_of held index)) (index_of (basic_roll left) id)) here
      ∙ ap (λ roll. option_and_then (λ index. value (whole_at after index)) (index_of roll id)) same-roll

  -- who lives nowhere has no number
  stranger : (id : ℕ) → lives id (ids_in (basic_roll seen)) ≡ false → number_under left kind id ≡ number_under seen kind id
  stranger id dead = number-is id ∙ by (index_of (basic_roll seen) id) (sym (lives-index (basic_roll seen) id) ∙ dead) ∙ sym (number-was id)
    where
      by : (o : Option ℕ) → is_some o ≡ false → option_and_then (λ index. value (whole_at after index)) o ≡ option_and_then (λ index. value (whole_at before index)) o
      by None e = refl
      by (Some index) e = absurd (true≢false e)

  -- no number stands where nobody lives
  within-left : ((index : ℕ) → is_some (whole_at after index) ≡ is_some (whole_at before index)) → IsWithin basic_kinds (basic_roll seen) (column_of basic_kinds (seen_in seen) kind) → IsWithin basic_kinds (basic_roll left) (column_of basic_kinds (seen_in left) kind)
  within-left same within = subst (λ r. IsWithin basic_kinds r (column_of basic_kinds (seen_in left) kind)) (sym same-roll) (λ index some. within index (there index some))
    where
      mapped : {A B : Type 0} (f : A → B) (o : Option A) → is_some (option_map f o) ≡ is_some o
      mapped f None = refl
      mapped f (Some a) = refl

      there : (index : ℕ) → IsSome (column_of basic_kinds (seen_in left) kind index) → IsSome (column_of basic_kinds (seen_in seen) kind index)
      there index some =
          ap is_some (column-numbers kind numeric seen index) ∙ mapped whole_stored (numbers_of (readable (seen (part_id kind))) index) ∙ ap (λ held. is_some (numbers_of held index)) was
          ∙ sym (same index)
          ∙ sym (ap (λ held. is_some (numbers_of held index)) here) ∙ sym (mapped whole_stored (numbers_of (readable (left (part_id kind))) index)) ∙ sym (ap is_some (column-numbers kind numeric left index)) ∙ some

  -- the events show what became of them
  shown-left : ShowsNumbers before after → ShowsChanges basic_kinds kind seen left
  shown-left shown =
      subst (λ one. Shows (column_in basic_kinds kind) (events_in basic_kinds kind) (emits_in basic_kinds kind) one (readable (left (part_id kind)))) (sym was)
      (subst (λ two. Shows (column_in basic_kinds kind) (events_in basic_kinds kind) (emits_in basic_kinds kind) (Some (NumbersValue before)) two) (sym here)
      (shown-numbers (is_among kind reference_kinds) numeric before after shown))

  module _ (gain : Gain) (add : ℕ → Option ℤ) (agree : (id index : ℕ) → index_of (basic_roll seen) id ≡ Some index → add id ≡ addend gain (with_slot seen (part_id kind) out) index)
      (access : Access) (declared : declares access kind ≡ true) where
    -- the sum of an id is that of its number
    summed : (id : ℕ) (sum : Option ℤ) → sum_at (fragment_of basic_kinds access seen) kind add id ≡ sum → added (number_under seen kind id) (add id) ≡ sum
    summed id sum is = sym (ap (λ n. added n (add id)) (number-of-id kind numeric known access declared seen id)) ∙ is

    -- each id's number gains what is added
    module _ (changed : AreChanged gained (whole_at before) (addend gain (with_slot seen (part_id kind) out)) (whole_at after)) where
      id-gains : (id : ℕ) → IsGained (number_under seen kind id) (add id) (number_under left kind id)
      id-gains id =
          subst (λ n. IsGained n (add id) (number_under left kind id)) (sym (number-was id))
          (subst (λ m. IsGained (option_and_then (λ index. value (whole_at before index)) (index_of (basic_roll seen) id)) (add id) m) (sym (number-is id)) (by (index_of (basic_roll seen) id) refl))
        where
          by : (o : Option ℕ) → index_of (basic_roll seen) id ≡ o → IsGained (option_and_then (λ index. value (whole_at before index)) o) (add id) (option_and_then (λ index. value (whole_at after index)) o)
          by None is = gained-none (add id)
          by (Some index) is =
              subst (λ g. IsGained (value (whole_at before index)) g (value (whole_at after index))) (sym (agree id index is))
              (gained-so (whole_at before index) (whole_at after index) (addend gain (with_slot seen (part_id kind) out) index) (changed.parts index) (changed.same index))

      gains : Gains kind add (fragment_of basic_kinds access seen) (fragment_of basic_kinds access left)
      gains = record {
        ids = left-ids basic_kinds basic-apart kind known (NumbersValue after) seen left one access;
        sums = λ id sum alive is. part-of-id kind numeric known access declared left id ∙ ap (option_map counting) ((id-gains id).sums sum (summed id (Some sum) is)).0;
        fit = λ id sum alive is. ((id-gains id).sums sum (summed id (Some sum) is)).1;
        stay = λ id alive is. part-of-id kind numeric known access declared left id ∙ ap (option_map counting) ((id-gains id).stay (summed id None is)) ∙ sym (part-of-id kind numeric known access declared seen id);
        strangers = λ id dead. part-of-id kind numeric known access declared left id ∙ ap (option_map counting) (stranger id dead) ∙ sym (part-of-id kind numeric known access declared seen id);
        others = λ id other differ. left-others basic_kinds basic-apart kind known (NumbersValue after) seen left one access id other differ;
        globals = left-globals basic_kinds basic-apart kind known (NumbersValue after) seen left one access;
      }

    -- a sum at the index of an id that is too much overflows
    overflows : (id index : ℕ) → index_of (basic_roll left) id ≡ Some index → IsRefused gained (whole_at before) (addend gain (with_slot seen (part_id kind) out)) index
        → Overflows kind add (fragment_of basic_kinds access seen)
    overflows id index known_left refused =
        let there : index_of (basic_roll seen) id ≡ Some index = sym (ap (λ r. index_of r id) same-roll) ∙ known_left in
        let sum : ℤ = refused.part.0 +ℤ refused.item in (
          id,
          sum,
          lives-index (basic_roll seen) id ∙ ap is_some there,
          ap (λ n. added n (add id)) (number-of-id kind numeric known access declared seen id ∙ number-was id ∙ ap (option_and_then (λ i. value (whole_at before i))) there ∙ ap value refused.has_part)
              ∙ ap (added (Some refused.part.0)) (agree id index there ∙ refused.has_item),
          λ fits. not-refused sum (is_signed-fits sum fits) refused.refused,
        )
      where
        not-refused : (sum : ℤ) → is_signed sum ≡ true → option_map (λ one. let made : Whole = record { 0 = one } in made) (cond (is_signed sum) (Some sum) None) ≡ None → ⊥
        not-refused sum fits none = let e : Some (let made : Whole = record { 0 = sum } in made) ≡ None = sym (ap (λ b. option_map (λ one. let made : Whole = record { 0 = one } in made) (cond b (Some sum) None)) fits) ∙ none in cc

-- a run of a system that adds to the numbers of a kind is a turn of it
pub adds-runs : {T : Type 0} (system : BasicSystem) (kind : Name) (gain : Gain) (add : Fragment → ℕ → Option ℤ) → is_among kind part_kinds ≡ true → is_among kind reference_kinds ≡ false
    → declares (declared_access system) kind ≡ true → ((other : Name) → is_among other (declared_access system).writes ≡ true → other ≡ kind)
    → ((old : Fragment) (o : Outcome) → Gaining kind (add old) old o → Makes (Some system) old o)
    → (seen left : Holding Value) → ((id index : ℕ) → index_of (basic_roll seen) id ≡ Some index → add (seen_by system seen) id ≡ addend gain (with_slot seen (part_id kind) out) index)
    → (result : Result T Stop) → MatchResult result (λ _. Adds kind gain seen left) (StopsAdding kind gain seen left) → (commands : List Command) → commands ≡ []
    → Runs basic_kinds meant system seen (error_of result) system left commands
adds-runs {T} system kind gain add known numeric declared only makes seen left agree result ends commands none =
    subst (λ c. Runs basic_kinds meant system seen (error_of result) system left c) (sym none)
    (record { stays = tt; same = refl; same_sense = refl; no_more = λ f o did. did; ends = λ lent. by result ends lent })
  where
    done : Adds kind gain seen left → IsLentFit basic_kinds meant system seen → LeavesLawfully basic_kinds meant system seen left []
    done adds lent =
        let gained_so : Gains kind (add (seen_by system seen)) (seen_by system seen) (seen_by system left) =
        gains kind known numeric adds.before adds.after seen left adds.writes gain (add (seen_by system seen)) agree (declared_access system) declared adds.changed in
        let made : Makes (Some system) (seen_by system seen) (leaves (seen_by system left) []) = makes (seen_by system seen) (leaves (seen_by system left) []) (gained_so, refl) in
        record {
          did = made;
          lawful = lawfully system seen left [] gained_so.ids made lent;
          within = λ other known_other writes_it. subst (λ name. IsWithin basic_kinds (basic_roll left) (column_of basic_kinds (seen_in left) name)) (sym (only other writes_it))
              (within-left kind known numeric adds.before adds.after seen left adds.writes adds.changed.same (lent.within kind known declared));
          shown = λ other known_other writes_it. subst (λ name. ShowsChanges basic_kinds name seen left) (sym (only other writes_it)) (shown-left kind known numeric adds.before adds.after seen left adds.writes adds.shown);
        }

    stopped : (why : Stop) → StopsAdding kind gain seen left why → IsLentFit basic_kinds meant system seen → Ends basic_kinds meant system seen (Some why) left []
    stopped (stop.Refused text) says lent =
        makes (seen_by system seen) (refuses (string_bytes text))
        (says.0, overflows kind known numeric says.1.before says.1.after seen left says.1.writes gain (add (seen_by system seen)) agree (declared_access system) declared says.1.id says.1.index says.1.known says.1.refused)
    stopped stop.Memory says lent = tt
    stopped stop.Full says lent = absurd says

    by : (result : Result T Stop) → MatchResult result (λ _. Adds kind gain seen left) (StopsAdding kind gain seen left) → IsLentFit basic_kinds meant system seen → Ends basic_kinds meant system seen (error_of result) left []
    by (Ok t) adds lent = done adds lent
    by (Err why) says lent = stopped why says lent

-- a run of a system that asks is a turn of it
pub asks-runs : {T : Type 0} (system : BasicSystem) (ask : Ask) → ((other : Name) → is_among other (declared_access system).writes ≡ true → ⊥) → (seen : Holding Value)
    → ((o : Outcome) → Asking ask (lent_for ask seen) o → Makes (Some system) (seen_by system seen) o) → lent_for ask seen ≡ seen_by system seen
    → (result : Result T Stop) (commands : List Command) → MatchResult result (λ _. Asking ask (lent_for ask seen) (leaves (lent_for ask seen) commands)) (StopsAsking ask (lent_for ask seen) commands)
    → Runs basic_kinds meant system seen (error_of result) system seen commands
asks-runs {T} system ask nothing seen makes same result commands ends = record { stays = tt; same = refl; same_sense = refl; no_more = λ f o did. did; ends = λ lent. by result ends lent }
  where
    done : Asking ask (lent_for ask seen) (leaves (lent_for ask seen) commands) → IsLentFit basic_kinds meant system seen → LeavesLawfully basic_kinds meant system seen seen commands
    done asks lent =
        let made : Makes (Some system) (seen_by system seen) (leaves (seen_by system seen) commands) =
        subst (λ (left : Fragment). Makes (Some system) (seen_by system seen) (leaves left commands)) same (makes (leaves (lent_for ask seen) commands) asks) in
        record {
          did = made;
          lawful = lawfully system seen seen commands refl made lent;
          within = λ other known_other writes_it. absurd (nothing other writes_it);
          shown = λ other known_other writes_it. absurd (nothing other writes_it);
        }

    stopped : (why : Stop) → StopsAsking ask (lent_for ask seen) commands why → Ends basic_kinds meant system seen (Some why) seen commands
    stopped (stop.Refused text) says = absurd says
    stopped stop.Memory says = tt
    stopped stop.Full says = (makes (fills commands) says.0, says.1)

    by : (result : Result T Stop) → MatchResult result (λ _. Asking ask (lent_for ask seen) (leaves (lent_for ask seen) commands)) (StopsAsking ask (lent_for ask seen) commands) → IsLentFit basic_kinds meant system seen
        → Ends basic_kinds meant system seen (error_of result) seen commands
    by (Ok t) asks lent = done asks lent
    by (Err why) says lent = stopped why says

-- a name among one name is that
pub only-one : (one name : Name) → is_among name (one ∷ []) ≡ true → name ≡ one
only-one one name among = (bytes_eq-Decides name one).0 (alone (bytes_eq name one) among)
  where
    alone : (b : Bool) → (b || false) ≡ true → b ≡ true
    alone true e = refl
    alone false e = e

-- the number of the global is the one that is seen
pub global-number : (seen : Holding Value) → global_number (seen_by Pull seen) g_name ≡ option_and_then global_in (readable (seen global_id))
global-number seen = by (readable (seen global_id))
  where
    at : (o : Option ℤ) → option_and_then whole_in (option_map json_of o) ≡ o
    at None = refl
    at (Some z) = whole_in-json_of z

    by : (held : Option Value) → option_and_then whole_in (option_and_then (λ v. option_map json_of (global_in v)) held) ≡ option_and_then global_in held
    by None = refl
    by (Some v) = at (global_in v)

-- the number beside a number is that of the same id
pub number-beside : (seen : Holding Value) (id index : ℕ) → index_of (basic_roll seen) id ≡ Some index → number_at (seen_by Drift seen) vel_kind id ≡ number_seen (with_slot seen (part_id pos_kind) out) vel_kind index
number-beside seen id index is = number-of-id vel_kind refl refl (declared_access Drift) refl seen id ∙ ap (option_and_then (number_seen seen vel_kind)) is
