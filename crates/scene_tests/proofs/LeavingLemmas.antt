-- Runs of `leave` over what it is lent of a world are turns of it.
use Rattle.std.proofs.Common.{◌≡◌, ◌<◌, ℕ, Bool, true, false, cond, eqb, ◌||◌, List, [], ◌∷◌, Option, Some, None, is_some, ◌⊎◌, inl, inr, refl, sym, ap, ◌∙◌, subst}
use Rattle.std.specs.Prelude.{IsSome, option_and_then, option_map}
use Rattle.std.specs.List.{list_any}
use Rattle.std.proofs.lemmas.Bool.{false≢true, true≢false, cases_eq, ne_eqb}
use Rattle.std.proofs.lemmas.List.Elements.{All-nil}
use Rattle.serde_json.specs.Data.{boolean}
use Rattle.shred_world.specs.Bundles.{Holding, readable, owned}
use Rattle.shred_world.proofs.CallerLemmas.{same_id-itself}
use Rattle.shred_stages.specs.declared.stop.Stop.TheVariants as stop
use Rattle.hibitset_sets.specs.Walk.{walk}
use Rattle.hibitset_sets.proofs.CallerLemmas.{any-walk}
use Rattle.specs_layouts.specs.Channels.{Log, log_of}
use Rattle.specs_layouts.specs.Flagged.{Flagged, tells}
use Rattle.specs_layouts.specs.declared.track.ComponentEvent.{ComponentEvent}
use Rattle.specs_layouts.specs.MaskedChanges.{PutsIn, KeepsParts, told_taken}
use Rattle.specs_layouts.specs.Parts.{Puts}
use Rattle.specs_layouts.proofs.CallerLemmas.{shows-refl, shows-same, shows-taken, shows-trans}
use Rattle.scene_world.specs.declared.any_store.AnyStore.{AnyStore}
use Rattle.scene_world.specs.Stores.{store_part}
use Rattle.specs_layouts.specs.Shows.{Shows, Names}
use Rattle.scene_model.specs.Lawful.{IsLawful}
use Rattle.scene_model.specs.Parts.{Name, Part, is_among}
use Rattle.scene_model.specs.Rulebook.{Fragment, Command}
use Rattle.scene_model.specs.Scenes.{PartsOwned, IsLawfullyLeft, lives}
use Rattle.scene_world.specs.Stored.{part_under}
use Rattle.scene_world.specs.Rolls.{index_of, ref_to}
use Rattle.scene_world.specs.Standing.{seen_in, column_of, column_in, events_in, emits_in, fragment_of, plain_of, roll_of, IsWithin}
use Rattle.scene_world.specs.Turns.{Meaning, sense_of, rules_by, IsFit, IsLentFit, LeavesLawfully, Runs, ShowsChanges, meaning_of}
use Rattle.scene_world.specs.Writes.{WritesOne, WritesGlobal}
use Rattle.scene_world.proofs.CallerLemmas.{written-here, left-ids, left-others, left-globals, left-parts, set-columns, set-ids, set-parts, set-globals, set-global, owned-plain}
use Rattle.scene_world.proofs.StepLemmas.{owned-fragment}
use Rattle.scene_basics.specs.declared.values.Whole.{Whole}
use Rattle.scene_basics.specs.declared.values.Value.{Value}
use Rattle.scene_basics.specs.declared.values.Value.TheVariants.{NumbersValue, GlobalValue}
use Rattle.scene_basics.specs.Names.{hp_kind, g_name}
use Rattle.scene_basics.specs.Values.{Numbers, whole_at}
use Rattle.scene_basics.specs.Columns.{part_id, global_id, whole_stored, basic_kinds}
use Rattle.scene_basics.specs.Apart.{basic-apart}
use Rattle.scene_basics.specs.Adding.{ShowsNumbers}
use Rattle.scene_basics.proofs.WorldLemmas.{only-one}
use Rattle.scene_tests.specs.declared.leavers.Leave.{Leave}
use Rattle.scene_tests.specs.Leavers.{leave_kind, leaving, leavers, set_value, Makes, Left, HpGone, HpGoneIf}
use Rattle.scene_tests.specs.Leaving.{TakesHp, TakesHpIf, SetsGlobal, TakesAndSets}
use Rattle.scene_tests.proofs.LeaverLemmas.{Left-admitted, Left-living, Left-readable, Left-valued}

-- who has a part after one was taken out had it before, and is another
pub still-there : {T : Type 0} (before after : ℕ → Option T) (item : ℕ) (rest : List ℕ) → Puts before item None after
    → ((index : ℕ) → IsSome (before index) → list_any (λ other. eqb index other) (item ∷ rest) ≡ true)
    → (index : ℕ) → IsSome (after index) → list_any (λ other. eqb index other) rest ≡ true
still-there before after item rest puts those index some =
    elim (cases_eq index item) [
      | inl here ↦ absurd (false≢true (sym (ap is_some (ap after here ∙ puts.here)) ∙ some))
      | inr apart ↦ ap (λ b. b || list_any (λ other. eqb index other) rest) (sym (ne_eqb index item apart)) ∙ those index (ap is_some (sym (puts.others index apart)) ∙ some)
    ]

-- who is one of none has none
pub none-left : {T : Type 0} (parts : ℕ → Option T) (rest : List ℕ) → rest ≡ [] → ((index : ℕ) → IsSome (parts index) → list_any (λ other. eqb index other) rest ≡ true) → (index : ℕ) → parts index ≡ None
none-left {T} parts rest is those index = by (parts index) refl
  where
    by : (o : Option T) → parts index ≡ o → parts index ≡ None
    by None e = e
    by (Some part) e = absurd (false≢true (sym (ap (list_any (λ other. eqb index other)) is) ∙ those index (ap is_some e)))

-- who is a member of a set is one of its walk
pub walked : (members : ℕ → Bool) (parts : ℕ → Option Whole) (indices : List ℕ) → indices ≡ walk members → ((index : ℕ) → members index ≡ is_some (parts index)) → ((index : ℕ) → members index ≡ true → index < 16777216)
    → (index : ℕ) → IsSome (parts index) → list_any (λ other. eqb index other) indices ≡ true
walked members parts indices is agree range index some =
    let member : members index ≡ true = agree index ∙ some in
    ap (list_any (λ other. eqb index other)) is ∙ any-walk members index (range index member) member

-- what the events of numbers show of one more that was taken out, and of a refusal
abbrev part_at : Flagged (AnyStore Whole) → ℕ → Option Whole
part_at s = store_part s.inner

abbrev events : Flagged (AnyStore Whole) → Log ComponentEvent
events s = log_of s.channel

pub taken-shown : (first before after : Numbers) (index : ℕ) → ShowsNumbers first before → PutsIn part_at before index None after → events after.inner ≡ told_taken part_at tells events before index → tells after.inner ≡ tells before.inner → ShowsNumbers first after
taken-shown first before after index shown puts tell emission =
    shows-trans part_at events tells first.inner before.inner after.inner shown
    (shows-taken part_at events tells before.inner after.inner index (is_some (part_at before.inner index)) refl puts tell emission)

pub refused-shown : (first before after : Numbers) → ShowsNumbers first before → KeepsParts part_at before after → events after.inner ≡ events before.inner → tells after.inner ≡ tells before.inner → ShowsNumbers first after
refused-shown first before after shown keeps silent emission =
    shows-trans part_at events tells first.inner before.inner after.inner shown (shows-same part_at events tells before.inner after.inner keeps silent emission)

pub nothing-shown : (numbers : Numbers) → ShowsNumbers numbers numbers
nothing-shown numbers = shows-refl part_at events tells numbers.inner

-- what is meant of `leave`, and what it sees of what is held
abbrev pub leave_meaning : Meaning Leave
leave_meaning = meaning_of 0 (λ _. leave_kind) (λ leave. boolean leave.hp_goes) (λ leave. (leaving leave.hp_goes).access) (λ _. sense_of leavers) (λ leave. Makes (Some leave.hp_goes))

abbrev pub seen_by : Bool → Holding Value → Fragment
seen_by hp_goes w = fragment_of basic_kinds (leaving hp_goes).access w

-- the parts of a fragment stand at its ids
owned-by : (hp_goes : Bool) (w : Holding Value) → PartsOwned (seen_by hp_goes w).ids (seen_by hp_goes w).part
owned-by hp_goes w = owned-fragment (leaving hp_goes).access (plain_of basic_kinds (seen_in w)) (owned-plain basic_kinds (seen_in w))

-- the events of the numbers of hp are those of their column
shown-hp : (before after : Numbers) → ShowsNumbers before after → Shows (column_in basic_kinds hp_kind) (events_in basic_kinds hp_kind) (emits_in basic_kinds hp_kind) (Some (NumbersValue before)) (Some (NumbersValue after))
shown-hp before after shown = record {
  more = shown.more;
  told = shown.told;
  emission = shown.emission;
  all = λ emits index. by index (shown.all emits index);
}
  where
    by : (index : ℕ) → (whole_at after index ≡ whole_at before index) ⊎ Names shown.more index → (option_map whole_stored (whole_at after index) ≡ option_map whole_stored (whole_at before index)) ⊎ Names shown.more index
    by index (inl same) = inl (ap (option_map whole_stored) same)
    by index (inr named) = inr named

-- the global was set
module _ (between left : Holding Value) (sets : SetsGlobal between left) where
  one-global : WritesGlobal basic_kinds g_name (GlobalValue set_value) between left
  one-global = record {
    here = ap (λ w. readable (w global_id)) sets ∙ ap (λ b. readable (cond b (owned (GlobalValue set_value)) (between global_id))) (same_id-itself global_id);
    others = λ id differ. ap (λ w. w id) sets ∙ ap (λ b. cond b (owned (GlobalValue set_value)) (between id)) differ;
  }

-- the numbers of hp were taken out
module _ (seen between : Holding Value) (takes : TakesHp seen between) where
  one-kind : WritesOne basic_kinds hp_kind (NumbersValue takes.after) seen between
  one-kind = record {
    here = ap (λ w. readable (w (part_id hp_kind))) takes.writes.others ∙ ap (λ b. readable (cond b (owned (NumbersValue takes.after)) (seen (part_id hp_kind)))) (same_id-itself (part_id hp_kind));
    others = λ id differ. ap (λ w. w id) takes.writes.others ∙ ap (λ b. cond b (owned (NumbersValue takes.after)) (seen id)) differ;
  }

  none-stored : (index : ℕ) → basic_kinds.stored hp_kind (NumbersValue takes.after) index ≡ None
  none-stored index = ap (option_map whole_stored) (takes.none index)

  -- no id has one after
  no-hp : (id : ℕ) → (seen_by true between).part id hp_kind ≡ None
  no-hp id = left-parts basic_kinds basic-apart hp_kind refl (NumbersValue takes.after) seen between one-kind (leaving true).access refl id ∙ by (index_of (roll_of basic_kinds (seen_in seen)) id)
    where
      by : (o : Option ℕ) → option_and_then (λ index. option_map (part_under (ref_to (roll_of basic_kinds (seen_in seen)))) (basic_kinds.stored hp_kind (NumbersValue takes.after) index)) o ≡ None
      by None = refl
      by (Some index) = ap (option_map (part_under (ref_to (roll_of basic_kinds (seen_in seen))))) (none-stored index)

  -- nobody who lives nowhere had one
  no-stranger : (id : ℕ) → lives id (seen_by true seen).ids ≡ false → (seen_by true seen).part id hp_kind ≡ None
  no-stranger id dead = by ((seen_by true seen).part id hp_kind) refl
    where
      by : (o : Option Part) → (seen_by true seen).part id hp_kind ≡ o → (seen_by true seen).part id hp_kind ≡ None
      by None is = is
      by (Some held) is = absurd (true≢false (sym (owned-by true seen id hp_kind held is) ∙ dead))

  hp-gone : HpGone (seen_by true seen) (seen_by true between)
  hp-gone = record {
    gone = λ id living. no-hp id;
    strangers = λ id dead. no-hp id ∙ sym (no-stranger id dead);
    others = λ id other apart. left-others basic_kinds basic-apart hp_kind refl (NumbersValue takes.after) seen between one-kind (leaving true).access id other apart;
  }

-- what is left after hp went, if it was to go
between-parts : (hp_goes : Bool) (seen between : Holding Value) → TakesHpIf hp_goes seen between → HpGoneIf hp_goes (seen_by hp_goes seen) (seen_by hp_goes between)
between-parts true seen between takes = hp-gone seen between takes
between-parts false seen between same = λ id kind. ap (λ (w : Holding Value). (seen_by false w).part id kind) same

between-ids : (hp_goes : Bool) (seen between : Holding Value) → TakesHpIf hp_goes seen between → (seen_by hp_goes between).ids ≡ (seen_by hp_goes seen).ids
between-ids true seen between takes = left-ids basic_kinds basic-apart hp_kind refl (NumbersValue takes.after) seen between (one-kind seen between takes) (leaving true).access
between-ids false seen between same = ap (λ (w : Holding Value). (seen_by false w).ids) same

between-globals : (hp_goes : Bool) (seen between : Holding Value) → TakesHpIf hp_goes seen between → (name : Name) → (seen_by hp_goes between).global name ≡ (seen_by hp_goes seen).global name
between-globals true seen between takes = left-globals basic_kinds basic-apart hp_kind refl (NumbersValue takes.after) seen between (one-kind seen between takes) (leaving true).access
between-globals false seen between same = λ name. ap (λ (w : Holding Value). (seen_by false w).global name) same

-- parts that are seen alike are gone alike
gone-alike : (hp_goes : Bool) (old new newer : Fragment) → ((id : ℕ) (kind : Name) → newer.part id kind ≡ new.part id kind) → HpGoneIf hp_goes old new → HpGoneIf hp_goes old newer
gone-alike true old new newer same parts = record {
  gone = λ id living. same id hp_kind ∙ parts.gone id living;
  strangers = λ id dead. same id hp_kind ∙ parts.strangers id dead;
  others = λ id other apart. same id other ∙ parts.others id other apart;
}
gone-alike false old new newer same parts = λ id kind. same id kind ∙ parts id kind

-- hp went if it was to, and the global was set
module _ (hp_goes : Bool) (seen left : Holding Value) (turn : TakesAndSets hp_goes seen left) where
  wrote : WritesGlobal basic_kinds g_name (GlobalValue set_value) turn.between left
  wrote = one-global turn.between left turn.sets

  left-so : Left hp_goes (seen_by hp_goes seen) (seen_by hp_goes left)
  left-so = record {
    ids = set-ids basic_kinds basic-apart g_name refl (GlobalValue set_value) turn.between left wrote (leaving hp_goes).access ∙ between-ids hp_goes seen turn.between turn.takes;
    parts = gone-alike hp_goes (seen_by hp_goes seen) (seen_by hp_goes turn.between) (seen_by hp_goes left)
        (set-parts basic_kinds basic-apart g_name refl (GlobalValue set_value) turn.between left wrote (leaving hp_goes).access) (between-parts hp_goes seen turn.between turn.takes);
    global = record {
      value = set-global basic_kinds basic-apart g_name refl (GlobalValue set_value) turn.between left wrote (leaving hp_goes).access refl;
      others = λ name apart. set-globals basic_kinds basic-apart g_name refl (GlobalValue set_value) turn.between left wrote (leaving hp_goes).access name apart ∙ between-globals hp_goes seen turn.between turn.takes name;
    };
  }

  lawfully-left : IsFit (sense_of leavers) (seen_by hp_goes seen) → IsLawfullyLeft (rules_by (sense_of leavers)) (seen_by hp_goes seen) (seen_by hp_goes left) []
  lawfully-left fit = record {
    ids = left-so.ids;
    owned = owned-by hp_goes left;
    living = Left-living hp_goes (seen_by hp_goes seen) (seen_by hp_goes left) left-so fit.living;
    admitted = Left-admitted hp_goes (seen_by hp_goes seen) (seen_by hp_goes left) left-so fit.admitted;
    valued = Left-valued hp_goes (seen_by hp_goes seen) (seen_by hp_goes left) left-so;
    readable = Left-readable hp_goes (seen_by hp_goes seen) (seen_by hp_goes left) left-so fit.readable;
    known = All-nil (IsLawful (rules_by (sense_of leavers)));
  }

-- after hp went and the global was set the column of hp has none, and its events tell of each that went
module _ (seen left : Holding Value) (turn : TakesAndSets true seen left) where
  column-none : (index : ℕ) → column_of basic_kinds (seen_in left) hp_kind index ≡ None
  column-none index =
      set-columns basic_kinds basic-apart g_name refl (GlobalValue set_value) turn.between left (one-global turn.between left turn.sets) hp_kind refl index
      ∙ written-here basic_kinds basic-apart hp_kind refl (NumbersValue turn.takes.after) seen turn.between (one-kind seen turn.between turn.takes) index ∙ none-stored seen turn.between turn.takes index

  within-hp : IsWithin basic_kinds (roll_of basic_kinds (seen_in left)) (column_of basic_kinds (seen_in left) hp_kind)
  within-hp index some = absurd (false≢true (sym (ap is_some (column-none index)) ∙ some))

  hp-shown : ShowsChanges basic_kinds hp_kind seen left
  hp-shown =
      subst (λ (one : Option Value). Shows (column_in basic_kinds hp_kind) (events_in basic_kinds hp_kind) (emits_in basic_kinds hp_kind) one (readable (left (part_id hp_kind)))) (sym (ap readable turn.takes.writes.written))
      (subst (λ (two : Option Value). Shows (column_in basic_kinds hp_kind) (events_in basic_kinds hp_kind) (emits_in basic_kinds hp_kind) (Some (NumbersValue turn.takes.before)) two)
      (sym (ap readable ((one-global turn.between left turn.sets).others (part_id hp_kind) refl) ∙ (one-kind seen turn.between turn.takes).here)) (shown-hp turn.takes.before turn.takes.after turn.takes.shown))

within-written : (hp_goes : Bool) (seen left : Holding Value) → TakesAndSets hp_goes seen left → (kind : Name) → is_among kind (leaving hp_goes).access.writes ≡ true
    → IsWithin basic_kinds (roll_of basic_kinds (seen_in left)) (column_of basic_kinds (seen_in left) kind)
within-written true seen left turn kind written = subst (λ (name : Name). IsWithin basic_kinds (roll_of basic_kinds (seen_in left)) (column_of basic_kinds (seen_in left) name)) (sym (only-one hp_kind kind written)) (within-hp seen left turn)
within-written false seen left turn kind written = absurd (false≢true written)

shown-written : (hp_goes : Bool) (seen left : Holding Value) → TakesAndSets hp_goes seen left → (kind : Name) → is_among kind (leaving hp_goes).access.writes ≡ true → ShowsChanges basic_kinds kind seen left
shown-written true seen left turn kind written = subst (λ (name : Name). ShowsChanges basic_kinds name seen left) (sym (only-one hp_kind kind written)) (hp-shown seen left turn)
shown-written false seen left turn kind written = absurd (false≢true written)

-- a run that did both is a turn of `leave`
pub leave-runs : (leave : Leave) (seen left : Holding Value) → TakesAndSets leave.hp_goes seen left → (commands : List Command) → commands ≡ [] → Runs basic_kinds leave_meaning leave seen None leave left commands
leave-runs leave seen left turn commands none =
    subst (λ (c : List Command). Runs basic_kinds leave_meaning leave seen None leave left c) (sym none)
    (record { stays = tt; same = refl; same_sense = refl; no_more = λ f o did. did; ends = done })
  where
    done : IsLentFit basic_kinds leave_meaning leave seen → LeavesLawfully basic_kinds leave_meaning leave seen left []
    done lent = record {
      did = (left-so leave.hp_goes seen left turn, refl);
      lawful = lawfully-left leave.hp_goes seen left turn lent.fit;
      within = λ kind known written. within-written leave.hp_goes seen left turn kind written;
      shown = λ kind known written. shown-written leave.hp_goes seen left turn kind written;
    }

-- and one that found no memory
pub leave-stops : (leave : Leave) (seen left : Holding Value) (commands : List Command) → Runs basic_kinds leave_meaning leave seen (Some stop.Memory) leave left commands
leave-stops leave seen left commands = record { stays = tt; same = refl; same_sense = refl; no_more = λ f o did. did; ends = λ lent. tt }
