-- What a system that asks came to.
use Rattle.std.proofs.Common.{◌≡◌, ◌<◌, ℕ, ℤ, Bool, true, false, cond, eqb, List, [], ◌∷◌, ◌++◌, append_assoc, append-nil, All, Option, Some, None, is_some, refl, sym, ap, ◌∙◌, subst}
use Rattle.std.specs.Prelude.{IsSome, option_and_then, option_map, pos, int_le}
use Rattle.std.specs.List.{list_any, filter, filter_map, cons_option}
use Rattle.std.proofs.lemmas.List.Elements.{All-head, All-tail, All-weaker}
use Rattle.std.proofs.lemmas.Map.Views.{any-filter_same}
use Rattle.hibitset_sets.specs.BitSet.{SetWithRoom, has_member}
use Rattle.hibitset_sets.specs.Walk.{walk}
use Rattle.hibitset_sets.proofs.CallerLemmas.{any-walk, members-walked}
use Rattle.specs_layouts.specs.Masked.{Agrees}
use Rattle.std.specs.Option.{option_map_or}
use Rattle.std.proofs.lemmas.Bool.{false≢true, eqb-true}
use Rattle.shred_world.specs.Bundles.{Holding, readable}
use Rattle.scene_model.specs.Rulebook.{kill}
use Rattle.scene_world.specs.Rolls.{index_of, ids_in}
use Rattle.scene_basics.specs.declared.data.Ask.{Ask}
use Rattle.scene_basics.specs.declared.data.Ask.TheVariants.{Deaths, Births}
use Rattle.scene_basics.specs.declared.values.Whole.{Whole}
use Rattle.scene_basics.specs.declared.values.Value.{Value}
use Rattle.scene_basics.specs.Values.{Numbers, numbers_in, whole_at}
use Rattle.scene_basics.specs.Adding.{numbers_of}
use Rattle.scene_basics.specs.Asks.{death_by, birth_by, birth_at, asks, asked_for}
use Rattle.scene_basics.specs.Asked.{number_seen, number_under, asks_where, asks_at, lent_for}
use Rattle.scene_basics.specs.Columns.{part_id}
use Rattle.scene_basics.specs.Known.{basic_roll}
use Rattle.scene_basics.specs.Names.{hp_kind}
use Rattle.scene_basics.proofs.SightLemmas.{asked-deaths, asked-births}

-- whether something may be asked for one whose hp this is, if it has one
abbrev asks-of : Ask → Option ℤ → Bool
asks-of ask None = false
asks-of ask (Some hp) = asks ask hp

-- a death is asked for where it may be, and so is a birth
dies : (id : ℕ) (hp : Option ℤ) → IsSome (death_by id hp) → asks-of Deaths hp ≡ true
dies id None some = absurd (false≢true some)
dies id (Some hp) some = by (int_le hp (pos 0)) some
  where
    by : (b : Bool) → IsSome (cond b (Some (kill id)) None) → b ≡ true
    by true some = refl
    by false some = absurd (false≢true some)

bears : (hp : Option ℤ) (place : Option _) → IsSome (birth_by hp place) → asks-of Births hp ≡ true
bears None place some = absurd (false≢true some)
bears (Some hp) place some = by (int_le (pos 10) hp) some
  where
    by : (b : Bool) → IsSome (cond b (birth_at place) None) → b ≡ true
    by true some = refl
    by false some = absurd (false≢true some)

-- what is asked for an id may be asked
may-be-asked : (ask : Ask) (w : Holding Value) (id : ℕ) → IsSome (asked_for ask (lent_for ask w) id) → asks-of ask (number_under w hp_kind id) ≡ true
may-be-asked Deaths w id some = dies id (number_under w hp_kind id) (ap is_some (asked-deaths w id) ∙ some)
may-be-asked Births w id some = bears (number_under w hp_kind id) _ (ap is_some (asked-births w id) ∙ some)

-- so it may be at the index of who is asked for
pub may-be-asked-at : (ask : Ask) (w : Holding Value) (id index : ℕ) → index_of (basic_roll w) id ≡ Some index → IsSome (asked_for ask (lent_for ask w) id)
    → option_map_or (λ (whole : Whole). asks ask whole.0) (numbers_of (readable (w (part_id hp_kind))) index) false ≡ true
may-be-asked-at ask w id index at some =
    by (numbers_of (readable (w (part_id hp_kind))) index) (sym (ap (λ o. asks-of ask (option_and_then (number_seen w hp_kind) o)) at) ∙ may-be-asked ask w id some)
  where
    by : (o : Option Whole) → asks-of ask (option_map (λ (whole : Whole). whole.0) o) ≡ true → option_map_or (λ (whole : Whole). asks ask whole.0) o false ≡ true
    by None some = absurd (false≢true some)
    by (Some whole) some = some

-- the ids that are lent are those of the world
pub lent-ids : (ask : Ask) (w : Holding Value) → (lent_for ask w).ids ≡ ids_in (basic_roll w)
lent-ids Deaths w = refl
lent-ids Births w = refl

-- ---- those for whom something may be asked, among the numbers of a kind

module _ (ask : Ask) (mask : SetWithRoom) (parts : ℕ → Option Whole) where
  -- those that were chosen, with those among them that are to come, are all; and each that is to come has a number
  pub record Choosing (done left : List ℕ) : Type 0 where
    pub all : done ++ filter (asks_where ask parts) left ≡ filter (asks_where ask parts) (walk (has_member mask))
    pub there : All (λ index. IsSome (parts index)) left

  pub choosing-first : (left : List ℕ) → left ≡ walk (has_member mask) → Agrees mask parts → (done : List ℕ) → done ≡ [] → Choosing done left
  choosing-first left is agree done none = record {
    all = ap (λ front. front ++ filter (asks_where ask parts) left) none ∙ ap (filter (asks_where ask parts)) is;
    there = subst (All (λ index. IsSome (parts index))) (sym is) (All-weaker (λ index. has_member mask index ≡ true) (λ index. IsSome (parts index)) (λ index member. sym (agree index) ∙ member) (walk (has_member mask)) (members-walked (has_member mask)));
  }

  module _ (done left : List ℕ) (choosing : Choosing done left) where
    pub choosing-last : left ≡ [] → done ≡ filter (asks_where ask parts) (walk (has_member mask))
    choosing-last none = sym (append-nil done) ∙ sym (ap (λ rest. done ++ filter (asks_where ask parts) rest) none) ∙ choosing.all

    module _ (index : ℕ) (rest : List ℕ) (is : left ≡ index ∷ rest) where
      pub choosing-there : IsSome (parts index)
      choosing-there = All-head (λ one. IsSome (parts one)) index rest (subst (All (λ one. IsSome (parts one))) is choosing.there)

      later : All (λ one. IsSome (parts one)) rest
      later = All-tail (λ one. IsSome (parts one)) index rest (subst (All (λ one. IsSome (parts one))) is choosing.there)

      before : (b : Bool) → asks_where ask parts index ≡ b → done ++ cond b (index ∷ filter (asks_where ask parts) rest) (filter (asks_where ask parts) rest) ≡ filter (asks_where ask parts) (walk (has_member mask))
      before b asked = sym (ap (λ b. done ++ cond b (index ∷ filter (asks_where ask parts) rest) (filter (asks_where ask parts) rest)) asked) ∙ sym (ap (λ list. done ++ filter (asks_where ask parts) list) is) ∙ choosing.all

      asked-of : (whole : Whole) (b : Bool) → parts index ≡ Some whole → b ≡ asks ask whole.0 → asks_where ask parts index ≡ b
      asked-of whole b there test = ap (λ o. option_map_or (λ (one : Whole). asks ask one.0) o false) there ∙ sym test

      pub choosing-taken : (whole : Whole) (b : Bool) (after : List ℕ) → parts index ≡ Some whole → b ≡ asks ask whole.0 → b ≡ true → after ≡ done ++ index ∷ [] → Choosing after rest
      choosing-taken whole b after there test on then = record {
        all = ap (λ front. front ++ filter (asks_where ask parts) rest) then ∙ append_assoc done (index ∷ []) (filter (asks_where ask parts) rest) ∙ before true (asked-of whole b there test ∙ on);
        there = later;
      }

      pub choosing-passed : (whole : Whole) (b : Bool) → parts index ≡ Some whole → b ≡ asks ask whole.0 → b ≡ false → Choosing done rest
      choosing-passed whole b there test off = record { all = before false (asked-of whole b there test ∙ off); there = later }

-- whoever passes is among those that were chosen, where none is to come
pub all-chosen : (ask : Ask) (mask : SetWithRoom) (parts : ℕ → Option Whole) (done left : List ℕ) → Choosing ask mask parts done left → left ≡ [] → Agrees mask parts → ((index : ℕ) → has_member mask index ≡ true → index < 16777216)
    → (index : ℕ) → asks_where ask parts index ≡ true → list_any (eqb index) done ≡ true
all-chosen ask mask parts done left choosing none agree range index asked =
    let member : has_member mask index ≡ true = agree index ∙ there (parts index) asked in
    ap (list_any (eqb index)) (choosing-last ask mask parts done left choosing none)
    ∙ any-filter_same (eqb index) (asks_where ask parts) true (λ one same. ap (asks_where ask parts) (sym (eqb-true index one same)) ∙ asked) (walk (has_member mask)) ∙ any-walk (has_member mask) index (range index member) member
  where
    there : (o : Option Whole) → option_map_or (λ (whole : Whole). asks ask whole.0) o false ≡ true → is_some o ≡ true
    there None asked = absurd (false≢true asked)
    there (Some whole) asked = refl

-- each who is asked for is
pub asked-chosen : (ask : Ask) (w : Holding Value) (numbers : Numbers) (chosen : List ℕ) → option_and_then numbers_in (readable (w (part_id hp_kind))) ≡ Some numbers → ((index : ℕ) → asks_at ask numbers index ≡ true → list_any (eqb index) chosen ≡ true)
    → (id index : ℕ) → index_of (basic_roll w) id ≡ Some index → IsSome (asked_for ask (lent_for ask w) id) → list_any (eqb index) chosen ≡ true
asked-chosen ask w numbers chosen held all id index at some =
    all index (sym (ap (λ stored. option_map_or (λ (whole : Whole). asks ask whole.0) (option_and_then (λ s. whole_at s index) stored) false) held) ∙ may-be-asked-at ask w id index at some)

-- where no numbers stand, nothing is asked for
pub none-asked : (ask : Ask) (w : Holding Value) → option_and_then numbers_in (readable (w (part_id hp_kind))) ≡ None → filter_map (asked_for ask (lent_for ask w)) (ids_in (basic_roll w)) ≡ []
none-asked ask w none = nothing (ids_in (basic_roll w))
  where
    never : (id : ℕ) → asked_for ask (lent_for ask w) id ≡ None
    never id = by (asked_for ask (lent_for ask w) id) refl
      where
        by : (o : Option _) → asked_for ask (lent_for ask w) id ≡ o → asked_for ask (lent_for ask w) id ≡ None
        by None e = e
        by (Some command) e = absurd (false≢true (sym (without (index_of (basic_roll w) id)) ∙ may-be-asked ask w id (ap is_some e)))
          where
            without : (o : Option ℕ) → asks-of ask (option_and_then (number_seen w hp_kind) o) ≡ false
            without None = refl
            without (Some index) = ap (λ o. asks-of ask (option_map (λ (whole : Whole). whole.0) o)) (ap (option_and_then (λ s. whole_at s index)) none)

    nothing : (ids : List ℕ) → filter_map (asked_for ask (lent_for ask w)) ids ≡ []
    nothing [] = refl
    nothing (id ∷ ids) = ap (λ o. cons_option o (filter_map (asked_for ask (lent_for ask w)) ids)) (never id) ∙ nothing ids
