-- What a system leaves that counts one more in a global, and then makes other numbers of those of one kind.
use Rattle.std.proofs.Common.{◌≡◌, ◌⊎◌, inl, inr, ◌+◌, ℕ, true, false, cond, [], ◌∷◌, Option, Some, None, refl, ap, sym, ◌∙◌, subst}
use Rattle.std.specs.Prelude.{IsSome, option_and_then, option_map}
use Rattle.std.specs.Str.{bytes_eq}
use Rattle.std.proofs.lemmas.Bool.{false≢true, or_cases}
use Rattle.std.proofs.lemmas.Option.{none-some}
use Rattle.std.proofs.lemmas.List.Elements.{All-nil}
use Rattle.std.proofs.lemmas.Slice.Eq.{bytes_eq-Decides}
use Rattle.shred_world.specs.Bundles.{Holding, readable}
use Rattle.specs_layouts.specs.Shows.{Shows}
use Rattle.scene_model.specs.Parts.{Json, Name, Part, is_among}
use Rattle.scene_model.specs.Rulebook.{Fragment, Access, declares, declares_global, leaves}
use Rattle.scene_model.specs.Scenes.{KeepsValues}
use Rattle.scene_model.specs.Lawful.{IsLawful}
use Rattle.scene_world.specs.Lent.{StandApart, parts}
use Rattle.scene_world.specs.Places.{Places, Columns, kinds_of}
use Rattle.scene_world.specs.Numbers.{counted, counting, number_in, number_at, AreNumbers}
use Rattle.scene_world.specs.Rolls.{index_of, ids_in}
use Rattle.scene_world.specs.Standing.{Kinds, column_in, column_of, events_in, emits_in, roll_of, seen_in, value_of, IsWithin}
use Rattle.scene_world.specs.Turns.{Meaning, rules_by, sees, IsFit, IsLentFit, LeavesLawfully, ShowsChanges}
use Rattle.scene_world.specs.Writes.{WritesOne, WritesGlobal}
use Rattle.scene_world.specs.Counting.{AreCounts, count_at, CountsFrom, CountsOne, CountsAndWrites}
use Rattle.scene_world.proofs.WriteLemmas.{written-roll, left-others, left-globals, set-elsewhere, set-roll, set-parts, set-globals, set-global, set-fit, set-valued, lawful-after, numbers-write, numbers-shown, numbers-within, numbers-left, numbers-lawful}

-- what is written for numbers are numbers
pub plain-counts : (o : Option ℕ) (json : Json) → option_map counted o ≡ Some json → (number : ℕ) × (counted number ≡ json)
plain-counts None json e = cc
plain-counts (Some number) json e = (number, cc)

-- a name that is among one is that one
among-one : (kind name : Name) → is_among name (kind ∷ []) ≡ true → kind ≡ name
among-one kind name is = by (or_cases (bytes_eq name kind) false is)
  where
    by : (bytes_eq name kind ≡ true) ⊎ (false ≡ true) → kind ≡ name
    by (inl same) = sym ((bytes_eq-Decides name kind).0 same)
    by (inr never) = absurd (false≢true never)

module _ {V D S : Type 0} (places : Places V D) (part_of : D → Part) (columns : Columns V) (apart : StandApart (kinds_of places part_of columns)) (meaning : Meaning S) (system : S) (name : Name)
    (known : is_among name columns.global_names ≡ true) (declared : declares_global (meaning.plain system).access name ≡ true) (counts : AreCounts columns name)
    (reads : (n : ℕ) → (meaning.sense system).read_global name (counted n) ≡ Some (counted n)) where
  abbrev kinds : Kinds V
  kinds = kinds_of places part_of columns

  abbrev access : Access
  access = (meaning.plain system).access

  abbrev seen_by : Holding V → Fragment
  seen_by = sees kinds meaning system

  global-seen : (w : Holding V) → (seen_by w).global name ≡ value_of kinds (seen_in w) name
  global-seen w = ap (λ b. cond b (cond (is_among name columns.global_names) (value_of kinds (seen_in w) name) None) None) declared ∙ ap (λ b. cond b (value_of kinds (seen_in w) name) None) known

  -- the number that is seen
  pub count-seen : (w : Holding V) → option_and_then number_in ((seen_by w).global name) ≡ count_at columns name w
  count-seen w = ap (option_and_then number_in) (global-seen w)

  -- where there is no number there is no value
  no-value : (w : Holding V) → count_at columns name w ≡ None → value_of kinds (seen_in w) name ≡ None
  no-value w = at (readable (w (columns.global_id name)))
    where
      inside : (v : V) (o : Option Json) → columns.value name v ≡ o → option_and_then number_in o ≡ None → o ≡ None
      inside v None is none = refl
      inside v (Some json) is none = let number = counts v json is in absurd (none-some number.0 (sym none ∙ ap number_in (sym number.1)))

      at : (held : Option V) → option_and_then number_in (option_and_then (columns.value name) held) ≡ None → option_and_then (columns.value name) held ≡ None
      at None none = refl
      at (Some v) none = inside v (columns.value name v) refl none

  -- one more is counted: all else is as it was, and what is fit stays so
  record Counted (seen left : Holding V) : Type 0 where
    roll : roll_of kinds (seen_in left) ≡ roll_of kinds (seen_in seen)
    part : (id : ℕ) (kind : Name) → (seen_by left).part id kind ≡ (seen_by seen).part id kind
    there : (kind : Name) → is_among kind columns.part_names ≡ true → seen_in left (columns.part_id kind) ≡ seen_in seen (columns.part_id kind)
    globals : (other : Name) → bytes_eq other name ≡ false → (seen_by left).global other ≡ (seen_by seen).global other
    one_more : (seen_by left).global name ≡ option_map (λ n. counted (n + 1)) (count_at columns name seen)
    fit : IsFit (meaning.sense system) (seen_by seen) → IsFit (meaning.sense system) (seen_by left)
    keeps : KeepsValues (seen_by seen) (seen_by left)

  one-counted : (seen left : Holding V) → CountsOne columns name seen left → Counted seen left
  one-counted seen left counting = by (count_at columns name seen) refl counting
    where
      by : (o : Option ℕ) → count_at columns name seen ≡ o → CountsFrom columns name o seen left → Counted seen left
      by None none same = subst (Counted seen) (sym same) (record {
        roll = refl;
        part = λ id kind. refl;
        there = λ kind is. refl;
        globals = λ other differ. refl;
        one_more = global-seen seen ∙ no-value seen none ∙ sym (ap (option_map (λ n. counted (n + 1))) none);
        fit = λ fit. fit;
        keeps = λ other some. some;
      })
      by (Some number) is (value, reading, sets) =
          let writes : WritesGlobal kinds name value seen left = record { here = sets.here; others = sets.others } in
          record {
            roll = set-roll kinds apart name known value seen left writes;
            part = set-parts kinds apart name known value seen left writes access;
            there = λ kind among. set-elsewhere kinds apart name known value seen left writes (parts kind) among refl;
            globals = set-globals kinds apart name known value seen left writes access;
            one_more = set-global kinds apart name known value seen left writes access declared ∙ reading ∙ sym (ap (option_map (λ n. counted (n + 1))) is);
            fit = set-fit kinds apart name known value seen left writes access (meaning.sense system) declared (λ one read. again one (sym reading ∙ read));
            keeps = set-valued kinds apart name known value seen left writes access declared (subst (λ o. IsSome o) (sym reading) refl);
          }
        where
          again : (one : Json) → Some (counted (number + 1)) ≡ Some one → (meaning.sense system).read_global name one ≡ Some one
          again one read = let same : counted (number + 1) ≡ one = cc in subst (λ (one : Json). (meaning.sense system).read_global name one ≡ Some one) same (reads (number + 1))

  -- what is left where one more is counted, and then each number of a kind is what is made of it at its index: who lives stays, the numbers are
  -- what is made of them, the parts of other kinds stay, one more is counted and the other globals stay; and so it is left lawfully, where that
  -- is what the system does, which writes no other kind
  pub record TurnLeaves (kind : Name) (made : ℕ → ℕ → ℕ) (seen left : Holding V) : Type 0 where
    pub roll : roll_of kinds (seen_in left) ≡ roll_of kinds (seen_in seen)
    pub numbers : (id : ℕ) → (seen_by left).part id kind
        ≡ option_and_then (λ index. option_map (λ n. counting (made index n)) (number_at (column_of kinds (seen_in seen) kind) index)) (index_of (roll_of kinds (seen_in seen)) id)
    pub others : (id : ℕ) (other : Name) → bytes_eq other kind ≡ false → (seen_by left).part id other ≡ (seen_by seen).part id other
    pub one_more : (seen_by left).global name ≡ option_map (λ n. counted (n + 1)) (option_and_then number_in ((seen_by seen).global name))
    pub globals : (other : Name) → bytes_eq other name ≡ false → (seen_by left).global other ≡ (seen_by seen).global other
    pub lawful : access.writes ≡ kind ∷ [] → ((n : ℕ) → (meaning.sense system).admits kind (counting n) ≡ true) → IsLentFit kinds meaning system seen
        → meaning.does system (seen_by seen) (leaves (seen_by left) []) → LeavesLawfully kinds meaning system seen left []

  pub turn-leaves : (kind : Name) → is_among kind columns.part_names ≡ true → declares access kind ≡ true → (made : ℕ → ℕ → ℕ) (seen left : Holding V) → CountsAndWrites columns name kind made seen left
      → AreNumbers (column_of kinds (seen_in left) kind) → TurnLeaves kind made seen left
  turn-leaves kind among declares_kind made seen left turn numbers = record {
    roll = written-roll kinds apart kind among turn.writes.after turn.between left written ∙ first.roll;
    numbers = λ id. numbers-left kinds apart kind among made turn.between left turn.writes numbers access declares_kind id
        ∙ ap (λ roll. option_and_then (λ index. option_map (λ n. counting (made index n)) (number_at (column_of kinds (seen_in turn.between) kind) index)) (index_of roll id)) first.roll
        ∙ ap (λ held. option_and_then (λ index. option_map (λ n. counting (made index n)) (number_at (column_in kinds kind held) index)) (index_of (roll_of kinds (seen_in seen)) id)) (first.there kind among);
    others = λ id other differ. left-others kinds apart kind among turn.writes.after turn.between left written access id other differ ∙ first.part id other;
    one_more = left-globals kinds apart kind among turn.writes.after turn.between left written access name ∙ first.one_more ∙ ap (option_map (λ n. counted (n + 1))) (sym (count-seen seen));
    globals = λ other differ. left-globals kinds apart kind among turn.writes.after turn.between left written access other ∙ first.globals other differ;
    lawful = λ alone admits lent does. record {
      did = does;
      lawful = lawful-after (rules_by (meaning.sense system)) (seen_by seen) (seen_by turn.between) (seen_by left) [] (ap ids_in first.roll) first.keeps
          (numbers-lawful kinds apart kind among made turn.between left turn.writes numbers access declares_kind (meaning.sense system) admits (first.fit lent.fit) []
          (All-nil (IsLawful (rules_by (meaning.sense system)))));
      within = λ one is writes. subst (λ k. IsWithin kinds (roll_of kinds (seen_in left)) (column_of kinds (seen_in left) k)) (only alone one writes) (within lent);
      shown = λ one is writes. subst (λ k. ShowsChanges kinds k seen left) (only alone one writes) shown;
    };
  }
    where
      first : Counted seen turn.between
      first = one-counted seen turn.between turn.counts

      written : WritesOne kinds kind turn.writes.after turn.between left
      written = numbers-write kinds apart kind among made turn.between left turn.writes

      only : access.writes ≡ kind ∷ [] → (one : Name) → is_among one access.writes ≡ true → kind ≡ one
      only alone one writes = among-one kind one (subst (λ names. is_among one names ≡ true) alone writes)

      within : IsLentFit kinds meaning system seen → IsWithin kinds (roll_of kinds (seen_in left)) (column_of kinds (seen_in left) kind)
      within lent = numbers-within kinds apart kind among made turn.between left turn.writes numbers
          (subst (λ roll. IsWithin kinds roll (column_of kinds (seen_in turn.between) kind)) (sym first.roll)
          (subst (λ held. IsWithin kinds (roll_of kinds (seen_in seen)) (column_in kinds kind held)) (sym (first.there kind among)) (lent.within kind among declares_kind)))

      shown : ShowsChanges kinds kind seen left
      shown = subst (λ held. Shows (column_in kinds kind) (events_in kinds kind) (emits_in kinds kind) held (readable (left (columns.part_id kind)))) (first.there kind among)
          (numbers-shown kinds apart kind among made turn.between left turn.writes)
