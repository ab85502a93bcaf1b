-- Plain columns whose kinds and globals have numbers of their own: no two of what a world of them holds stand under one id.
use Rattle.std.proofs.Common.{◌≡◌, ℕ, Bool, true, false, cond, not, eqb, ◌||◌, ◌&&◌, ◌⊎◌, inl, inr, List, [], ◌∷◌, map, Option, Some, None, refl, sym, ap, ◌∙◌, subst}
use Rattle.std.specs.Prelude.{nat_lt}
use Rattle.std.specs.List.{list_any, list_all}
use Rattle.std.specs.Option.{option_map_or}
use Rattle.std.specs.Ordering.{nat_cmp}
use Rattle.std.specs.Str.{bytes_eq}
use Rattle.std.specs.Cmp.{unsigned_tied}
use Rattle.std.proofs.lemmas.Bool.{true≢false, false≢true, eqb-true, eq-eqb, and_parts, or_cases, or_right}
use Rattle.std.proofs.lemmas.Slice.Eq.{bytes_eq-Decides}
use Rattle.shred_world.specs.ResourceIds.{id_of, same_id}
use Rattle.shred_world.proofs.CallerLemmas.{is_eq-then}
use Rattle.scene_model.specs.Parts.{Name, Part, is_among}
use Rattle.scene_world.specs.Places.{Places, kinds_of}
use Rattle.scene_world.specs.Lent.{Place, entities, markers, allocator, parts, value, queue, id_of_place, is_known, same_place, StandApart}
use Rattle.scene_world.specs.Columns.{PlainKind, PlainGlobal, of_name, plain_columns}

-- whether no two of a list are the same
abbrev pub all_differ : {X : Type 0} → (X → X → Bool) → List X → Bool
all_differ same [] = true
all_differ same (x ∷ xs) = not (list_any (same x) xs) && all_differ same xs

-- whether kinds and globals have names and numbers of their own, above those of the entities, the markers, the allocator and the queues
abbrev pub are_plain : {V : Type 0} → List (PlainKind V) → List (PlainGlobal V) → Bool
are_plain kinds globals =
    all_differ bytes_eq (map (λ kind. kind.name) kinds)
    && (all_differ eqb (map (λ kind. kind.number) kinds) && (all_differ eqb (map (λ global. global.number) globals)
    && (list_all (λ kind. not (list_any (eqb kind.number) (map (λ global. global.number) globals))) kinds
    && (list_all (λ kind. nat_lt 3 kind.number) kinds && list_all (λ global. nat_lt 3 global.number) globals))))

-- the entities, the markers, the allocator and the queues stand under the numbers from 0 to 3
pub record HasOwnNumbers {V D : Type 0} (places : Places V D) : Type 0 where
  pub entities : places.entities_id ≡ id_of 0 0
  pub markers : places.markers_id ≡ id_of 1 0
  pub allocator : places.allocator_id ≡ id_of 2 0
  pub queue : (position : ℕ) → places.queue_id position ≡ id_of 3 position

-- ---- lemmas on entries and their names

-- one of a list
abbrev pub IsEntry : {E : Type 0} → E → List E → Type 0
IsEntry e [] = ⊥
IsEntry e (x ∷ xs) = (x ≡ e) ⊎ IsEntry e xs

pub not-true : (b : Bool) → not b ≡ true → b ≡ true → ⊥
not-true true e f = false≢true e
not-true false e f = false≢true f

module _ {E X : Type 0} (same : X → X → Bool) (turned : (x y : X) → same x y ≡ true → same y x ≡ true) (f : E → X) where
  pub any-entry : (x : X) (e : E) (entries : List E) → IsEntry e entries → same x (f e) ≡ true → list_any (same x) (map f entries) ≡ true
  any-entry x e [] is s = absurd is
  any-entry x e (first ∷ entries) (inl here) s = ap (λ b. b || list_any (same x) (map f entries)) (subst (λ one. same x (f one) ≡ true) (sym here) s)
  any-entry x e (first ∷ entries) (inr there) s = or_right (same x (f first)) (list_any (same x) (map f entries)) (any-entry x e entries there s)

  -- where all differ, entries that are the same are one
  pub one-entry : (e d : E) (entries : List E) → all_differ same (map f entries) ≡ true → IsEntry e entries → IsEntry d entries → same (f e) (f d) ≡ true → e ≡ d
  one-entry e d [] differ is other s = absurd is
  one-entry e d (first ∷ entries) differ (inl is) (inl other) s = sym is ∙ other
  one-entry e d (first ∷ entries) differ (inl is) (inr other) s =
      absurd (not-true (list_any (same (f first)) (map f entries)) (and_parts (not (list_any (same (f first)) (map f entries))) (all_differ same (map f entries)) differ).0
      (any-entry (f first) d entries other (subst (λ one. same (f one) (f d) ≡ true) (sym is) s)))
  one-entry e d (first ∷ entries) differ (inr is) (inl other) s =
      absurd (not-true (list_any (same (f first)) (map f entries)) (and_parts (not (list_any (same (f first)) (map f entries))) (all_differ same (map f entries)) differ).0
      (any-entry (f first) e entries is (subst (λ one. same (f one) (f e) ≡ true) (sym other) (turned (f e) (f d) s))))
  one-entry e d (first ∷ entries) differ (inr is) (inr other) s = one-entry e d entries (and_parts (not (list_any (same (f first)) (map f entries))) (all_differ same (map f entries)) differ).1 is other s

names-turned : (one other : Name) → bytes_eq one other ≡ true → bytes_eq other one ≡ true
names-turned one other e = (bytes_eq-Decides other one).1 (sym ((bytes_eq-Decides one other).0 e))

pub numbers-turned : (n m : ℕ) → eqb n m ≡ true → eqb m n ≡ true
numbers-turned n m e = eq-eqb m n (sym (eqb-true n m e))

-- what holds of all entries holds of each
of-all : {E : Type 0} (test : E → Bool) (e : E) (entries : List E) → list_all test entries ≡ true → IsEntry e entries → test e ≡ true
of-all test e [] all is = absurd is
of-all test e (first ∷ entries) all (inl here) = subst (λ one. test one ≡ true) here (and_parts (test first) (list_all test entries) all).0
of-all test e (first ∷ entries) all (inr there) = of-all test e entries (and_parts (test first) (list_all test entries) all).1 there

module _ {E : Type 0} (named : E → Name) where
  -- the entry of a name
  abbrev pub entry_of : List E → Name → Option E
  entry_of [] name = None
  entry_of (only ∷ []) name = Some only
  entry_of (first ∷ next ∷ more) name = cond (bytes_eq name (named first)) (Some first) (entry_of (next ∷ more) name)

  -- what the entry of a name says is read of it
  pub read-entry : {X : Type 0} (read : E → X) (none : X) (entries : List E) (name : Name) → of_name named read none entries name ≡ option_map_or read (entry_of entries name) none
  read-entry read none [] name = refl
  read-entry read none (only ∷ []) name = refl
  read-entry read none (first ∷ next ∷ more) name = by (bytes_eq name (named first)) (read-entry read none (next ∷ more) name)
    where
      by : (b : Bool) → of_name named read none (next ∷ more) name ≡ option_map_or read (entry_of (next ∷ more) name) none
          → cond b (read first) (of_name named read none (next ∷ more) name) ≡ option_map_or read (cond b (Some first) (entry_of (next ∷ more) name)) none
      by true e = refl
      by false e = e

  -- a name among those of the entries has one of them
  pub record HasEntry (entries : List E) (name : Name) : Type 0 where
    pub entry : E
    pub found : entry_of entries name ≡ Some entry
    pub is : IsEntry entry entries
    pub named_so : named entry ≡ name

  pub has-entry : (entries : List E) (name : Name) → is_among name (map named entries) ≡ true → HasEntry entries name
  has-entry [] name known = absurd (false≢true known)
  has-entry (only ∷ []) name known = by (or_cases (bytes_eq name (named only)) false known)
    where
      by : (bytes_eq name (named only) ≡ true) ⊎ (false ≡ true) → HasEntry (only ∷ []) name
      by (inl same) = record { entry = only; found = refl; is = inl refl; named_so = sym ((bytes_eq-Decides name (named only)).0 same) }
      by (inr never) = absurd (false≢true never)
  has-entry (first ∷ next ∷ more) name known = by (bytes_eq name (named first)) refl known (has-entry (next ∷ more) name)
    where
      by : (b : Bool) → bytes_eq name (named first) ≡ b → (b || is_among name (map named (next ∷ more))) ≡ true → (is_among name (map named (next ∷ more)) ≡ true → HasEntry (next ∷ more) name) → HasEntry (first ∷ next ∷ more) name
      by true same e later = record {
        entry = first;
        found = ap (λ b. cond b (Some first) (entry_of (next ∷ more) name)) same;
        is = inl refl;
        named_so = sym ((bytes_eq-Decides name (named first)).0 same);
      }
      by false differ e later = let one = later e in record {
        entry = one.entry;
        found = ap (λ b. cond b (Some first) (entry_of (next ∷ more) name)) differ ∙ one.found;
        is = inr one.is;
        named_so = one.named_so;
      }

  entry-known : (e : E) (entries : List E) → IsEntry e entries → is_among (named e) (map named entries) ≡ true
  entry-known e [] is = absurd is
  entry-known e (first ∷ entries) (inl here) = ap (λ b. b || is_among (named e) (map named entries)) ((bytes_eq-Decides (named e) (named first)).1 (ap named (sym here)))
  entry-known e (first ∷ entries) (inr there) = or_right (bytes_eq (named e) (named first)) (is_among (named e) (map named entries)) (entry-known e entries there)

  -- the entry of an entry's name is that entry, where names differ
  pub own-entry : (e : E) (entries : List E) → all_differ bytes_eq (map named entries) ≡ true → IsEntry e entries → (is_among (named e) (map named entries) ≡ true) × (entry_of entries (named e) ≡ Some e)
  own-entry e entries differ is =
      let known = entry-known e entries is in
      let one = has-entry entries (named e) known in
      (known, one.found ∙ ap Some (one-entry bytes_eq names-turned named one.entry e entries differ one.is is ((bytes_eq-Decides (named one.entry) (named e)).1 one.named_so)))

-- ---- numbers

same-numbers : (n d m c : ℕ) → same_id (id_of n d) (id_of m c) ≡ (eqb n m && eqb d c)
same-numbers n d m c = is_eq-then (nat_cmp n m) (nat_cmp d c) ∙ (λ i. unsigned_tied n m i && unsigned_tied d c i)

-- numbers that are apart make ids that are
pub apart-ids : (n d m c : ℕ) → eqb n m ≡ false → same_id (id_of n d) (id_of m c) ≡ false
apart-ids n d m c e = same-numbers n d m c ∙ ap (λ b. b && eqb d c) e

above-three : (n m : ℕ) → nat_lt 3 n ≡ false → nat_lt 3 m ≡ true → (eqb n m ≡ false) × (eqb m n ≡ false)
above-three n m low high = (by (eqb n m) refl, back (eqb m n) refl)
  where
    by : (b : Bool) → eqb n m ≡ b → eqb n m ≡ false
    by true e = absurd (false≢true (sym low ∙ ap (nat_lt 3) (eqb-true n m e) ∙ high))
    by false e = e

    back : (b : Bool) → eqb m n ≡ b → eqb m n ≡ false
    back true e = absurd (false≢true (sym low ∙ ap (nat_lt 3) (sym (eqb-true m n e)) ∙ high))
    back false e = e

and-true : (b : Bool) → (b && true) ≡ b
and-true true = refl
and-true false = refl

module _ {E : Type 0} (named : E → Name) (number : E → ℕ) (entries : List E) where
  -- the number of a name is that of its entry
  pub numbered : (name : Name) (e : HasEntry named entries name) → of_name named number 0 entries name ≡ number e.entry
  numbered name e = read-entry named number 0 entries name ∙ ap (λ o. option_map_or number o 0) e.found

  -- two names of entries whose numbers differ stand under one id where they are one name
  names-apart : all_differ eqb (map number entries) ≡ true → (one other : Name) → is_among one (map named entries) ≡ true → is_among other (map named entries) ≡ true
      → same_id (id_of (of_name named number 0 entries one) 0) (id_of (of_name named number 0 entries other) 0) ≡ bytes_eq one other
  names-apart differ one other known known_other =
      same-numbers (of_name named number 0 entries one) 0 (of_name named number 0 entries other) 0 ∙ and-true (eqb (of_name named number 0 entries one) (of_name named number 0 entries other))
      ∙ by (eqb (of_name named number 0 entries one) (of_name named number 0 entries other)) refl
    where
      a : HasEntry named entries one
      a = has-entry named entries one known

      b : HasEntry named entries other
      b = has-entry named entries other known_other

      by : (t : Bool) → eqb (of_name named number 0 entries one) (of_name named number 0 entries other) ≡ t → eqb (of_name named number 0 entries one) (of_name named number 0 entries other) ≡ bytes_eq one other
      by true e =
          let numbers : number a.entry ≡ number b.entry = sym (numbered one a) ∙ eqb-true (of_name named number 0 entries one) (of_name named number 0 entries other) e ∙ numbered other b in
          let same : a.entry ≡ b.entry = one-entry eqb numbers-turned number a.entry b.entry entries differ a.is b.is (eq-eqb (number a.entry) (number b.entry) numbers) in
          e ∙ sym ((bytes_eq-Decides one other).1 (sym a.named_so ∙ ap named same ∙ b.named_so))
      by false e = e ∙ sym (off (bytes_eq one other) refl)
        where
          off : (t : Bool) → bytes_eq one other ≡ t → bytes_eq one other ≡ false
          off true f = absurd (false≢true (sym e ∙ eq-eqb (of_name named number 0 entries one) (of_name named number 0 entries other) (ap (of_name named number 0 entries) ((bytes_eq-Decides one other).0 f))))
          off false f = f

  -- a number up to 3 is that of no name
  low-apart : list_all (λ e. nat_lt 3 (number e)) entries ≡ true → (n d : ℕ) → nat_lt 3 n ≡ false → (name : Name) → is_among name (map named entries) ≡ true
      → (same_id (id_of n d) (id_of (of_name named number 0 entries name) 0) ≡ false) × (same_id (id_of (of_name named number 0 entries name) 0) (id_of n d) ≡ false)
  low-apart high n d low name known =
      let e = has-entry named entries name known in
      let above : nat_lt 3 (of_name named number 0 entries name) ≡ true = ap (nat_lt 3) (numbered name e) ∙ of-all (λ one. nat_lt 3 (number one)) e.entry entries high e.is in
      let both = above-three n (of_name named number 0 entries name) low above in
      (apart-ids n d (of_name named number 0 entries name) 0 both.0, apart-ids (of_name named number 0 entries name) 0 n d both.1)

-- ---- the law

-- what the test of kinds and globals says
pub record PlainSo {V : Type 0} (kinds : List (PlainKind V)) (globals : List (PlainGlobal V)) : Type 0 where
  pub names : all_differ bytes_eq (map (λ kind. kind.name) kinds) ≡ true
  pub kind_numbers : all_differ eqb (map (λ kind. kind.number) kinds) ≡ true
  pub global_numbers : all_differ eqb (map (λ global. global.number) globals) ≡ true
  pub apart : list_all (λ kind. not (list_any (eqb kind.number) (map (λ global. global.number) globals))) kinds ≡ true
  pub high_kinds : list_all (λ kind. nat_lt 3 kind.number) kinds ≡ true
  pub high_globals : list_all (λ global. nat_lt 3 global.number) globals ≡ true

pub plain-so : {V : Type 0} (kinds : List (PlainKind V)) (globals : List (PlainGlobal V)) → are_plain kinds globals ≡ true → PlainSo kinds globals
plain-so kinds globals plain = by (all_differ bytes_eq (map (λ kind. kind.name) kinds)) (all_differ eqb (map (λ kind. kind.number) kinds)) (all_differ eqb (map (λ global. global.number) globals))
    (list_all (λ kind. not (list_any (eqb kind.number) (map (λ global. global.number) globals))) kinds) (list_all (λ kind. nat_lt 3 kind.number) kinds) (list_all (λ global. nat_lt 3 global.number) globals) refl refl refl refl refl refl plain
  where
    by : (a b c d e f : Bool) → all_differ bytes_eq (map (λ kind. kind.name) kinds) ≡ a → all_differ eqb (map (λ kind. kind.number) kinds) ≡ b → all_differ eqb (map (λ global. global.number) globals) ≡ c
        → list_all (λ kind. not (list_any (eqb kind.number) (map (λ global. global.number) globals))) kinds ≡ d → list_all (λ kind. nat_lt 3 kind.number) kinds ≡ e → list_all (λ global. nat_lt 3 global.number) globals ≡ f
        → (a && (b && (c && (d && (e && f))))) ≡ true → PlainSo kinds globals
    by true true true true true true one two three four five six all = record { names = one; kind_numbers = two; global_numbers = three; apart = four; high_kinds = five; high_globals = six }
    by false b c d e f one two three four five six all = absurd (false≢true all)
    by true false c d e f one two three four five six all = absurd (false≢true all)
    by true true false d e f one two three four five six all = absurd (false≢true all)
    by true true true false e f one two three four five six all = absurd (false≢true all)
    by true true true true false f one two three four five six all = absurd (false≢true all)
    by true true true true true false one two three four five six all = absurd (false≢true all)

module _ {V D : Type 0} (places : Places V D) (part_of : D → Part) (owning : Name → Bool) (kinds : List (PlainKind V)) (globals : List (PlainGlobal V)) (own : HasOwnNumbers places) (plain : are_plain kinds globals ≡ true) where
  abbrev kind_number : Name → ℕ
  kind_number = of_name (λ (kind : PlainKind V). kind.name) (λ kind. kind.number) 0 kinds

  abbrev global_number : Name → ℕ
  global_number = of_name (λ (global : PlainGlobal V). global.name) (λ global. global.number) 0 globals

  abbrev IsKind : Name → Type 0
  IsKind name = is_among name (map (λ (kind : PlainKind V). kind.name) kinds) ≡ true

  abbrev IsGlobal : Name → Type 0
  IsGlobal name = is_among name (map (λ (global : PlainGlobal V). global.name) globals) ≡ true

  -- what the test says
  all_plain : PlainSo kinds globals
  all_plain = plain-so kinds globals plain

  -- the number of a kind is that of no global
  both-apart : (kind name : Name) → IsKind kind → IsGlobal name → eqb (kind_number kind) (global_number name) ≡ false
  both-apart kind name known known_global = by (eqb (kind_number kind) (global_number name)) refl
    where
      by : (t : Bool) → eqb (kind_number kind) (global_number name) ≡ t → eqb (kind_number kind) (global_number name) ≡ false
      by false e = e
      by true e =
          let k = has-entry (λ (one : PlainKind V). one.name) kinds kind known in
          let g = has-entry (λ (one : PlainGlobal V). one.name) globals name known_global in
          let same : eqb k.entry.number g.entry.number ≡ true =
          eq-eqb k.entry.number g.entry.number (sym (numbered (λ (one : PlainKind V). one.name) (λ one. one.number) kinds kind k) ∙ eqb-true (kind_number kind) (global_number name) e ∙ numbered (λ (one : PlainGlobal V). one.name) (λ one. one.number) globals name g) in
          absurd (not-true (list_any (eqb k.entry.number) (map (λ (one : PlainGlobal V). one.number) globals)) (of-all (λ (one : PlainKind V). not (list_any (eqb one.number) (map (λ global. global.number) globals))) k.entry kinds all_plain.apart k.is)
          (any-entry eqb numbers-turned (λ (one : PlainGlobal V). one.number) k.entry.number g.entry globals g.is same))

  both-turned : (kind name : Name) → IsKind kind → IsGlobal name → eqb (global_number name) (kind_number kind) ≡ false
  both-turned kind name known known_global = by (eqb (global_number name) (kind_number kind)) refl
    where
      by : (t : Bool) → eqb (global_number name) (kind_number kind) ≡ t → eqb (global_number name) (kind_number kind) ≡ false
      by false e = e
      by true e = absurd (false≢true (sym (both-apart kind name known known_global) ∙ numbers-turned (global_number name) (kind_number kind) e))

  kind-low : (n d : ℕ) → nat_lt 3 n ≡ false → (name : Name) → IsKind name → (same_id (id_of n d) (id_of (kind_number name) 0) ≡ false) × (same_id (id_of (kind_number name) 0) (id_of n d) ≡ false)
  kind-low = low-apart (λ (kind : PlainKind V). kind.name) (λ kind. kind.number) kinds all_plain.high_kinds

  global-low : (n d : ℕ) → nat_lt 3 n ≡ false → (name : Name) → IsGlobal name → (same_id (id_of n d) (id_of (global_number name) 0) ≡ false) × (same_id (id_of (global_number name) 0) (id_of n d) ≡ false)
  global-low = low-apart (λ (global : PlainGlobal V). global.name) (λ global. global.number) globals all_plain.high_globals

  abbrev IsKnown : Place → Type 0
  IsKnown place = is_known (kinds_of places part_of (plain_columns owning kinds globals)) place ≡ true

  -- where each place stands
  number : Place → ℕ
  number entities = 0
  number markers = 1
  number allocator = 2
  number (queue position) = 3
  number (parts kind) = kind_number kind
  number (value name) = global_number name

  dynamic : Place → ℕ
  dynamic entities = 0
  dynamic markers = 0
  dynamic allocator = 0
  dynamic (queue position) = position
  dynamic (parts kind) = 0
  dynamic (value name) = 0

  pub plain-apart : StandApart (kinds_of places part_of (plain_columns owning kinds globals))
  unfolding number dynamic
  plain-apart one other known_one known_other =
      ap (λ id. same_id id (id_of_place (kinds_of places part_of (plain_columns owning kinds globals)) other)) (stands one) ∙ ap (same_id (id_of (number one) (dynamic one))) (stands other) ∙ by one other known_one known_other
    where
      stands : (place : Place) → id_of_place (kinds_of places part_of (plain_columns owning kinds globals)) place ≡ id_of (number place) (dynamic place)
      stands entities = own.entities
      stands markers = own.markers
      stands allocator = own.allocator
      stands (queue position) = own.queue position
      stands (parts kind) = refl
      stands (value name) = refl

      by : (one other : Place) → IsKnown one → IsKnown other → same_id (id_of (number one) (dynamic one)) (id_of (number other) (dynamic other)) ≡ same_place one other
      by entities entities k l = refl
      by entities markers k l = refl
      by entities allocator k l = refl
      by entities (queue q) k l = refl
      by entities (parts kind) k l = (kind-low 0 0 refl kind l).0
      by entities (value name) k l = (global-low 0 0 refl name l).0
      by markers entities k l = refl
      by markers markers k l = refl
      by markers allocator k l = refl
      by markers (queue q) k l = refl
      by markers (parts kind) k l = (kind-low 1 0 refl kind l).0
      by markers (value name) k l = (global-low 1 0 refl name l).0
      by allocator entities k l = refl
      by allocator markers k l = refl
      by allocator allocator k l = refl
      by allocator (queue q) k l = refl
      by allocator (parts kind) k l = (kind-low 2 0 refl kind l).0
      by allocator (value name) k l = (global-low 2 0 refl name l).0
      by (queue p) entities k l = refl
      by (queue p) markers k l = refl
      by (queue p) allocator k l = refl
      by (queue p) (queue q) k l = unsigned_tied p q
      by (queue p) (parts kind) k l = (kind-low 3 p refl kind l).0
      by (queue p) (value name) k l = (global-low 3 p refl name l).0
      by (parts kind) entities k l = (kind-low 0 0 refl kind k).1
      by (parts kind) markers k l = (kind-low 1 0 refl kind k).1
      by (parts kind) allocator k l = (kind-low 2 0 refl kind k).1
      by (parts kind) (queue q) k l = (kind-low 3 q refl kind k).1
      by (parts kind) (parts other) k l = names-apart (λ (one : PlainKind V). one.name) (λ one. one.number) kinds all_plain.kind_numbers kind other k l
      by (parts kind) (value name) k l = apart-ids (kind_number kind) 0 (global_number name) 0 (both-apart kind name k l)
      by (value name) entities k l = (global-low 0 0 refl name k).1
      by (value name) markers k l = (global-low 1 0 refl name k).1
      by (value name) allocator k l = (global-low 2 0 refl name k).1
      by (value name) (queue q) k l = (global-low 3 q refl name k).1
      by (value name) (parts kind) k l = apart-ids (global_number name) 0 (kind_number kind) 0 (both-turned kind name l k)
      by (value name) (value other) k l = names-apart (λ (one : PlainGlobal V). one.name) (λ one. one.number) globals all_plain.global_numbers name other k l
