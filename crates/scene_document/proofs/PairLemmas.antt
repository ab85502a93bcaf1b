-- Pairs of names that ascend, as members.
use Rattle.std.proofs.Common.{◌≡◌, suc, List, [], ◌∷◌, ◌++◌, Option, Some, None, option_map, Ordering, Less, Equal, Greater, refl, sym, ◌∙◌, ap, arith}
use Rattle.std.specs.List.{All, filter_map, cons_option, fold}
use Rattle.std.specs.Ordering.{nat_cmp, match_ordering, ordering_reverse}
use Rattle.std.specs.Cmp.Lexicographic.{slice_cmp}
use Rattle.std.proofs.lemmas.Cmp.{nat_list_cmp_total}
use Rattle.std.proofs.lemmas.List.{append-nil, append_assoc}
use Rattle.serde_json.specs.Data.{Members, no_members, member, put}
use Rattle.scene_model.specs.Parts.{Json, Name}
use Rattle.scene_model.specs.Laws.{Ascend}
use Rattle.scene_document.specs.Drafts.{members_list}
use Rattle.scene_document.specs.Texts.{members_with}

-- a key comes after all keys of members
abbrev pub Past : Name → Members → Type 0
Past key no_members = Unit {0}
Past key (member other value members) = (slice_cmp nat_cmp key other ≡ Greater) × Past key members

-- all keys of a list come after a key
abbrev pub Above : Name → List (Name × Json) → Type 0
Above key [] = Unit {0}
Above key (pair ∷ pairs) = (slice_cmp nat_cmp pair.0 key ≡ Greater) × Above key pairs

-- the keys of a list ascend
abbrev pub Ordered : List (Name × Json) → Type 0
Ordered [] = Unit {0}
Ordered (pair ∷ pairs) = Above pair.0 pairs × Ordered pairs

-- all keys of a list come after those of members
abbrev pub AllPast : List (Name × Json) → Members → Type 0
AllPast [] _ = Unit {0}
AllPast (pair ∷ pairs) members = Past pair.0 members × AllPast pairs members

-- a member whose key comes after all others goes in last
pub put-last : (key : Name) (value : Json) (members : Members) → Past key members → members_list (put key value members) ≡ members_list members ++ (key, value) ∷ []
put-last key value no_members past = refl
put-last key value (member other one members) past = ap (λ o. members_list (match_ordering o (member key value (member other one members)) (member other value members) (member other one (put key value members)))) past.0 ∙ ap (λ rest. (other, one) ∷ rest) (put-last key value members past.1)

-- a key that comes after all comes after all with one more that it comes after
past-put : (key other : Name) (value : Json) (members : Members) → slice_cmp nat_cmp key other ≡ Greater → Past key members → Past key (put other value members)
past-put key other value no_members above past = (above, tt)
past-put key other value (member name one members) above past = here (past-put key other value members above past.1) (slice_cmp nat_cmp other name)
  where
    here : Past key (put other value members) → (o : Ordering) → Past key (match_ordering o (member other value (member name one members)) (member name value members) (member name one (put other value members)))
    here later Less = (above, past)
    here later Equal = past
    here later Greater = (past.0, later)

all-past-put : (pairs : List (Name × Json)) (key : Name) (value : Json) (members : Members) → Above key pairs → AllPast pairs members → AllPast pairs (put key value members)
all-past-put [] key value _ above past = tt
all-past-put (pair ∷ pairs) key value members above past = (past-put pair.0 key value members above.0 past.0, all-past-put pairs key value members above.1 past.1)

-- members of pairs whose keys ascend are those pairs
folded : (pairs : List (Name × Json)) (members : Members) → Ordered pairs → AllPast pairs members → members_list (fold (λ some pair. put pair.0 pair.1 some) members pairs) ≡ members_list members ++ pairs
folded [] members ordered past = sym (append-nil (members_list members))
folded (pair ∷ pairs) members ordered past = folded pairs (put pair.0 pair.1 members) ordered.1 (all-past-put pairs pair.0 pair.1 members ordered.0 past.1) ∙ (ap (λ some. some ++ pairs) (put-last pair.0 pair.1 members past.0) ∙ append_assoc (members_list members) (pair ∷ []) pairs)

all-past-none : (pairs : List (Name × Json)) → AllPast pairs no_members
all-past-none [] = tt
all-past-none (pair ∷ pairs) = (tt, all-past-none pairs)

pub members-pairs : (pairs : List (Name × Json)) → Ordered pairs → members_list (members_with pairs) ≡ pairs
members-pairs pairs ordered = folded pairs no_members ordered (all-past-none pairs)

module _ {V : Type 0} (written : V → Json) (get : Name → Option V) where
  -- what stands under names, as pairs of what is written
  abbrev pub pairs_of : List Name → List (Name × Json)
  pairs_of names = filter_map (λ name. option_map (λ value. (name, written value)) (get name)) names

  above-pairs : (key : Name) (names : List Name) → All (λ name. slice_cmp nat_cmp key name ≡ Less) names → Above key (pairs_of names)
  above-pairs key [] all = tt
  above-pairs key (name ∷ names) all = here (above-pairs key names (λ k d within. all (suc k) d (omega arith))) (all 0 name (omega arith)) (get name)
    where
      here : Above key (pairs_of names) → slice_cmp nat_cmp key name ≡ Less → (o : Option V) → Above key (cons_option (option_map (λ value. (name, written value)) o) (pairs_of names))
      here later less None = later
      here later less (Some value) = (nat_list_cmp_total.antisymm name key ∙ ap ordering_reverse less, later)

  pub ordered-pairs : (names : List Name) → Ascend names → Ordered (pairs_of names)
  ordered-pairs [] ascend = tt
  ordered-pairs (name ∷ names) ascend = here (ordered-pairs names (λ i j d less within. ascend (suc i) (suc j) d (omega arith) (omega arith))) (above-pairs name names (λ k d within. ascend 0 (suc k) d (omega arith) (omega arith))) (get name)
    where
      here : Ordered (pairs_of names) → Above name (pairs_of names) → (o : Option V) → Ordered (cons_option (option_map (λ value. (name, written value)) o) (pairs_of names))
      here later above None = later
      here later above (Some value) = (above, later)
