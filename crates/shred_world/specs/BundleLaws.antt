-- What callers of any bundle rely on, and how the laws of bundles follow from those of their parts.
use Rattle.std.proofs.Common.{◌≡◌, Bool, true, false, Option, Some, None, List, [], ◌∷◌, ◌++◌, refl, sym, ap, ◌∙◌, subst}
use Rattle.std.specs.Prelude.{is_none, if◌then◌else◌, ◌||◌}
use Rattle.std.specs.Option.{option_and_then, option_map_or}
use Rattle.shred_world.specs.declared.resource_id.ResourceId.{ResourceId}
use Rattle.shred_world.specs.ResourceIds.{same_id}
use Rattle.shred_world.specs.SameIds.{same_id-is, same_id-itself}
use Rattle.shred_world.specs.Bundles.{Slot, absent, out, shared, owned, Holding, takable, with_slot, is_listed, unless_there, lack_writing, unlisted-append}
use Rattle.shred_world.specs.Bundles.{where_there, IsThereUnless, given_bundle, CanGiveBundle}
use Rattle.shred_world.specs.Leaving.{IsLeft, Leaves}

-- a bundle leaves the ids that it doesn't write, and may be given back with other values: what was taken out has then come back
pub record IsLawful {V B : Type 0} (write_ids : List ResourceId) (left : Holding V → Holding V) (fits : B → Holding V → Type 0)
    (given : B → Holding V → Holding V) (can_give : B → Holding V → Type 0) (alike : B → B → Type 0) : Type 0 where
  -- fetching and giving back leave each id that it doesn't write
  pub left_others : (w : Holding V) (q : ResourceId) → is_listed write_ids q ≡ false → left w q ≡ w q
  pub given_others : (bundle : B) (w : Holding V) (q : ResourceId) → is_listed write_ids q ≡ false → given bundle w q ≡ w q
  -- it may be given back as it is
  pub alike_itself : (bundle : B) → alike bundle bundle
  -- a bundle like the one that was fetched can be given back to what the fetch left, also where other values have come back there
  pub can_come_back : (bundle changed : B) (w now : Holding V) → fits bundle w → alike bundle changed → Leaves (left w) now → can_give changed now
  -- and then each value that may be taken out has come back, or another in its place, and the others are as they were
  pub comes_back : (bundle changed : B) (w now : Holding V) → fits bundle w → alike bundle changed → Leaves (left w) now → Leaves w (given changed now)

-- a bundle that takes nothing out
pub lawful_reading : {V B : Type 0} {fits : B → Holding V → Type 0} → IsLawful {V = V} {B = B} [] (λ w. w) fits (λ _ w. w) (λ _ _. Unit {0}) (λ _ _. Unit {0})
lawful_reading = record {
  left_others = λ w q e. refl;
  given_others = λ b w q e. refl;
  alike_itself = λ b. tt;
  can_come_back = λ b c w now f a l. tt;
  comes_back = λ b c w now f a l. l;
}

-- two bundles, the first of which is fetched first and given back last
pub lawful_both : {V A B : Type 0} {ids others : List ResourceId} {left left' : Holding V → Holding V} {fits : A → Holding V → Type 0} {fits' : B → Holding V → Type 0}
    {given : A → Holding V → Holding V} {given' : B → Holding V → Holding V} {can : A → Holding V → Type 0} {can' : B → Holding V → Type 0}
    {alike : A → A → Type 0} {alike' : B → B → Type 0}
    → IsLawful ids left fits given can alike → IsLawful others left' fits' given' can' alike'
    → IsLawful {B = A × B} (ids ++ others) (λ w. left' (left w)) (λ b w. fits b.0 w × fits' b.1 (left w)) (λ b w. given b.0 (given' b.1 w))
    (λ b w. can' b.1 w × can b.0 (given' b.1 w)) (λ b c. alike b.0 c.0 × alike' b.1 c.1)
lawful_both {ids = ids} {others = others} {left = left} {given' = given'} one other = record {
  left_others = λ w q e. let p = unlisted-append ids others q e in other.left_others (left w) q p.1 ∙ one.left_others w q p.0;
  given_others = λ b w q e. let p = unlisted-append ids others q e in one.given_others b.0 (given' b.1 w) q p.0 ∙ other.given_others b.1 w q p.1;
  alike_itself = λ b. (one.alike_itself b.0, other.alike_itself b.1);
  can_come_back = λ b c w now f a l. (
    other.can_come_back b.1 c.1 (left w) now f.1 a.1 l,
    one.can_come_back b.0 c.0 w (given' c.1 now) f.0 a.0 (other.comes_back b.1 c.1 (left w) now f.1 a.1 l),
  );
  comes_back = λ b c w now f a l. one.comes_back b.0 c.0 w (given' c.1 now) f.0 a.0 (other.comes_back b.1 c.1 (left w) now f.1 a.1 l);
}

-- a bundle that stands for another
pub lawful_by : {V A B : Type 0} {ids : List ResourceId} {left : Holding V → Holding V} {fits : B → Holding V → Type 0} {given : B → Holding V → Holding V}
    {can : B → Holding V → Type 0} {alike : B → B → Type 0} (of : A → B) → IsLawful ids left fits given can alike
    → IsLawful ids left (λ a. fits (of a)) (λ a. given (of a)) (λ a. can (of a)) (λ a c. alike (of a) (of c))
lawful_by of one = record {
  left_others = one.left_others;
  given_others = λ a. one.given_others (of a);
  alike_itself = λ a. one.alike_itself (of a);
  can_come_back = λ a c. one.can_come_back (of a) (of c);
  comes_back = λ a c. one.comes_back (of a) (of c);
}

module _ {V : Type 0} where
  -- what was taken out is still out
  still_out : (w now : Holding V) (id : ResourceId) → Leaves (with_slot w id out) now → now id ≡ out
  still_out w now id left = at (same_id id id) (same_id-itself id) (left id)
    where
      at : (b : Bool) → b ≡ true → IsLeft (if b then out else w id) (now id) → now id ≡ out
      at true e l = l
      at false e l = cc

  -- a value that was taken out comes back, or another in its place
  value_comes_back : (w now : Holding V) (id : ResourceId) (v x : V) → w id ≡ owned v → Leaves (with_slot w id out) now → Leaves w (with_slot now id (owned x))
  value_comes_back w now id v x there left q = at (same_id q id) refl (left q)
    where
      at : (b : Bool) → same_id q id ≡ b → IsLeft (if b then out else w q) (now q) → IsLeft (w q) (if b then owned x else now q)
      at true e l = let P : Slot V → Type 0 = λ slot. IsLeft slot (owned x) in subst P (sym (ap w (same_id-is q id e) ∙ there)) (x, refl)
      at false e l = l

  -- an id that isn't the one written keeps its slot
  slot_others : (w : Holding V) (id : ResourceId) (slot : Slot V) (q : ResourceId) → is_listed (id ∷ []) q ≡ false → with_slot w id slot q ≡ w q
  slot_others w id slot q e = at (same_id q id) e
    where
      at : (b : Bool) → (b || false) ≡ false → (if b then slot else w q) ≡ w q
      at true e = cc
      at false e = refl

-- an optional bundle is there where the other is, and like it
abbrev pub AlikeBundle : {B : Type 0} → (B → B → Type 0) → Option B → Option B → Type 0
AlikeBundle alike None None = Unit {0}
AlikeBundle alike None (Some changed) = ⊥
AlikeBundle alike (Some bundle) None = ⊥
AlikeBundle alike (Some bundle) (Some changed) = alike bundle changed

module _ {V B : Type 0} (id : ResourceId) (value : B → V) where
  -- a bundle that takes the value at an id out
  pub lawful_writing : IsLawful (id ∷ []) (λ w. with_slot w id out) (λ b w. w id ≡ owned (value b)) (λ b w. with_slot w id (owned (value b))) (λ _ w. w id ≡ out) (λ _ _. Unit {0})
  lawful_writing = record {
    left_others = λ w q e. slot_others w id out q e;
    given_others = λ b w q e. slot_others w id (owned (value b)) q e;
    alike_itself = λ b. tt;
    can_come_back = λ b c w now f a l. still_out w now id l;
    comes_back = λ b c w now f a l. value_comes_back w now id (value b) (value c) f l;
  }

  edit_there : (w other now : Holding V) (lack : Option ResourceId) → true ≡ is_none lack → Leaves (option_map_or (λ _. w) lack other) now → Leaves other now
  edit_there w other now None e left = left
  edit_there w other now (Some lacked) e left = cc

  no_edit : (w other now : Holding V) (lack : Option ResourceId) → false ≡ is_none lack → Leaves (option_map_or (λ _. w) lack other) now → Leaves w now
  no_edit w other now None e left = cc
  no_edit w other now (Some lacked) e left = left

  alike_bundle_itself : (b : Option B) → AlikeBundle (λ _ _. Unit {0}) b b
  alike_bundle_itself None = tt
  alike_bundle_itself (Some b) = tt

  module _ {R : Type 0} (part : V → Option R) where
    owned_there : (slot : Slot V) → true ≡ is_none (unless_there (option_and_then part (takable slot)) id) → (v : V) × (slot ≡ owned v)
    owned_there absent e = cc
    owned_there out e = cc
    owned_there (shared v) e = cc
    owned_there (owned v) e = (v, refl)

    edit_others : (w : Holding V) (q : ResourceId) (lack : Option ResourceId) → is_listed (id ∷ []) q ≡ false → option_map_or (λ _. w) lack (with_slot w id out) q ≡ w q
    edit_others w q None e = slot_others w id out q e
    edit_others w q (Some lacked) e = refl

    given_others : (b : Option B) (w : Holding V) (q : ResourceId) → is_listed (id ∷ []) q ≡ false → given_bundle (λ b w. with_slot w id (owned (value b))) b w q ≡ w q
    given_others None w q e = refl
    given_others (Some b) w q e = slot_others w id (owned (value b)) q e

    can_come : (b c : Option B) (w now : Holding V) → IsThereUnless b (lack_writing part id w) → AlikeBundle (λ _ _. Unit {0}) b c
        → Leaves (where_there (lack_writing part id) (λ w. with_slot w id out) w) now → CanGiveBundle (λ _ w. w id ≡ out) c now
    can_come None None w now there alike left = tt
    can_come None (Some c) w now there alike left = absurd alike
    can_come (Some b) None w now there alike left = absurd alike
    can_come (Some b) (Some c) w now there alike left = still_out w now id (edit_there w (with_slot w id out) now (lack_writing part id w) there left)

    come : (b c : Option B) (w now : Holding V) → IsThereUnless b (lack_writing part id w) → AlikeBundle (λ _ _. Unit {0}) b c
        → Leaves (where_there (lack_writing part id) (λ w. with_slot w id out) w) now → Leaves w (given_bundle (λ b w. with_slot w id (owned (value b))) c now)
    come None None w now there alike left = no_edit w (with_slot w id out) now (lack_writing part id w) there left
    come None (Some c) w now there alike left = absurd alike
    come (Some b) None w now there alike left = absurd alike
    come (Some b) (Some c) w now there alike left =
        let found = owned_there (w id) there in
        value_comes_back w now id found.0 (value c) found.1 (edit_there w (with_slot w id out) now (lack_writing part id w) there left)

    -- a bundle that takes the value at an id out where it is there
    pub lawful_optional : IsLawful (id ∷ []) (where_there (lack_writing part id) (λ w. with_slot w id out)) (λ b w. IsThereUnless b (lack_writing part id w))
        (given_bundle (λ b w. with_slot w id (owned (value b)))) (CanGiveBundle (λ _ w. w id ≡ out)) (AlikeBundle (λ _ _. Unit {0}))
    lawful_optional = record {
      left_others = λ w q e. edit_others w q (lack_writing part id w) e;
      given_others = given_others;
      alike_itself = alike_bundle_itself;
      can_come_back = can_come;
      comes_back = come;
    }
