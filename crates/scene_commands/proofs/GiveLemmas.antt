-- Parts of a newborn, put in one after the other.
use Rattle.std.proofs.Common.{◌≡◌, ◌<◌, ℕ, suc, Bool, true, false, cond, eqb, List, [], ◌∷◌, ◌++◌, length, map, take, get_or, Option, Some, None, refl, ap, sym, ◌∙◌, subst, arith, AllPairs}
use Rattle.std.specs.Str.{bytes_eq}
use denote.Ref.{Bor}
use Rattle.std.proofs.lemmas.Bool.{eq-eqb, false≢true}
use Rattle.std.proofs.Math.ListN.{get_or-map}
use Rattle.std.proofs.lemmas.List.{length-map, length-take-le, get_or-take, get_or_default}
use Rattle.std.proofs.lemmas.Slice.Eq.{bytes_eq-Decides}
use Rattle.scene_model.specs.Parts.{Name, Part, is_among, under}
use Rattle.scene_model.specs.Queues.{plain_entry}
use Rattle.scene_world.specs.Standing.{Sight, Kinds, roll_of, column_of, column_in}
use Rattle.scene_world.specs.Lent.{parts, entities, markers, allocator, StandApart}
use Rattle.scene_world.specs.Telling.{ShowsKind}
use Rattle.scene_world.proofs.CallerLemmas.{same-roll, kind-stays, kind-both}
use Rattle.scene_commands.specs.Acts.{AreUnder}
use Rattle.scene_commands.specs.Newborns.{IsGiven, GivesPart, GivesParts}

-- what stands under a name among entries and one more
under-more : {X : Type 0} (name : Name) (entries : List (Name × X)) (entry : Name × X) → under name entries ≡ None → under name (entries ++ entry ∷ []) ≡ cond (bytes_eq name entry.0) (Some entry.1) None
under-more name [] entry none = refl
under-more {X} name (first ∷ entries) entry none = by (bytes_eq name first.0) refl none (λ e. under-more name entries entry e)
  where
    by : (b : Bool) → bytes_eq name first.0 ≡ b → cond b (Some first.1) (under name entries) ≡ None
        → (under name entries ≡ None → under name (entries ++ entry ∷ []) ≡ cond (bytes_eq name entry.0) (Some entry.1) None)
        → cond (bytes_eq name first.0) (Some first.1) (under name (entries ++ entry ∷ [])) ≡ cond (bytes_eq name entry.0) (Some entry.1) None
    by true is e more = cc
    by false is e more = ap (λ b. cond b (Some first.1) (under name (entries ++ entry ∷ []))) is ∙ more e

under-still : {X : Type 0} (name : Name) (entries : List (Name × X)) (entry : Name × X) (x : X) → under name entries ≡ Some x → under name (entries ++ entry ∷ []) ≡ Some x
under-still name [] entry x e = cc
under-still {X} name (first ∷ entries) entry x e = by (bytes_eq name first.0) refl e (λ f. under-still name entries entry x f)
  where
    by : (b : Bool) → bytes_eq name first.0 ≡ b → cond b (Some first.1) (under name entries) ≡ Some x → (under name entries ≡ Some x → under name (entries ++ entry ∷ []) ≡ Some x)
        → cond (bytes_eq name first.0) (Some first.1) (under name (entries ++ entry ∷ [])) ≡ Some x
    by true is f still = ap (λ b. cond b (Some first.1) (under name (entries ++ entry ∷ []))) is ∙ f
    by false is f still = ap (λ b. cond b (Some first.1) (under name (entries ++ entry ∷ []))) is ∙ still f

-- nothing stands under a name that no entry has
under-none : {X : Type 0} (name : Name) (entries : List (Name × X)) → ((place : ℕ) (d : Name × X) → place < length entries → bytes_eq (get_or entries place d).0 name ≡ false) → under name entries ≡ None
under-none name [] apart = refl
under-none name (first ∷ entries) apart =
    ap (λ b. cond b (Some first.1) (under name entries)) (turned (bytes_eq name first.0) refl)
    ∙ under-none name entries (λ place d below. apart (suc place) d (omega (arith, below)))
  where
    turned : (b : Bool) → bytes_eq name first.0 ≡ b → bytes_eq name first.0 ≡ false
    turned true is = let same : bytes_eq first.0 name ≡ true = (bytes_eq-Decides first.0 name).1 (sym ((bytes_eq-Decides name first.0).0 is)) in absurd (false≢true (sym (apart 0 first (omega arith)) ∙ same))
    turned false is = is

-- an entry of which the others differ is the first under its name
pub under-new : {D : Type 0} (part_of : D → Part) (entries : List (Bor Name × D)) (place : ℕ) (d : Bor Name × D) → place < length entries → AllPairs (λ one other. bytes_eq one.0 other.0 ≡ false) (map (plain_entry part_of) entries)
    → under (get_or entries place d).0.now (map (plain_entry part_of) (take place entries)) ≡ None
under-new part_of entries place d below apart = under-none (get_or entries place d).0.now (map (plain_entry part_of) (take place entries)) (λ at e within. differs at e (within-place at within))
  where
    within-place : (at : ℕ) → at < length (map (plain_entry part_of) (take place entries)) → at < place
    within-place at within = let size = length-map (take place entries) (plain_entry part_of) ∙ length-take-le place entries (omega (arith, below)) in omega (arith, size, within)

    differs : (at : ℕ) (e : Name × Part) → at < place → bytes_eq (get_or (map (plain_entry part_of) (take place entries)) at e).0 (get_or entries place d).0.now ≡ false
    differs at e lower =
        let size = length-map entries (plain_entry part_of) in
        let sizes = length-map (take place entries) (plain_entry part_of) ∙ length-take-le place entries (omega (arith, below)) in
        ap (λ x. bytes_eq x.0 (get_or entries place d).0.now)
        (get_or_default (map (plain_entry part_of) (take place entries)) at e (plain_entry part_of d) (omega (arith, sizes, lower)) ∙ get_or-map (plain_entry part_of) (take place entries) at d
        ∙ ap (plain_entry part_of) (get_or-take place entries at d lower) ∙ sym (get_or-map (plain_entry part_of) entries at d))
        ∙ ap (λ x. bytes_eq (get_or (map (plain_entry part_of) entries) at (plain_entry part_of d)).0 x.0) (sym (get_or-map (plain_entry part_of) entries place d))
        ∙ apart at place (plain_entry part_of d) lower (omega (arith, size, below))

-- nothing is given yet
pub gives-none : {V : Type 0} (kinds : Kinds V) (index : ℕ) (w : Sight V) → GivesParts kinds (roll_of kinds w) index [] w w
gives-none kinds index w = record {
  here = λ kind known part is. cc;
  none = λ kind known is. refl;
  elsewhere = λ kind known at away. refl;
  others = λ id away. refl;
  shown = λ kind known. kind-stays kinds kind w w refl;
}

-- one part more is given
module _ {V : Type 0} (kinds : Kinds V) (apart : StandApart kinds) (index : ℕ) (given : List (Name × Part)) (w between later : Sight V)
    (gives : GivesParts kinds (roll_of kinds w) index given w between) (kind : Name) (part : Part) (known : is_among kind kinds.part_names ≡ true) (new : under kind given ≡ None)
    (one : GivesPart kinds kind index part between later) where
  roll-stays : roll_of kinds between ≡ roll_of kinds w
  roll-stays = same-roll kinds between w
      (gives.others kinds.entities_id (λ other is. apart entities (parts other) refl is)) (gives.others kinds.markers_id (λ other is. apart markers (parts other) refl is))
      (gives.others kinds.allocator_id (λ other is. apart allocator (parts other) refl is))

  other-column : (other : Name) → is_among other kinds.part_names ≡ true → bytes_eq other kind ≡ false → (at : ℕ) → column_of kinds later other at ≡ column_of kinds between other at
  other-column other is differ at = ap (λ held. column_in kinds other held at) (one.puts.sets.others (kinds.part_id other) (apart (parts other) (parts kind) is known ∙ differ))

  -- the part stands there
  given-here : IsGiven (roll_of kinds w) part (column_of kinds later kind index)
  given-here = record {
    ids = one.ids;
    named = one.named;
    one = one.puts.one;
    there = one.puts.sets.here index ∙ ap (λ b. cond b (Some one.puts.one) (column_of kinds between kind index)) (eq-eqb index index refl);
    refs = one.refs;
    found = subst (λ r. AreUnder r one.ids (Some one.named)) roll-stays one.found;
    is = one.puts.is;
  }

  pub gives-more : GivesParts kinds (roll_of kinds w) index (given ++ (kind, part) ∷ []) w later
  gives-more = record {
    here = λ other is p e. here other is p (bytes_eq other kind) refl (under other given) refl e;
    none = λ other is e. none other is (bytes_eq other kind) refl (under other given) refl e;
    elsewhere = λ other is at away. elsewhere other is at away (bytes_eq other kind) refl;
    others = λ id away. one.puts.sets.others id (away kind known) ∙ gives.others id away;
    shown = λ other is. kind-both kinds other w between later (gives.shown other is) (shown other is (bytes_eq other kind) refl);
  }
    where
      shown : (other : Name) → is_among other kinds.part_names ≡ true → (b : Bool) → bytes_eq other kind ≡ b → ShowsKind kinds other between later
      shown other is true same = subst (λ n. ShowsKind kinds n between later) (sym ((bytes_eq-Decides other kind).0 same)) one.puts.sets.shown
      shown other is false differ = kind-stays kinds other between later (one.puts.sets.others (kinds.part_id other) (apart (parts other) (parts kind) is known ∙ differ))

      here : (other : Name) → is_among other kinds.part_names ≡ true → (p : Part) → (b : Bool) → bytes_eq other kind ≡ b → (o : Option Part) → under other given ≡ o → under other (given ++ (kind, part) ∷ []) ≡ Some p
          → IsGiven (roll_of kinds w) p (column_of kinds later other index)
      here other is p true same o e f =
          let name : other ≡ kind = (bytes_eq-Decides other kind).0 same in
          let was : under other given ≡ None = ap (λ n. under n given) name ∙ new in
          let now : Some part ≡ Some p = sym (under-more other given (kind, part) was ∙ ap (λ b. cond b (Some part) None) same) ∙ f in
          let is_part : part ≡ p = cc in
          subst (λ x. IsGiven (roll_of kinds w) x (column_of kinds later other index)) is_part (subst (λ n. IsGiven (roll_of kinds w) part (column_of kinds later n index)) (sym name) given-here)
      here other is p false differ (Some q) e f =
          let now : Some q ≡ Some p = sym (under-still other given (kind, part) q e) ∙ f in
          let is_part : q ≡ p = cc in
          subst (λ column. IsGiven (roll_of kinds w) p column) (sym (other-column other is differ index)) (gives.here other is p (e ∙ ap Some is_part))
      here other is p false differ None e f =
          let now : ◌≡◌ {A = Option Part} None (Some p) = sym (under-more other given (kind, part) e ∙ ap (λ b. cond b (Some part) None) differ) ∙ f in
          cc

      none : (other : Name) → is_among other kinds.part_names ≡ true → (b : Bool) → bytes_eq other kind ≡ b → (o : Option Part) → under other given ≡ o → under other (given ++ (kind, part) ∷ []) ≡ None
          → column_of kinds later other index ≡ column_of kinds w other index
      none other is b same (Some q) e f = let now : Some q ≡ None = sym (under-still other given (kind, part) q e) ∙ f in cc
      none other is true same None e f =
          let now : Some part ≡ None = sym (under-more other given (kind, part) e ∙ ap (λ b. cond b (Some part) None) same) ∙ f in
          cc
      none other is false differ None e f = other-column other is differ index ∙ gives.none other is e

      elsewhere : (other : Name) → is_among other kinds.part_names ≡ true → (at : ℕ) → eqb at index ≡ false → (b : Bool) → bytes_eq other kind ≡ b → column_of kinds later other at ≡ column_of kinds w other at
      elsewhere other is at away false differ = other-column other is differ at ∙ gives.elsewhere other is at away
      elsewhere other is at away true same =
          subst (λ n. column_of kinds later n at ≡ column_of kinds w n at) (sym ((bytes_eq-Decides other kind).0 same))
          (one.puts.sets.here at ∙ ap (λ b. cond b (Some one.puts.one) (column_of kinds between kind at)) away ∙ gives.elsewhere kind known at away)
