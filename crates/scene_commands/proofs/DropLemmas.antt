-- The parts at an index, taken out kind by kind.
use Rattle.std.proofs.Common.{◌≡◌, ◌<◌, ◌+◌, ℕ, zero, suc, Bool, true, false, cond, eqb, ◌||◌, List, [], ◌∷◌, ◌++◌, length, take, below_none, arith, get_or, Option, None, refl, ap, sym, ◌∙◌, subst}
use Rattle.std.specs.Str.{bytes_eq}
use denote.Ref.{Bor}
use Rattle.std.proofs.Math.Seq.{take-suc}
use Rattle.std.proofs.lemmas.List.{map-append}
use Rattle.scene_model.specs.Declaring.{texts}
use Rattle.std.proofs.lemmas.Bool.{true≢false, or_right}
use Rattle.std.proofs.lemmas.Slice.Eq.{bytes_eq-Decides}
use Rattle.std.proofs.lemmas.List.Folds.{list_any-append}
use Rattle.scene_model.specs.Parts.{Name, is_among}
use Rattle.scene_world.specs.Stored.{Stored}
use Rattle.scene_world.specs.Standing.{Sight, Kinds, column_of, column_in}
use Rattle.scene_world.specs.Lent.{parts, StandApart}
use Rattle.scene_world.specs.Changes.{but_at}
use Rattle.scene_world.specs.Telling.{ShowsKind}
use Rattle.scene_world.proofs.CallerLemmas.{kind-stays, kind-both}
use Rattle.scene_commands.specs.Acts.{SetsColumn}
use Rattle.scene_commands.specs.Deaths.{DropsParts}

-- what is taken out twice is taken out
twice : (index at : ℕ) (column : ℕ → Option Stored) → but_at index None (but_at index None column) at ≡ but_at index None column at
twice index at column = by (eqb at index)
  where
    by : (b : Bool) → cond b None (cond b None (column at)) ≡ cond b None (column at)
    by true = refl
    by false = refl

-- nothing is taken out yet
pub drops-none : {V : Type 0} (kinds : Kinds V) (index : ℕ) (w : Sight V) → DropsParts kinds index [] w w
drops-none kinds index w = record {
  gone = λ kind known among at. absurd (true≢false (sym among));
  stay = λ kind known among at. refl;
  others = λ id away. refl;
  shown = λ kind known. kind-stays kinds kind w w refl;
}

-- one kind more is taken out
module _ {V : Type 0} (kinds : Kinds V) (apart : StandApart kinds) (index : ℕ) (names : List Name) (w between later : Sight V) (drops : DropsParts kinds index names w between)
    (kind : Name) (known : is_among kind kinds.part_names ≡ true) (takes : SetsColumn kinds kind index None between later) where
  among-more : (other : Name) → is_among other (names ++ kind ∷ []) ≡ (is_among other names || (bytes_eq other kind || false))
  among-more other = list_any-append (bytes_eq other) names (kind ∷ [])

  other-column : (other : Name) → is_among other kinds.part_names ≡ true → bytes_eq other kind ≡ false → (at : ℕ) → column_of kinds later other at ≡ column_of kinds between other at
  other-column other is differ at = ap (λ held. column_in kinds other held at) (takes.others (kinds.part_id other) (apart (parts other) (parts kind) is known ∙ differ))

  -- under this kind, whether it was taken out before or not
  here-gone : (at : ℕ) → column_of kinds later kind at ≡ but_at index None (column_of kinds w kind) at
  here-gone at = takes.here at ∙ by (is_among kind names) refl
    where
      by : (b : Bool) → is_among kind names ≡ b → but_at index None (column_of kinds between kind) at ≡ but_at index None (column_of kinds w kind) at
      by true is = ap (λ column. cond (eqb at index) None column) (drops.gone kind known is at) ∙ twice index at (column_of kinds w kind)
      by false is = ap (λ column. cond (eqb at index) None column) (drops.stay kind known is at)

  pub drops-more : DropsParts kinds index (names ++ kind ∷ []) w later
  drops-more = record {
    gone = λ other is among at. gone other is (bytes_eq other kind) refl (is_among other names) refl (sym (among-more other) ∙ among) at;
    stay = λ other is among at. stay other is (bytes_eq other kind) refl (is_among other names) refl (sym (among-more other) ∙ among) at;
    others = λ id away. takes.others id (away kind known) ∙ drops.others id away;
    shown = λ other is. kind-both kinds other w between later (drops.shown other is) (shown other is (bytes_eq other kind) refl);
  }
    where
      shown : (other : Name) → is_among other kinds.part_names ≡ true → (b : Bool) → bytes_eq other kind ≡ b → ShowsKind kinds other between later
      shown other is true same = subst (λ n. ShowsKind kinds n between later) (sym ((bytes_eq-Decides other kind).0 same)) takes.shown
      shown other is false differ = kind-stays kinds other between later (takes.others (kinds.part_id other) (apart (parts other) (parts kind) is known ∙ differ))

      gone : (other : Name) → is_among other kinds.part_names ≡ true → (b : Bool) → bytes_eq other kind ≡ b → (c : Bool) → is_among other names ≡ c → (is_among other names || (bytes_eq other kind || false)) ≡ true
          → (at : ℕ) → column_of kinds later other at ≡ but_at index None (column_of kinds w other) at
      gone other is true same c was e at = subst (λ n. column_of kinds later n at ≡ but_at index None (column_of kinds w n) at) (sym ((bytes_eq-Decides other kind).0 same)) (here-gone at)
      gone other is false differ true was e at = other-column other is differ at ∙ drops.gone other is was at
      gone other is false differ false was e at = absurd (true≢false (sym e ∙ ap (λ b. b || (bytes_eq other kind || false)) was ∙ ap (λ b. b || false) differ))

      stay : (other : Name) → is_among other kinds.part_names ≡ true → (b : Bool) → bytes_eq other kind ≡ b → (c : Bool) → is_among other names ≡ c → (is_among other names || (bytes_eq other kind || false)) ≡ false
          → (at : ℕ) → column_of kinds later other at ≡ column_of kinds w other at
      stay other is true same true was e at = absurd (true≢false (sym (ap (λ b. b || (bytes_eq other kind || false)) was) ∙ e))
      stay other is true same false was e at = absurd (true≢false (sym (ap (λ b. b || (bytes_eq other kind || false)) was ∙ ap (λ b. b || false) same) ∙ e))
      stay other is false differ true was e at = absurd (true≢false (sym (ap (λ b. b || (bytes_eq other kind || false)) was) ∙ e))
      stay other is false differ false was e at = other-column other is differ at ∙ drops.stay other is was at

-- what stands where no name does
abbrev pub no_name : Bor (List ℕ)
no_name = record { ref_ptr = (0, 0); now = [] }

-- the name at a place of a list is among its names
pub named-there : (names : List (Bor (List ℕ))) (place : ℕ) (d : Bor (List ℕ)) → place < length names → is_among (get_or names place d).now (texts names) ≡ true
named-there [] place d below = absurd (below_none (λ (k : ℕ). ⊥) place below)
named-there (name ∷ names) zero d below = ap (λ b. b || is_among name.now (texts names)) ((bytes_eq-Decides name.now name.now).1 refl)
named-there (name ∷ names) (suc place) d below = or_right (bytes_eq (get_or names place d).now name.now) (is_among (get_or names place d).now (texts names)) (named-there names place d (omega (arith, below)))

-- the names up to a place and the one there
pub texts-more : (names : List (Bor (List ℕ))) (place : ℕ) (d : Bor (List ℕ)) → place < length names → texts (take (place + 1) names) ≡ texts (take place names) ++ (get_or names place d).now ∷ []
texts-more names place d below = ap (λ n. texts (take n names)) (next place) ∙ ap texts (take-suc names place d below) ∙ map-append (λ (name : Bor (List ℕ)). name.now) (take place names) (get_or names place d ∷ [])
  where
    next : (n : ℕ) → n + 1 ≡ suc n
    next n = omega arith
