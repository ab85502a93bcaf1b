-- Lemmas on JSON: bytes that have no reading, names that ascend, the pairs that a loop finds under them, and floats among members.
use Rattle.std.proofs.Common.{◌≡◌, ℕ, zero, suc, ◌+◌, ◌<◌, Bool, true, false, ◌||◌, List, [], ◌∷◌, ◌++◌, map, length, get_or, take, Option, Some, None, IsUtf8, Bor, refl, sym, ap, subst, ◌∙◌, arith}
use Rattle.std.proofs.lemmas.List.{take_more, get_or-map, length-map}
use Rattle.std.proofs.lemmas.List.Elements.{filter_map-append}
use Rattle.std.proofs.lemmas.Map.Text.{is_eq-slice_cmp}
use Rattle.std.proofs.lemmas.Slice.Eq.{bytes_eq-Decides}
use Rattle.std.proofs.lemmas.Str.{IsUtf8-from_is_utf8}
use Rattle.std.specs.Cmp.Lexicographic.{slice_cmp}
use Rattle.std.specs.List.{filter_map, cons_option, position_from}
use Rattle.std.specs.Ordering.{nat_cmp, is_eq}
use Rattle.std.specs.Str.{bytes_eq, is_utf8}
use Rattle.std.specs.declared.cmp.Ordering.TheVariants.{Less}
use Rattle.serde_json.specs.Read.{read}
use Rattle.serde_json.specs.View.{view, items_view, members_view}
use Rattle.serde_json.specs.Written.{has_float, items_have_float, members_have_float}
use Rattle.serde_json.proofs.Views.{Entry}
use Rattle.scene_model.specs.Parts.{Json, Name, place_of}
use Rattle.scene_document.specs.Texts.{json_of}
use Rattle.scene_model.specs.Laws.{Ascend}
use Rattle.scene_model.specs.Declaring.{texts}

-- ---- bytes that do not read

unread_by : (bytes : List ℕ) (b : Bool) → is_utf8 bytes ≡ b → (IsUtf8 bytes → read bytes ≡ None) → json_of bytes ≡ None
unread_by bytes true e none = rw e (none (IsUtf8-from_is_utf8 bytes e))
unread_by bytes false e none = rw e

-- bytes that have no reading where they are UTF-8 are no JSON
pub unread : (bytes : List ℕ) → (IsUtf8 bytes → read bytes ≡ None) → json_of bytes ≡ None
unread bytes none = unread_by bytes (is_utf8 bytes) refl none

-- ---- names that ascend

place_from : (names : List Name) (k i : ℕ) (d : Name) → Ascend names → k < length names → position_from (λ other. bytes_eq other (get_or names k d)) i names ≡ Some (i + k)
place_from [] k i d ascend below = absurd (omega arith)
place_from (name ∷ names) zero i d ascend below = rw ((bytes_eq-Decides name name).1 refl) (ap Some (omega arith))
place_from (name ∷ names) (suc k) i d ascend below =
    let less : slice_cmp nat_cmp name (get_or names k d) ≡ Less = ascend 0 (suc k) d (omega arith) (omega arith) in
    let apart : bytes_eq name (get_or names k d) ≡ false = sym (is_eq-slice_cmp name (get_or names k d)) ∙ ap is_eq less in
    let later : Ascend names = λ one other e before within. ascend (suc one) (suc other) e (omega arith) (omega arith) in
    rw apart (place_from names k (i + 1) d later (omega arith) ∙ ap Some (omega arith))

-- a name of an ascending list stands first at its own place
pub place_of-ascend : (names : List Name) (k : ℕ) (d : Name) → Ascend names → k < length names → place_of (get_or names k d) names ≡ Some k
place_of-ascend names k d ascend below = place_from names k 0 d ascend below ∙ ap Some (omega arith)

-- ---- pairs that a loop finds

-- a name, read of the list at a place, adds what the list of its names says of it
module _ (names : List (Bor Name)) (listed : List Name) (same : texts names ≡ listed) (ascend : Ascend listed) where
  pub entries_more : (entry : Name → Option ℕ → Option (Name × Json)) (k : ℕ) (unset : Bor Name) → k < length names
      → filter_map (λ name. entry name (place_of name listed)) (take (k + 1) (texts names))
      ≡ filter_map (λ name. entry name (place_of name listed)) (take k (texts names)) ++ cons_option (entry (get_or names k unset).now (Some k)) []
  entries_more entry k unset below =
      let text : Bor Name → Name = λ name. name.now in
      let find : Name → Option (Name × Json) = λ name. entry name (place_of name listed) in
      let at : get_or (texts names) k unset.now ≡ (get_or names k unset).now = get_or-map text names k unset unset.now below in
      let within : k < length (texts names) = omega (arith, length-map names text) in
      let rising : Ascend (texts names) = subst Ascend (sym same) ascend in
      let placed : place_of (get_or (texts names) k unset.now) listed ≡ Some k =
      ap (place_of (get_or (texts names) k unset.now)) (sym same) ∙ place_of-ascend (texts names) k unset.now rising within in
      let found : find (get_or (texts names) k unset.now) ≡ entry (get_or names k unset).now (Some k) =
      ap (entry (get_or (texts names) k unset.now)) placed ∙ ap (λ name. entry name (Some k)) at in
      ap (filter_map find) (take_more (texts names) k unset.now within)
      ∙ filter_map-append find (take k (texts names)) (get_or (texts names) k unset.now ∷ [])
      ∙ ap (λ one. filter_map find (take k (texts names)) ++ cons_option one []) found

-- ---- floats

-- members have a float where their values have
pub members_have_float-values : (entries : List Entry) → members_have_float (members_view entries) ≡ items_have_float (items_view (map (λ entry. entry.1) entries))
members_have_float-values [] = refl
members_have_float-values (entry ∷ entries) = ap (λ rest. has_float (view entry.1) || rest) (members_have_float-values entries)
