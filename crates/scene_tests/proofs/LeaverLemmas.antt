-- Lemmas on what `leave` leaves of what it is lent.
use Rattle.std.proofs.Common.{◌≡◌, ℕ, Bool, true, false, List, All, Option, Some, None, refl, sym, ◌∙◌, ap, subst}
use Rattle.std.specs.Prelude.{IsSome}
use Rattle.std.specs.Str.{bytes_eq}
use Rattle.std.proofs.lemmas.Option.{none-some, same_Some}
use Rattle.std.proofs.lemmas.Slice.Eq.{bytes_eq-Decides}
use Rattle.scene_model.specs.Parts.{Json, Name, Part}
use Rattle.scene_model.specs.Rulebook.{Fragment}
use Rattle.scene_model.specs.Scenes.{lives, RefLives, RefsLive, PartsAdmitted, GlobalsReadable, KeepsValues}
use Rattle.scene_basics.specs.Names.{hp_kind, g_name}
use Rattle.scene_basics.specs.Numbers.{json_of}
use Rattle.scene_tests.specs.Leavers.{HpGoneIf, Left, set_value, leavers}

-- what is left is what was there, or nothing
pub part-left : (hp_goes : Bool) (old new : Fragment) (id : ℕ) (name : Name) → HpGoneIf hp_goes old new → (P : Option Part → Type 0) → P None → P (old.part id name) → P (new.part id name)
part-left false old new id name parts P none was = subst P (sym (parts id name)) was
part-left true old new id name parts P none was = named (bytes_eq name hp_kind) refl
  where
    under : name ≡ hp_kind → (l : Bool) → lives id old.ids ≡ l → P (new.part id name)
    under same true living = subst P (sym (ap (new.part id) same ∙ parts.gone id living)) none
    under same false dead = subst P (sym (ap (new.part id) same ∙ (parts.strangers id dead ∙ ap (old.part id) (sym same)))) was

    named : (b : Bool) → bytes_eq name hp_kind ≡ b → P (new.part id name)
    named true is = under ((bytes_eq-Decides name hp_kind).0 is) (lives id old.ids) refl
    named false is = subst P (sym (parts.others id name is)) was

-- so parts are of their kinds
pub Left-admitted : (hp_goes : Bool) (old new : Fragment) → Left hp_goes old new → PartsAdmitted leavers old.part → PartsAdmitted leavers new.part
Left-admitted hp_goes old new left admitted id name held =
    part-left hp_goes old new id name left.parts (λ (o : Option Part). o ≡ Some held → leavers.admits name held ≡ true) (λ is. absurd (none-some held is)) (admitted id name held)

-- and references name the living
pub Left-living : (hp_goes : Bool) (old new : Fragment) → Left hp_goes old new → RefsLive old.ids old.part → RefsLive new.ids new.part
Left-living hp_goes old new left living id name held alive =
    part-left hp_goes old new id name left.parts (λ (o : Option Part). o ≡ Some held → All (RefLives new.ids) held.refs) (λ is. absurd (none-some held is))
    (λ is. subst (λ (ids : List ℕ). All (RefLives ids) held.refs) (sym left.ids) (living id name held (subst (λ (ids : List ℕ). lives id ids ≡ true) left.ids alive) is))

-- the value that the global is given is one that the rules read
pub Left-readable : (hp_goes : Bool) (old new : Fragment) → Left hp_goes old new → GlobalsReadable leavers old.global → GlobalsReadable leavers new.global
Left-readable hp_goes old new left readable name value is = named (bytes_eq name g_name) refl
  where
    named : (b : Bool) → bytes_eq name g_name ≡ b → leavers.read_global name value ≡ Some value
    named true same =
        let equal : name ≡ g_name = (bytes_eq-Decides name g_name).0 same in
        let held : json_of set_value ≡ value = same_Some (json_of set_value) value (sym left.global.value ∙ (ap new.global (sym equal) ∙ is)) in
        subst (λ (other : Json). leavers.read_global name other ≡ Some other) held refl
    named false apart = readable name value (sym (left.global.others name apart) ∙ is)

-- and no global loses its value
pub Left-valued : (hp_goes : Bool) (old new : Fragment) → Left hp_goes old new → KeepsValues old new
Left-valued hp_goes old new left name some = named (bytes_eq name g_name) refl
  where
    named : (b : Bool) → bytes_eq name g_name ≡ b → IsSome (new.global name)
    named true same =
        let equal : name ≡ g_name = (bytes_eq-Decides name g_name).0 same in
        subst (λ (o : Option Json). IsSome o) (sym (ap new.global equal ∙ left.global.value)) refl
    named false apart = subst (λ (o : Option Json). IsSome o) (sym (left.global.others name apart)) some
