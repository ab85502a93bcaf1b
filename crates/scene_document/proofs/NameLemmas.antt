-- Lemmas on names that are kept in a set, and on the tests of the names of systems.
use Rattle.std.proofs.Common.{◌≡◌, ℕ, zero, suc, Bool, true, false, not, cond, ◌||◌, ◌&&◌, List, [], ◌∷◌, ◌++◌, map, drop, refl, ap, sym, ◌∙◌}
use denote.Ref.{Bor}
use Rattle.std.specs.List.{list_any}
use Rattle.std.specs.Ordering.{nat_cmp, is_eq}
use Rattle.std.specs.Cmp.Lexicographic.{slice_cmp}
use Rattle.std.specs.Str.{bytes_eq}
use Rattle.std.proofs.lemmas.Map.Text.{is_eq-slice_cmp}
use Rattle.scene_model.specs.Parts.{Name, is_among}
use Rattle.scene_model.specs.Declaring.{texts}
use Rattle.scene_document.specs.declared.draft.EntryDraft.{EntryDraft}
use Rattle.scene_document.specs.declared.draft.EntryDraft.TheVariants as entry
use Rattle.scene_document.specs.Drafts.{DraftSystem}
use Rattle.scene_document.specs.Documents.{has_taken_name, has_unknown_dependency}
use Rattle.scene_document.specs.DraftViews.{systems_in}
use Rattle.scene_document.specs.Names.{has_name, takes_name, lacks_one_of, comes_after_other}
use Rattle.scene_document.proofs.ShapeLemmas.{bytes_eq-symmetric}

-- a set has a name exactly where it is among its texts
pub contains-among : (name : Name) (keys : List (Bor Name)) → list_any (λ key. is_eq (slice_cmp nat_cmp name key.now)) keys ≡ is_among name (texts keys)
contains-among name [] = refl
contains-among name (key ∷ keys) = ap (λ b. b || list_any (λ one. is_eq (slice_cmp nat_cmp name one.now)) keys) (is_eq-slice_cmp name key.now) ∙ ap (λ b. bytes_eq name key.now || b) (contains-among name keys)

-- the names of systems
abbrev pub names_of : List DraftSystem → List Name
names_of systems = map (λ one. one.name) systems

-- a system has a name of another exactly where it is among their names
pub named-among : (name : Name) (systems : List DraftSystem) → list_any (λ other. bytes_eq other.name name) systems ≡ is_among name (names_of systems)
named-among name [] = refl
named-among name (one ∷ systems) = ap (λ b. b || list_any (λ other. bytes_eq other.name name) systems) (bytes_eq-symmetric one.name name) ∙ ap (λ b. bytes_eq name one.name || b) (named-among name systems)

cond_or : (b among : Bool) → cond b true among ≡ (b || among)
cond_or true among = refl
cond_or false among = refl

-- a set with one more name
pub among-updated : (other name : Name) (old new : List (Bor Name)) → list_any (λ key. is_eq (slice_cmp nat_cmp other key.now)) new ≡ cond (is_eq (slice_cmp nat_cmp name other)) true (list_any (λ key. is_eq (slice_cmp nat_cmp other key.now)) old)
    → is_among other (texts new) ≡ (bytes_eq other name || is_among other (texts old))
among-updated other name old new e =
    sym (contains-among other new) ∙ e ∙ cond_or (is_eq (slice_cmp nat_cmp name other)) (list_any (λ key. is_eq (slice_cmp nat_cmp other key.now)) old)
    ∙ ap (λ b. b || list_any (λ key. is_eq (slice_cmp nat_cmp other key.now)) old) (is_eq-slice_cmp name other ∙ bytes_eq-symmetric name other)
    ∙ ap (λ b. bytes_eq other name || b) (contains-among other old)

-- the tests of what a system comes after, by names that are among those kept
wanted_alike : (names others : List Name) (wanted : List Name) → ((name : Name) → is_among name names ≡ is_among name others) → lacks_one_of names wanted ≡ lacks_one_of others wanted
wanted_alike names others [] h = refl
wanted_alike names others (name ∷ wanted) h = ap (λ b. (bytes_eq name [] || not b) || lacks_one_of names wanted) (h name) ∙ ap (λ b. (bytes_eq name [] || not (is_among name others)) || b) (wanted_alike names others wanted h)

among-end : (name : Name) (names : List Name) (last : Name) → is_among name (names ++ last ∷ []) ≡ (bytes_eq name last || is_among name names)
among-end name [] last = refl
among-end name (first ∷ names) last = ap (λ b. bytes_eq name first || b) (among-end name names last) ∙ or_swap (bytes_eq name first) (bytes_eq name last) (is_among name names)
  where
    or_swap : (a b c : Bool) → (a || (b || c)) ≡ (b || (a || c))
    or_swap true true c = refl
    or_swap true false c = refl
    or_swap false b c = refl

or_true_end : (b : Bool) → (b || true) ≡ true
or_true_end true = refl
or_true_end false = refl

module _ {S : Type 0} where
  -- the names that are kept are those of the systems among entries
  abbrev pub Keeps : List Name → List (EntryDraft S) → Type 0
  Keeps names entries = (name : Name) → is_among name names ≡ is_among name (names_of (systems_in entries))

  -- one more entry in front
  pub keeps_more : (names more : List Name) (one : EntryDraft S) (entries : List (EntryDraft S)) → Keeps names entries → ((name : Name) → is_among name more ≡ (has_name name one || is_among name names)) → Keeps more (one ∷ entries)
  keeps_more names more entry.Barrier entries h e name = e name ∙ h name
  keeps_more names more (entry.System draft) entries h e name = e name ∙ ap (λ b. bytes_eq name draft.name.now || b) (h name)

  -- one more entry takes no name
  pub taken_more : (names : List Name) (one : EntryDraft S) (entries : List (EntryDraft S)) → Keeps names entries → has_taken_name (systems_in (one ∷ entries)) ≡ (takes_name names one || has_taken_name (systems_in entries))
  taken_more names entry.Barrier entries h = refl
  taken_more names (entry.System draft) entries h =
      ap (λ b. (not (bytes_eq draft.name.now []) && b) || has_taken_name (systems_in entries)) (named-among draft.name.now (systems_in entries) ∙ sym (h draft.name.now))

  abbrev pub with_name : List Name → EntryDraft S → List Name
  with_name names entry.Barrier = names
  with_name names (entry.System draft) = names ++ draft.name.now ∷ []

  pub depends_more : (names kept : List Name) (one : EntryDraft S) (entries : List (EntryDraft S)) → ((name : Name) → is_among name kept ≡ is_among name names)
      → has_unknown_dependency names (systems_in (one ∷ entries)) ≡ (comes_after_other kept one || has_unknown_dependency (with_name names one) (systems_in entries))
  depends_more names kept entry.Barrier entries h = refl
  depends_more names kept (entry.System draft) entries h = ap (λ b. b || has_unknown_dependency (names ++ draft.name.now ∷ []) (systems_in entries)) (sym (wanted_alike kept names (texts draft.after.items) h))

  pub alike_more : (names kept more : List Name) (one : EntryDraft S) → ((name : Name) → is_among name kept ≡ is_among name names) → ((name : Name) → is_among name more ≡ (has_name name one || is_among name kept))
      → (name : Name) → is_among name more ≡ is_among name (with_name names one)
  alike_more names kept more entry.Barrier h e name = e name ∙ h name
  alike_more names kept more (entry.System draft) h e name = e name ∙ ap (λ b. bytes_eq name draft.name.now || b) (h name) ∙ sym (among-end name names draft.name.now)

  -- names that are taken in a part of a list are taken in it
  pub taken_within : (index : ℕ) (entries : List (EntryDraft S)) → has_taken_name (systems_in (drop index entries)) ≡ true → has_taken_name (systems_in entries) ≡ true
  taken_within zero entries h = h
  taken_within (suc index) [] h = absurd cc
  taken_within (suc index) (entry.Barrier ∷ entries) h = taken_within index entries h
  taken_within (suc index) (entry.System draft ∷ entries) h =
      ap (λ b. (not (bytes_eq draft.name.now []) && list_any (λ other. bytes_eq other.name draft.name.now) (systems_in entries)) || b) (taken_within index entries h)
      ∙ or_true_end (not (bytes_eq draft.name.now []) && list_any (λ other. bytes_eq other.name draft.name.now) (systems_in entries))
