-- The draft of a document's scene alone: it says that scene, and no refusal stands against it where none stands against the document.
use Rattle.std.proofs.Common.{◌≡◌, ℕ, List, [], Bool, true, false, ◌||◌, cond, not, nat_lt, length, map, All, Option, Some, None, is_none, refl, sym, ap, subst, ◌∙◌, arith}
use Rattle.std.specs.List.{list_any}
use Rattle.std.proofs.lemmas.Bool.{or_parts, le-ltb}
use Rattle.std.proofs.lemmas.List.Elements.{All-nil}
use Rattle.scene_model.specs.Parts.{Json, Name, Part}
use Rattle.scene_model.specs.Rulebook.{Book}
use Rattle.scene_document.specs.declared.draft.DocumentDraft.{DocumentDraft}
use Rattle.scene_document.specs.Drafts.{Draft}
use Rattle.scene_document.specs.DraftViews.{IsDraft, plain_entity, plain_draft, plain_list, named, IsPlaced, IsAdmitted, IsOfBook, IsLawfulDraft, plain_asked}
use Rattle.scene_model.specs.declared.refusals.DocRefusal.{DocRefusal}
use Rattle.scene_document.specs.Documents.{refusal_of, has_unknown_kind, names_unknown}
use Rattle.scene_document.proofs.CallerLemmas.{no_past, no_double, no_dangling}
use Rattle.scene.specs.Running.{alone, IsAlone}

-- what is asked first isn't so where nothing is refused
first-not : (b : Bool) (one : DocRefusal) (rest : Option DocRefusal) → cond b (Some one) rest ≡ None → b ≡ false
first-not true one rest none = absurd cc
first-not false one rest none = refl

-- no kind is unknown without the commands, either
none-unknown : (entities globals commands : Bool) → ((entities || globals) || commands) ≡ false → ((entities || globals) || false) ≡ false
none-unknown entities globals commands none =
    let one = or_parts (entities || globals) commands none in
    rw (one.0)

pub unrefused-alone : (indices : ℕ) (draft : Draft) → refusal_of indices draft ≡ None → refusal_of (length draft.entities) (alone draft) ≡ None
unrefused-alone indices draft none =
    let kinds : has_unknown_kind (alone draft) ≡ false = none-unknown (list_any (λ entity. list_any is_none entity.parts) draft.entities) (list_any is_none draft.globals) (list_any (λ list. list_any names_unknown list) draft.commands) (first-not (has_unknown_kind draft) _ _ none) in
    rw (kinds, no_double indices draft none, no_past indices draft none, no_dangling indices draft none, le-ltb (length draft.entities) (length draft.entities) (omega arith)) refl

pub draft-alone : {D G S : Type 0} (part_of : D → Part) (global_of : G → Json) (kind_of : S → Name) (config_of : S → Json) (book : Book) (plain : Draft) (whole draft : DocumentDraft D G S)
    → IsDraft part_of global_of kind_of config_of book plain whole → IsAlone whole draft → IsDraft part_of global_of kind_of config_of book (alone plain) draft
draft-alone part_of global_of kind_of config_of book plain whole draft says is = record {
  next = says.next ∙ sym is.next;
  entities = says.entities ∙ ap (λ v. map (plain_entity part_of book.part_names) v.items) (sym is.entities);
  globals = says.globals ∙ ap (λ v. map (named global_of book.global_names) v.items) (sym is.globals);
  entries = ap (map plain_draft) (sym is.entries);
  frames = sym is.frames;
  commands = ap (map (plain_list part_of)) (sym is.commands);
  workers = sym is.workers;
  store = sym is.store;
  kinds_placed = subst (λ v. All (λ entity. All (IsPlaced (length book.part_names)) entity.parts.items) v.items) (sym is.entities) says.kinds_placed;
  globals_placed = subst (λ v. All (IsPlaced (length book.global_names)) v.items) (sym is.globals) says.globals_placed;
  admitted = subst (λ v. All (λ entity. All (IsAdmitted part_of book) entity.parts.items) v.items) (sym is.entities) says.admitted;
  readable = says.readable;
  made = subst (All (IsOfBook kind_of config_of book)) (sym is.entries) (All-nil (IsOfBook kind_of config_of book));
  lawful = subst (All (λ list. All (λ one. IsLawfulDraft book (plain_asked part_of one)) list.items)) (sym is.commands) (All-nil (λ list. All (λ one. IsLawfulDraft book (plain_asked part_of one)) list.items));
}
