-- Lemmas on a scene that can run: what is printed for it is read again as it.
use Rattle.std.proofs.Common.{◌≡◌, ℕ, Bool, true, false, cond, List, Option, Some, None, option_map, option_and_then, is_some, refl, sym, ◌∙◌, ap, subst}
use Rattle.std.proofs.lemmas.Option.{none-some, same_Some}
use Rattle.std.specs.Global.{Vec}
use Rattle.std.specs.Prelude.{Result, Ok, Err, MatchResult, IfOk, IfErr}
use Rattle.serde_json.specs.Written.{has_float}
use Rattle.scene_model.specs.declared.refusals.DocRefusal.{DocRefusal}
use Rattle.scene_model.specs.declared.refusals.DocRefusal.TheVariants.{NotWhole}
use Rattle.scene_model.specs.Parts.{Json, Name, Part, is_among, place_of}
use Rattle.scene_model.specs.Rulebook.{Book}
use Rattle.scene_model.specs.Scenes.{PlainScene, IsProper}
use Rattle.scene_model.specs.Laws.{Ascend}
use Rattle.std.specs.FinMap as finite
use Rattle.scene.specs.declared.snapshot.kept.KeptScene.{KeptScene}
use Rattle.scene.specs.Rows.{seats_kept, datum_at}
use Rattle.scene.specs.KeptScenes.{bearers, part_kept}
use Rattle.scene_document.specs.Drafts.{Draft, draft_from}
use Rattle.scene_document.specs.Texts.{json_of, scene_json}
use Rattle.scene_document.proofs.CallerLemmas.{is_some-place_of}
use Rattle.scene_document.specs.Documents.{document_from, document_of, of_reading, of_shape, unless_refused, refusal_of}
use Rattle.scene_document.specs.Openings.{first_scene}
use Rattle.scene_document.specs.declared.loaded.LoadError.{LoadError}
use Rattle.scene_document.specs.declared.loaded.LoadError.TheVariants.{Document, Memory}
use Rattle.scene.specs.Outcomes.{Bounds, IsNoDocument}
use Rattle.scene.specs.Running.{listed_scene, value_at}
use Rattle.scene.specs.Printed.{ReadsAlike, CanBeRead}
use Rattle.scene.proofs.PrintedLemmas.{draft_read, draft-back, scene-back}

-- what follows of what was opened
pub if_opened : {V E : Type 0} (r : Result V E) (Opened Then : V → Type 0) (Not : E → Type 0) → ((v : V) → Opened v → Then v) → MatchResult r Opened Not → IfOk r Then
if_opened (Ok v) Opened Then Not follows opened = follows v opened
if_opened (Err e) Opened Then Not follows opened = tt

-- and of what was refused
pub if_refused : {V E : Type 0} (r : Result V E) (Opened : V → Type 0) (Not Then : E → Type 0) → ((e : E) → Not e → Then e) → MatchResult r Opened Not → IfErr r Then
if_refused (Ok v) Opened Not Then follows opened = tt
if_refused (Err e) Opened Not Then follows opened = follows e opened

-- what one of two sets of rules refuses, the other does, where they read alike
pub refused-alike : (one other : Book) → ReadsAlike one other → (bounds : Bounds) (input : List ℕ) (error : LoadError) → IsNoDocument one bounds input error → IsNoDocument other bounds input error
refused-alike one other alike bounds input Memory not = tt
refused-alike one other alike bounds input (Document refusal) not = from (json_of input) not
  where
    from : (json : Option Json) → of_reading one bounds.indices json ≡ Err refusal → of_reading other bounds.indices json ≡ Err refusal
    from None is = is
    from (Some json) is = sym (alike bounds.indices json) ∙ is

-- what an option was that a function made something of
from_map : {A B P : Type 0} (f : A → B) (o : Option A) (b : B) → option_map f o ≡ Some b → ((a : A) → o ≡ Some a → f a ≡ b → P) → P
from_map f None b is go = absurd (none-some b is)
from_map f (Some a) b is go = go a refl (same_Some (f a) b is)

-- a document was made of a JSON that has the shape of one
pub from_document : (book : Book) (indices : ℕ) (json : Json) (draft : Draft) → document_from book indices json ≡ Ok draft → draft_from book json ≡ Some draft
from_document book indices json draft made = whole (has_float json) (draft_from book json) made
  where
    kept : (some : Draft) (refusal : Option DocRefusal) → unless_refused some refusal ≡ Ok draft → some ≡ draft
    kept some None is = let h : ◌≡◌ {A = Result Draft DocRefusal} (Ok some) (Ok draft) = is in cc
    kept some (Some refusal) is = absurd (cc)

    shaped : (o : Option Draft) → of_shape indices o ≡ Ok draft → o ≡ Some draft
    shaped None is = absurd (cc)
    shaped (Some some) is = ap Some (kept some (refusal_of indices some) is)

    whole : (b : Bool) (o : Option Draft) → cond b (Err NotWhole) (of_shape indices o) ≡ Ok draft → o ≡ Some draft
    whole true o is = absurd (cc)
    whole false o is = shaped o is

module _ {D G : Type 0} (part_of : D → Part) (global_of : G → Json) (book : Book) (kept : KeptScene D (Vec (Option G))) (proper : IsProper book (listed_scene part_of global_of book kept))
    (back : (kind : Name) (one : D) → book.admits kind (part_of one) ≡ true → book.read_part kind (part_of one).json ≡ Some (part_of one)) where
  abbrev scene : PlainScene
  scene = listed_scene part_of global_of book kept

  stands : (id : ℕ) (kind : Name) (held : Part) → scene.part id kind ≡ Some held → is_among kind book.part_names ≡ true
  stands id kind held is = go (finite.get (bearers (seats_kept kept)) id) is
    where
      here : (index : ℕ) (o : Option ℕ) → is_some o ≡ is_among kind book.part_names → option_map part_of (option_and_then (λ place. datum_at kept place index) o) ≡ Some held → is_among kind book.part_names ≡ true
      here index None among some = absurd (none-some held some)
      here index (Some place) among some = sym among

      go : (o : Option ℕ) → option_and_then (λ index. part_kept part_of book kept index kind) o ≡ Some held → is_among kind book.part_names ≡ true
      go None some = absurd (none-some held some)
      go (Some index) some = here index (place_of kind book.part_names) (is_some-place_of kind book.part_names) some

  named : (name : Name) (one : Json) → scene.global name ≡ Some one → is_among name book.global_names ≡ true
  named name one is = here (place_of name book.global_names) (is_some-place_of name book.global_names) is
    where
      here : (o : Option ℕ) → is_some o ≡ is_among name book.global_names → option_map global_of (option_and_then (value_at kept.globals) o) ≡ Some one → is_among name book.global_names ≡ true
      here None among some = absurd (none-some one some)
      here (Some place) among some = sym among

  parts-back : (id : ℕ) (kind : Name) (held : Part) → scene.part id kind ≡ Some held → book.read_part kind held.json ≡ Some held
  parts-back id kind held is = go (finite.get (bearers (seats_kept kept)) id) is
    where
      of_datum : (datum : D) → part_of datum ≡ held → book.read_part kind held.json ≡ Some held
      of_datum datum made = subst (λ (part : Part). book.read_part kind part.json ≡ Some part) made (back kind datum (ap (book.admits kind) made ∙ proper.admitted id kind held is))

      go : (o : Option ℕ) → option_and_then (λ index. part_kept part_of book kept index kind) o ≡ Some held → book.read_part kind held.json ≡ Some held
      go None some = absurd (none-some held some)
      go (Some index) some = from_map part_of (option_and_then (λ place. datum_at kept place index) (place_of kind book.part_names)) held some (λ datum found made. of_datum datum made)

  -- it can be read
  pub can-be-read : CanBeRead book scene
  can-be-read = record {
    ids = proper.ids;
    owned = proper.owned;
    stand = λ id kind held alive is. stands id kind held is;
    parts = parts-back;
    named = named;
    globals = proper.readable;
  }

-- a document that is read of what is printed for a scene that can be read begins with it
pub read-again : (book : Book) (scene : PlainScene) (readable : CanBeRead book scene) (kinds : Ascend book.part_names) (names : Ascend book.global_names) (indices : ℕ) (draft : Draft) → document_from book indices (scene_json book scene) ≡ Ok draft → first_scene draft ≡ scene
read-again book scene readable kinds names indices draft made =
    let shaped = from_document book indices (scene_json book scene) draft made in
    ap first_scene (same_Some draft (draft_read book scene kinds names readable) (sym shaped ∙ draft-back book scene kinds names readable)) ∙ scene-back book scene kinds names readable

-- a document that bytes are is that of a JSON which they read as
pub from_bytes : {P : Type 0} (book : Book) (indices : ℕ) (bytes : List ℕ) (draft : Draft) → document_of book indices bytes ≡ Ok draft → ((json : Json) → json_of bytes ≡ Some json → document_from book indices json ≡ Ok draft → P) → P
from_bytes {P} book indices bytes draft made go = here (json_of bytes) refl made
  where
    here : (o : Option Json) → json_of bytes ≡ o → of_reading book indices o ≡ Ok draft → P
    here None is wrong = absurd (cc)
    here (Some json) is right = go json is right
