use Rattle.std.proofs.Common.{◌≡◌, ◌++◌, sym, ap, subst, IsUtf8, ◌∙◌}
use Rattle.json.specs.Print.{print}
use Rattle.json.specs.Lex.{tokens}
use Rattle.serde_json.proofs.Texts.{print-outline}
use Rattle.scene_model.specs.Parts.{Json}
use Rattle.scene_document.specs.Texts.{scene_json}
use Rattle.scene_document.proofs.CallerLemmas.{ReadsBack-printed}
use Rattle.scene.specs.KeptScenes.{kept_scene}
use Rattle.scene.specs.Printing.{tokens_of}
use Rattle.scene.proofs.snapshot.text.kept_text.Given.{Over}
use Rattle.scene.proofs.snapshot.text.kept_text.Goals.{After-into_inner}
use Rattle.scene.proofs.snapshot.text.kept_text.Goals as goal

-- the scene that is printed, as its JSON
abbrev printed : (g : Over) → After-into_inner g → Json
printed g c =
    let book = g.R.DocumentRules.book c.args.rules.now in
    scene_json book (kept_scene g.R.DocumentRules.part_of g.R.DocumentRules.global_of g.V.ByPlace.at_place book c.args.kept.now)

written : (g : Over) (c : After-into_inner g) → c.put_scene.new.out.tokens ≡ tokens_of (printed g c)
written g c = c.in_ok-put_scene.ensures.adds.tokens ∙ ap (λ ts. ts ++ tokens_of (printed g c)) c.new-out.ensures.tokens

-- the text is what the writer prints of it
text : (g : Over) (c : After-into_inner g) → c.into_inner.result.items ≡ print c.put_scene.new.out.tokens
text g c =
    c.into_inner.ensures.items
    ∙ ap (λ first. first ++ print c.put_scene.new.out.tokens) (c.in_ok-put_scene.ensures.adds.before ∙ c.new-out.ensures.before ∙ c.in_ok-with_capacity.ensures.items)

pub returns-clause-text : goal.returns-clause-text
returns-clause-text g c = text g c ∙ ap print (written g c) ∙ print-outline (printed g c)

pub returns-clause-reads : goal.returns-clause-reads
returns-clause-reads g c =
    ReadsBack-printed c.into_inner.result.items (printed g c) (subst IsUtf8 (sym (text g c)) c.into_inner.ensures.utf8)
    (ap tokens (text g c) ∙ c.into_inner.ensures.reads_back ∙ written g c) c.in_ok-put_scene.ensures.reads
