-- Lemmas on what the turns of systems change.
use Rattle.std.proofs.Common.{◌≡◌, Bool, true, false, cond, List, [], ◌∷◌, refl, sym, ◌∙◌, subst}
use Rattle.std.proofs.lemmas.Bool.{false≢true, or_parts}
use Rattle.std.specs.List.{list_any}
use Rattle.scene_model.specs.Parts.{is_among}
use Rattle.scene_model.specs.Rulebook.{Book, Command}
use Rattle.scene_model.specs.Scenes.{PlainScene, PlainSystem, Steps}
use Rattle.scene_model.specs.Frames.{Queues, SystemsRun}
use Rattle.scene.specs.SystemChanges.{ChangesDeclared, ChangesDeclaredBy}

-- what isn't put in stays
not-put : {X : Type 0} (b : Bool) (left old : X) → b ≡ false → cond b left old ≡ old
not-put true left old is = absurd (false≢true (sym is))
not-put false left old is = refl

-- a turn changes what is declared
pub turn-changes : (book : Book) (system : PlainSystem) (scene after : PlainScene) (commands : List Command) → Steps book system scene after commands → ChangesDeclared system.access scene after
turn-changes book system scene after commands steps = subst (ChangesDeclared system.access scene) (sym steps.3) (record {
  next = refl;
  ids = refl;
  parts = λ id kind is. not-put (is_among kind system.access.writes) (steps.0.part id kind) (scene.part id kind) is;
  globals = λ name is. not-put (is_among name system.access.written_globals) (steps.0.global name) (scene.global name) is;
})

-- so do turns
pub turns-change : (book : Book) (order : List PlainSystem) (scene after : PlainScene) (queues : Queues) → SystemsRun book order scene after queues → ChangesDeclaredBy order scene after
turns-change book [] scene after queues ran = subst (ChangesDeclaredBy [] scene) (sym ran.0) (record { next = refl; ids = refl; parts = λ id kind is. refl; globals = λ name is. refl })
turns-change book (system ∷ order) scene after queues ran =
    let one = turn-changes book system scene ran.0 ran.1 ran.3 in
    let rest = turns-change book order ran.0 after ran.2 ran.4 in
    record {
      next = rest.next ∙ one.next;
      ids = rest.ids ∙ one.ids;
      parts = λ id kind is. let apart = or_parts (is_among kind system.access.writes) (list_any (λ other. is_among kind other.access.writes) order) is in rest.parts id kind apart.1 ∙ one.parts id kind apart.0;
      globals = λ name is. let apart = or_parts (is_among name system.access.written_globals) (list_any (λ other. is_among name other.access.written_globals) order) is in rest.globals name apart.1 ∙ one.globals name apart.0;
    }
