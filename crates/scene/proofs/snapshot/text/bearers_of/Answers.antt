use Rattle.std.proofs.Common.{◌≡◌, ◌+◌, ℕ, BTreeMap, Option, None, Some, get_or, take, ap, sym, ◌∙◌}
use Rattle.std.proofs.lemmas.List.{take_all}
use Rattle.std.specs.FinMap as finite
use Rattle.scene.specs.KeptScenes.{bearers, with_bearer}
use Rattle.scene.proofs.BearerLemmas.{none-borne, bearer-put, bearers-more}
use Rattle.scene.proofs.snapshot.text.bearers_of.Goals as goal
use Rattle.scene.proofs.snapshot.text.bearers_of.Goals.{in-Some+in_ok-insert, in_default}

pub loop-index-init : goal.loop-index-init
loop-index-init c = c.new-found.ensures.empty ∙ sym none-borne

pub loop-index-preserved : goal.loop-index-preserved
loop-index-preserved c =
    let seats = c.args.seats.now in
    let before = bearers (take c.loop-index.index seats) in
    elim c.match-seat.branch [
      | in-Some+in_ok-insert w ↦
          ap (λ (m : BTreeMap ℕ ℕ). m.entries) w.found-is
          ∙ bearer-put before c.loop-index.found.entries w.insert.new.self.entries w.in-Some.id c.loop-index.index c.loop-index.invariant w.in_ok-insert.ensures.entries
          ∙ sym (ap finite.entries (bearers-more seats c.loop-index.index None c.loop-index-test.true ∙ ap (with_bearer before c.loop-index.index) w.in-Some.is))
      | in_default w ↦
          ap (λ (m : BTreeMap ℕ ℕ). m.entries) w.found-is ∙ c.loop-index.invariant
          ∙ sym (ap finite.entries (bearers-more seats c.loop-index.index None c.loop-index-test.true ∙ ap (with_bearer before c.loop-index.index) w.in_default.is))
    ]

pub returns : goal.returns
returns c = c.loop-index.invariant ∙ ap (λ seats. finite.entries (bearers seats)) (take_all c.loop-index.index c.args.seats.now c.loop-index-test.false)
