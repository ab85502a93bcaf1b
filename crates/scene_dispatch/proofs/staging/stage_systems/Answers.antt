use Rattle.std.proofs.Common.{◌≡◌, [], length, map, vec_len, All, ap, sym, ◌∙◌, subst, arith}
use Rattle.std.proofs.lemmas.List.{length-map}
use Rattle.shred_world.specs.contracts.resource_id.ResourceIdPartialEq.TheImpl.{eq-value}
use Rattle.scene_document.specs.DraftViews.{plain_draft}
use Rattle.scene_world.specs.Places.{kinds_of}
use Rattle.scene_world.specs.Turns.{placed_as, IsOfBook}
use Rattle.scene_world.specs.declared.placed.Placed.{Placed}
use Rattle.scene_dispatch.specs.Orders.{turn_order}
use Rattle.scene_dispatch.specs.Staged.{HasSystems}
use Rattle.scene_dispatch.proofs.StagedLemmas.{none-has, all-fit, entries-named, entries-few, entries-known, document-order}
use Rattle.scene_dispatch.proofs.staging.stage_systems.Goals as goal

pub add_entries-requires-clause-none : goal.add_entries-requires-clause-none
add_entries-requires-clause-none g c =
    subst (HasSystems (kinds_of g.R.Value.SceneValue.places g.R.DocumentRules.part_of g.R.WorldRules.columns) eq-value.it
    (placed_as (λ placed. placed.position) (λ placed. placed.system) g.R.DocumentRules.kind_of g.R.DocumentRules.config_of g.R.DocumentRules.declared g.R.Rules.sense g.R.Rules.does) (g.R.DocumentRules.book c.args.rules.now) [])
    (sym c.new-builder.ensures)
    (none-has (kinds_of g.R.Value.SceneValue.places g.R.DocumentRules.part_of g.R.WorldRules.columns) eq-value.it
    (placed_as (λ placed. placed.position) (λ placed. placed.system) g.R.DocumentRules.kind_of g.R.DocumentRules.config_of g.R.DocumentRules.declared g.R.Rules.sense g.R.Rules.does) (g.R.DocumentRules.book c.args.rules.now) c.args.workers)

pub add_entries-requires-clause-few : goal.add_entries-requires-clause-few
add_entries-requires-clause-few g c =
    let few = entries-few (g.R.DocumentRules.book c.args.rules.now) (map plain_draft c.args.entries.items) c.requires.document in
    let count : length (map plain_draft c.args.entries.items) ≡ vec_len c.args.entries = length-map c.args.entries.items plain_draft ∙ sym c.args.entries.ok.0 in
    omega (arith, few, count)

pub add_entries-requires-clause-fit : goal.add_entries-requires-clause-fit
add_entries-requires-clause-fit g c =
    let kinds = kinds_of g.R.Value.SceneValue.places g.R.DocumentRules.part_of g.R.WorldRules.columns in
    let book = g.R.DocumentRules.book c.args.rules.now in
    let named = g.met.R.WorldRules.named_so c.args.rules.now in
    all-fit kinds g.R.DocumentRules.kind_of g.R.DocumentRules.config_of g.R.DocumentRules.declared g.R.DocumentRules.said_time (g.R.DocumentRules.made_by c.args.rules.now) book c.args.entries.items c.requires.said c.requires.made
    (entries-known book (map plain_draft c.args.entries.items) c.requires.document kinds named.parts named.globals (g.met.R.DocumentRules.declares_known c.args.rules.now))

pub returns-clause-order : goal.returns-clause-order
returns-clause-order g c = λ draft frame its.
    let kinds = kinds_of g.R.Value.SceneValue.places g.R.DocumentRules.part_of g.R.WorldRules.columns in
    let book = g.R.DocumentRules.book c.args.rules.now in
    let named = g.met.R.WorldRules.named_so c.args.rules.now in
    let plain = (placed_as {P = Placed g.row.R.Denot g.row.R-Value.Denot g.row.R-Data.Denot g.row.R-Global.Denot g.row.R-System.Denot} (λ placed. placed.position) (λ placed. placed.system) g.R.DocumentRules.kind_of g.R.DocumentRules.config_of g.R.DocumentRules.declared g.R.Rules.sense
    g.R.Rules.does).plain in
    ap (turn_order plain) c.build.ensures
    ∙ document-order kinds plain g.met.R.WorldRules.apart (map plain_draft c.args.entries.items) c.add_entries.new.builder
    (entries-known book (map plain_draft c.args.entries.items) c.requires.document kinds named.parts named.globals (g.met.R.DocumentRules.declares_known c.args.rules.now))
    (entries-named book (map plain_draft c.args.entries.items) c.requires.document) c.in_ok-add_entries.ensures.has.drafted draft frame its

pub returns-clause-staged : goal.returns-clause-staged
returns-clause-staged g c =
    let meaning = placed_as {P = Placed g.row.R.Denot g.row.R-Value.Denot g.row.R-Data.Denot g.row.R-Global.Denot g.row.R-System.Denot} (λ placed. placed.position) (λ placed. placed.system) g.R.DocumentRules.kind_of g.R.DocumentRules.config_of g.R.DocumentRules.declared g.R.Rules.sense
    g.R.Rules.does in
    subst (λ d. All (IsOfBook meaning (g.R.DocumentRules.book c.args.rules.now)) d.staging.systems) (sym c.build.ensures) c.in_ok-add_entries.ensures.has.staged

pub returns-clause-locals : goal.returns-clause-locals
returns-clause-locals g c =
    let meaning = placed_as {P = Placed g.row.R.Denot g.row.R-Value.Denot g.row.R-Data.Denot g.row.R-Global.Denot g.row.R-System.Denot} (λ placed. placed.position) (λ placed. placed.system) g.R.DocumentRules.kind_of g.R.DocumentRules.config_of g.R.DocumentRules.declared g.R.Rules.sense
    g.R.Rules.does in
    subst (λ d. All (IsOfBook meaning (g.R.DocumentRules.book c.args.rules.now)) d.locals) (sym c.build.ensures) c.in_ok-add_entries.ensures.has.locals
