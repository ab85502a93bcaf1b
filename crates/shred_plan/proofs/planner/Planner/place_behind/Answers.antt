use Rattle.std.proofs.Common.{◌≡◌, ℕ, ◌^◌, ◌-◌, ◌<◌, min, not, length, get_or, filter, [], sym, ap, ◌∙◌, arith, Some}
use Rattle.std.proofs.lemmas.List.{get_or_read}
use Rattle.std.specs.List.{position}
use Rattle.std.specs.Option.{option_map}
use Rattle.std.specs.Prelude.{◌&&◌}
use Rattle.shred_plan.specs.declared.stage.Way.TheVariants.{Behind}
use Rattle.shred_plan.specs.Plan.{completes, joins}
use Rattle.shred_plan.specs.Index.{stage_at, stood_before, rest_at, way_at, NoneAdmits}
use Rattle.shred_plan.proofs.FirstLemmas.{way-closed, waits-until, last-blocked, last-tight, last-wanted, rest-kept, one-more}
use Rattle.shred_plan.proofs.planner.Planner.place_behind.Goals as goal
use Rattle.shred_plan.proofs.planner.Planner.place_behind.Goals.{then-ready-self-via-then-ready-self, then-ready-self-via-else-ready-self+then-ready-len, then-contains-via-then-contains, then-contains-via-else-contains+then-not-is_loose}

pub returns-then-ready-self : goal.returns-then-ready-self
returns-then-ready-self g c =
    let same = g.K.PartialEq.eq in
    let stages = c.args.self.now.stages in
    let first = c.args.self.now.first in
    let whole = ap (λ plan. length plan.stages) c.self.view_is in
    let started = ap (λ plan. plan.first) c.self.view_is in
    let small : length stages < 2 ^ 63 = omega arith in
    let end : ℕ = min c.args.ready (length stages) in
    elim c.then-ready-self.branch [
      | then-ready-self-via-then-ready-self w ↦ λ place low high. way-closed same first c.args.adding.now stages place (omega arith)
      | then-ready-self-via-else-ready-self+then-ready-len w ↦ waits-until same first c.args.adding.now stages c.args.ready end c.requires.readies c.requires.distinct small (omega arith) (omega arith)
    ]

pub returns-then-contains : goal.returns-then-contains
returns-then-contains g c =
    let same = g.K.PartialEq.eq in
    let stages = c.args.self.now.stages in
    let first = c.args.self.now.first in
    let one = c.args.adding.now in
    let ready = c.args.ready in
    let last : ℕ = ready - 1 in
    let whole = ap (λ plan. length plan.stages) c.self.view_is in
    let small : length stages < 2 ^ 63 = omega arith in
    let within : last < length stages = omega arith in
    let before : last < ready = omega arith in
    let early : NoneAdmits same first one stages 0 last = waits-until same first one stages ready last c.requires.readies c.requires.distinct small before (omega arith) in
    one-more same first one stages 0 last (min ready (length stages)) (omega arith) early
    (elim c.then-contains.branch [
      | then-contains-via-then-contains w ↦ last-blocked same first one stages ready last c.args.blocked.now c.requires.readies small within before c.requires.blocks (sym c.contains.ensures ∙ w.if-contains.true)
      | then-contains-via-else-contains+then-not-is_loose w ↦ last-tight same first one stages ready last g.K.Ord.cmp c.args.index.now c.requires.readies small within before c.requires.keeps (sym w.is_loose.ensures ∙ w.if-not-is_loose.true)
    ])

pub returns-in-Some : goal.returns-in-Some
returns-in-Some g c =
    let same = g.K.PartialEq.eq in
    let stages = c.args.self.now.stages in
    let first = c.args.self.now.first in
    let one = c.args.adding.now in
    let ready = c.args.ready in
    let last : ℕ = ready - 1 in
    let whole = ap (λ plan. length plan.stages) c.self.view_is in
    let started = ap (λ plan. plan.first) c.self.view_is in
    let small : length stages < 2 ^ 63 = omega arith in
    let within : last < length stages = omega arith in
    let before : last < ready = omega arith in
    let early : NoneAdmits same first one stages 0 last = waits-until same first one stages ready last c.requires.readies c.requires.distinct small before (omega arith) in
    let read : c.index-stage.result.now ≡ stage_at stages last = get_or_read c.self.inside.stages.items last _ (omega arith) c.index-stage.ensures [] ∙ ap (λ plan. get_or plan.stages last []) c.self.view_is in
    let rests : c.deref.result.now ≡ rest_at one stages last =
    c.deref.ensures.value ∙ c.in_ok-rest.ensures
    ∙ ap (λ firsts. filter (λ number. not (stood_before firsts.stages number last)) c.after.result.now) c.firsts.ensures
    ∙ ap (λ list. filter (λ number. not (stood_before c.args.index.now.firsts.stages number last)) list) c.after.ensures
    ∙ rest-kept one stages g.K.Ord.cmp same c.args.index.now c.requires.keeps c.requires.distinct last in
    let found : c.in_ok-group.field-0 ≡ position (λ group. completes c.deref.result.now group && joins one (stage_at stages last) group) (stage_at stages last) =
    c.in_ok-group.ensures ∙ ap (λ stage. position (λ group. completes c.deref.result.now group && joins one stage group) stage) read in
    let way : way_at same first one stages last ≡ Some (Behind c.in-Some.group) =
    last-wanted same first one stages ready last c.args.blocked.now c.deref.result.now c.in_ok-group.field-0 c.requires.readies small within before (omega arith) c.requires.blocks (sym c.contains.ensures ∙ c.if-contains.false) rests found
    ∙ ap (option_map Behind) c.in-Some.is in
    (omega arith, omega arith, way, early)

pub returns : goal.returns
returns g c =
    let same = g.K.PartialEq.eq in
    let stages = c.args.self.now.stages in
    let first = c.args.self.now.first in
    let one = c.args.adding.now in
    let ready = c.args.ready in
    let last : ℕ = ready - 1 in
    let whole = ap (λ plan. length plan.stages) c.self.view_is in
    let started = ap (λ plan. plan.first) c.self.view_is in
    let small : length stages < 2 ^ 63 = omega arith in
    let within : last < length stages = omega arith in
    let before : last < ready = omega arith in
    let early : NoneAdmits same first one stages 0 last = waits-until same first one stages ready last c.requires.readies c.requires.distinct small before (omega arith) in
    let read : c.index-stage.result.now ≡ stage_at stages last = get_or_read c.self.inside.stages.items last _ (omega arith) c.index-stage.ensures [] ∙ ap (λ plan. get_or plan.stages last []) c.self.view_is in
    let rests : c.deref.result.now ≡ rest_at one stages last =
    c.deref.ensures.value ∙ c.in_ok-rest.ensures
    ∙ ap (λ firsts. filter (λ number. not (stood_before firsts.stages number last)) c.after.result.now) c.firsts.ensures
    ∙ ap (λ list. filter (λ number. not (stood_before c.args.index.now.firsts.stages number last)) list) c.after.ensures
    ∙ rest-kept one stages g.K.Ord.cmp same c.args.index.now c.requires.keeps c.requires.distinct last in
    let found : c.in_ok-group.field-0 ≡ position (λ group. completes c.deref.result.now group && joins one (stage_at stages last) group) (stage_at stages last) =
    c.in_ok-group.ensures ∙ ap (λ stage. position (λ group. completes c.deref.result.now group && joins one stage group) stage) read in
    one-more same first one stages 0 last (min ready (length stages)) (omega arith) early
    (last-wanted same first one stages ready last c.args.blocked.now c.deref.result.now c.in_ok-group.field-0 c.requires.readies small within before (omega arith) c.requires.blocks (sym c.contains.ensures ∙ c.if-contains.false) rests found
    ∙ ap (option_map Behind) c.in-None.is)
