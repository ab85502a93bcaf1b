use Rattle.std.proofs.Common.{◌≡◌, ℕ, suc, ◌+◌, ◌<◌, min, List, length, map, drop, get_or, ap, sym, ◌∙◌, arith}
use Rattle.std.proofs.lemmas.List.{get_or_default}
use Rattle.std.proofs.Math.Seq.{drop-cons}
use Rattle.specs_layouts.specs.Blocks.{event_place}
use Rattle.specs_layouts.specs.Channels.{least_of}
use Rattle.specs_layouts.specs.declared.blocks.Place.{Place}
use Rattle.specs_layouts.proofs.blocks.least.Goals as goal
use Rattle.specs_layouts.proofs.blocks.least.Goals.{then-place-least, else-place-least}

-- the least of the rest of the places, where the first of them was looked at
next : (least : ℕ) (places : List Place) (k : ℕ) (d : Place) → k < length places → (after : ℕ) → after ≡ min least (get_or places k d).event → least_of after (map event_place (drop (k + 1) places)) ≡ least_of least (map event_place (drop k places))
next least places k d within after is =
    ap (λ n. least_of n (map event_place (drop (k + 1) places))) is
    ∙ ap (λ n. least_of (min least (get_or places k d).event) (map event_place (drop n places))) (let next : k + 1 ≡ suc k = omega arith in next)
    ∙ ap (λ rest. least_of least (map event_place rest)) (sym (drop-cons places k d within))

pub loop-place-preserved : goal.loop-place-preserved
loop-place-preserved c =
    let places = c.args.places.now in
    let k = c.loop-place.place-index in
    let d : Place = record { block = 0; event = 0 } in
    let within = c.loop-place-test.true in
    let least = c.loop-place.least.event in
    elim c.if-place-least.branch [
      | then-place-least w ↦
          let less = w.if-place-least.true in
          record {
            value = next least places k d within c.if-place-least.least.event (ap event_place w.least-is ∙ (let lower : (get_or places k d).event ≡ min least (get_or places k d).event = omega (arith, less) in lower)) ∙ c.loop-place.invariant.value;
            one = λ test most all. ap test (w.least-is ∙ get_or_default places k d c.args.most within) ∙ all k within;
          }
      | else-place-least w ↦
          let more = w.if-place-least.false in
          record {
            value = next least places k d within c.if-place-least.least.event (ap event_place w.least-is ∙ (let lower : least ≡ min least (get_or places k d).event = omega (arith, more) in lower)) ∙ c.loop-place.invariant.value;
            one = λ test most all. ap test w.least-is ∙ c.loop-place.invariant.one test most all;
          }
    ]
