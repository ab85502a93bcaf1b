use Rattle.std.proofs.Common.{◌≡◌, ℕ, ◌+◌, ◌-◌, ◌<◌, ◌≤◌, inl, inr, refl, length, take, slice_index, get_or, ap, sym, ◌∙◌, arith}
use Rattle.std.proofs.lemmas.Bool.{cases_lt}
use Rattle.std.proofs.lemmas.List.{get_or-take, get_or_past, length-take}
use Rattle.hibitset.proofs.rows.row_with_lowest.Goals as goal

pub returns-clause-copied : goal.returns-clause-copied
returns-clause-copied c =
    let lowest = c.layer0_as_slice-lowest.result.now in
    let words = c.layer0_as_slice-lowest.ensures.words in
    let kept : ℕ = c.min-kept.result in
    let least = c.min-kept.ensures in
    let none = c.in_ok-row.ensures.len in
    let counted = c.in_ok-extend_from_slice.ensures.len in
    let copied = length-take kept lowest in
    let room = c.requires.room in
    λ place low. elim (cases_lt place kept) [
      | inl within ↦
          c.in_ok-resize.ensures.by_index.0 place 0 (omega arith) (omega arith) ∙ c.in_ok-extend_from_slice.ensures.by_index.1 place 0 refl (omega arith)
          ∙ ap (λ n. get_or (take kept lowest) (place - n) 0) none ∙ ap (λ at. get_or (take kept lowest) at 0) (let same : place - 0 ≡ place = omega arith in same)
          ∙ get_or-take kept lowest place 0 within ∙ words place
      | inr beyond ↦ c.in_ok-resize.ensures.by_index.1 place 0 refl (omega arith) (omega arith) ∙ sym (get_or_past lowest place 0 (omega arith)) ∙ words place
    ]
