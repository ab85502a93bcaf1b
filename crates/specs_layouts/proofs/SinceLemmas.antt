-- What each reader has yet to read, as events are written, read and let go.
use Rattle.std.proofs.Common.{◌≡◌, ◌≢◌, ℕ, zero, suc, ◌+◌, ◌-◌, ◌<◌, ◌≤◌, min, List, [], ◌∷◌, ◌++◌, length, map, drop, set, get_or, sym, subst, ap, ◌∙◌, arith, inl, inr, get_or-set_same, get_or-set_other}
use Rattle.std.proofs.lemmas.Bool.{cases_eq, cases_lt}
use Rattle.std.proofs.lemmas.List.{get_or_default, get_or_past, get_or-map, drop-append-le, drop-drop, length-map, length-drop, length-set}
use Rattle.std.proofs.Math.Seq.{drop-length}
use Rattle.specs_layouts.specs.Channels.{Channel, IsChannel, IsReader, since, with_event, CaughtUp, log_of, least_of, without_first, let_go, after_read}
use Rattle.specs_layouts.proofs.PlaceSteps.{kept-within, less-none}

pub least-within : (most : ℕ) (places : List ℕ) → least_of most places ≤ most
least-within most [] = omega (arith)
least-within most (place ∷ places) = let more = least-within (min most place) places in omega (arith, more)

pub least-below : (most : ℕ) (places : List ℕ) (reader d : ℕ) → reader < length places → least_of most places ≤ get_or places reader d
least-below most [] reader d within = absurd (omega (arith, within))
least-below most (place ∷ places) zero d within = let more = least-within (min most place) places in omega (arith, more)
least-below most (place ∷ places) (suc reader) d within =
    let less : reader < length places = omega (arith, within) in
    least-below (min most place) places reader d less

module _ {E : Type 0} where
  -- who isn't a reader has nothing to read
  pub since-none : (c : Channel E) (reader : ℕ) → length c.places ≤ reader → since c reader ≡ []
  since-none c reader past = ap (λ p. drop p c.held) (get_or_past c.places reader (length c.held) past) ∙ drop-length c.held

  -- an event that is written is one more to read for each reader
  pub since-written : (c : Channel E) (event : E) (reader : ℕ) → IsChannel c → reader < length c.places → since (with_event c event) reader ≡ since c reader ++ event ∷ []
  since-written c event reader is within =
      let place = get_or c.places reader (length c.held) in
      let below : place ≤ length c.held = omega (arith, is reader, get_or_default c.places reader (length c.held) 0 within) in
      ap (λ p. drop p (c.held ++ event ∷ [])) (get_or_default c.places reader (length (c.held ++ event ∷ [])) (length c.held) within)
      ∙ drop-append-le place c.held (event ∷ []) below

  -- without some first events, a reader who has read these has the same to read
  since-without : (c : Channel E) (count reader : ℕ) → reader < length c.places → count ≤ get_or c.places reader (length c.held) → since (without_first c count) reader ≡ since c reader
  since-without c count reader within read =
      let place = get_or c.places reader (length c.held) in
      let back : count + (place - count) ≡ place = omega (arith, read) in
      ap (λ p. drop p (drop count c.held)) (get_or-map (λ p. p - count) c.places reader (length c.held) (length (drop count c.held)) within)
      ∙ (drop-drop (place - count) count c.held ∙ ap (λ p. drop p c.held) back)

  -- without none of its events, a channel is the same
  without-none : (c : Channel E) → without_first c 0 ≡ c
  without-none c =
      let room : c.room + min 0 (length c.held) ≡ c.room = omega (arith) in
      ap (λ r. record { held = c.held; room = r; places = map (λ place. place - 0) c.places }) room
      ∙ ap (λ ps. record { held = c.held; room = c.room; places = ps }) (less-none c.places)

  -- where some reader has read none, nothing is let go
  pub let_go-none : (c : Channel E) → least_of (length c.held) c.places ≡ 0 → c ≡ let_go c
  let_go-none c none = sym (ap (λ n. without_first c n) none ∙ without-none c)

  -- as events are let go that all have read, each reader has the same to read
  since-let_go : (c : Channel E) (reader : ℕ) → since (let_go c) reader ≡ since c reader
  since-let_go c reader =
      let n = least_of (length c.held) c.places in
      elim (cases_lt reader (length c.places)) [
        | inl within ↦ since-without c n reader within (least-below (length c.held) c.places reader (length c.held) within)
        | inr past ↦
            let same : length (map (λ p. p - n) c.places) ≡ length c.places = length-map c.places (λ p. p - n) in
            since-none (let_go c) reader (omega (arith, past, same)) ∙ sym (since-none c reader past)
      ]

  -- a reader who has read to the end has nothing left to read
  pub since-read : (c : Channel E) (reader : ℕ) → since (after_read c reader) reader ≡ []
  since-read c reader =
      let moved : Channel E = record c { places = set c.places reader (length c.held) } in
      since-let_go moved reader ∙ elim (cases_lt reader (length c.places)) [
        | inl within ↦ ap (λ p. drop p c.held) (get_or-set_same c.places reader (length c.held) (length c.held) within) ∙ drop-length c.held
        | inr past ↦ since-none moved reader (let same = length-set c.places reader (length c.held) in omega (arith, past, same))
      ]

  -- and each other has what it had
  pub since-others : (c : Channel E) (reader other : ℕ) → other ≢ reader → since (after_read c reader) other ≡ since c other
  since-others c reader other apart =
      let moved : Channel E = record c { places = set c.places reader (length c.held) } in
      since-let_go moved other ∙ ap (λ p. drop p c.held) (get_or-set_other c.places reader other (length c.held) (length c.held) apart)

  -- a reader who has read to the end is caught up
  pub caught-read : (c : Channel E) (reader : ℕ) → reader < length c.places → CaughtUp (log_of (after_read c reader)) reader
  caught-read c reader within =
      let len = length c.held in
      let moved : List ℕ = set c.places reader len in
      let n = least_of len moved in
      let same : length moved ≡ length c.places = length-set c.places reader len in
      let there : reader < length moved = omega (arith, within, same) in
      let as_many : length (map (λ p. p - n) moved) ≡ length moved = length-map moved (λ p. p - n) in
      record {
        known = let known : reader < length (map (λ p. p - n) moved) = omega (arith, there, as_many) in known;
        all =
            get_or-map (λ p. p - n) moved reader len (length (drop n c.held)) there
            ∙ (ap (λ p. p - n) (get_or-set_same c.places reader len len within) ∙ sym (length-drop n c.held));
      }

  -- who is a reader stays one
  pub reads-after : (c : Channel E) (reader other : ℕ) → IsReader (log_of c) other → IsReader (log_of (after_read c reader)) other
  reads-after c reader other is =
      let len = length c.held in
      let moved : List ℕ = set c.places reader len in
      let n = least_of len moved in
      let same : length moved ≡ length c.places = length-set c.places reader len in
      let as_many : length (map (λ p. p - n) moved) ≡ length moved = length-map moved (λ p. p - n) in
      let known = is.known in
      let below : get_or moved other 0 ≤ len = elim (cases_eq other reader) [
        | inl here ↦
            let read : get_or moved other 0 ≡ len = ap (λ r. get_or moved r 0) here ∙ get_or-set_same c.places reader len 0 (subst (λ r. r < length c.places) here known) in
            omega (arith, read)
        | inr apart ↦
            let stays : get_or moved other 0 ≡ get_or c.places other 0 = get_or-set_other c.places reader other len 0 apart in
            let within = is.within in
            omega (arith, stays, within)
      ] in
      record {
        known = let there : other < length (map (λ p. p - n) moved) = omega (arith, known, same, as_many) in there;
        within = let within = kept-within n len moved other below in omega (arith, within, length-drop n c.held);
      }
