-- What insertion and removal do to a dense storage.
use Rattle.std.proofs.Common.{◌≡◌, ◌≢◌, ℕ, zero, suc, ◌+◌, ◌-◌, ◌<◌, ◌≤◌, List, [], ◌∷◌, ◌++◌, length, Some, None, IsSome, is_some, slice_index, get_or, refl, sym, ap, subst, ◌∙◌, arith, inl, inr, set, length-set, length-append, get_or-set_other, get_or-set_same}
use Rattle.std.proofs.lemmas.List.{get_or_append_left, get_or_push}
use Rattle.std.specs.List.{slice_get}
use Rattle.std.proofs.lemmas.Bool.{false≢true, cases_eq, cases_lt}
use Rattle.std.proofs.lemmas.Option.{slice_get-get_or}
use Rattle.specs_layouts.specs.Parts.{Puts}
use Rattle.specs_layouts.specs.Dense.{Dense, dense_part, IsDense}
use Rattle.specs_layouts.specs.DenseLemmas.{Owns, owns-cases, dense_part-there, dense_part-none}

-- two lists that read alike at two places have the same there
pub same-read : {T : Type 0} (xs ys : List T) (i j : ℕ) → i < length xs → j < length ys → ((d : T) → get_or xs i d ≡ get_or ys j d) → slice_get xs i ≡ slice_get ys j
same-read [] ys i j in_xs in_ys alike = absurd (omega (arith, in_xs))
same-read (x ∷ xs) ys i j in_xs in_ys alike =
    slice_get-get_or (x ∷ xs) i x in_xs ∙ (ap Some (alike x) ∙ sym (slice_get-get_or ys j x in_ys))

-- a place within has a part
pub slice_get-within : {T : Type 0} (xs : List T) (i : ℕ) → i < length xs → IsSome (slice_get xs i)
slice_get-within [] i within = absurd (omega (arith, within))
slice_get-within (x ∷ xs) i within = ap is_some (slice_get-get_or (x ∷ xs) i x within)

-- an index without a part owns no place
pub owns-none : {T : Type 0} (s : Dense T) (index : ℕ) → length s.owners ≡ length s.parts → dense_part s index ≡ None → Owns s.places s.owners index → ⊥
owns-none s index same none h =
    let there = slice_get-within s.parts (slice_index s.places index) (omega (arith, h.place, same)) in
    false≢true (sym (ap is_some (sym (dense_part-there s index h) ∙ none)) ∙ there)

-- one index more has a place, the last
pub record Grows (places owners places' owners' : List ℕ) (index count : ℕ) : Type 0 where
  pub same : length owners ≡ count
  pub longer : length places ≤ length places'
  pub inside : index < length places'
  pub table : (other : ℕ) → other ≢ index → slice_index places' other ≡ slice_index places other
  pub told : slice_index places' index ≡ count
  pub count_after : length owners' ≡ count + 1
  pub owners_kept : (place : ℕ) → place < count → slice_index owners' place ≡ slice_index owners place
  pub last : slice_index owners' count ≡ index

module _ (places owners places' owners' : List ℕ) (index count : ℕ) (dense : IsDense places owners count) (absent : Owns places owners index → ⊥) (grows : Grows places owners places' owners' index count) where
  -- an owner before is not the new one
  other-owner : (place : ℕ) → place < count → slice_index owners place ≢ index
  other-owner place within e =
      let known = dense.known place (omega (arith, within, grows.same)) in
      let placed = dense.placed place (omega (arith, within, grows.same)) in
      let at : slice_index places index ≡ place = sym (ap (slice_index places) e) ∙ placed in
      absent (record {
        inside = omega (arith, known, e);
        place = omega (arith, within, grows.same, at);
        owner = ap (slice_index owners) at ∙ e;
      })

  pub grown-dense : IsDense places' owners' (count + 1)
  grown-dense = record {
    same = grows.count_after;
    known = λ place within. elim (cases_lt place count) [
      | inl before ↦ omega (arith, grows.owners_kept place before, dense.known place (omega (arith, before, grows.same)), grows.longer)
      | inr after ↦
          let at : place ≡ count = omega (arith, after, within, grows.count_after) in
          omega (arith, ap (slice_index owners') at, grows.last, grows.inside)
    ];
    placed = λ place within. elim (cases_lt place count) [
      | inl before ↦
          ap (slice_index places') (grows.owners_kept place before)
          ∙ (grows.table (slice_index owners place) (other-owner place before) ∙ dense.placed place (omega (arith, before, grows.same)))
      | inr after ↦
          let at : place ≡ count = omega (arith, after, within, grows.count_after) in
          ap (slice_index places') (ap (slice_index owners') at ∙ grows.last) ∙ (grows.told ∙ sym at)
    ];
  }

  module _ {T : Type 0} (parts parts' : List T) (part : T) (many : length parts ≡ count) (put : slice_get parts' count ≡ Some part) (kept : (place : ℕ) → place < count → slice_get parts' place ≡ slice_get parts place) where
    pub grown-puts : Puts (dense_part (record { places = places; owners = owners; parts = parts })) index (Some part) (dense_part (record { places = places'; owners = owners'; parts = parts' }))
    grown-puts =
        let s : Dense T = record { places = places; owners = owners; parts = parts } in
        let t : Dense T = record { places = places'; owners = owners'; parts = parts' } in
        let own : Owns places' owners' index = record {
          inside = grows.inside;
          place = omega (arith, grows.told, grows.count_after);
          owner = ap (slice_index owners') grows.told ∙ grows.last;
        } in
        record {
          here = dense_part-there t index own ∙ (ap (slice_get parts') grows.told ∙ put);
          others = λ other apart. elim (owns-cases places owners other) [
            | inl h ↦
                let at = grows.table other apart in
                let within : slice_index places other < count = omega (arith, h.place, grows.same) in
                let h' : Owns places' owners' other = record {
                  inside = omega (arith, h.inside, grows.longer);
                  place = omega (arith, at, within, grows.count_after);
                  owner = ap (slice_index owners') at ∙ (grows.owners_kept (slice_index places other) within ∙ h.owner);
                } in
                dense_part-there t other h' ∙ (ap (slice_get parts') at ∙ (kept (slice_index places other) within ∙ sym (dense_part-there s other h)))
            | inr never ↦
                dense_part-none t other (λ h'. elim (cases_lt (slice_index places' other) count) [
                  | inl within ↦
                      let at = grows.table other apart in
                      let owner : slice_index owners (slice_index places' other) ≡ other = sym (grows.owners_kept (slice_index places' other) within) ∙ h'.owner in
                      never (record {
                        inside = omega (arith, dense.known (slice_index places' other) (omega (arith, within, grows.same)), owner);
                        place = omega (arith, within, grows.same, at);
                        owner = sym (ap (slice_index owners) at) ∙ owner;
                      })
                  | inr past ↦
                      let last : slice_index places' other ≡ count = omega (arith, past, h'.place, grows.count_after) in
                      apart (sym h'.owner ∙ (ap (slice_index owners') last ∙ grows.last))
                ])
                ∙ sym (dense_part-none s other never)
          ];
        }

pub slice_get-push : {T : Type 0} (parts : List T) (part : T) → slice_get (parts ++ part ∷ []) (length parts) ≡ Some part
slice_get-push [] part = refl
slice_get-push (first ∷ rest) part = slice_get-push rest part

pub slice_get-kept : {T : Type 0} (parts : List T) (part : T) (place : ℕ) → place < length parts → slice_get (parts ++ part ∷ []) place ≡ slice_get parts place
slice_get-kept [] part place within = absurd (omega (arith, within))
slice_get-kept (first ∷ rest) part zero within = refl
slice_get-kept (first ∷ rest) part (suc place) within = slice_get-kept rest part place (omega (arith, within))

-- an insertion: the table is made longer and told the place, and owner and part are pushed
module _ {T : Type 0} (places more owners owners' : List ℕ) (parts parts' : List T) (index place : ℕ) (part : T) (dense : IsDense places owners (length parts)) (absent : dense_part (record { places = places; owners = owners; parts = parts }) index ≡ None) (longer : length places ≤ length more) (inside : index < length more) (same : (i : ℕ) → slice_index more i ≡ slice_index places i) (at : place ≡ length owners) (owned : owners' ≡ owners ++ index ∷ []) (put : parts' ≡ parts ++ part ∷ []) where
  pushed-grows : Grows places owners (set more index place) owners' index (length parts)
  pushed-grows = record {
    same = dense.same;
    longer = omega (arith, longer, length-set more index place);
    inside = omega (arith, inside, length-set more index place);
    table = λ other apart. get_or-set_other more index other place 0 apart ∙ same other;
    told = get_or-set_same more index place 0 inside ∙ (at ∙ dense.same);
    count_after = ap length owned ∙ (length-append owners (index ∷ []) ∙ ap (λ n. n + 1) dense.same);
    owners_kept = λ k within. ap (λ xs. slice_index xs k) owned ∙ get_or_append_left owners (index ∷ []) 0 k (omega (arith, within, dense.same));
    last = ap (λ xs. slice_index xs (length parts)) owned ∙ get_or_push owners index 0 (length parts) dense.same;
  }

  never-owned : Owns places owners index → ⊥
  never-owned = owns-none (record { places = places; owners = owners; parts = parts }) index dense.same absent

  pub inserted-dense : IsDense (set more index place) owners' (length parts')
  inserted-dense =
      subst (IsDense (set more index place) owners') (sym (ap length put ∙ length-append parts (part ∷ [])))
      (grown-dense places owners (set more index place) owners' index (length parts) dense never-owned pushed-grows)

  pub inserted-puts : Puts (dense_part (record { places = places; owners = owners; parts = parts })) index (Some part) (dense_part (record { places = set more index place; owners = owners'; parts = parts' }))
  inserted-puts =
      grown-puts places owners (set more index place) owners' index (length parts) dense never-owned pushed-grows parts parts' part refl
      (ap (λ xs. slice_get xs (length parts)) put ∙ slice_get-push parts part)
      (λ k within. ap (λ xs. slice_get xs k) put ∙ slice_get-kept parts part k within)

-- one index less has a place: the last owner and part take it
pub record Shrinks (places owners places' owners' : List ℕ) (index : ℕ) : Type 0 where
  pub owned : Owns places owners index
  pub count_after : length owners' + 1 ≡ length owners
  pub table_length : length places' ≡ length places
  pub moved : slice_index places' (slice_index owners (length owners')) ≡ slice_index places index
  pub table : (other : ℕ) → other ≢ slice_index owners (length owners') → slice_index places' other ≡ slice_index places other
  pub owners_kept : (place : ℕ) → place ≢ slice_index places index → place < length owners' → slice_index owners' place ≡ slice_index owners place
  pub mended : slice_index places index < length owners' → slice_index owners' (slice_index places index) ≡ slice_index owners (length owners')

module _ (places owners places' owners' : List ℕ) (index count : ℕ) (dense : IsDense places owners count) (shrinks : Shrinks places owners places' owners' index) where
  -- the last owner's place is the last
  last-placed : slice_index places (slice_index owners (length owners')) ≡ length owners'
  last-placed = dense.placed (length owners') (omega (arith, shrinks.count_after))

  -- an owner elsewhere isn't the last
  not-last : (place : ℕ) → place < length owners' → slice_index owners place ≢ slice_index owners (length owners')
  not-last place within e =
      let own = dense.placed place (omega (arith, within, shrinks.count_after)) in
      let last = last-placed in
      omega (arith, within, sym own ∙ (ap (slice_index places) e ∙ last))

  pub shrunk-dense : (count' : ℕ) → count' + 1 ≡ count → IsDense places' owners' count'
  shrunk-dense count' fewer = record {
    same = omega (arith, dense.same, fewer, shrinks.count_after);
    known = λ place within. elim (cases_eq place (slice_index places index)) [
      | inl here ↦
          let gap : slice_index places index < length owners' = omega (arith, here, within) in
          omega (arith, ap (slice_index owners') here ∙ shrinks.mended gap, dense.known (length owners') (omega (arith, shrinks.count_after)), shrinks.table_length)
      | inr other ↦
          omega (arith, shrinks.owners_kept place other within, dense.known place (omega (arith, within, shrinks.count_after)), shrinks.table_length)
    ];
    placed = λ place within. elim (cases_eq place (slice_index places index)) [
      | inl here ↦
          let gap : slice_index places index < length owners' = omega (arith, here, within) in
          ap (slice_index places') (ap (slice_index owners') here ∙ shrinks.mended gap) ∙ (shrinks.moved ∙ sym here)
      | inr other ↦
          ap (slice_index places') (shrinks.owners_kept place other within)
          ∙ (shrinks.table (slice_index owners place) (not-last place within) ∙ dense.placed place (omega (arith, within, shrinks.count_after)))
    ];
  }

  -- the removed index owns no place
  pub shrunk-gone : Owns places' owners' index → ⊥
  shrunk-gone h = elim (cases_eq index (slice_index owners (length owners'))) [
    | inl last ↦
        let at : slice_index places' index ≡ length owners' = ap (slice_index places') last ∙ (shrinks.moved ∙ (ap (slice_index places) last ∙ last-placed)) in
        omega (arith, at, h.place)
    | inr other ↦
        let at = shrinks.table index other in
        let gap : slice_index places index < length owners' = omega (arith, at, h.place) in
        other (sym h.owner ∙ (ap (slice_index owners') at ∙ shrinks.mended gap))
  ]

  -- another owner before owns a place, and has its part there
  pub shrunk-kept : {T : Type 0} (parts parts' : List T) → ((place : ℕ) → place ≢ slice_index places index → place < length owners' → slice_get parts' place ≡ slice_get parts place) → (slice_index places index < length owners' → slice_get parts' (slice_index places index) ≡ slice_get parts (length owners')) → (other : ℕ) → other ≢ index → Owns places owners other → Owns places' owners' other × (slice_get parts' (slice_index places' other) ≡ slice_get parts (slice_index places other))
  shrunk-kept parts parts' kept mended other apart h = elim (cases_eq other (slice_index owners (length owners'))) [
    | inl last ↦
        let at : slice_index places' other ≡ slice_index places index = ap (slice_index places') last ∙ shrinks.moved in
        let was : slice_index places other ≡ length owners' = ap (slice_index places) last ∙ last-placed in
        let apart_places : slice_index places index ≢ length owners' = λ e. apart (last ∙ (sym (ap (slice_index owners) e) ∙ shrinks.owned.owner)) in
        let gap : slice_index places index < length owners' = omega (arith, shrinks.owned.place, apart_places, shrinks.count_after) in (
          record {
            inside = omega (arith, h.inside, shrinks.table_length);
            place = omega (arith, at, gap);
            owner = ap (slice_index owners') at ∙ (shrinks.mended gap ∙ sym last);
          },
          ap (slice_get parts') at ∙ (mended gap ∙ sym (ap (slice_get parts) was)),
        )
    | inr elsewhere ↦
        let at = shrinks.table other elsewhere in
        let not_end : slice_index places other ≢ length owners' = λ e. elsewhere (sym h.owner ∙ ap (slice_index owners) e) in
        let not_gap : slice_index places other ≢ slice_index places index = λ e. apart (sym h.owner ∙ (ap (slice_index owners) e ∙ shrinks.owned.owner)) in
        let within : slice_index places other < length owners' = omega (arith, h.place, not_end, shrinks.count_after) in (
          record {
            inside = omega (arith, h.inside, shrinks.table_length);
            place = omega (arith, at, within);
            owner = ap (slice_index owners') at ∙ (shrinks.owners_kept (slice_index places other) not_gap within ∙ h.owner);
          },
          ap (slice_get parts') at ∙ kept (slice_index places other) not_gap within,
        )
  ]

  -- an index that owned no place owns none
  pub shrunk-none : (other : ℕ) → (Owns places owners other → ⊥) → Owns places' owners' other → ⊥
  shrunk-none other never h = elim (cases_eq (slice_index places' other) (slice_index places index)) [
    | inl here ↦
        let gap : slice_index places index < length owners' = omega (arith, here, h.place) in
        let last : slice_index owners (length owners') ≡ other = sym (shrinks.mended gap) ∙ (sym (ap (slice_index owners') here) ∙ h.owner) in
        let was : slice_index places other ≡ length owners' = sym (ap (slice_index places) last) ∙ last-placed in
        never (record {
          inside = omega (arith, h.inside, shrinks.table_length);
          place = omega (arith, was, shrinks.count_after);
          owner = ap (slice_index owners) was ∙ last;
        })
    | inr elsewhere ↦
        let owner : slice_index owners (slice_index places' other) ≡ other = sym (shrinks.owners_kept (slice_index places' other) elsewhere h.place) ∙ h.owner in
        let was : slice_index places other ≡ slice_index places' other = sym (ap (slice_index places) owner) ∙ dense.placed (slice_index places' other) (omega (arith, h.place, shrinks.count_after)) in
        never (record {
          inside = omega (arith, h.inside, shrinks.table_length);
          place = omega (arith, was, h.place, shrinks.count_after);
          owner = ap (slice_index owners) was ∙ owner;
        })
  ]

  pub shrunk-puts : {T : Type 0} (parts parts' : List T) → ((place : ℕ) → place ≢ slice_index places index → place < length owners' → slice_get parts' place ≡ slice_get parts place) → (slice_index places index < length owners' → slice_get parts' (slice_index places index) ≡ slice_get parts (length owners')) → Puts (dense_part (record { places = places; owners = owners; parts = parts })) index None (dense_part (record { places = places'; owners = owners'; parts = parts' }))
  shrunk-puts {T} parts parts' kept mended =
      let s : Dense T = record { places = places; owners = owners; parts = parts } in
      let t : Dense T = record { places = places'; owners = owners'; parts = parts' } in
      record {
        here = dense_part-none t index shrunk-gone;
        others = λ other apart. elim (owns-cases places owners other) [
          | inl h ↦
              let after = shrunk-kept parts parts' kept mended other apart h in
              dense_part-there t other after.0 ∙ (after.1 ∙ sym (dense_part-there s other h))
          | inr never ↦ dense_part-none t other (shrunk-none other never) ∙ sym (dense_part-none s other never)
        ];
      }

-- a removal: the last owner is told the place, and owners and parts have their last moved there
module _ {T : Type 0} (places owners owners' : List ℕ) (parts parts' : List T) (index place last : ℕ) (dense : IsDense places owners (length parts)) (owned : Owns places owners index) (at : place ≡ slice_index places index) (is_last : last ≡ slice_index owners (length owners - 1)) (count : length owners' + 1 ≡ length owners) (owner_mended : (d : ℕ) → place + 1 < length owners → get_or owners' place d ≡ get_or owners (length owners - 1) d) (owner_kept : (k d : ℕ) → k ≢ place → k + 1 < length owners → get_or owners' k d ≡ get_or owners k d) (part_count : length parts' + 1 ≡ length parts) (part_mended : (d : T) → place + 1 < length parts → get_or parts' place d ≡ get_or parts (length parts - 1) d) (part_kept : (k : ℕ) (d : T) → k ≢ place → k + 1 < length parts → get_or parts' k d ≡ get_or parts k d) where
  end-is : length owners - 1 ≡ length owners'
  end-is = omega (arith, count)

  last-is : last ≡ slice_index owners (length owners')
  last-is = is_last ∙ ap (slice_index owners) end-is

  last-inside : last < length places
  last-inside = omega (arith, last-is, dense.known (length owners') (omega (arith, count)))

  removed-shrinks : Shrinks places owners (set places last place) owners' index
  removed-shrinks = record {
    owned = owned;
    count_after = count;
    table_length = length-set places last place;
    moved = ap (slice_index (set places last place)) (sym last-is) ∙ (get_or-set_same places last place 0 last-inside ∙ at);
    table = λ other apart. get_or-set_other places last other place 0 (λ e. apart (e ∙ last-is));
    owners_kept = λ k apart within. owner_kept k 0 (λ e. apart (e ∙ at)) (omega (arith, within, count));
    mended = λ gap. ap (slice_index owners') (sym at) ∙ (owner_mended 0 (omega (arith, at, gap, count)) ∙ ap (slice_index owners) end-is);
  }

  pub removed-dense : IsDense (set places last place) owners' (length parts')
  removed-dense = shrunk-dense places owners (set places last place) owners' index (length parts) dense removed-shrinks (length parts') part_count

  pub removed-puts : Puts (dense_part (record { places = places; owners = owners; parts = parts })) index None (dense_part (record { places = set places last place; owners = owners'; parts = parts' }))
  removed-puts =
      shrunk-puts places owners (set places last place) owners' index (length parts) dense removed-shrinks parts parts'
      (λ k apart within. same-read parts' parts k k (omega (arith, within, part_count, count, dense.same)) (omega (arith, within, part_count, count, dense.same)) (λ d. part_kept k d (λ e. apart (e ∙ at)) (omega (arith, within, count, dense.same))))
      (λ gap.
      let end : length parts - 1 ≡ length owners' = omega (arith, count, dense.same) in
      same-read parts' parts (slice_index places index) (length owners') (omega (arith, gap, part_count, count, dense.same)) (omega (arith, count, dense.same))
      (λ d. ap (λ n. get_or parts' n d) (sym at) ∙ (part_mended d (omega (arith, at, gap, count, dense.same)) ∙ ap (λ n. get_or parts n d) end)))
