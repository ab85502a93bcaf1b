-- Values that are stored one after the other.
use Rattle.std.proofs.Common.{◌≡◌, ℕ, zero, suc, ◌+◌, ◌<◌, ◌≤◌, List, [], ◌∷◌, ◌++◌, length, map, filter, cond, Bool, true, false, Option, Some, None, inl, inr, refl, sym, ap, subst, ◌∙◌, arith, append_assoc, append-nil, length-append}
use Rattle.std.proofs.lemmas.List.{map-append}
use Rattle.std.specs.List.{range_with_len, cons_option}
use Rattle.hibitset_sets.specs.BitSet.{SetWithRoom}
use Rattle.hibitset_sets.specs.Walk.{walk}
use Rattle.specs_layouts.specs.ToCome.{IsToCome}
use Rattle.specs_layouts.specs.Parts.{Puts, SameParts, told}
use Rattle.specs_layouts.specs.Channels.{Log}
use Rattle.specs_layouts.specs.declared.track.ComponentEvent.{ComponentEvent}
use Rattle.specs_layouts.specs.declared.track.ComponentEvent.TheVariants as event
use Rattle.specs_join.specs.Joins.{values_at}
use Rattle.specs_join.proofs.NewLemmas.{walk-members}
use Rattle.specs_join.specs.Storing.{all_told, left_at}

-- a list goes up from a least number
abbrev pub Ascends : ℕ → List ℕ → Type 0
Ascends least [] = Unit {0}
Ascends least (first ∷ rest) = (least ≤ first) × Ascends (first + 1) rest

ascends-lower : (low least : ℕ) (list : List ℕ) → low ≤ least → Ascends least list → Ascends low list
ascends-lower low least [] lower up = tt
ascends-lower low least (first ∷ rest) lower up = (omega (arith, lower, up.0), up.1)

either-ascends : (first : ℕ) (rest : List ℕ) (test : Bool) → Ascends (first + 1) rest → Ascends first (cond test (first ∷ rest) rest)
either-ascends first rest true up = (omega arith, up)
either-ascends first rest false up = ascends-lower first (first + 1) rest (omega arith) up

filter-ascends : (n a : ℕ) (p : ℕ → Bool) → Ascends a (filter p (range_with_len a n))
filter-ascends zero a p = tt
filter-ascends (suc n) a p = either-ascends a (filter p (range_with_len (a + 1) n)) (p a) (filter-ascends n (a + 1) p)

pub walk-ascends : (p : ℕ → Bool) → Ascends 0 (walk p)
unfolding walk
walk-ascends p = filter-ascends 16777216 0 p

least-first : (least : ℕ) (done : List ℕ) (index : ℕ) (rest : List ℕ) → Ascends least (done ++ index ∷ rest) → least ≤ index
least-first least [] index rest up = up.0
least-first least (first ∷ done) index rest up = let after = least-first (first + 1) done index rest up.1 in omega (arith, up.0, after)

earlier : (least : ℕ) (done : List ℕ) (index : ℕ) (rest : List ℕ) → Ascends least (done ++ index ∷ rest) → (other : ℕ) → IsToCome other done → other < index
earlier least [] index rest up other come = absurd come
earlier least (first ∷ done) index rest up other (inl here) = let after = least-first (first + 1) done index rest up.1 in omega (arith, here, after)
earlier least (first ∷ done) index rest up other (inr there) = earlier (first + 1) done index rest up.1 other there

not-itself : (index : ℕ) → index < index → ⊥
not-itself index less = absurd (omega (arith, less))

-- an index that a walk still gives was not given before
pub walk-apart : (p : ℕ → Bool) (done : List ℕ) (index : ℕ) (rest : List ℕ) → done ++ index ∷ rest ≡ walk p → ¬ (IsToCome index done)
walk-apart p done index rest is come = not-itself index (earlier 0 done index rest (subst (Ascends 0) (sym is) (walk-ascends p)) index come)

in-middle : (done : List ℕ) (index : ℕ) (rest : List ℕ) → IsToCome index (done ++ index ∷ rest)
in-middle [] index rest = inl refl
in-middle (first ∷ done) index rest = inr (in-middle done index rest)

-- it is a member
pub walk-member : (p : ℕ → Bool) (done : List ℕ) (index : ℕ) (rest : List ℕ) → done ++ index ∷ rest ≡ walk p → p index ≡ true
walk-member p done index rest is = (walk-members p index (subst (IsToCome index) is (in-middle done index rest))).0

-- some first values are stored at some first indices, and each other index has what it had
pub record IsStoring {T : Type 0} (before now : ℕ → Option T) (indices left : List ℕ) (values remaining : List T) (emits : Bool) (events events_now : Log ComponentEvent) : Type 0 where
  pub done : List ℕ
  pub taken : List T
  pub indices_are : done ++ left ≡ indices
  pub values_are : taken ++ remaining ≡ values
  pub same : length done ≡ length taken
  pub stored : values_at now done ≡ taken
  pub others : (index : ℕ) → ¬ (IsToCome index done) → now index ≡ before index
  pub told_of : events_now ≡ all_told emits events done

told-none : (emits : Bool) (events : Log ComponentEvent) → events ≡ all_told emits events []
told-none true events = ap (λ held. record { held = held; places = events.places }) (sym (append-nil events.held))
told-none false events = refl

pub storing-begins : {T : Type 0} (before now : ℕ → Option T) (indices left : List ℕ) (values remaining : List T) (emits : Bool) (events events_now : Log ComponentEvent) → left ≡ indices → remaining ≡ values → SameParts before now → events_now ≡ events → IsStoring before now indices left values remaining emits events events_now
storing-begins before now indices left values remaining emits events events_now same_left same_remaining same_parts same_events =
    record {
      done = [];
      taken = [];
      indices_are = same_left;
      values_are = same_remaining;
      same = refl;
      stored = refl;
      others = λ index _. same_parts index;
      told_of = same_events ∙ told-none emits events;
    }

put-one : {T : Type 0} (first : Option T) (rest : List T) (value : T) → cons_option first (rest ++ value ∷ []) ≡ cons_option first rest ++ value ∷ []
put-one None rest value = refl
put-one (Some first) rest value = refl

values-after : {T : Type 0} (now after : ℕ → Option T) (index : ℕ) (value : T) (done : List ℕ) → Puts now index (Some value) after → ¬ (IsToCome index done) → values_at after (done ++ index ∷ []) ≡ values_at now done ++ value ∷ []
values-after now after index value [] puts apart = ap (λ o. cons_option o []) puts.here
values-after now after index value (first ∷ done) puts apart =
    ap (λ o. cons_option o (values_at after (done ++ index ∷ []))) (puts.others first (λ is. apart (inl is)))
    ∙ ap (cons_option (now first)) (values-after now after index value done puts (λ come. apart (inr come)))
    ∙ put-one (now first) (values_at now done) value

come-before : (done : List ℕ) (index other : ℕ) → IsToCome other done → IsToCome other (done ++ index ∷ [])
come-before (first ∷ done) index other (inl here) = inl here
come-before (first ∷ done) index other (inr there) = inr (come-before done index other there)
come-before [] index other come = absurd come

come-last : (done : List ℕ) (index other : ℕ) → index ≡ other → IsToCome other (done ++ index ∷ [])
come-last [] index other is = inl is
come-last (first ∷ done) index other is = inr (come-last done index other is)

told-one : (emits : Bool) (events : Log ComponentEvent) (done : List ℕ) (index : ℕ) → told emits (all_told emits events done) (event.Modified index) ≡ all_told emits events (done ++ index ∷ [])
told-one true events done index =
    ap (λ held. record { held = held; places = events.places })
    (append_assoc events.held (map event.Modified done) (event.Modified index ∷ []) ∙ ap (λ list. events.held ++ list) (sym (map-append event.Modified done (index ∷ []))))
told-one false events done index = refl

module _ {T : Type 0} (before now : ℕ → Option T) (indices left : List ℕ) (values remaining : List T) (emits : Bool) (events events_now : Log ComponentEvent) (storing : IsStoring before now indices left values remaining emits events events_now) where
  -- one value more at the next index
  pub storing-goes-on : (p : ℕ → Bool) → indices ≡ walk p → (index : ℕ) (rest : List ℕ) → left ≡ index ∷ rest → (value : T) (others : List T) → remaining ≡ value ∷ others → (after : ℕ → Option T) → Puts now index (Some value) after → (events_after : Log ComponentEvent) → events_after ≡ told emits events_now (event.Modified index) → IsStoring before after indices rest values others emits events events_after
  storing-goes-on p walks index rest next value others given after puts events_after tells =
      let apart = walk-apart p storing.done index rest (ap (λ list. storing.done ++ list) (sym next) ∙ storing.indices_are ∙ walks) in
      record {
        done = storing.done ++ index ∷ [];
        taken = storing.taken ++ value ∷ [];
        indices_are = append_assoc storing.done (index ∷ []) rest ∙ ap (λ list. storing.done ++ list) (sym next) ∙ storing.indices_are;
        values_are = append_assoc storing.taken (value ∷ []) others ∙ ap (λ list. storing.taken ++ list) (sym given) ∙ storing.values_are;
        same = length-append storing.done (index ∷ []) ∙ ap (λ n. n + 1) storing.same ∙ sym (length-append storing.taken (value ∷ []));
        stored = values-after now after index value storing.done puts apart ∙ ap (λ list. list ++ value ∷ []) storing.stored;
        others = λ other away. puts.others other (λ is. away (come-last storing.done index other (sym is))) ∙ storing.others other (λ come. away (come-before storing.done index other come));
        told_of = tells ∙ ap (λ list. told emits list (event.Modified index)) storing.told_of ∙ told-one emits events storing.done index;
      }

  -- the next index has a part
  pub storing-member : (p : ℕ → Bool) → indices ≡ walk p → (index : ℕ) (rest : List ℕ) → left ≡ index ∷ rest → p index ≡ true
  storing-member p walks index rest next = walk-member p storing.done index rest (ap (λ list. storing.done ++ list) (sym next) ∙ storing.indices_are ∙ walks)

-- a step of a walk over a set is one over its equal
pub moved-on : (one other : SetWithRoom) → one ≡ other → (masks prefix : List ℕ) (index : ℕ) (masks_after prefix_after : List ℕ) → left_at one masks prefix ≡ index ∷ left_at one masks_after prefix_after → left_at other masks prefix ≡ index ∷ left_at other masks_after prefix_after
moved-on one other same masks prefix index masks_after prefix_after step =
    ap (λ set. left_at set masks prefix) (sym same) ∙ step ∙ ap (λ set. index ∷ left_at set masks_after prefix_after) same
