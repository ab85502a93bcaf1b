-- Lemmas on the index of each id that is borne.
use Rattle.std.proofs.Common.{◌≡◌, ◌+◌, ◌<◌, ℕ, zero, suc, Bool, true, false, List, [], ◌∷◌, ◌++◌, length, take, get_or, cond, All, Option, None, Some, is_some, ◌⊎◌, inl, inr, refl, ap, sym, subst, ◌∙◌, arith}
use Rattle.std.proofs.lemmas.List.{take_more, length-take-le}
use Rattle.std.proofs.lemmas.List.Elements.{All-head, All-tail}
use Rattle.std.specs.Cmp.{nat_cmp_total}
use Rattle.std.specs.Ordering.{nat_cmp, match_ordering, eq_by_cmp}
use Rattle.std.specs.BTreeMap.{BTreeMap, insert_entry, is_at, get}
use Rattle.std.specs.Map.{lookup}
use Rattle.std.specs.FinMap as finite
use Rattle.std.specs.FinMap.{FinMap, entries-insert}
use Rattle.std.specs.Prelude.{slice_get}
use Rattle.std.proofs.lemmas.Bool.{false≢true}
use Rattle.std.proofs.lemmas.Option.{same_Some}
use Rattle.scene_model.specs.Slots.{filled}
use Rattle.scene.specs.KeptScenes.{with_bearer, bearers_from, bearers}
use Rattle.scene.proofs.IdLemmas.{same_key, same-is, same-itself}

-- an entry comes to its place in the one list as in the other
same-put : (es : List (ℕ × ℕ)) (k v : ℕ) → insert_entry nat_cmp es k v ≡ finite.put nat_cmp k v es
same-put [] k v = refl
same-put (e ∷ es) k v = ap (λ rest. match_ordering (nat_cmp k e.0) ((k, v) ∷ e ∷ es) ((e.0, v) ∷ es) (e ∷ rest)) (same-put es k v)

-- nobody bears an id at first
pub none-borne : finite.entries (finite.empty {K = ℕ} {X = ℕ} {R = nat_cmp}) ≡ []
none-borne = no_length (finite.entries finite.empty) (sym (finite.len-entries finite.empty) ∙ finite.len-empty nat_cmp ℕ)
  where
    no_length : (es : List (ℕ × ℕ)) → length es ≡ 0 → es ≡ []
    no_length [] none = refl
    no_length (e ∷ es) none = absurd (omega (arith, none))

-- so an id that is put in is one more bearer
pub bearer-put : (found : FinMap nat_cmp ℕ) (entries after : List (ℕ × ℕ)) (id index : ℕ) → entries ≡ finite.entries found → after ≡ insert_entry nat_cmp entries id index → after ≡ finite.entries (with_bearer found index (Some id))
bearer-put found entries after id index was then = then ∙ ap (λ es. insert_entry nat_cmp es id index) was ∙ same-put (finite.entries found) id index ∙ sym (entries-insert nat_cmp_total found id index)

bearers-append : (found : FinMap nat_cmp ℕ) (index : ℕ) (seats : List (Option ℕ)) (seat : Option ℕ) → bearers_from found index (seats ++ seat ∷ []) ≡ with_bearer (bearers_from found index seats) (index + length seats) seat
bearers-append found index [] seat = ap (λ at. with_bearer found at seat) (omega arith)
bearers-append found index (first ∷ seats) seat = bearers-append (with_bearer found index first) (suc index) seats seat ∙ ap (λ at. with_bearer (bearers_from (with_bearer found index first) (suc index) seats) at seat) (omega arith)

-- the bearers among one index more
pub bearers-more : (seats : List (Option ℕ)) (k : ℕ) (d : Option ℕ) → k < length seats → bearers (take (k + 1) seats) ≡ with_bearer (bearers (take k seats)) k (get_or seats k d)
bearers-more seats k d below =
    let at : 0 + length (take k seats) ≡ k = omega (arith, length-take-le k seats (omega arith)) in
    ap bearers (take_more seats k d below) ∙ bearers-append finite.empty 0 (take k seats) (get_or seats k d) ∙ ap (λ place. with_bearer (bearers (take k seats)) place (get_or seats k d)) at

find-lookup : (es : List (ℕ × ℕ)) (q : ℕ) → finite.find nat_cmp q es ≡ lookup (is_at (nat_cmp q)) es
find-lookup [] q = refl
find-lookup (e ∷ es) q = ap (cond (eq_by_cmp nat_cmp q e.0) (Some e.1)) (find-lookup es q)

middle : (P : ℕ × ℕ → Type 0) (done : List (ℕ × ℕ)) (e : ℕ × ℕ) (left : List (ℕ × ℕ)) → All P (done ++ e ∷ left) → P e
middle P [] e left each = All-head P e left each
middle P (first ∷ done) e left each = middle P done e left (All-tail P first (done ++ e ∷ left) each)

-- an entry among those of the bearers is what is found of its id
pub bearer-among : (bearing : FinMap nat_cmp ℕ) (found : BTreeMap ℕ ℕ) (done left : List (ℕ × ℕ)) (e : ℕ × ℕ) → found.entries ≡ finite.entries bearing → done ++ e ∷ left ≡ finite.entries bearing
    → All (λ one. get nat_cmp found one.0 ≡ Some one.1) found.entries → finite.get bearing e.0 ≡ Some e.1
bearer-among bearing found done left e same split each =
    finite.get-entries bearing e.0 ∙ find-lookup (finite.entries bearing) e.0 ∙ ap (lookup (is_at (nat_cmp e.0))) (sym same)
    ∙ middle (λ one. get nat_cmp found one.0 ≡ Some one.1) done e left (subst (All (λ one. get nat_cmp found one.0 ≡ Some one.1)) (same ∙ sym split) each)

module _ (id : ℕ) where
  -- where no index bears an id, nothing more is found of it
  pub found-none : (seats : List (Option ℕ)) (found : FinMap nat_cmp ℕ) (k : ℕ) → ((index : ℕ) → filled (slice_get seats index) ≡ Some id → ⊥) → finite.get (bearers_from found k seats) id ≡ finite.get found id
  found-none [] found k never = refl
  found-none (None ∷ seats) found k never = found-none seats found (suc k) (λ index is. never (suc index) is)
  found-none (Some other ∷ seats) found k never =
      found-none seats (finite.insert found other k) (suc k) (λ index is. never (suc index) is) ∙ finite.get-insert nat_cmp_total found other k id ∙ by (same_key id other) refl
    where
      by : (b : Bool) → same_key id other ≡ b → cond b (Some k) (finite.get found id) ≡ finite.get found id
      by true same = absurd (never 0 (ap (λ one. Some one) (sym (same-is id other same))))
      by false apart = refl

  -- and where one index alone does, it is found
  pub found-one : (only : ℕ) (seats : List (Option ℕ)) (found : FinMap nat_cmp ℕ) (k : ℕ) → ((index : ℕ) → filled (slice_get seats index) ≡ Some id → k + index ≡ only)
      → (finite.get found id ≡ Some only) ⊎ ((index : ℕ) × (filled (slice_get seats index) ≡ Some id)) → finite.get (bearers_from found k seats) id ≡ Some only
  found-one only [] found k alone (inl is) = is
  found-one only [] found k alone (inr there) = absurd (false≢true (ap is_some there.1))
  found-one only (None ∷ seats) found k alone either = found-one only seats found (suc k) (λ index is. omega (arith, alone (suc index) is)) (later either)
    where
      later : (finite.get found id ≡ Some only) ⊎ ((index : ℕ) × (filled (slice_get (None ∷ seats) index) ≡ Some id)) → (finite.get found id ≡ Some only) ⊎ ((index : ℕ) × (filled (slice_get seats index) ≡ Some id))
      later (inl is) = inl is
      later (inr (zero, is)) = absurd (false≢true (ap is_some is))
      later (inr (suc index, is)) = inr (index, is)
  found-one only (Some other ∷ seats) found k alone either =
      found-one only seats (finite.insert found other k) (suc k) (λ index is. omega (arith, alone (suc index) is)) (by (same_key id other) refl either)
    where
      by : (b : Bool) → same_key id other ≡ b → (finite.get found id ≡ Some only) ⊎ ((index : ℕ) × (filled (slice_get (Some other ∷ seats) index) ≡ Some id))
          → (finite.get (finite.insert found other k) id ≡ Some only) ⊎ ((index : ℕ) × (filled (slice_get seats index) ≡ Some id))
      by true same rest =
          let here : k + 0 ≡ only = alone 0 (ap (λ one. Some one) (sym (same-is id other same))) in
          inl (finite.get-insert nat_cmp_total found other k id ∙ ap (λ b. cond b (Some k) (finite.get found id)) same ∙ ap (λ one. Some one) (omega (arith, here)))
      by false apart (inl is) = inl (finite.get-insert nat_cmp_total found other k id ∙ ap (λ b. cond b (Some k) (finite.get found id)) apart ∙ is)
      by false apart (inr (zero, is)) = absurd (false≢true (sym apart ∙ ap (same_key id) (same_Some other id is) ∙ same-itself id))
      by false apart (inr (suc index, is)) = inr (index, is)

-- the bearer of an id that one index alone bears, and of one that none does
pub bearer-none : (id : ℕ) (seats : List (Option ℕ)) → ((index : ℕ) → filled (slice_get seats index) ≡ Some id → ⊥) → finite.get (bearers seats) id ≡ None
bearer-none id seats never = found-none id seats finite.empty 0 never ∙ finite.get-empty nat_cmp id

pub bearer-one : (id only : ℕ) (seats : List (Option ℕ)) → ((index : ℕ) → filled (slice_get seats index) ≡ Some id → index ≡ only) → filled (slice_get seats only) ≡ Some id → finite.get (bearers seats) id ≡ Some only
bearer-one id only seats alone there = found-one id only seats finite.empty 0 (λ index is. omega (arith, alone index is)) (inr (only, there))
