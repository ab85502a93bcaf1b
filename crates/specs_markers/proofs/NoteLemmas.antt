-- Tables of notes as finite maps, and what a note more makes of them.
use Rattle.std.proofs.Common.{◌≡◌, ℕ, ◌+◌, max, nat_eq, unwrap_or, Bool, true, false, cond, List, [], ◌∷◌, Some, Option, refl, sym, ap, subst, ◌∙◌}
use Rattle.std.proofs.lemmas.Bool.{false≢true, eqb-true, false_from_ne_true}
use Rattle.std.proofs.lemmas.Cmp.{eq_by_cmp_equiv, nat_cmp_total, nat_eq_equiv}
use Rattle.std.specs.Cmp.{IsEquivalence, IsTotalOrder}
use Rattle.std.specs.Cmp.Lexicographic.{slice_cmp}
use Rattle.std.specs.Str.{bytes_eq}
use Rattle.std.proofs.lemmas.Slice.Eq.{bytes_eq-Decides}
use Rattle.std.proofs.lemmas.Cmp.{nat_list_cmp_total, nat_list_eq_equiv}
use Rattle.rand_core.specs.Stream.{Stream}
use Rattle.specs_markers.specs.Uuids.{Drawing, GivesUuid, drawn_under}
use Rattle.std.specs.FinMap as map
use Rattle.std.specs.Map.{lookup, update_all}
use Rattle.std.specs.Ordering.{eq_by_cmp, is_eq, nat_cmp}
use Rattle.std.specs.declared.cmp.Ordering.{Ordering}
use Rattle.std.specs.declared.cmp.Ordering.TheVariants.{Less, Equal, Greater}
use Rattle.specs_entity.specs.Life.{LifeAt}
use Rattle.specs_markers.specs.Marks.{Notes}
use Rattle.specs_markers.specs.Simple.{Noting, Gives, noted_under, given_id, allocated}

ranked_equal : (r : Ordering) → is_eq r ≡ true → r ≡ Equal
ranked_equal Less e = absurd (false≢true e)
ranked_equal Equal e = refl
ranked_equal Greater e = absurd (false≢true e)

module _ {K : Type 0} (eq : K → K → Bool) (cmp : K → K → Ordering) (laws : IsEquivalence eq) (exact : (x y : K) → eq x y ≡ true → x ≡ y) (total : IsTotalOrder cmp) (same : map.IsAntisymmetric cmp) where
  tests-agree : (x y : K) (a b : Bool) → eq x y ≡ a → eq_by_cmp cmp x y ≡ b → a ≡ b
  tests-agree x y true true one other = refl
  tests-agree x y true false one other =
      absurd (false≢true (sym other ∙ subst (λ z. eq_by_cmp cmp x z ≡ true) (exact x y one) ((eq_by_cmp_equiv total).refl x)))
  tests-agree x y false true one other =
      absurd (false≢true (sym one ∙ subst (λ z. eq x z ≡ true) (same x y (ranked_equal (cmp x y) other)) (laws.refl x)))
  tests-agree x y false false one other = refl

  -- the two tests of keys are one
  pub same-test : (x y : K) → eq x y ≡ eq_by_cmp cmp x y
  same-test x y = tests-agree x y (eq x y) (eq_by_cmp cmp x y) refl refl

  found : {X : Type 0} (entries : List (K × X)) (q : K) → lookup (eq q) entries ≡ map.find cmp q entries
  found [] q = refl
  found (e ∷ es) q =
      ap (λ b. cond b (Some e.1) (lookup (eq q) es)) (same-test q e.0) ∙ ap (cond (eq_by_cmp cmp q e.0) (Some e.1)) (found es q)

  -- a look-up in the map of a table's entries is one in the table
  pub get-noted : {X : Type 0} (entries : List (K × X)) (q : K) → map.get (map.from_entries {R = cmp} entries) q ≡ lookup (eq q) entries
  get-noted entries q = map.get-from_entries total entries q ∙ sym (found entries q)

  -- a table that reads as another with one entry more is the other's map with it
  pub noted-more : {X : Type 0} (before after : List (K × X)) (key : K) (value : X) → ((q : K) → lookup (eq q) after ≡ cond (eq key q) (Some value) (lookup (eq q) before)) → map.from_entries {R = cmp} after ≡ map.insert (map.from_entries before) key value
  noted-more before after key value reads =
      map.same_map total same _ _
      (λ q. get-noted after q
      ∙ (reads q
      ∙ (ap (λ b. cond b (Some value) (lookup (eq q) before)) (laws.symm key q ∙ same-test q key)
      ∙ (ap (cond (eq_by_cmp cmp q key) (Some value)) (sym (get-noted before q))
      ∙ sym (map.get-insert total (map.from_entries before) key value q)))))

  -- an entity that is put into the map is noted, and no other
  pub notes-put : (noted : map.FinMap cmp LifeAt) (key : K) (entity : LifeAt) → Notes (map.get noted) key entity (map.get (map.insert noted key entity))
  notes-put noted key entity =
      record {
        here = map.get-insert total noted key entity key ∙ ap (λ b. cond b (Some entity) (map.get noted key)) ((eq_by_cmp_equiv total).refl key);
        others = λ other apart. map.get-insert total noted key entity other
            ∙ ap (λ b. cond b (Some entity) (map.get noted other)) (false_from_ne_true (eq_by_cmp cmp other key) (λ e. apart (same other key (ranked_equal (cmp other key) e))));
      }

-- ---- numbers as ids

abbrev pub at_numbers : List (ℕ × LifeAt) → map.FinMap nat_cmp LifeAt
at_numbers entries = map.from_entries entries

pub get-number : (entries : List (ℕ × LifeAt)) (q : ℕ) → map.get (at_numbers entries) q ≡ lookup (nat_eq q) entries
get-number = get-noted nat_eq nat_cmp nat_eq_equiv eqb-true nat_cmp_total map.nat_cmp-IsAntisymmetric

-- what an allocation makes of the counter and the table
pub allocated-is : (next number : ℕ) (asked : Option ℕ) (entity : LifeAt) (before after : List (ℕ × LifeAt)) → number ≡ unwrap_or asked next → ((q : ℕ) → lookup (nat_eq q) after ≡ cond (nat_eq number q) (Some entity) (lookup (nat_eq q) before))
    → record { next = max next (number + 1); noted = at_numbers after } ≡ allocated (record { next = next; noted = at_numbers before }) entity asked
allocated-is next number asked entity before after is reads =
    let more = noted-more nat_eq nat_cmp nat_eq_equiv eqb-true nat_cmp_total map.nat_cmp-IsAntisymmetric before after number entity reads in
    (λ i. record { next = max next (number + 1); noted = more i })
    ∙ ap (λ (n : ℕ). record { next = max next (n + 1); noted = map.insert (at_numbers before) n entity }) is

pub notes-number : (a : Noting) (entity : LifeAt) (asked : Option ℕ) → Notes (noted_under a) (given_id a asked) entity (noted_under (allocated a entity asked))
notes-number a entity asked = notes-put nat_eq nat_cmp nat_eq_equiv eqb-true nat_cmp_total map.nat_cmp-IsAntisymmetric a.noted (given_id a asked) entity

-- a marker that is given notes the entity under its id
pub gives-notes : (a after : Noting) (entity : LifeAt) (asked : Option ℕ) (marker : ℕ) → Gives a entity asked marker after → Notes (noted_under a) marker entity (noted_under after)
gives-notes a after entity asked marker gives =
    subst (λ m. Notes (noted_under a) m entity (noted_under after)) (sym gives.id)
    (subst (λ b. Notes (noted_under a) (given_id a asked) entity (noted_under b)) (sym gives.allocator) (notes-number a entity asked))

-- ---- UUIDs as ids

abbrev pub at_uuids : List (List ℕ × LifeAt) → map.FinMap (slice_cmp nat_cmp) LifeAt
at_uuids entries = map.from_entries entries

same-bytes : (x y : List ℕ) → bytes_eq x y ≡ true → x ≡ y
same-bytes x y = (bytes_eq-Decides x y).0

pub get-uuid : (entries : List (List ℕ × LifeAt)) (q : List ℕ) → map.get (at_uuids entries) q ≡ lookup (bytes_eq q) entries
get-uuid = get-noted bytes_eq (slice_cmp nat_cmp) nat_list_eq_equiv same-bytes nat_list_cmp_total (map.slice_cmp-IsAntisymmetric map.nat_cmp-IsAntisymmetric)

pub uuid-more : (before after : List (List ℕ × LifeAt)) (key : List ℕ) (entity : LifeAt) → ((q : List ℕ) → lookup (bytes_eq q) after ≡ cond (bytes_eq key q) (Some entity) (lookup (bytes_eq q) before)) → at_uuids after ≡ map.insert (at_uuids before) key entity
uuid-more = noted-more bytes_eq (slice_cmp nat_cmp) nat_list_eq_equiv same-bytes nat_list_cmp_total (map.slice_cmp-IsAntisymmetric map.nat_cmp-IsAntisymmetric)

-- a table with the same entries in another order is the same map
pub uuid-same : (before after : List (List ℕ × LifeAt)) → ((q : List ℕ) → lookup (bytes_eq q) after ≡ lookup (bytes_eq q) before) → at_uuids after ≡ at_uuids before
uuid-same before after reads =
    map.same_map nat_list_cmp_total (map.slice_cmp-IsAntisymmetric map.nat_cmp-IsAntisymmetric) _ _
    (λ q. get-uuid after q ∙ (reads q ∙ sym (get-uuid before q)))

-- a marker that is given notes the entity under its id
pub gives-uuid-notes : {R : Type 0} (stream : R → Stream) (a after : Drawing R) (entity : LifeAt) (asked : Option (List ℕ)) (marker : List ℕ) → GivesUuid stream a entity asked marker after → Notes (drawn_under a) marker entity (drawn_under after)
gives-uuid-notes stream a after entity asked marker gives =
    subst (λ noted. Notes (drawn_under a) marker entity (map.get noted)) (sym gives.noted)
    (notes-put bytes_eq (slice_cmp nat_cmp) nat_list_eq_equiv same-bytes nat_list_cmp_total (map.slice_cmp-IsAntisymmetric map.nat_cmp-IsAntisymmetric) a.noted marker entity)

-- one entry more, and then those of a list
pub one-noted : {I X : Type 0} (eq : I → I → Bool) (before after : I → Option X) (key : I) (value : X) (rest : List (I × X)) (q : I) → ((p : I) → after p ≡ cond (eq key p) (Some value) (before p)) → update_all eq after rest q ≡ update_all eq before ((key, value) ∷ rest) q
one-noted {I} {X} eq before after key value rest q reads = ap (λ (f : I → Option X). update_all eq f rest q) (λ i p. reads p i)
