-- A look-up in the map of the parts under a mask.
use Rattle.std.proofs.Common.{◌≡◌, ℕ, Bool, true, false, cond, ◌||◌, List, [], ◌∷◌, Option, Some, None, is_some, refl, sym, ap, ◌∙◌}
use Rattle.std.specs.FinMap as map
use Rattle.std.specs.FinSet as set
use Rattle.std.specs.List.{list_any}
use Rattle.std.specs.Ordering.{nat_cmp, eq_by_cmp}
use Rattle.std.proofs.lemmas.Cmp.{nat_cmp_total}
use Rattle.hibitset_sets.specs.BitSet.{SetWithRoom}
use Rattle.specs_layouts.specs.EntryLemmas.{exact_order}
use Rattle.specs_layouts.specs.Masked.{Agrees}
use Rattle.specs_layouts.specs.PartMap.{with_entry, entries_at, parts_under}

-- where nothing is, it doesn't matter whether it is looked for
no-matter : {T : Type 0} (b : Bool) (part : Option T) → part ≡ None → cond b part None ≡ part
no-matter true part none = refl
no-matter false part none = sym none

-- one entry more, by whether it is the one that is looked for
one-more : {T : Type 0} (entries : map.FinMap nat_cmp T) (parts : ℕ → Option T) (index asked : ℕ) (part : Option T) (same any : Bool) → parts index ≡ part → eq_by_cmp nat_cmp asked index ≡ same → map.get entries asked ≡ cond any (parts asked) None → map.get (with_entry entries index part) asked ≡ cond (same || any) (parts asked) None
one-more entries parts index asked None true any is here before =
    before ∙ no-matter any (parts asked) (ap parts (exact_order asked index here) ∙ is)
one-more entries parts index asked None false any is here before = before
one-more entries parts index asked (Some part) true any is here before =
    map.get-insert nat_cmp_total entries index part asked ∙ (ap (λ b. cond b (Some part) (map.get entries asked)) here ∙ sym (ap parts (exact_order asked index here) ∙ is))
one-more entries parts index asked (Some part) false any is here before =
    map.get-insert nat_cmp_total entries index part asked ∙ (ap (λ b. cond b (Some part) (map.get entries asked)) here ∙ before)

pub get-entries_at : {T : Type 0} (parts : ℕ → Option T) (indices : List ℕ) (asked : ℕ) → map.get (entries_at parts indices) asked ≡ cond (list_any (eq_by_cmp nat_cmp asked) indices) (parts asked) None
get-entries_at parts [] asked = map.get-empty nat_cmp asked
get-entries_at parts (index ∷ indices) asked =
    one-more (entries_at parts indices) parts index asked (parts index) (eq_by_cmp nat_cmp asked index) (list_any (eq_by_cmp nat_cmp asked) indices) refl refl (get-entries_at parts indices asked)

itself : {T : Type 0} (part : Option T) → cond (is_some part) part None ≡ part
itself None = refl
itself (Some part) = refl

-- under a mask that agrees with the parts the map has each of them
pub get-parts_under : {T : Type 0} (mask : SetWithRoom) (parts : ℕ → Option T) → Agrees mask parts → (asked : ℕ) → map.get (parts_under mask parts) asked ≡ parts asked
get-parts_under mask parts agrees asked =
    get-entries_at parts (set.items mask.members) asked
    ∙ (ap (λ b. cond b (parts asked) None) (sym (set.contains-items mask.members asked) ∙ agrees asked) ∙ itself (parts asked))
