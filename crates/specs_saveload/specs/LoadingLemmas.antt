-- Parts that are loaded, one and several.
use Rattle.std.proofs.Common.{◌≡◌, ◌++◌, List, Option, Some, None, option_map, inl, inr, refl, sym, ap, ◌∙◌}
use Rattle.std.proofs.lemmas.Option.{same_Some}
use Rattle.specs_entity.specs.Life.{LifeAt}
use Rattle.specs_join.specs.Joins.{all_three, both}
use Rattle.specs_saveload.specs.Bearing.{IsAmong}
use Rattle.specs_saveload.specs.NamingLemmas.{among-either}
use Rattle.specs_saveload.specs.Saved.{named_in, plain_in}

some-of : {X : Type 0} (o : Option X) (value : Option X) → option_map Some o ≡ Some value → (x : X) × (o ≡ Some x) × (value ≡ Some x)
some-of None value is = cc
some-of (Some x) value is = (x, refl, sym (same_Some (Some x) value is))

module _ {D C : Type 0} where
  -- a part under a map that knows more
  pub option-kept : (one other : D → Option C) → ((saved : D) (part : C) → one saved ≡ Some part → other saved ≡ Some part) → (saved : Option D) (part : Option C) → plain_in one saved ≡ Some part → plain_in other saved ≡ Some part
  option-kept one other kept None part is = is
  option-kept one other kept (Some saved) part is =
      let found = some-of (one saved) part is in
      ap (option_map Some) (kept saved found.0 found.1) ∙ ap Some (sym found.2)

  -- a part that was loaded is saved as it was
  pub option-back : (load : D → Option C) (save : C → Option D) → ((saved : D) (part : C) → load saved ≡ Some part → save part ≡ Some saved) → (saved : Option D) (part : Option C) → plain_in load saved ≡ Some part → plain_in save part ≡ Some saved
  option-back load save back None part is = ap (plain_in save) (sym (same_Some None part is))
  option-back load save back (Some saved) part is =
      let found = some-of (load saved) part is in
      ap (plain_in save) found.2 ∙ ap (option_map Some) (back saved found.0 found.1)

-- the markers in the data of a part, where there is one
pub option-stands : {C D M : Type 0} (names : LifeAt → Option M) (markers_of : D → List M) (plain : C → Option D) → ((part : C) (saved : D) (marker : M) → plain part ≡ Some saved → IsAmong marker (markers_of saved) → (entity : LifeAt) × (names entity ≡ Some marker))
    → (part : Option C) (saved : Option D) (marker : M) → plain_in plain part ≡ Some saved → IsAmong marker (named_in markers_of saved) → (entity : LifeAt) × (names entity ≡ Some marker)
option-stands names markers_of plain stands part None marker is among = absurd among
option-stands names markers_of plain stands None (Some saved) marker is among = cc
option-stands names markers_of plain stands (Some part) (Some saved) marker is among = stands part saved marker (inner (plain part) saved is) among
  where
    inner : {X : Type 0} (o : Option X) (x : X) → option_map Some o ≡ Some (Some x) → o ≡ Some x
    inner None x is = cc
    inner (Some y) x is = same_Some (Some y) (Some x) is

firsts : {P Q : Type 0} (one : Option P) (other : Option Q) (parts : P × Q) → both one other ≡ Some parts → (one ≡ Some parts.0) × (other ≡ Some parts.1)
firsts None other parts is = cc
firsts (Some p) None parts is = cc
firsts (Some p) (Some q) parts is = let same = same_Some (p, q) parts is in (ap (λ (pair : _ × _). Some pair.0) same, ap (λ (pair : _ × _). Some pair.1) same)

pub both-are : {P Q : Type 0} (one : Option P) (other : Option Q) (p : P) (q : Q) → one ≡ Some p → other ≡ Some q → both one other ≡ Some (p, q)
both-are one other p q is is' = ap (λ o. both o other) is ∙ ap (both (Some p)) is'

-- the markers in the data of two
pub both-stands : {D E M : Type 0} (names : LifeAt → Option M) (one : Option D) (other : Option E) (left : D → List M) (right : E → List M) (saved : D × E) (marker : M) → ((d : D) → one ≡ Some d → IsAmong marker (left d) → (entity : LifeAt) × (names entity ≡ Some marker)) → ((e : E) → other ≡ Some e → IsAmong marker (right e) → (entity : LifeAt) × (names entity ≡ Some marker))
    → both one other ≡ Some saved → IsAmong marker (left saved.0 ++ right saved.1) → (entity : LifeAt) × (names entity ≡ Some marker)
both-stands names one other left right saved marker first second is among =
    let are = firsts one other saved is in
    elim (among-either marker (left saved.0) (right saved.1) among) [ inl here ↦ first saved.0 are.0 here | inr there ↦ second saved.1 are.1 there ]

-- two under a map that knows more
pub both-kept : {P Q : Type 0} (one one' : Option P) (other other' : Option Q) (parts : P × Q) → ((p : P) → one ≡ Some p → one' ≡ Some p) → ((q : Q) → other ≡ Some q → other' ≡ Some q) → both one other ≡ Some parts → both one' other' ≡ Some parts
both-kept one one' other other' parts kept kept' is =
    let are = firsts one other parts is in
    both-are one' other' parts.0 parts.1 (kept parts.0 are.0) (kept' parts.1 are.1)

-- two that were loaded are saved as they were
pub both-back : {P Q D E : Type 0} (one : Option P) (other : Option Q) (save : P → Option D) (save' : Q → Option E) (saved : D × E) (parts : P × Q) → ((p : P) → one ≡ Some p → save p ≡ Some saved.0) → ((q : Q) → other ≡ Some q → save' q ≡ Some saved.1) → both one other ≡ Some parts → both (save parts.0) (save' parts.1) ≡ Some saved
both-back one other save save' saved parts back back' is =
    let are = firsts one other parts is in
    both-are (save parts.0) (save' parts.1) saved.0 saved.1 (back parts.0 are.0) (back' parts.1 are.1)

-- ---- of three

thirds : {P Q R : Type 0} (first : Option P) (second : Option Q) (third : Option R) (parts : P × Q × R) → all_three first second third ≡ Some parts → (first ≡ Some parts.0) × (second ≡ Some parts.1) × (third ≡ Some parts.2)
thirds None second third parts is = cc
thirds (Some p) None third parts is = cc
thirds (Some p) (Some q) None parts is = cc
thirds (Some p) (Some q) (Some r) parts is =
    let same = same_Some (p, q, r) parts is in
    (ap (λ (all : _ × _ × _). Some all.0) same, ap (λ (all : _ × _ × _). Some all.1) same, ap (λ (all : _ × _ × _). Some all.2) same)

pub three-are : {P Q R : Type 0} (first : Option P) (second : Option Q) (third : Option R) (p : P) (q : Q) (r : R) → first ≡ Some p → second ≡ Some q → third ≡ Some r → all_three first second third ≡ Some (p, q, r)
three-are first second third p q r one two three =
    ap (λ o. all_three o second third) one ∙ (ap (λ o. all_three (Some p) o third) two ∙ ap (all_three (Some p) (Some q)) three)

-- the first, and two more
pub three-of : {P Q R : Type 0} (first : Option P) (second : Option Q) (third : Option R) (p : P) (q : Q) (r : R) → first ≡ Some p → both second third ≡ Some (q, r) → all_three first second third ≡ Some (p, q, r)
three-of first second third p q r one two =
    let are = firsts second third (q, r) two in
    three-are first second third p q r one are.0 are.1

pub three-stands : {D E F M : Type 0} (names : LifeAt → Option M) (one : Option D) (two : Option E) (three : Option F) (left : D → List M) (middle : E → List M) (right : F → List M) (saved : D × E × F) (marker : M) → ((d : D) → one ≡ Some d → IsAmong marker (left d) → (entity : LifeAt) × (names entity ≡ Some marker))
    → ((e : E) → two ≡ Some e → IsAmong marker (middle e) → (entity : LifeAt) × (names entity ≡ Some marker)) → ((f : F) → three ≡ Some f → IsAmong marker (right f) → (entity : LifeAt) × (names entity ≡ Some marker))
    → all_three one two three ≡ Some saved → IsAmong marker (left saved.0 ++ (middle saved.1 ++ right saved.2)) → (entity : LifeAt) × (names entity ≡ Some marker)
three-stands names one two three left middle right saved marker first second third is among =
    let are = thirds one two three saved is in
    elim (among-either marker (left saved.0) (middle saved.1 ++ right saved.2) among) [
      | inl here ↦ first saved.0 are.0 here
      | inr later ↦ elim (among-either marker (middle saved.1) (right saved.2) later) [ inl here ↦ second saved.1 are.1 here | inr there ↦ third saved.2 are.2 there ]
    ]

pub three-kept : {P Q R : Type 0} (one one' : Option P) (two two' : Option Q) (three three' : Option R) (parts : P × Q × R) → ((p : P) → one ≡ Some p → one' ≡ Some p) → ((q : Q) → two ≡ Some q → two' ≡ Some q) → ((r : R) → three ≡ Some r → three' ≡ Some r) → all_three one two three ≡ Some parts → all_three one' two' three' ≡ Some parts
three-kept one one' two two' three three' parts first second third is =
    let are = thirds one two three parts is in
    three-are one' two' three' parts.0 parts.1 parts.2 (first parts.0 are.0) (second parts.1 are.1) (third parts.2 are.2)

pub three-back : {P Q R D E F : Type 0} (one : Option P) (two : Option Q) (three : Option R) (save : P → Option D) (save' : Q → Option E) (save'' : R → Option F) (saved : D × E × F) (parts : P × Q × R) → ((p : P) → one ≡ Some p → save p ≡ Some saved.0) → ((q : Q) → two ≡ Some q → save' q ≡ Some saved.1) → ((r : R) → three ≡ Some r → save'' r ≡ Some saved.2)
    → all_three one two three ≡ Some parts → all_three (save parts.0) (save' parts.1) (save'' parts.2) ≡ Some saved
three-back one two three save save' save'' saved parts first second third is =
    let are = thirds one two three parts is in
    three-are (save parts.0) (save' parts.1) (save'' parts.2) saved.0 saved.1 saved.2 (first parts.0 are.0) (second parts.1 are.1) (third parts.2 are.2)
