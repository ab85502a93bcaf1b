-- Lists of answers that grow index by index, and one after the other.
use Rattle.std.proofs.Common.{◌≡◌, ℕ, ◌<◌, List, [], ◌∷◌, ◌++◌, Bool, ◌&&◌, cond, Option, Some, None, is_some, IsSome, MatchOption, Result, Ok, Err, Vec, IfOk, refl, sym, ap, subst, ◌∙◌}
use Rattle.std.specs.Global.{Global}
use Rattle.std.specs.List.{AllZip, cons_option}
use Rattle.std.proofs.lemmas.Bool.{lt-ltb}
use Rattle.std.proofs.lemmas.List.{append-nil}
use Rattle.std.proofs.lemmas.List.Elements.{filter_map-append}
use Rattle.hibitset_sets.specs.Walk.{walk}
use Rattle.hibitset_sets.proofs.CallerLemmas.{walk-same}
use Rattle.specs_join.specs.Joins.{values_at, shown_of, join_list}
use Rattle.specs_join.proofs.NewLemmas.{walk-members, values-agree}
use Rattle.specs_join.specs.Collected.{at_members, Answers, IsCollected, AnswersNext, Appends}

zip-append : {X Y : Type 0} (R : X → Y → Type 0) (xs others : List X) (ys more : List Y) → AllZip R xs ys → AllZip R others more → AllZip R (xs ++ others) (ys ++ more)
zip-append R [] others [] more first second = second
zip-append R [] others (y ∷ ys) more first second = absurd first
zip-append R (x ∷ xs) others [] more first second = absurd first
zip-append R (x ∷ xs) others (y ∷ ys) more first second = (first.0, zip-append R xs others ys more first.1 second)

module _ {I S T : Type 0} (look : ℕ → Option S) (show : I → S) (post : I → T → Type 0) where
  zip-one : (index : ℕ) (shown : S) (t : T) → look index ≡ Some shown → Answers show post shown t → AllZip (Answers show post) (values_at look (index ∷ [])) (t ∷ [])
  zip-one index shown t is answers = subst (λ o. AllZip (Answers show post) (cons_option o []) (t ∷ [])) (sym is) (answers, tt)

  zip-next : (list : List ℕ) (index : ℕ) (before after : List T) (item : Option I) → shown_of show item ≡ look index → MatchOption item (after ≡ before) (λ i. (t : T) × post i t × (after ≡ before ++ t ∷ [])) → AllZip (Answers show post) (values_at look list) before → AllZip (Answers show post) (values_at look (list ++ index ∷ [])) after
  zip-next list index before after None is same held =
      subst (λ xs. AllZip (Answers show post) xs after) (sym (filter_map-append look list (index ∷ []) ∙ ap (λ o. values_at look list ++ cons_option o []) (sym is) ∙ append-nil (values_at look list)))
      (subst (AllZip (Answers show post) (values_at look list)) (sym same) held)
  zip-next list index before after (Some i) is more held =
      subst (λ xs. AllZip (Answers show post) xs after) (sym (filter_map-append look list (index ∷ [])))
      (subst (AllZip (Answers show post) (values_at look list ++ values_at look (index ∷ []))) (sym more.2)
      (zip-append (Answers show post) (values_at look list) (values_at look (index ∷ [])) before (more.0 ∷ []) held (zip-one index (show i) more.0 (sym is) (i, refl, more.1))))

module _ {I S T E : Type 0} (look : ℕ → Option S) (show : I → S) (post : I → T → Type 0) where
  pub collected-start : (result : Result (Vec T Global) E) → IfOk result (λ v. v.items ≡ []) → IsCollected look (Answers show post) [] result
  collected-start (Ok v) is = subst (AllZip (Answers show post) []) (sym is) tt
  collected-start (Err e) is = is

  pub collected-next : (list : List ℕ) (sofar result : Result (Vec T Global) E) (index : ℕ) → IsCollected look (Answers show post) list sofar → AnswersNext look show post index sofar result → IsCollected look (Answers show post) (list ++ index ∷ []) result
  collected-next list sofar (Ok v) index held next =
      zip-next look show post list index next.0.items v.items next.1 next.3 next.4 (subst (IsCollected look (Answers show post) list) next.2 held)
  collected-next list sofar (Err e) index held next = next

  pub collected-both : (list other : List ℕ) (sofar more result : Result (Vec T Global) E) → IsCollected look (Answers show post) list sofar → IsCollected look (Answers show post) other more → Appends sofar more result → IsCollected look (Answers show post) (list ++ other) result
  collected-both list other sofar more (Ok v) held held' both =
      subst (λ xs. AllZip (Answers show post) xs v.items) (sym (filter_map-append look list other))
      (subst (AllZip (Answers show post) (values_at look list ++ values_at look other)) (sym both.4)
      (zip-append (Answers show post) (values_at look list) (values_at look other) both.0.items both.1.items (subst (IsCollected look (Answers show post) list) both.2 held) (subst (IsCollected look (Answers show post) other) both.3 held')))
  collected-both list other sofar more (Err e) held held' both = both

module _ {S : Type 0} (members : ℕ → Bool) (joins value_at : ℕ → Option S) (mask : (index : ℕ) → index < 16777216 → members index ≡ is_some (joins index)) (values : (index : ℕ) → index < 16777216 → IsSome (joins index) → value_at index ≡ joins index) where
  -- the values at the members are the join's
  pub members-joined : values_at (at_members members value_at) (walk members) ≡ join_list joins
  members-joined =
      values-agree (at_members members value_at) joins (walk members) (λ index come.
      let has = walk-members members index come in
      ap (λ b. cond (b && members index) (value_at index) None) (lt-ltb index 16777216 has.1) ∙ ap (λ b. cond b (value_at index) None) has.0 ∙ values index has.1 (sym (mask index has.1) ∙ has.0))
      ∙ ap (values_at joins) (walk-same members (λ i. is_some (joins i)) mask)
