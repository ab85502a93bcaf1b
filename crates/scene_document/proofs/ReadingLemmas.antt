-- A text that was written for a value is read as that value, where it is read at all.
use Rattle.std.proofs.Common.{◌≡◌, ℕ, zero, suc, ◌+◌, ◌≤◌, List, [], ◌∷◌, ◌++◌, length, Option, Some, None, option_and_then, cond, refl, sym, ap, ◌∙◌, subst, arith, append-nil}
use Rattle.std.proofs.lemmas.Option.{none-some}
use Rattle.std.specs.Option.{unwrap_or}
use Rattle.std.specs.Str.{IsUtf8}
use Rattle.std.proofs.lemmas.Str.{is_utf8-from_IsUtf8}
use Rattle.json.specs.Token.{Token}
use Rattle.json.specs.Lex.{tokens}
use Rattle.json.specs.Json as json
use Rattle.json.specs.Json.{Json, Items, Members, item, member, array, object, Parse, parse_map, after_end_array, read_key, items_step, members_step, items, members, value_with, value, if_last}
use Rattle.json.specs.Tree as tree
use Rattle.json.proofs.Printed.Trees.{value-json_tokens}
use Rattle.json.proofs.Nesting.{value-depth}
use Rattle.serde_json.specs.Data as view
use Rattle.serde_json.specs.Data.{Data}
use Rattle.serde_json.specs.Read.{of_json, read, max_depth}
use Rattle.scene_document.specs.Texts.{json_of, ReadsBack}
use Rattle.serde_json.specs.Written.{outline, items_outline, members_outline, blank, blank_items, blank_members}

-- what one parser reads, another reads too
abbrev pub ReadsMore : {A : Type 0} → Parse A → Parse A → Type 0
ReadsMore {A} less more = (ts : List Token) (found : A × List Token) → less ts ≡ Some found → more ts ≡ Some found

-- a result that goes on where a first one does
and_then_more : {A B : Type 0} (o p : Option A) (f g : A → Option B) → ((a : A) → o ≡ Some a → p ≡ Some a) → ((a : A) (b : B) → f a ≡ Some b → g a ≡ Some b) → (b : B) → option_and_then f o ≡ Some b → option_and_then g p ≡ Some b
and_then_more None p f g one two b is = absurd (cc)
and_then_more (Some a) p f g one two b is = ap (option_and_then g) (one a refl) ∙ two a b is

map_more : {A B : Type 0} (h : A → B) (o p : Option (A × List Token)) → ((a : A × List Token) → o ≡ Some a → p ≡ Some a) → (b : B × List Token) → parse_map h o ≡ Some b → parse_map h p ≡ Some b
map_more h None p one b is = absurd (cc)
map_more h (Some a) p one b is = ap (parse_map h) (one a refl) ∙ is

module _ (less more : Parse Json) (know : ReadsMore less more) where
  item_more : (one other : Parse Items) → ReadsMore one other → (ts : List Token) (o : Option (List Token)) (found : Items × List Token) → items_step less one ts o ≡ Some found → items_step more other ts o ≡ Some found
  item_more one other later ts (Some rest) found is = is
  item_more one other later ts None found is = and_then_more (less ts) (more ts) (λ p. parse_map (item p.0) (one p.1)) (λ p. parse_map (item p.0) (other p.1)) (know ts) (λ p b. map_more (item p.0) (one p.1) (other p.1) (later p.1) b) found is

  pub items_more : (n : ℕ) → ReadsMore (items less n) (items more n)
  unfolding items
  items_more zero ts found is = absurd (cc)
  items_more (suc n) ts found is = item_more (items less n) (items more n) (items_more n) ts (after_end_array ts) found is

  member_more : (one other : Parse Members) → ReadsMore one other → (k : Option (List ℕ)) → ReadsMore (members_step less one k) (members_step more other k)
  member_more one other later None ts found is = is
  member_more one other later (Some k) ts found is = and_then_more (less ts) (more ts) (λ p. parse_map (member k p.0) (one p.1)) (λ p. parse_map (member k p.0) (other p.1)) (know ts) (λ p b. map_more (member k p.0) (one p.1) (other p.1) (later p.1) b) found is

  pub members_more : (n : ℕ) → ReadsMore (members less n) (members more n)
  unfolding members
  members_more zero ts found is = absurd (cc)
  members_more (suc n) ts found is = and_then_more (read_key ts) (read_key ts) (λ p. members_step less (members less n) p.0 p.1) (λ p. members_step more (members more n) p.0 p.1) (λ a same. same) (λ p b. member_more (members less n) (members more n) (members_more n) p.0 p.1 b) found is

level_more : (a b : Parse Items) (o p : Parse Members) → ReadsMore a b → ReadsMore o p → ReadsMore (value_with a o) (value_with b p)
level_more a b o p one two [] found is = absurd (cc)
level_more a b o p one two (Token.begin_object ∷ ts) found is = map_more object (o ts) (p ts) (two ts) found is
level_more a b o p one two (Token.end_object ∷ ts) found is = is
level_more a b o p one two (Token.begin_array ∷ ts) found is = map_more array (a ts) (b ts) (one ts) found is
level_more a b o p one two (Token.end_array ∷ ts) found is = is
level_more a b o p one two (Token.key s ∷ ts) found is = is
level_more a b o p one two (Token.string s ∷ ts) found is = is
level_more a b o p one two (Token.number s ∷ ts) found is = is
level_more a b o p one two (Token.boolean b2 ∷ ts) found is = is
level_more a b o p one two (Token.null ∷ ts) found is = is
level_more a b o p one two (Token.bad ∷ ts) found is = is

-- what is read within a depth is read the same within a greater one
deeper : (depth : ℕ) → ReadsMore (value depth) (value (suc depth))
unfolding value
deeper zero = level_more (λ ts. None) (λ ts. items (value zero) (length ts) ts) (λ ts. None) (λ ts. members (value zero) (length ts) ts) (λ ts found is. absurd (cc)) (λ ts found is. absurd (cc))
deeper (suc depth) = level_more (λ ts. items (value depth) (length ts) ts) (λ ts. items (value (suc depth)) (length ts) ts) (λ ts. members (value depth) (length ts) ts) (λ ts. members (value (suc depth)) (length ts) ts)
    (λ ts. items_more (value depth) (value (suc depth)) (deeper depth) (length ts) ts) (λ ts. members_more (value depth) (value (suc depth)) (deeper depth) (length ts) ts)

pub much_deeper : (more depth : ℕ) → ReadsMore (value depth) (value (more + depth))
much_deeper zero depth ts found is = subst (λ n. value n ts ≡ Some found) (omega arith) is
much_deeper (suc more) depth ts found is = subst (λ n. value n ts ≡ Some found) (omega arith) (deeper (more + depth) ts found (much_deeper more depth ts found is))

-- the outline of a value nests as deep as the value, and what stands blank as deep as it stood
mutual
  pub depth-outline : (d : Data) → tree.depth (outline d) ≡ view.depth d
  depth-outline view.null = refl
  depth-outline (view.boolean b) = refl
  depth-outline (view.number n) = refl
  depth-outline (view.string s) = refl
  depth-outline (view.array ds) = ap suc (items_depth-outline ds)
  depth-outline (view.object ms) = ap suc (members_depth-outline ms)

  items_depth-outline : (ds : view.Items) → tree.items_depth (items_outline ds) ≡ view.items_depth ds
  items_depth-outline view.no_items = refl
  items_depth-outline (view.item d ds) = omega (arith, depth-outline d, items_depth-outline ds)

  members_depth-outline : (ms : view.Members) → tree.members_depth (members_outline ms) ≡ view.members_depth ms
  members_depth-outline view.no_members = refl
  members_depth-outline (view.member k d ms) = omega (arith, depth-outline d, members_depth-outline ms)

mutual
  depth-blank : (j : Json) → tree.depth (blank j) ≡ tree.depth j
  depth-blank json.null = refl
  depth-blank (json.boolean b) = refl
  depth-blank (json.number s) = refl
  depth-blank (json.string s) = refl
  depth-blank (json.array js) = ap suc (items_depth-blank js)
  depth-blank (json.object ms) = ap suc (members_depth-blank ms)

  items_depth-blank : (js : Items) → tree.items_depth (blank_items js) ≡ tree.items_depth js
  items_depth-blank json.no_items = refl
  items_depth-blank (json.item j js) = omega (arith, depth-blank j, items_depth-blank js)

  members_depth-blank : (ms : Members) → tree.members_depth (blank_members ms) ≡ tree.members_depth ms
  members_depth-blank json.no_members = refl
  members_depth-blank (json.member k j ms) = omega (arith, depth-blank j, members_depth-blank ms)

-- what was read to the end of tokens
last_read : (o : Option (Json × List Token)) (found : Data) → option_and_then of_json (option_and_then (λ p. if_last p.0 p.1) o) ≡ Some found → (j : Json) × (o ≡ Some (j, []))
last_read None found is = absurd (cc)
last_read (Some (j, [])) found is = (j, refl)
last_read (Some (j, t ∷ ts)) found is = absurd (cc)

first_of : Json → Option (Json × List Token) → Json
first_of other None = other
first_of other (Some p) = p.0

-- a text of these tokens that is read nests as deep as the reader allows
pub shallow-tokens : (text : List ℕ) (j : Json) (found : Data) → tokens text ≡ tree.json_tokens j → read text ≡ Some found → tree.depth j ≤ max_depth
unfolding first_of last_read
shallow-tokens text j found is-text is =
    let last = last_read (value max_depth (tokens text)) found is in
    let within = ap (value max_depth) (sym (is-text ∙ sym (append-nil (tree.json_tokens j)))) ∙ last.1 in
    let deep = much_deeper (tree.depth j) max_depth (tree.json_tokens j ++ []) (last.0, []) within in
    let same : j ≡ last.0 = ap (first_of j) (sym (value-json_tokens j (tree.depth j + max_depth) [] (omega arith)) ∙ deep) in
    let fits = value-depth max_depth (tokens text) [] last.0 last.1 in
    omega (arith, ap tree.depth same, fits)

-- a text that reads as a value where that nests no deeper than the reader allows, and is read only then, reads back
reads-back : (text : List ℕ) (d : Data) → IsUtf8 text → ((found : Data) → read text ≡ Some found → view.depth d ≤ max_depth) → (view.depth d ≤ max_depth → read text ≡ Some d) → ReadsBack text d
reads-back text d utf8 fits shallow =
    let known : json_of text ≡ read text = ap (λ b. cond b (read text) None) (is_utf8-from_IsUtf8 text utf8) in
    record {
      only = λ found is. here (read text) refl found (sym known ∙ is);
      shallow = λ low. known ∙ shallow low;
    }
  where
    here : (o : Option Data) → read text ≡ o → (found : Data) → o ≡ Some found → found ≡ d
    here None is found same = absurd (none-some found same)
    here (Some one) is found same = ap (λ o. unwrap_or o found) (sym (is ∙ same) ∙ shallow (fits found (is ∙ same)))

-- and so does one with the tokens of a value's outline, where that is read as the value
pub ReadsBack-printed : (text : List ℕ) (d : Data) → IsUtf8 text → tokens text ≡ tree.json_tokens (outline d) → (view.depth d ≤ max_depth → of_json (outline d) ≡ Some d) → ReadsBack text d
ReadsBack-printed text d utf8 is-text outlined =
    reads-back text d utf8 (λ found is. omega (arith, depth-outline d, shallow-tokens text (outline d) found is-text is))
    (λ low. ap (λ o. option_and_then of_json (option_and_then (λ p. if_last p.0 p.1) o))
    (ap (value max_depth) (is-text ∙ sym (append-nil (tree.json_tokens (outline d)))) ∙ value-json_tokens (outline d) max_depth [] (omega (arith, depth-outline d, low)))
    ∙ outlined low)
